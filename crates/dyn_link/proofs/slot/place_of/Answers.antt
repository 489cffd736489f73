use Rattle.std.proofs.Common.{◌≡◌, Some, sym, ap, refl, ◌∙◌}
use Rattle.elf_image.specs.Layout.{SegmentData, segment_at}
use Rattle.dyn_link.proofs.Placing.{number_of, number_there, copied_there, is_placed}
use Rattle.dyn_link.proofs.slot.place_of.Goals as goal

pub unwrap-number-requires : goal.unwrap-number-requires
unwrap-number-requires c =
    let s = c.unwrap-segment.result.now in
    let found : Some s ≡ segment_at c.args.binding.slot c.args.image.now.segments = rw c.unwrap-segment.ensures at c.segment_at.ensures in
    let number = number_there c.args.image.now.segments c.args.numbers.now c.args.binding.slot s c.requires.numbers found in
    let at = ap (λ (t : SegmentData). t.at) c.segment.view_is in
    copied_there c.get.result (number_of c.args.image.now.segments c.args.numbers.now c.args.binding.slot s c.requires.numbers found) (c.get.ensures.value ∙ rw at number)

pub returns-clause-placed : goal.returns-clause-placed
returns-clause-placed c =
    let s = c.unwrap-segment.result.now in
    let found : Some s ≡ segment_at c.args.binding.slot c.args.image.now.segments = rw c.unwrap-segment.ensures at c.segment_at.ensures in
    let at = ap (λ (t : SegmentData). t.at) c.segment.view_is in
    is_placed c.args.image.now.segments c.args.numbers.now c.args.binding.slot s c.requires.numbers found c.args.binding c.unwrap-number.result.now refl c.requires.slot (rw (← at) (sym (rw c.unwrap-number.ensures at c.get.ensures.value)))
