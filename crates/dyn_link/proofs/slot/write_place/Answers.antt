use Rattle.std.proofs.Common.{ℕ, ◌-◌, ap, ◌∙◌}
use Rattle.elf_image.specs.Layout.{SegmentData}
use Rattle.dyn_link.specs.Bound.{with_number}
use Rattle.dyn_link.proofs.Writing.{set_written, set_whole}
use Rattle.dyn_link.proofs.slot.write_place.Goals as goal

pub returns-clause-bound : goal.returns-clause-bound
returns-clause-bound c =
    let s = c.index_mut-segment.result.now in
    let slot = c.args.p.binding.slot in
    let at = ap (λ (t : SegmentData). t.at) c.segment.view_is in
    let e = c.write_number.ensures.number ∙ (ap (λ (k : ℕ). with_number (slot - k) c.held.result s) at ∙ ap (λ (n : ℕ). with_number (slot - s.at) n s) c.held.ensures) in
    set_written c.args.segments.now.items c.args.p c.requires.placed c.requires.apart s c.write_number.new.segment c.index_mut-segment.ensures.value e

pub returns-clause-whole : goal.returns-clause-whole
returns-clause-whole c = λ full. set_whole c.args.segments.now.items c.args.p c.requires.placed c.requires.apart c.write_number.new.segment c.write_number.ensures.whole full
