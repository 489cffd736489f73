use Rattle.std.proofs.Common.{sym, ap, ◌∙◌}
use Rattle.std.proofs.lemmas.List.{get_or_default}
use Rattle.elf_image.specs.Layout.{SegmentData}
use Rattle.dyn_link.proofs.Placing.{numbers_more}
use Rattle.dyn_link.proofs.slot.numbers_of.Goals as goal

pub loop-number-preserved : goal.loop-number-preserved
loop-number-preserved c =
    let g = c.index-segments-number.result in
    let at = ap (λ (s : SegmentData). s.at) c.segment.view_is in
    numbers_more c.args.segments.now c.loop-number.numbers c.insert.new.self c.loop-number.number c.segment.inside.at c.requires.whole c.requires.apart c.loop-number-test.true
    (λ d. ap (λ (s : SegmentData). s.at) (sym (c.index-segments-number.is ∙ get_or_default c.args.segments.now c.loop-number.number g d c.loop-number-test.true)) ∙ sym at)
    c.in_ok-insert.ensures.updates c.loop-number.invariant
