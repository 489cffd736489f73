use Rattle.std.proofs.Common.{ap, arith}
use Rattle.std.proofs.lemmas.Bool.Decides.{nat_tests}
use Rattle.elf_image.specs.Layout.{SegmentData}
use Rattle.dyn_link.specs.Relocations.{is_slot}
use Rattle.dyn_link.proofs.Finding.{segment_found}
use Rattle.dyn_link.proofs.binding.is_slot.Goals as goal

pub overflow_sub-result : goal.overflow_sub-result
overflow_sub-result c =
    let has = segment_found c.args.a c.args.image.now.segments c.in-Some.segment.now c.in-Some.ensures in
    omega (arith, has.0, ap (λ (s : SegmentData). s.at) c.segment.view_is)

pub overflow_sub-result-then-segment : goal.overflow_sub-result-then-segment
overflow_sub-result-then-segment c =
    let has = segment_found c.args.a c.args.image.now.segments c.in-Some.segment.now c.in-Some.ensures in
    omega (arith, has.0, has.1, ap (λ (s : SegmentData). s.at) c.segment.view_is, ap (λ (s : SegmentData). s.size) c.segment.view_is)

pub returns-then-segment : goal.returns-then-segment
unfolding is_slot
returns-then-segment c =
    let has = segment_found c.args.a c.args.image.now.segments c.in-Some.segment.now c.in-Some.ensures in
    let at = ap (λ (s : SegmentData). s.at) c.segment.view_is in
    let size = ap (λ (s : SegmentData). s.size) c.segment.view_is in
    let w = ap (λ (s : SegmentData). s.w) c.segment.view_is in
    rw (← c.in-Some.ensures) (grind (arith, nat_tests, has.0, has.1, at, size, w, c.if-segment.true))
