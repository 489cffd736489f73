use Rattle.std.proofs.Common.{sym, ap, arith}
use Rattle.elf_image.specs.Layout.{SegmentData}
use Rattle.x86_model.proofs.Found.{segment_found}
use Rattle.x86_model.proofs.image.code_from.Goals as goal

pub tail-requires : goal.tail-requires
tail-requires c =
    let f = segment_found c.args.a c.args.image.now.segments c.in-Some.segment.now (sym c.in-Some.ensures) in
    let at = ap (λ (s : SegmentData). s.at) c.segment.view_is in
    let size = ap (λ (s : SegmentData). s.size) c.segment.view_is in
    omega (arith, f.0, f.1, at, size, c.segment.invariant.filled, c.deref.ensures.len)

pub overflow_sub-a : goal.overflow_sub-a
overflow_sub-a c =
    let f = segment_found c.args.a c.args.image.now.segments c.in-Some.segment.now (sym c.in-Some.ensures) in
    let at = ap (λ (s : SegmentData). s.at) c.segment.view_is in
    omega (arith, f.0, at)
