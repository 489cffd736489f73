use Rattle.std.proofs.Common.{◌≡◌, [], get_or, length, drop, sym, ◌∙◌, arith}
use Rattle.std.proofs.lemmas.List.{get_or_default}
use Rattle.elf_image.specs.Spans.{spans_from}
use Rattle.elf_image.proofs.Order.{no_header}
use Rattle.elf_image.proofs.Sharing.{spans_more, spans_all}
use Rattle.elf_image.proofs.overlap.spans.Goals as goal
use Rattle.elf_image.proofs.overlap.spans.Goals.{then-is_segment+in_ok-push, else-is_segment}

pub loop-n-preserved : goal.loop-n-preserved
loop-n-preserved c =
    let hs = c.args.headers.now in
    let h = get_or hs c.loop-n.n no_header in
    let more = spans_more hs c.loop-n.n h c.loop-n.spans.items c.loop-n-test.true (get_or_default hs c.loop-n.n no_header h c.loop-n-test.true) c.loop-n.invariant in
    elim c.if-is_segment.branch [
      | then-is_segment+in_ok-push w ↦ rw (w.spans-is, w.in_ok-push.ensures.items) (more.0 (sym c.is_segment.ensures ∙ w.if-is_segment.true))
      | else-is_segment w ↦ rw w.spans-is (more.1 (sym c.is_segment.ensures ∙ w.if-is_segment.false))
    ]

pub returns : goal.returns
returns c = spans_all c.args.headers.now c.loop-n.n c.loop-n.spans.items c.loop-n-test.false c.loop-n.invariant
