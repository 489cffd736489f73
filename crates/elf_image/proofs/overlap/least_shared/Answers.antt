use Rattle.std.proofs.Common.{◌≡◌, get_or, length, ap, subst, arith}
use Rattle.std.proofs.lemmas.List.{get_or_default}
use Rattle.elf_image.specs.Spans.{LeastBefore}
use Rattle.elf_image.proofs.Sharing.{no_span, no_top, top_more, top_same, lower_more}
use Rattle.elf_image.proofs.overlap.least_shared.Goals as goal
use Rattle.elf_image.proofs.overlap.least_shared.Goals.{then-s-top, else-s-top}

pub loop-i-init : goal.loop-i-init
loop-i-init c = record { top = no_top c.args.sorted.now; least = λ k d lt shared. absurd (omega (arith, lt)) }

pub loop-i-preserved : goal.loop-i-preserved
loop-i-preserved c =
    let sorted = c.args.sorted.now in
    let i = c.loop-i.i in
    let s = get_or sorted i no_span in
    let is = get_or_default sorted i no_span s c.loop-i-test.true in
    record {
      top = elim c.if-s-top.branch [
        | then-s-top w ↦ rw w.top-is (top_more sorted i c.loop-i.top s c.loop-i-test.true is c.loop-i.invariant.top w.if-s-top.true)
        | else-s-top w ↦ rw w.top-is (top_same sorted i c.loop-i.top s c.loop-i-test.true is c.loop-i.invariant.top w.if-s-top.false)
      ];
      least = rw c.lower-least.ensures (lower_more sorted i s c.loop-i.least c.is_shared-shared.result c.loop-i-test.true is c.is_shared-shared.ensures c.loop-i.invariant.least);
    }

pub returns : goal.returns
returns c =
    let all : c.loop-i.i ≡ length c.args.sorted.now = omega (arith, c.loop-i-test.false, c.loop-i.auto.i-end) in
    rw (← all) c.loop-i.invariant.least
