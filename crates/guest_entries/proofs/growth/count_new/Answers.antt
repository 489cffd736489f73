use Rattle.std.proofs.Common.{◌<◌, ◌≤◌, length, arith, sym, ◌∙◌}
use Rattle.hall_core.specs.Hall.{grown}
use Rattle.guest_entries.proofs.Grown.{counted_in, counted_last, counted_out, counted_some}
use Rattle.guest_entries.proofs.growth.count_new.Goals.{else-is_some, then-is_some}
use Rattle.guest_entries.proofs.growth.count_new.Goals as goal

pub overflow_sub-count : goal.overflow_sub-count
overflow_sub-count c = let some : 0 < c.loop-a.count = counted_some (grown c.args.hall.now) c.args.places.now c.loop-a.a-index c.loop-a.count c.loop-a-test.true c.loop-a.invariant in omega (arith, some)

pub loop-a-preserved : goal.loop-a-preserved
loop-a-preserved c = elim c.if-is_some.branch [
  | then-is_some w ↦ counted_in (grown c.args.hall.now) c.args.places.now c.loop-a.a-index c.loop-a.count c.if-is_some.count c.loop-a-test.true (sym c.find.ensures.grown ∙ sym c.is_some.ensures ∙ w.if-is_some.true) w.count-is c.loop-a.invariant
  | else-is_some w ↦ counted_out (grown c.args.hall.now) c.args.places.now c.loop-a.a-index c.loop-a.count c.if-is_some.count c.loop-a-test.true (sym c.find.ensures.grown ∙ sym c.is_some.ensures ∙ w.if-is_some.false) w.count-is c.loop-a.invariant
]

pub returns : goal.returns
returns c = counted_last (grown c.args.hall.now) c.args.places.now c.loop-a.a-index c.loop-a.count (let le : length c.args.places.now ≤ c.loop-a.a-index = omega (arith, c.loop-a-test.false) in le) c.loop-a.auto.a-index-end c.loop-a.invariant
