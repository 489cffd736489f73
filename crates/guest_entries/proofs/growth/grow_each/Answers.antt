use Rattle.std.proofs.Common.{◌≤◌, length, get_or, arith}
use Rattle.lift_table.specs.Block.{lifted_block}
use Rattle.guest_entries.specs.Growth.{GrewEach}
use Rattle.guest_entries.proofs.Growing.{at_comes, at_err, at_first, at_last, at_next, at_place, at_room, on_err}
use Rattle.guest_entries.proofs.growth.grow_each.Goals as goal

pub loop-a-init : goal.loop-a-init
loop-a-init g c = at_first c.args.hall.now c.args.t c.args.places.now c.requires.room

pub grow_new-requires-clause-place : goal.grow_new-requires-clause-place
grow_new-requires-clause-place g c = at_place c.args.hall.now c.loop-a.hall c.args.t c.args.places.now c.loop-a.a-index c.loop-a-test.true c.loop-a.invariant c.requires.onward

pub grow_new-requires-clause-room : goal.grow_new-requires-clause-room
grow_new-requires-clause-room g c = at_room c.args.hall.now c.loop-a.hall c.args.t c.args.places.now c.loop-a.a-index c.loop-a-test.true c.loop-a.invariant c.requires.onward

pub grow_new-requires-clause-comes : goal.grow_new-requires-clause-comes
grow_new-requires-clause-comes g c = at_comes c.args.hall.now c.loop-a.hall c.args.t c.args.places.now c.loop-a.a-index c.loop-a-test.true c.loop-a.invariant c.requires.onward

pub returns-in_err-grow_new : goal.returns-in_err-grow_new
returns-in_err-grow_new g c = λ a x d o. on_err (λ r. GrewEach r c.args.hall.now c.grow_new.new.hall c.args.t a c.args.places.now x d) (λ e. at_err c.args.hall.now c.loop-a.hall c.grow_new.new.hall c.args.t c.args.places.now c.loop-a.a-index a x d e c.in_err-grow_new.ensures.err c.loop-a.invariant o) c.from_residual.result c.from_residual.ensures.0

pub loop-a-preserved : goal.loop-a-preserved
loop-a-preserved g c = at_next c.args.hall.now c.loop-a.hall c.grow_new.new.hall c.args.t c.args.places.now c.loop-a.a-index (lifted_block c.loop-a.hall.case.image (get_or c.args.places.now c.loop-a.a-index 0)) c.loop-a-test.true c.in_ok-grow_new.ensures.ok c.loop-a.invariant

pub returns : goal.returns
returns g c = λ a d e o. at_last c.args.hall.now c.loop-a.hall c.args.t c.args.places.now c.loop-a.a-index a d e (let le : length c.args.places.now ≤ c.loop-a.a-index = omega (arith, c.loop-a-test.false) in le) c.loop-a.invariant o
