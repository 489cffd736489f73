use Rattle.std.proofs.Common.{◌+◌, sym, subst, take}
use Rattle.run_start.specs.First.{AreLifted}
use Rattle.run_start.proofs.Lifting.{lifted_next, place_at}
use Rattle.run_start.proofs.first.lifted.Goals as goal

pub placed-requires : goal.placed-requires
placed-requires c = place_at c.args.image.now c.args.places.now c.loop-a.a-index 0 c.requires c.loop-a-test.true

pub loop-a-preserved : goal.loop-a-preserved
loop-a-preserved c = subst (AreLifted c.args.image.now (take (c.loop-a.a-index + 1) c.args.places.now)) (sym c.in_ok-push.ensures.items) (lifted_next c.args.image.now c.args.places.now c.loop-a.blocks.items c.loop-a.a-index 0 _ c.loop-a-test.true c.loop-a.invariant c.in_ok-block.ensures)
