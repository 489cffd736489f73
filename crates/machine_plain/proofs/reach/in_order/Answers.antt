use Rattle.machine_plain.proofs.Closures.{insert_more}
use Rattle.machine_plain.proofs.reach.in_order.Goals as goal

pub loop-a-preserved : goal.loop-a-preserved
loop-a-preserved c = insert_more c.loop-a.set.keys c.args.places.now c.insert.new.self.keys c.loop-a.a-index _ c.loop-a-test.true c.in_ok-insert.ensures.keys c.loop-a.invariant
