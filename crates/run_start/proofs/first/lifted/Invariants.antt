use Rattle.std.proofs.Common.{take}
use Rattle.run_start.specs.First.{AreLifted}
use Rattle.run_start.proofs.first.lifted.Given as goal

abbrev pub invariant-loop-a : goal.invariant-loop-a
invariant-loop-a l = AreLifted l.image (take l.a-index l.places) l.blocks.items
