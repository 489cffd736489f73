use Rattle.machine_plain.specs.PlainGates.{IsClosure}
use Rattle.machine_plain.proofs.reach.closure.Given as goal

abbrev pub invariant-loop-i : goal.invariant-loop-i
invariant-loop-i l = IsClosure l.image l.root l.places.items l.i
