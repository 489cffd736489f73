-- The numbers of the threads so far.
use Rattle.std.proofs.Common.{◌≡◌}
use Rattle.guest_gen.specs.Generated.{steps}
use Rattle.guest_gen.proofs.generating.steps.Given as goal

abbrev pub invariant-loop-i : goal.invariant-loop-i
invariant-loop-i l = l.bytes.items ≡ steps l.number l.i
