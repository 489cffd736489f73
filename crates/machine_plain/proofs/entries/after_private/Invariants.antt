use Rattle.std.proofs.Common.{◌≡◌, Some}
use Rattle.machine_model.specs.Step.{after_private}
use Rattle.machine_plain.proofs.entries.after_private.Given as goal

abbrev pub invariant-loop : goal.invariant-loop
invariant-loop l = after_private l.image l.counter l.fn.cpu ≡ Some l.at
