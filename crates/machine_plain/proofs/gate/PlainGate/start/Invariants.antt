use Rattle.std.proofs.Common.{◌≡◌, replicate}
use Rattle.machine_model.specs.Gated.{no_spot}
use Rattle.machine_plain.proofs.gate.PlainGate.start.Given as goal

abbrev pub invariant-loop : goal.invariant-loop
invariant-loop l = l.spots.items ≡ replicate l.counter no_spot
