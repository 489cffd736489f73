use Rattle.std.proofs.Common.{◌≡◌, Some}
use Rattle.machine_model.specs.Gated.{gated_steps}
use Rattle.machine_plain.proofs.gate.PlainStand.steps.Given as goal

abbrev pub invariant-loop-k : goal.invariant-loop-k
invariant-loop-k l = Some l.self ≡ gated_steps l.image l.grown l._k l.fn.self
