use Rattle.std.proofs.Common.{◌≡◌, Some}
use Rattle.machine_model.specs.Gated.{gated_steps}
use Rattle.machine_model.specs.Step.{after_private}
use Rattle.replay_view.specs.Gates.{stand_of}
use Rattle.replay_view.specs.Grown.{led_to}
use Rattle.replay_view.proofs.gate.make_run.Given as goal

abbrev pub invariant-loop-k : goal.invariant-loop-k
invariant-loop-k l = (after_private l.image l._k l.fn.stand.cpu ≡ Some l.x.stand.cpu) × (led_to l.x.gated (stand_of l.image l.x.stand) ≡ gated_steps l.image l.grown l._k (stand_of l.image l.fn.stand))
