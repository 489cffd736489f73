use Rattle.std.proofs.Common.{◌≡◌, map, replicate}
use Rattle.machine_model.specs.Gated.{no_spot}
use Rattle.replay_view.specs.Gates.{position_of}
use Rattle.replay_view.proofs.gate.Gate.start.Given as goal

abbrev pub invariant-loop : goal.invariant-loop
invariant-loop l = map (position_of l.case.image) l.spots.items ≡ replicate l.counter no_spot
