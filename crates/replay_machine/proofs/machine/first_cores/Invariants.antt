use Rattle.std.proofs.Common.{◌≡◌, ◌∷◌, [], replicate}
use Rattle.machine_model.specs.State.{Core, entering, no_core}
use Rattle.replay_machine.proofs.machine.first_cores.Given as goal

abbrev pub invariant-loop : goal.invariant-loop
invariant-loop l = let first : Core = record { cpu = entering l.image l.rsp; frames = [] } in l.cores.items ≡ first ∷ replicate l.counter no_core
