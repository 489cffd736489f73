use Rattle.std.proofs.Common.{◌≡◌, take}
use Rattle.machine_model.specs.State.{list_at}
use Rattle.replay_machine.proofs.machine.Machine.writes.Given as goal

-- the writes so far
abbrev pub invariant-loop-i : goal.invariant-loop-i
invariant-loop-i l = l.writes.items ≡ take l.i (list_at l.self l.s)
