use Rattle.std.proofs.Common.{◌≡◌, ◌+◌, ◌≤◌, take, length}
use Rattle.sync_more.specs.Rooms.{with_phases}
use Rattle.sync_more.proofs.rooms.set_phases.Given as goal

abbrev pub invariant-loop-t : goal.invariant-loop-t
invariant-loop-t l = record { same : l.phases.places ≡ with_phases l.initial.phases.places (take l.t-index l.threads) l.phase; room : l.initial.phases.room ≤ l.phases.room + l.t-index; fits : length l.threads ≤ l.initial.phases.room }
