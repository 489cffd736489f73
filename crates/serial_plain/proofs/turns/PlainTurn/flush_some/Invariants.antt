use Rattle.std.proofs.Common.{◌≡◌, ◌-◌}
use Rattle.machine_model.specs.Serial.{flush_some}
use Rattle.serial_plain.specs.PlainSerial.{IsPlayed, turn_as}
use Rattle.serial_plain.proofs.turns.PlainTurn.flush_some.Given as goal

abbrev pub invariant-loop : goal.invariant-loop
invariant-loop l = IsPlayed l.case (turn_as l.self) × (flush_some l.case l.t (l.n - l.counter) (turn_as l.self) ≡ flush_some l.case l.t l.n (turn_as l.fn.self))
