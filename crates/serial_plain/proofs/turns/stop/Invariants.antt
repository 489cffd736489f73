use Rattle.std.proofs.Common.{◌≡◌, ◌-◌, ◌≤◌}
use Rattle.machine_model.specs.Serial.{point_of, stop_from}
use Rattle.serial_plain.specs.PlainSerial.{point_as}
use Rattle.serial_plain.proofs.turns.stop.Given as goal

abbrev pub invariant-loop : goal.invariant-loop
invariant-loop l = (l.point.k ≤ l.counter) × (stop_from l.case l.walk (4096 - l.counter) (point_as l.point) ≡ stop_from l.case l.walk 4096 (point_of l.walk l.t))
