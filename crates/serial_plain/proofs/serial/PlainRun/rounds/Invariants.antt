use Rattle.std.proofs.Common.{◌≡◌, ◌*◌, ◌-◌}
use Rattle.machine_model.specs.Serial.{AreReaches, Reaches, rounds}
use Rattle.serial_plain.specs.PlainSerial.{IsRun, run_as}
use Rattle.serial_plain.proofs.serial.PlainRun.rounds.Given as goal

abbrev pub invariant-loop-i : goal.invariant-loop-i
invariant-loop-i l = IsRun l.case (l.i * 64) (run_as l.self) × ((reach : Reaches) → AreReaches l.case.image reach → rounds l.case reach (record { turn = l.budget; hold = l.hold }) (l.n - l.i) (run_as l.self) ≡ rounds l.case reach (record { turn = l.budget; hold = l.hold }) l.n (run_as l.fn.self))
