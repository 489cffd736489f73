use Rattle.std.proofs.Common.{◌≡◌, ◌+◌, Some}
use Rattle.std.specs.List.{range_with_len}
use Rattle.machine_model.specs.Play.{walk}
use Rattle.machine_model.specs.Serial.{AreReaches, Reaches, one_turn}
use Rattle.serial_plain.specs.PlainSerial.{IsRun, run_as}
use Rattle.serial_plain.proofs.serial.PlainRun.turns.Given as goal

abbrev pub invariant-loop-s : goal.invariant-loop-s
invariant-loop-s l = IsRun l.case (l.count + l.s) (run_as l.self) × ((reach : Reaches) → AreReaches l.case.image reach → walk (one_turn l.case reach (record { turn = l.budget; hold = l.hold })) (run_as l.fn.self) (range_with_len 0 l.s) ≡ Some (run_as l.self))
