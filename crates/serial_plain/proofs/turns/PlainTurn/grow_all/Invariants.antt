use Rattle.std.proofs.Common.{◌≡◌, drop}
use Rattle.machine_model.specs.Serial.{grow_all}
use Rattle.serial_plain.specs.PlainSerial.{IsPlayed, turn_as}
use Rattle.serial_plain.proofs.turns.PlainTurn.grow_all.Given as goal

abbrev pub invariant-loop-a : goal.invariant-loop-a
invariant-loop-a l = IsPlayed l.case (turn_as l.self) × (grow_all l.case l.t (drop l.a-index l.places) (turn_as l.self) ≡ grow_all l.case l.t l.places (turn_as l.fn.self))
