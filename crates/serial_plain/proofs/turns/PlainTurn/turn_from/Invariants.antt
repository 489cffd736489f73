use Rattle.serial_plain.specs.PlainSerial.{IsPlayed, turn_as}
use Rattle.serial_plain.proofs.SerialPlain.{Goes}
use Rattle.serial_plain.proofs.turns.PlainTurn.turn_from.Given as goal

abbrev pub invariant-loop : goal.invariant-loop
invariant-loop l = IsPlayed l.case (turn_as l.self) × Goes l.case l.t l.n l.counter (turn_as l.self) (turn_as l.fn.self)
