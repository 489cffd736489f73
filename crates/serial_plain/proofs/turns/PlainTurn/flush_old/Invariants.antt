use Rattle.std.proofs.Common.{length}
use Rattle.serial_plain.specs.PlainSerial.{IsPlayed, turn_as}
use Rattle.serial_plain.proofs.SerialPlain.{Flushes}
use Rattle.serial_plain.proofs.turns.PlainTurn.flush_old.Given as goal

abbrev pub invariant-loop-alloc : goal.invariant-loop-alloc
invariant-loop-alloc l = IsPlayed l.case (turn_as l.self) × Flushes l.case l.t l.hold (turn_as l.self) (turn_as l.fn.self)

abbrev pub decreases-loop-alloc : goal.decreases-loop-alloc
decreases-loop-alloc l = length l.self.ages.items
