use Rattle.std.proofs.Common.{◌≡◌}
use Rattle.turn_lock.specs.Lock.{lock_id}
use Rattle.turn_lock.specs.Words.{lock_of, pass_number}
use Rattle.turn_lock.proofs.tests.add_often.Given as goal

abbrev pub invariant-loop : goal.invariant-loop
invariant-loop g l = (lock_of l.pass ≡ lock_id l.fn.turn) × (pass_number l.pass ≡ l.fn.number)
