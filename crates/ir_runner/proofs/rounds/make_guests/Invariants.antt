use Rattle.ir_runner.proofs.Rounding.{Firsts}
use Rattle.ir_runner.proofs.rounds.make_guests.Given as goal

abbrev pub invariant-loop-slot : goal.invariant-loop-slot
invariant-loop-slot l = Firsts l.hall l.guests.items l.slot
