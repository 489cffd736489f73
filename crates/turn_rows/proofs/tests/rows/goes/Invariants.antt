use Rattle.turn_rows.specs.Good.{IsGood}
use Rattle.turn_rows.proofs.tests.rows.goes.Given as goal

abbrev pub invariant-loop-answer : goal.invariant-loop-answer
invariant-loop-answer l = IsGood l.run.hall l.run.guest l.run.other l.run.rules
