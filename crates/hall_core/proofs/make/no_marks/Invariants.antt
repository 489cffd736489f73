use Rattle.std.proofs.Common.{◌≡◌, None, replicate}
use Rattle.hall_core.proofs.make.no_marks.Given as goal

abbrev pub invariant-loop : goal.invariant-loop
invariant-loop l = l.marks.items ≡ replicate l.counter None
