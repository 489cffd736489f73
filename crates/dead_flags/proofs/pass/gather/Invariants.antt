use Rattle.dead_flags.proofs.PassLemmas.{Gathered}
use Rattle.dead_flags.proofs.pass.gather.Given as goal

abbrev pub invariant-loop-i : goal.invariant-loop-i
invariant-loop-i l = Gathered l.fn.lines l.lines l.i l.first l.fn.live l.before

abbrev pub decreases-loop-i : goal.decreases-loop-i
decreases-loop-i l = l.i
