use Rattle.std.proofs.Common.{◌≤◌, length}
use Rattle.dead_flags.proofs.PassLemmas.{Stripped}
use Rattle.dead_flags.proofs.pass.strip_parts.Given as goal

abbrev pub invariant-loop-i : goal.invariant-loop-i
invariant-loop-i l = record {
  within : l.i ≤ length l.fn.parts.items;
  stripped : Stripped l.fn.parts.items l.parts.items l.i l.live;
}

abbrev pub decreases-loop-i : goal.decreases-loop-i
decreases-loop-i l = l.i
