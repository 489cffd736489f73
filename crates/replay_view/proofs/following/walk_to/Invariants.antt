use Rattle.std.proofs.Common.{◌≡◌, ◌≤◌, take, drop}
use Rattle.replay_view.specs.Follow.{HasTaken}
use Rattle.replay_view.proofs.following.walk_to.Given as goal

-- the entries so far were taken, and the others are left
abbrev pub invariant-loop-entry : goal.invariant-loop-entry
invariant-loop-entry l = record {
  taken : HasTaken l.walker (take l.walker.taken l.journal);
  left : drop l.walker.taken l.journal ≡ l.entry-iterator;
  case : l.walker.case ≡ l.case;
  within : l.walker.taken ≤ l.n;
}
