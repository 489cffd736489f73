use Rattle.std.proofs.Common.{◌≡◌, ◌≢◌, ℕ, ◌-◌, ◌<◌, ◌≤◌, get_or}
use Rattle.dyn_link.proofs.name.end_of_names.Given as goal

abbrev pub invariant-loop-i : goal.invariant-loop-i
invariant-loop-i l = record {
  within : l.end ≤ l.i;
  last : 0 < l.end → get_or l.strings (l.end - 1) 0 ≡ 0;
  behind : (k : ℕ) → k < l.i → l.end ≤ k → get_or l.strings k 0 ≢ 0;
}
