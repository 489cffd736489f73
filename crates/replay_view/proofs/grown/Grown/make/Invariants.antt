use Rattle.std.proofs.Common.{◌≡◌, ◌-◌, drop, length}
use Rattle.replay_view.proofs.grown.Grown.make.Given as goal

abbrev pub invariant-loop-i : goal.invariant-loop-i
invariant-loop-i l = l.grown ≡ drop (length l.first - l.i) l.first
