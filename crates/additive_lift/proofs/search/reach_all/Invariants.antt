use Rattle.std.proofs.Common.{◌+◌, ◌-◌, ◌*◌, ◌^◌, [], ◌∷◌, length}
use Rattle.additive_lift.specs.Search.{IsMet}
use Rattle.additive_lift.proofs.search.reach_all.Given as goal

abbrev pub invariant-loop-a : goal.invariant-loop-a
invariant-loop-a l = IsMet l.image (l.root ∷ []) l.search.met.keys l.search.todo.items

abbrev pub decreases-loop-a : goal.decreases-loop-a
decreases-loop-a l = 2 * (2 ^ 63 - length l.search.met.keys) + length l.search.todo.items
