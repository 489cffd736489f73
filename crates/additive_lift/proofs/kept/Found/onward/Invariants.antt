use Rattle.std.proofs.Common.{◌≡◌, ◌+◌, ◌-◌, ◌*◌, ◌≤◌, [], ◌∷◌, length}
use Rattle.additive_lift.specs.Search.{IsMet}
use Rattle.additive_lift.proofs.kept.Found.onward.Given as goal

abbrev pub invariant-loop-a : goal.invariant-loop-a
invariant-loop-a l = IsMet l.fn.self (l.root ∷ []) l.search.met.keys l.search.todo.items × (length l.search.met.keys ≤ 65536) × (l.self ≡ l.fn.self)

abbrev pub decreases-loop-a : goal.decreases-loop-a
decreases-loop-a l = 2 * (65536 - length l.search.met.keys) + length l.search.todo.items
