use Rattle.guest_entries.proofs.Growing.{MidAt}
use Rattle.guest_entries.proofs.growth.grow_each.Given as goal

abbrev pub invariant-loop-a : goal.invariant-loop-a
invariant-loop-a g l = MidAt l.fn.hall l.hall l.t l.places l.a-index
