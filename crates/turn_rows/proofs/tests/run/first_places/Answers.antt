use Rattle.std.proofs.Common.{[], sym, subst}
use Rattle.std.specs.List.Sorted.{IsStrictlySortedBy}
use Rattle.std.specs.Ordering.{nat_cmp}
use Rattle.turn_rows.proofs.tests.run.first_places.Goals as goal

none_sorted : IsStrictlySortedBy nat_cmp []
unfolding IsStrictlySortedBy
none_sorted = tt

pub returns-then-not-all-clause-ordered : goal.returns-then-not-all-clause-ordered
returns-then-not-all-clause-ordered c = subst (IsStrictlySortedBy nat_cmp) (sym c.new.ensures.items) none_sorted
