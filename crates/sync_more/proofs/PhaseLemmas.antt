-- The phases of several threads at once.
use Rattle.std.proofs.Common.{◌≡◌, ℕ, List, [], ◌∷◌, ◌++◌, refl}
use Rattle.std.specs.Ordering.{nat_cmp}
use Rattle.std.specs.FinMap.{FinMap, insert}
use Rattle.sync_more.specs.declared.state.Phase.{Phase}
use Rattle.sync_more.specs.Rooms.{with_phases}

-- one thread more
pub with_phases-append : (m : FinMap nat_cmp Phase) (ts : List ℕ) (t : ℕ) (p : Phase) → with_phases m (ts ++ t ∷ []) p ≡ insert (with_phases m ts p) t p
with_phases-append m [] t p = refl
with_phases-append m (u ∷ ts) t p = with_phases-append (insert m u p) ts t p
