-- A look-up among places that rise by address.
use Rattle.std.proofs.Common.{◌≡◌, ◌≢◌, ℕ, zero, suc, ◌<◌, List, [], ◌∷◌, length, get_or, Some, None, Result, Ok, Err, sym, refl, ap, inl, inr, arith}
use Rattle.std.specs.Prelude.{AllPairs}
use Rattle.std.specs.List.Sorted.{IsBinarySearchResult, IsNonDecreasingBy, IsSearchInRange}
use Rattle.std.specs.Ordering.{nat_cmp, ordering_index}
use Rattle.std.specs.Result.{MatchResult}
use Rattle.std.proofs.lemmas.Cmp.{ranked}
use Rattle.std.proofs.lemmas.Bool.{cases_lt}
use Rattle.std.proofs.lemmas.Bool.Decides.{nat_tests}
use Rattle.elf_image.specs.declared.place.LibPlace.{LibPlace}
use Rattle.elf_image.specs.Layout.{IsBelow, function_at}

-- the places after the first rise too
pub rising_tail : (p : LibPlace) (ps : List LibPlace) → AllPairs IsBelow (p ∷ ps) → AllPairs IsBelow ps
rising_tail p ps rising i j d lt in_range = rising (suc i) (suc j) d (omega arith) (omega arith)

-- no place has the address
pub absent : (a : ℕ) (ps : List LibPlace) → ((i : ℕ) (d : LibPlace) → i < length ps → (get_or ps i d).at ≢ a) → function_at a ps ≡ None
absent a [] none = refl
absent a (p ∷ ps) none = grind (arith, nat_tests, none 0 p (omega arith), absent a ps (λ i d lt. none (suc i) d (omega arith)))

-- the place at i has the address
pub present : (a : ℕ) (ps : List LibPlace) (i : ℕ) (d : LibPlace) → AllPairs IsBelow ps → i < length ps → (get_or ps i d).at ≡ a → function_at a ps ≡ Some (get_or ps i d).function
present a [] i d rising lt at = absurd (omega (arith, lt))
present a (q ∷ ps) zero d rising lt at = grind (arith, nat_tests, at)
present a (q ∷ ps) (suc i) d rising lt at =
    let below : q.at < (get_or ps i d).at = rising 0 (suc i) d (omega arith) lt in
    grind (arith, nat_tests, below, at, present a ps i d (rising_tail q ps rising) (omega arith) at)

module _ (a : ℕ) (ps : List LibPlace) (rising : AllPairs IsBelow ps) where
  -- the comparisons with the address rise along the list, as a binary search asks
  comparisons_rise : IsNonDecreasingBy (λ p. ordering_index (nat_cmp p.at a)) ps
  comparisons_rise i j d le lt =
      let same : (i ≡ j) → (get_or ps i d).at ≡ (get_or ps j d).at = λ e. ap (λ n. (get_or ps n d).at) e in
      grind (arith, nat_tests, same, rising i j d)

  -- what a binary search ends at
  pub looked_up : (r : Result ℕ ℕ) → IsSearchInRange r (length ps) → IsBinarySearchResult (λ p. nat_cmp p.at a) ps r → MatchResult r (λ i. (d : LibPlace) → Some (get_or ps i d).function ≡ function_at a ps) (λ i. None ≡ function_at a ps)
  looked_up (Ok i) in_range equal = λ d. sym (present a ps i d rising in_range (ranked (get_or ps i d).at a _ (sym (equal d))))
  looked_up (Err i) in_range parted = sym (absent a ps (λ k d lt same. elim (cases_lt k i) [
    | inl before ↦ omega (arith, same, ranked (get_or ps k d).at a _ (sym ((parted comparisons_rise).0 k d (omega arith) before)))
    | inr after ↦ omega (arith, same, ranked (get_or ps k d).at a _ (sym ((parted comparisons_rise).1 k d after lt)))
  ]))
