-- The grown places, in order and as a set.
use Rattle.std.proofs.Common.{◌≡◌, ℕ, ◌+◌, ◌-◌, ◌<◌, ◌≤◌, Bool, true, false, cond, not, List, [], ◌∷◌, ◌++◌, refl, sym, ap, ◌∙◌, subst, arith, length, take, drop, get_or, reverse, ◌||◌}
use Rattle.std.specs.Prelude.{◌==◌, nat_le}
use Rattle.std.specs.Ordering.{nat_cmp}
use Rattle.std.specs.BTreeSet.{BTreeSet, contains, Updates}
use Rattle.std.specs.BTreeMap.{is_at}
use Rattle.std.proofs.lemmas.Grind.{common_steps}
use Rattle.std.proofs.Common.{⊎_elim}
use Rattle.std.specs.List.Sorted.{IsStrictlySortedBy}
use Rattle.std.proofs.lemmas.Bool.{cases_eq, cases_lt}
use Rattle.std.proofs.lemmas.List.{take_all, reverse-append, get_or_default}
use Rattle.std.proofs.lemmas.List.Folds.{list_any_at, list_any_none}
use Rattle.std.proofs.lemmas.Map.Keys.{below_from_sorted}
use Rattle.std.proofs.lemmas.List.Sums.{count_by_more_yes, count_by_more_no, count_by-le-length}
use Rattle.std.proofs.lemmas.Bool.Decides.{nat_tests}
use Rattle.basic_blocks.specs.Reach.{is_among}
use Rattle.machine_model.specs.Gated.{most_grown}
use Rattle.replay_view.specs.Grown.{HasPlaces, new_places}

-- ---- counts

pub new_yes : (grown places : List ℕ) (count i d : ℕ) → i < length places → is_among grown (get_or places i d) ≡ false → (count ≡ new_places grown (take i places)) × (count ≤ i) → (count + 1 ≡ new_places grown (take (i + 1) places)) × (count + 1 ≤ i + 1)
new_yes grown places count i d lt new h =
    let yes : not (is_among grown (get_or places i d)) ≡ true = rw new refl in
    (ap (λ n. n + 1) h.0 ∙ sym (count_by_more_yes (λ p. not (is_among grown p)) places i d lt yes), omega (arith, h.1))

pub new_no : (grown places : List ℕ) (count i d : ℕ) → i < length places → is_among grown (get_or places i d) ≡ true → (count ≡ new_places grown (take i places)) × (count ≤ i) → (count ≡ new_places grown (take (i + 1) places)) × (count ≤ i + 1)
new_no grown places count i d lt old h =
    let no : not (is_among grown (get_or places i d)) ≡ false = rw old refl in
    (h.0 ∙ sym (count_by_more_no (λ p. not (is_among grown p)) places i d lt no), omega (arith, h.1))

pub new_all : (grown places : List ℕ) (count i : ℕ) → length places ≤ i → (count ≡ new_places grown (take i places)) × (count ≤ i) → count ≡ new_places grown places
new_all grown places count i le h = h.0 ∙ ap (new_places grown) (take_all i places le)

pub fit_together : (n c : ℕ) → n ≤ 65536 → nat_le c (65536 - n) ≡ nat_le (n + c) most_grown
fit_together n c le = grind (arith, nat_tests)

pub too_many : (n c : ℕ) → 65536 < n → false ≡ nat_le (n + c) most_grown
too_many n c lt = grind (arith, nat_tests)

-- without a look at what is grown
pub fit_anyway : (grown places : List ℕ) (n : ℕ) → n ≤ 65536 → length places ≤ 65536 - n → true ≡ nat_le (n + new_places grown places) most_grown
fit_anyway grown places n le few = let most : new_places grown places ≤ length places = count_by-le-length (λ p. not (is_among grown p)) places in grind (arith, nat_tests)

-- ---- one more

pub one_more : (places : List ℕ) (i d : ℕ) → i < length places → get_or places (length places - 1 - i) d ∷ drop (length places - i) places ≡ drop (length places - (i + 1)) places
one_more places i d lt = grind (arith, common_steps)

pub all_there : (places : List ℕ) (i : ℕ) → length places ≤ i → drop (length places - i) places ≡ places
all_there places i le = let e : length places - i ≡ 0 = omega arith in ap (λ n. drop n places) e

pub placed : (places : List ℕ) (a : ℕ) → reverse (places ++ a ∷ []) ≡ a ∷ reverse places
placed places a = reverse-append places (a ∷ [])

at_is_equal : (a x : ℕ) → is_at (nat_cmp a) x ≡ (a == x)
at_is_equal a x = grind (arith, common_steps)

chosen : (b c : Bool) → cond b true c ≡ (b || c)
chosen true c = refl
chosen false c = refl

pub place_kept : (old new : BTreeSet ℕ) (places now : List ℕ) (a : ℕ) → Updates nat_cmp old new a true → HasPlaces old (reverse places) → now ≡ places ++ a ∷ [] → HasPlaces new (reverse now)
place_kept old new places now a h has is =
    let e : reverse now ≡ a ∷ reverse places = ap reverse is ∙ placed places a in
    subst (HasPlaces new) (sym e) (λ x. h.0 x ∙ ap (λ b. cond b true (contains nat_cmp old x)) (at_is_equal a x) ∙ ap (cond (a == x) true) (has x) ∙ chosen (a == x) (is_among (reverse places) x))

-- ---- a place among those that rise

pub rises : (places : List ℕ) → IsStrictlySortedBy nat_cmp places → (i j : ℕ) → i ≤ j → j < length places → get_or places i 0 ≤ get_or places j 0
rises places h i j le lt =
    ⊎_elim
    (λ e. let same : get_or places i 0 ≡ get_or places j 0 = ap (λ n. get_or places n 0) e in omega arith)
    (λ ne. let below : get_or places i 0 < get_or places j 0 = below_from_sorted places i j 0 h (omega arith) lt in omega arith)
    (cases_eq i j)

equal : (x a : ℕ) → x ≡ a → (x == a) ≡ true
equal x a e = grind (arith, nat_tests)

below_it : (x a : ℕ) → x < a → (x == a) ≡ false
below_it x a lt = grind (arith, nat_tests)

above_it : (x a : ℕ) → a < x → (x == a) ≡ false
above_it x a lt = grind (arith, nat_tests)

pub found : (places : List ℕ) (a i : ℕ) → (i < length places) × (get_or places i 0 ≡ a) → true ≡ is_among places a
found places a i h = sym (list_any_at (λ x. x == a) places i 0 h.0 (equal (get_or places i 0) a h.1))

pub missing : (places : List ℕ) (a i : ℕ) → (i ≤ length places) × ((k : ℕ) → k < i → get_or places k 0 < a) × ((k : ℕ) → i ≤ k → k < length places → a < get_or places k 0) → false ≡ is_among places a
missing places a i h =
    sym (list_any_none (λ x. x == a) places (λ k d lt. ap (λ x. x == a) (get_or_default places k d 0 lt) ∙ ⊎_elim (λ b. below_it (get_or places k 0) a (h.1 k b)) (λ n. above_it (get_or places k 0) a (h.2 k n lt)) (cases_lt k i)))
