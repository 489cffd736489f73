-- Places in order, one more at a time.
use Rattle.std.proofs.Common.{◌≡◌, ◌≢◌, ℕ, ◌+◌, ◌-◌, ◌<◌, ◌≤◌, List, [], ◌∷◌, ◌++◌, length, get_or, take, drop, sym, refl, ap, subst, ◌∙◌, inl, inr, ⊎_elim, arith}
use Rattle.std.specs.Prelude.{All, AllPairs, Contains, IsTrue, IfOk, MatchBool, MatchResult, Bool, true, false, ◌↔◌, Result, Ok, Err}
use mathlib.Core.Bool.{false≢true}
use Rattle.std.specs.List.Sorted.{IsNonDecreasingBy, IsPermutation}
use Rattle.std.proofs.lemmas.Bool.{cases_lt}
use Rattle.std.proofs.lemmas.List.{take_more, take-append-drop, length-take, get_or_default, get_or-take}
use Rattle.std.proofs.lemmas.List.Elements.{Contains-get_or, Contains-append_left, Contains-push, Contains-push_cases, All-contains}
use Rattle.std.proofs.lemmas.List.Quantifiers.{all_pairs_push}
use Rattle.std.proofs.lemmas.List.Sorted.{Contains-permutation, IsPermutation-sym}
use Rattle.elf_image.specs.declared.linking.Linking.{Linking}
use Rattle.elf_image.specs.declared.place.Function.{Function}
use Rattle.elf_image.specs.declared.place.LibPlace.{LibPlace}
use Rattle.elf_image.specs.Layout.{IsBelow}
use Rattle.elf_image.specs.Loading.{AreInOrder, Clashes, ClashesAt, IsClash, IsKept, is_kept}
use Rattle.elf_image.specs.Sound.{IsFirstClash}

-- a place is its address and its function
same_place : (a b : LibPlace) → a.at ≡ b.at → a.function ≡ b.function → a ≡ b
same_place a b at function =
    let make : ℕ → Function → LibPlace = λ n f. record { at = n; function = f } in
    ap (λ (n : ℕ). make n a.function) at ∙ ap (make b.at) function

-- the last entry, where its number is known by another name
pub last_at : (es : List LibPlace) (n : ℕ) (x d : LibPlace) → n ≡ length es → 0 < length es → x ≡ get_or es (n - 1) x → x ≡ get_or es (length es - 1) d
last_at es n x d e some is = is ∙ ap (λ (k : ℕ). get_or es (k - 1) x) e ∙ get_or_default es (length es - 1) x d (omega arith)

module _ (es : List LibPlace) (p : LibPlace) (rising : AllPairs IsBelow es) where
  -- the last entry is the place
  pub add_again : (d : LibPlace) → 0 < length es → (get_or es (length es - 1) d).at ≡ p.at → (get_or es (length es - 1) d).function ≡ p.function → AreInOrder (es ++ p ∷ []) es
  add_again d some at function =
      let last = same_place (get_or es (length es - 1) d) p at function in
      let there : Contains es p = subst (Contains es) last (Contains-get_or es (length es - 1) d (omega arith)) in
      record {
        rising = rising;
        same = λ q. (λ h. Contains-append_left es (p ∷ []) q h, λ h. ⊎_elim (λ old. old) (λ e. subst (Contains es) e there) (Contains-push_cases es p q h));
      }

  -- the last entry has the address, and another function
  pub add_clash : (d : LibPlace) → 0 < length es → (get_or es (length es - 1) d).at ≡ p.at → (get_or es (length es - 1) d).function ≢ p.function → ClashesAt (es ++ p ∷ []) p.at
  add_clash d some at other = (get_or es (length es - 1) d, p, Contains-append_left es (p ∷ []) _ (Contains-get_or es (length es - 1) d (omega arith)), Contains-push es p, at, refl, other)

  -- by the answer of a test on the functions
  pub add_or_clash : (d : LibPlace) (b : Bool) → 0 < length es → (get_or es (length es - 1) d).at ≡ p.at → IsTrue b ↔ ((get_or es (length es - 1) d).function ≡ p.function) → MatchBool b (AreInOrder (es ++ p ∷ []) es) (ClashesAt (es ++ p ∷ []) p.at)
  add_or_clash d true some at test = add_again d some at (test.0 refl)
  add_or_clash d false some at test = add_clash d some at (λ same. false≢true (test.1 same))

  -- the place is above the last entry, if there is one
  pub add_above : All (λ q. q.at ≤ p.at) es → ((d : LibPlace) → 0 < length es → (get_or es (length es - 1) d).at ≢ p.at) → AreInOrder (es ++ p ∷ []) (es ++ p ∷ [])
  add_above above other =
      let below : (k : ℕ) (d : LibPlace) → k < length es → (get_or es k d).at < p.at = λ k d lt.
      let last = above (length es - 1) d (omega arith) in
      let differs = other d (omega arith) in
      elim (cases_lt k (length es - 1)) [
        | inl before ↦ omega (arith, rising k (length es - 1) d before (omega arith))
        | inr at_end ↦ let e : k ≡ length es - 1 = omega arith in rw e (omega arith)
      ] in
      record { rising = all_pairs_push IsBelow es p rising below; same = λ q. (λ h. h, λ h. h) }

module _ (ps es : List LibPlace) (i : ℕ) (p : LibPlace) (lt : i < length ps) (is : p ≡ get_or ps i p) (so_far : AreInOrder (take i ps) es) where
  in_list : (q : LibPlace) → Contains (es ++ p ∷ []) q → Contains (take (i + 1) ps) q
  in_list q h =
      let more : take (i + 1) ps ≡ take i ps ++ p ∷ [] = take_more ps i p lt ∙ ap (λ (x : LibPlace). take i ps ++ x ∷ []) (sym is) in
      subst (λ (xs : List LibPlace). Contains xs q) (sym more) (⊎_elim (λ old. Contains-append_left (take i ps) (p ∷ []) q ((so_far.same q).0 old)) (λ e. subst (Contains (take i ps ++ p ∷ [])) e (Contains-push (take i ps) p)) (Contains-push_cases es p q h))

  from_list : (q : LibPlace) → Contains (take (i + 1) ps) q → Contains (es ++ p ∷ []) q
  from_list q h =
      let more : take (i + 1) ps ≡ take i ps ++ p ∷ [] = take_more ps i p lt ∙ ap (λ (x : LibPlace). take i ps ++ x ∷ []) (sym is) in
      ⊎_elim (λ old. Contains-append_left es (p ∷ []) q ((so_far.same q).1 old)) (λ e. subst (Contains (es ++ p ∷ [])) e (Contains-push es p)) (Contains-push_cases (take i ps) p q (subst (λ (xs : List LibPlace). Contains xs q) more h))

  -- one more place of the list
  pub order_more : (new : List LibPlace) → AreInOrder (es ++ p ∷ []) new → AreInOrder (take (i + 1) ps) new
  order_more new added = record {
    rising = added.rising;
    same = λ q. (λ h. in_list q ((added.same q).0 h), λ h. (added.same q).1 (from_list q h));
  }

  take_contains : (n : ℕ) (q : LibPlace) → Contains (take n ps) q → Contains ps q
  take_contains n q h = subst (λ (xs : List LibPlace). Contains xs q) (take-append-drop n ps) (Contains-append_left (take n ps) (drop n ps) q h)

  -- a clash with the next place is one in the list
  pub clash_more : ClashesAt (es ++ p ∷ []) p.at → ClashesAt ps p.at
  clash_more two = (two.0, two.1, take_contains (i + 1) two.0 (in_list two.0 two.2), take_contains (i + 1) two.1 (in_list two.1 two.3), two.4, two.5, two.6)

  -- no entry is above the next place, where the list is sorted
  pub none_above : IsNonDecreasingBy (λ q. q.at) ps → All (λ q. q.at ≤ p.at) es
  none_above sorted k d in_range =
      let q = get_or es k d in
      let there = (so_far.same q).0 (Contains-get_or es k d in_range) in
      let before : there.0 < i = omega (arith, there.1, length-take i ps) in
      let here : get_or ps there.0 q ≡ q = sym (get_or-take i ps there.0 q before) ∙ there.2 in
      let next : get_or ps i q ≡ p = get_or_default ps i q p lt ∙ sym is in
      omega (arith, sorted there.0 i q (omega arith) lt, ap (λ (x : LibPlace). x.at) here, ap (λ (x : LibPlace). x.at) next)

-- the same for a list with the same places
pub order_permuted : (ps qs es : List LibPlace) → IsPermutation ps qs → AreInOrder qs es → AreInOrder ps es
order_permuted ps qs es moved order = record {
  rising = order.rising;
  same = λ p. (λ h. Contains-permutation qs ps p (IsPermutation-sym ps qs moved) ((order.same p).0 h), λ h. (order.same p).1 (Contains-permutation ps qs p moved h));
}

-- where an order exists nothing clashes
pub no_clash : (ps es : List LibPlace) → AreInOrder ps es → Clashes ps → ⊥
no_clash ps es order two =
    let a = (order.same two.0).1 two.2 in
    let b = (order.same two.1).1 two.3 in
    let at_a : (get_or es a.0 two.0).at ≡ two.0.at = ap (λ (q : LibPlace). q.at) a.2 in
    let at_b : (get_or es b.0 two.0).at ≡ two.1.at = ap (λ (q : LibPlace). q.at) (get_or_default es b.0 two.0 two.1 b.1 ∙ b.2) in
    let e : two.0.at ≡ two.1.at = two.4 in
    elim (cases_lt a.0 b.0) [
      | inl before ↦ omega (arith, order.rising a.0 b.0 two.0 before b.1, at_a, at_b, e)
      | inr rest ↦ elim (cases_lt b.0 a.0) [
        | inl after ↦ omega (arith, order.rising b.0 a.0 two.0 after a.1, at_a, at_b, e)
        | inr rest' ↦
            let same : a.0 ≡ b.0 = omega arith in
            two.5 (ap (λ (q : LibPlace). q.function) (sym a.2 ∙ ap (λ n. get_or es n two.0) same ∙ get_or_default es b.0 two.0 two.1 b.1 ∙ b.2))
      ]
    ]

-- ---- addresses at fault

module _ (linking : Linking) (ps : List LibPlace) (rising : IsNonDecreasingBy (λ q. q.at) ps) (i : ℕ) (es : List LibPlace) (lt : i < length ps) (so_far : AreInOrder (take i ps) es) (free : All (λ q. is_kept linking q.at ≡ false) (take i ps)) where
  -- a place below the address of the next is among the first
  below_first : (q d : LibPlace) → Contains ps q → q.at < (get_or ps i d).at → Contains (take i ps) q
  below_first q d there below = elim (cases_lt there.0 i) [
    | inl before ↦ (there.0, omega (arith, length-take i ps, before, lt), get_or-take i ps there.0 q before ∙ there.2)
    | inr rest ↦ absurd (omega (arith, rising i there.0 q rest there.1, ap (λ (x : LibPlace). x.at) there.2, ap (λ (x : LibPlace). x.at) (get_or_default ps i d q lt), below))
  ]

  -- so no address below that of the next is at fault
  pub none_below : (d : LibPlace) (b : ℕ) → IsClash linking ps b → (get_or ps i d).at ≤ b
  none_below d b clash = elim (cases_lt b (get_or ps i d).at) [
    | inl below ↦ absurd (at_fault below clash)
    | inr rest ↦ rest
  ]
    where
      at_fault : b < (get_or ps i d).at → IsClash linking ps b → ⊥
      at_fault below (inl two) =
          let one = below_first two.0 d two.2 (omega (arith, two.4, below)) in
          let other = below_first two.1 d two.3 (omega (arith, two.5, below)) in
          no_clash (take i ps) es so_far (two.0, two.1, one, other, two.4 ∙ sym two.5, two.6)
      at_fault below (inr kept) =
          let place = kept.1 in
          let there = below_first place.0 d place.1 (omega (arith, place.2, below)) in
          let none : is_kept linking (get_or (take i ps) there.0 place.0).at ≡ false = free there.0 place.0 there.1 in
          let same : (get_or (take i ps) there.0 place.0).at ≡ b = ap (λ (x : LibPlace). x.at) there.2 ∙ place.2 in
          false≢true (sym none ∙ ap (is_kept linking) same ∙ kept.0)

-- a place whose address is kept
pub kept_clash : (linking : Linking) (ps : List LibPlace) (i : ℕ) (d : LibPlace) → i < length ps → is_kept linking (get_or ps i d).at ≡ true → IsClash linking ps (get_or ps i d).at
kept_clash linking ps i d lt kept = inr (kept, (get_or ps i d, Contains-get_or ps i d lt, refl))

-- none is kept
pub none_kept : (linking : Linking) (ps : List LibPlace) → All (λ q. is_kept linking q.at ≡ false) ps → (a : ℕ) → IsKept linking ps a → ⊥
none_kept linking ps free a kept =
    let place = kept.1 in
    let none : is_kept linking place.0.at ≡ false = All-contains (λ q. is_kept linking q.at ≡ false) ps place.0 free place.1 in
    false≢true (sym none ∙ ap (is_kept linking) place.2 ∙ kept.0)

module _ (linking : Linking) (ps qs : List LibPlace) (moved : IsPermutation ps qs) where
  kept_permuted : (a : ℕ) → IsKept linking ps a → IsKept linking qs a
  kept_permuted a kept = let place = kept.1 in (kept.0, (place.0, Contains-permutation ps qs place.0 moved place.1, place.2))

  clash_permuted : (a : ℕ) → IsClash linking ps a → IsClash linking qs a
  clash_permuted a (inl two) = inl (two.0, two.1, Contains-permutation ps qs two.0 moved two.2, Contains-permutation ps qs two.1 moved two.3, two.4, two.5, two.6)
  clash_permuted a (inr kept) = inr (kept_permuted a kept)

-- the same of an answer
pub permuted : {V E : Type 0} (linking : Linking) (items : V → List LibPlace) (ps qs : List LibPlace) → IsPermutation ps qs → (r : Result (Result V ℕ) E) → IfOk r (λ o. MatchResult o (λ v. AreInOrder qs (items v) × ((a : ℕ) → ¬ IsKept linking qs a)) (IsFirstClash linking qs)) → IfOk r (λ o. MatchResult o (λ v. AreInOrder ps (items v) × ((a : ℕ) → ¬ IsKept linking ps a)) (IsFirstClash linking ps))
permuted linking items ps qs moved (Ok (Ok v)) h = (order_permuted ps qs (items v) moved h.0, (λ a kept. h.1 a (kept_permuted linking ps qs moved a kept)))
permuted linking items ps qs moved (Ok (Err a)) h = (clash_permuted linking qs ps (IsPermutation-sym ps qs moved) a h.0, (λ b clash. h.1 b (clash_permuted linking ps qs moved b clash)))
permuted linking items ps qs moved (Err e) h = h
