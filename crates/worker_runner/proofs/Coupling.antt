-- Lists that are taken apart and put together one by one.
use Rattle.std.proofs.Common.{◌≡◌, ℕ, suc, ◌+◌, ◌-◌, ◌⊎◌, ◌<◌, List, [], ◌∷◌, ◌++◌, length, slice_index_or, sym, subst, ap, ◌∙◌, inl, inr, arith, length-append}
use Rattle.std.proofs.Math.Seq.{get_or-append_right, get_or-append_seam}
use Rattle.std.proofs.lemmas.Bool.{cases_lt}
use Rattle.std.proofs.lemmas.List.{get_or_append_left}

module _ {X : Type 0} (S : ℕ → X → Type 0) where
  -- what holds of each item by its place, counted from n
  abbrev pub EachFrom : ℕ → List X → Type 0
  EachFrom n xs = (k : ℕ) (d : X) → k < length xs → S (n + k) (slice_index_or xs k d)

  -- and counted down from 63
  abbrev pub EachBack : List X → Type 0
  EachBack xs = (k j : ℕ) (d : X) → k < length xs → k + j ≡ 63 → S j (slice_index_or xs k d)

  -- by its place
  abbrev pub Each : List X → Type 0
  Each xs = (k : ℕ) (d : X) → k < length xs → S k (slice_index_or xs k d)

  pub each_none : Each []
  each_none k d less = absurd (omega (arith, less))

  pub each_snoc : (xs : List X) (x : X) → Each xs → S (length xs) x → Each (xs ++ x ∷ [])
  each_snoc xs x each last = λ k d less. elim (cases_lt k (length xs)) [
    | inl below ↦ subst (S k) (sym (get_or_append_left xs (x ∷ []) d k below)) (each k d below)
    | inr past ↦ (
        let len = length-append xs (x ∷ []) in
        let is : k ≡ length xs = omega (arith, less, past, len) in
        subst (λ i. S i (slice_index_or (xs ++ x ∷ []) i d)) (sym is) (subst (S (length xs)) (sym (get_or-append_seam xs x [] d)) last)
        )
  ]

  pub each_head : (n : ℕ) (x : X) (xs : List X) → EachFrom n (x ∷ xs) → S n x
  each_head n x xs each = let q = each 0 x (omega arith) in let z : n + 0 ≡ n = omega arith in subst (λ i. S i x) z q

  pub each_tail : (n m : ℕ) (x : X) (xs : List X) → m ≡ n + 1 → EachFrom n (x ∷ xs) → EachFrom m xs
  each_tail n m x xs is each = λ k d less. let q = each (suc k) d (omega (arith, less)) in let z : n + suc k ≡ m + k = omega (arith, is) in subst (λ i. S i (slice_index_or xs k d)) z q

  pub front_from : (n : ℕ) (xs : List X) (x : X) → EachFrom n (xs ++ x ∷ []) → EachFrom n xs
  front_from n xs x each = λ k d less.
      let len = length-append xs (x ∷ []) in
      subst (S (n + k)) (get_or_append_left xs (x ∷ []) d k less) (each k d (omega (arith, len, less)))

  pub last_from : (n : ℕ) (xs : List X) (x : X) → EachFrom n (xs ++ x ∷ []) → S (n + length xs) x
  last_from n xs x each =
      let len = length-append xs (x ∷ []) in
      subst (S (n + length xs)) (get_or-append_seam xs x [] x) (each (length xs) x (omega (arith, len)))

  pub back_last : (xs : List X) (x : X) (j : ℕ) → length xs + j ≡ 63 → EachBack (xs ++ x ∷ []) → S j x
  back_last xs x j is each =
      let len = length-append xs (x ∷ []) in
      subst (S j) (get_or-append_seam xs x [] x) (each (length xs) j x (omega (arith, len)) is)

  pub back_front : (xs : List X) (x : X) → EachBack (xs ++ x ∷ []) → EachBack xs
  back_front xs x each = λ k j d less is.
      let len = length-append xs (x ∷ []) in
      subst (S j) (get_or_append_left xs (x ∷ []) d k less) (each k j d (omega (arith, len, less)) is)

-- what holds of the first items after something was done with them; the others are as they were
pub first_or_same : {X : Type 0} (P : X → X → Type 0) (all busy idle new : List X) → all ≡ busy ++ idle → length new ≡ length busy → ((k : ℕ) (d : X) → k < length busy → P (slice_index_or busy k d) (slice_index_or new k d)) → (k : ℕ) (d : X) → k < length all → P (slice_index_or all k d) (slice_index_or (new ++ idle) k d) ⊎ (slice_index_or (new ++ idle) k d ≡ slice_index_or all k d)
first_or_same P all busy idle new is count did k d less = elim (cases_lt k (length busy)) [
  | inl below ↦ inl (
      let old = ap (λ xs. slice_index_or xs k d) is ∙ get_or_append_left busy idle d k below in
      let now = get_or_append_left new idle d k (omega (arith, below, count)) in
      subst (λ x. P x (slice_index_or (new ++ idle) k d)) (sym old) (subst (P (slice_index_or busy k d)) (sym now) (did k d below))
      )
  | inr past ↦ inr (
      let old = ap (λ xs. slice_index_or xs k d) is ∙ get_or-append_right busy idle k d past in
      let now = get_or-append_right new idle k d (omega (arith, past, count)) in
      now ∙ ap (λ n. slice_index_or idle (k - n) d) count ∙ sym old
      )
]
