-- Lists that are read by place.
use Rattle.std.proofs.Common.{◌≡◌, ℕ, zero, suc, ◌<◌, List, [], ◌∷◌, ◌++◌, length, sym, refl, ap, ◌∙◌, arith, ◌⊎◌, inl, inr, ⊎_elim, get_or}
use mathlib.Core.Option.{some, some-injective, some-ne-none}
use lib.ListN.{get_elem?}
use Rattle.std.specs.List.{flat_map}

module _ {A : Type 0} where
  pub inside : (l : List A) (i : ℕ) (a : A) → get_elem? l i ≡ some a → i < length l
  inside [] i a e = absurd (some-ne-none a (sym e))
  inside (x ∷ xs) zero a e = omega arith
  inside (x ∷ xs) (suc i) a e = let h = inside xs i a e in omega arith

  pub one_at : (l : List A) (i : ℕ) (a b : A) → get_elem? l i ≡ some a → get_elem? l i ≡ some b → a ≡ b
  one_at l i a b p q = some-injective a b (sym p ∙ q)

  -- what stands in one list behind another stands in one of them
  pub at_append : (l m : List A) (i : ℕ) (a : A) → get_elem? (l ++ m) i ≡ some a → ((k : ℕ) × (get_elem? l k ≡ some a)) ⊎ ((k : ℕ) × (get_elem? m k ≡ some a))
  at_append [] m i a e = inr (i, e)
  at_append (x ∷ xs) m zero a e = inl (0, e)
  at_append (x ∷ xs) m (suc i) a e = ⊎_elim (λ (t : (k : ℕ) × (get_elem? xs k ≡ some a)). inl (suc t.0, t.1)) (λ (t : (k : ℕ) × (get_elem? m k ≡ some a)). inr t) (at_append xs m i a e)

  only : (l : List A) → length l ≡ 1 → (a : A) × (l ≡ a ∷ [])
  only [] e = absurd (omega arith)
  only (x ∷ []) e = (x, refl)
  only (x ∷ y ∷ ys) e = absurd (omega arith)

  -- where each element gives one, the k-th of all is what the k-th gives
  pub at_flat : {X : Type 0} (f : X → List A) → ((x : X) → length (f x) ≡ 1) → (xs : List X) (k : ℕ) (d : X) → k < length xs → (a : A) × (f (get_or xs k d) ≡ a ∷ []) × (get_elem? (flat_map f xs) k ≡ some a)
  at_flat f one [] k d h = absurd (omega arith)
  at_flat f one (x ∷ xs) zero d h = let o = only (f x) (one x) in (o.0, o.1, ap (λ (l : List A). get_elem? (l ++ flat_map f xs) 0) o.1)
  at_flat f one (x ∷ xs) (suc k) d h = let o = only (f x) (one x) in let next = at_flat f one xs k d (omega arith) in
      (next.0, next.1, ap (λ (l : List A). get_elem? (l ++ flat_map f xs) (suc k)) o.1 ∙ next.2)
