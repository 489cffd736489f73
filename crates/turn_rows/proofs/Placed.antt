-- Blocks with their places, and one more of them.
use Rattle.std.proofs.Common.{◌≡◌, ℕ, ◌⊎◌, ◌==◌, Bool, true, false, cond, List, [], ◌∷◌, ◌++◌, Some, None, refl, subst, arith, inl, inr}
use Rattle.std.proofs.lemmas.Option.{none-some, same_Some}
use Rattle.elf_image.specs.Layout.{ImageData}
use Rattle.hall_core.specs.Hall.{FitTheirPlaces, Placed, block_in}

module _ {B : Type 0} where
  -- what is found with one block more was found without it, or is that block
  later : (ps : List (Placed B)) (q : Placed B) (x : ℕ) (v : B) → block_in (ps ++ q ∷ []) x ≡ Some v → (block_in ps x ≡ Some v) ⊎ ((q.0 ≡ x) × (q.1.value ≡ v))
  later [] q x v e = by (q.0 == x) refl e
    where
      by : (t : Bool) → (q.0 == x) ≡ t → cond t (Some q.1.value) None ≡ Some v → (None ≡ Some v) ⊎ ((q.0 ≡ x) × (q.1.value ≡ v))
      by true s h = inr (grind (arith, s), same_Some _ v h)
      by false s h = absurd (none-some _ h)
  later (p ∷ ps) q x v e = by (p.0 == x) (λ h. later ps q x v h) e
    where
      by : (t : Bool) → (block_in (ps ++ q ∷ []) x ≡ Some v → (block_in ps x ≡ Some v) ⊎ ((q.0 ≡ x) × (q.1.value ≡ v))) → cond t (Some p.1.value) (block_in (ps ++ q ∷ []) x) ≡ Some v → (cond t (Some p.1.value) (block_in ps x) ≡ Some v) ⊎ ((q.0 ≡ x) × (q.1.value ≡ v))
      by true on h = inl h
      by false on h = on h

  pub fits_one_more : (fits : ImageData → ℕ → B → Type 0) (image : ImageData) (ps : List (Placed B)) (q : Placed B) → fits image q.0 q.1.value → FitTheirPlaces fits image ps → FitTheirPlaces fits image (ps ++ q ∷ [])
  fits_one_more fits image ps q right all x v e =
      elim (later ps q x v e) [
        | inl h ↦ all x v h
        | inr h ↦ subst (λ z. fits image z v) h.0 (subst (fits image q.0) h.1 right)
      ]
