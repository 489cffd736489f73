-- The entries of a hash map, seen through a view of their values, as a finite map.
use Rattle.std.proofs.Common.{◌≡◌, ℕ, ◌+◌, Bool, true, false, cond, eqb, List, [], ◌∷◌, length, map, Option, Some, None, option_map, is_some, refl, sym, ap, ◌∙◌, arith}
use Rattle.std.specs.Ordering.{nat_cmp, eq_by_cmp}
use Rattle.std.specs.Cmp.{nat_cmp_total, unsigned_tied}
use Rattle.std.specs.List.{AllByRecursion, IsDistinct}
use Rattle.std.specs.Map.{lookup, keys_of}
use Rattle.std.specs.FinMap.{FinMap, get, insert, len, find, from_entries, get-insert, get-from_entries, len-insert, len-empty, same_map, nat_cmp-IsAntisymmetric}
use Rattle.std.proofs.lemmas.Cmp.{eq_by_cmp_equiv}

module _ {A X : Type 0} (v : A → X) where
  -- the entries with their values as v shows them
  abbrev pub shown : List (ℕ × A) → List (ℕ × X)
  shown es = map (λ e. (e.0, v e.1)) es

  abbrev pub shown_map : List (ℕ × A) → FinMap nat_cmp X
  shown_map es = from_entries (shown es)

  chosen : (b : Bool) (a : A) (o : Option A) (p : Option X) → p ≡ option_map v o → cond b (Some (v a)) p ≡ option_map v (cond b (Some a) o)
  chosen true a o p e = refl
  chosen false a o p e = e

  find-shown : (es : List (ℕ × A)) (q : ℕ) → find nat_cmp q (shown es) ≡ option_map v (lookup (eqb q) es)
  find-shown [] q = refl
  find-shown (e ∷ es) q =
      ap (λ b. cond b (Some (v e.1)) (find nat_cmp q (shown es))) (unsigned_tied q e.0)
      ∙ chosen (eqb q e.0) e.1 (lookup (eqb q) es) (find nat_cmp q (shown es)) (find-shown es q)

  -- what the map has at a place
  pub get-shown : (es : List (ℕ × A)) (q : ℕ) → get (shown_map es) q ≡ option_map v (lookup (eqb q) es)
  get-shown es q = get-from_entries nat_cmp_total (shown es) q ∙ find-shown es q

  -- entries that answer alike make one map
  pub same_shown : (es fs : List (ℕ × A)) → ((q : ℕ) → lookup (eqb q) fs ≡ lookup (eqb q) es) → shown_map fs ≡ shown_map es
  same_shown es fs h = same_map nat_cmp_total nat_cmp-IsAntisymmetric (shown_map fs) (shown_map es) (λ q. get-shown fs q ∙ ap (option_map v) (h q) ∙ sym (get-shown es q))

  turned : (k q : ℕ) → eqb k q ≡ eq_by_cmp nat_cmp q k
  turned k q = sym (unsigned_tied k q) ∙ (eq_by_cmp_equiv nat_cmp_total).symm k q

  put_chosen : (b : Bool) (a : A) (o : Option A) → option_map v (cond b (Some a) o) ≡ cond b (Some (v a)) (option_map v o)
  put_chosen true a o = refl
  put_chosen false a o = refl

  -- entries that differ at one place
  pub put_shown : (es fs : List (ℕ × A)) (k : ℕ) (a : A) → ((q : ℕ) → lookup (eqb q) fs ≡ cond (eqb k q) (Some a) (lookup (eqb q) es)) → shown_map fs ≡ insert (shown_map es) k (v a)
  put_shown es fs k a h = same_map nat_cmp_total nat_cmp-IsAntisymmetric (shown_map fs) (insert (shown_map es) k (v a)) (λ q.
      get-shown fs q ∙ ap (option_map v) (h q) ∙ put_chosen (eqb k q) a (lookup (eqb q) es)
      ∙ (λ i. cond (turned k q i) (Some (v a)) (sym (get-shown es q) i)) ∙ sym (get-insert nat_cmp_total (shown_map es) k (v a) q))

  absent : (k : ℕ) (es : List (ℕ × A)) → AllByRecursion (λ y. eqb k y ≡ false) (keys_of es) → lookup (eqb k) es ≡ None
  absent k [] h = refl
  absent k (e ∷ es) h = ap (λ b. cond b (Some e.1) (lookup (eqb k) es)) h.0 ∙ absent k es h.1

  -- each entry counts, where no two keys are equal
  pub len-shown : (es : List (ℕ × A)) → IsDistinct eqb (keys_of es) → len (shown_map es) ≡ length es
  unfolding IsDistinct
  len-shown [] h = len-empty nat_cmp X
  len-shown (e ∷ es) h =
      let none : get (shown_map es) e.0 ≡ None = get-shown es e.0 ∙ ap (option_map v) (absent e.0 es h.0) in
      len-insert nat_cmp_total (shown_map es) e.0 (v e.1)
      ∙ ap (λ (o : Option X). cond (is_some o) (len (shown_map es)) (len (shown_map es) + 1)) none
      ∙ ap (λ (n : ℕ). n + 1) (len-shown es h.1) ∙ omega arith
