-- The entries of a hash map, seen as a finite map, are read and changed as the hash map is.
use Rattle.std.proofs.Common.{◌≡◌, ℕ, cond, eqb, List, [], ◌∷◌, Some, None, refl, sym, ap, ◌∙◌}
use Rattle.std.specs.Ordering.{nat_cmp, eq_by_cmp}
use Rattle.std.specs.Cmp.{nat_cmp_total, unsigned_tied}
use Rattle.std.specs.Map.{lookup}
use Rattle.std.specs.FinMap.{FinMap, get, insert, remove, find, from_entries, get-insert, get-remove, get-from_entries, same_map, nat_cmp-IsAntisymmetric}
use Rattle.std.proofs.lemmas.Cmp.{eq_by_cmp_equiv}

turned : (k q : ℕ) → eqb k q ≡ eq_by_cmp nat_cmp q k
turned k q = sym (unsigned_tied k q) ∙ (eq_by_cmp_equiv nat_cmp_total).symm k q

module _ {V : Type 0} where
  abbrev pub shown : List (ℕ × V) → FinMap nat_cmp V
  shown es = from_entries es

  found : (es : List (ℕ × V)) (q : ℕ) → find nat_cmp q es ≡ lookup (eqb q) es
  found [] q = refl
  found (e ∷ es) q = ap (λ b. cond b (Some e.1) (find nat_cmp q es)) (unsigned_tied q e.0) ∙ ap (cond (eqb q e.0) (Some e.1)) (found es q)

  -- what is kept of a number
  pub get-shown : (es : List (ℕ × V)) (q : ℕ) → get (shown es) q ≡ lookup (eqb q) es
  get-shown es q = get-from_entries nat_cmp_total es q ∙ found es q

  -- entries that answer alike are one map
  pub same-shown : (es fs : List (ℕ × V)) → ((q : ℕ) → lookup (eqb q) fs ≡ lookup (eqb q) es) → shown fs ≡ shown es
  same-shown es fs h = same_map nat_cmp_total nat_cmp-IsAntisymmetric (shown fs) (shown es) (λ q. get-shown fs q ∙ h q ∙ sym (get-shown es q))

  -- after a value was put
  pub insert-shown : (es fs : List (ℕ × V)) (k : ℕ) (v : V) → ((q : ℕ) → lookup (eqb q) fs ≡ cond (eqb k q) (Some v) (lookup (eqb q) es)) → shown fs ≡ insert (shown es) k v
  insert-shown es fs k v h = same_map nat_cmp_total nat_cmp-IsAntisymmetric (shown fs) (insert (shown es) k v) (λ q.
      get-shown fs q ∙ h q ∙ (λ i. cond (turned k q i) (Some v) (sym (get-shown es q) i)) ∙ sym (get-insert nat_cmp_total (shown es) k v q))

  -- after a value was taken
  pub remove-shown : (es fs : List (ℕ × V)) (k : ℕ) → ((q : ℕ) → lookup (eqb q) fs ≡ cond (eqb k q) None (lookup (eqb q) es)) → shown fs ≡ remove (shown es) k
  remove-shown es fs k h = same_map nat_cmp_total nat_cmp-IsAntisymmetric (shown fs) (remove (shown es) k) (λ q.
      get-shown fs q ∙ h q ∙ (λ i. cond (turned k q i) None (sym (get-shown es q) i)) ∙ sym (get-remove nat_cmp_total (shown es) k q))
