-- The entries of a tree, seen as a finite map, are read and changed as the tree is.
use Rattle.std.proofs.Common.{◌≡◌, ℕ, cond, List, [], ◌∷◌, Some, None, refl, sym, ap, ◌∙◌}
use Rattle.std.specs.Ordering.{nat_cmp, is_eq, eq_by_cmp}
use Rattle.std.specs.Cmp.{nat_cmp_total}
use Rattle.std.specs.Map.{lookup}
use Rattle.std.specs.BTreeMap.{BTreeMap, is_at, Updates}
use Rattle.std.specs.FinMap.{get, insert, remove, find, from_entries, get-from_entries, get-insert, get-remove, same_map, nat_cmp-IsAntisymmetric}
use Rattle.std.proofs.lemmas.Cmp.{eq_by_cmp_equiv}

turned : (k q : ℕ) → eq_by_cmp nat_cmp k q ≡ eq_by_cmp nat_cmp q k
turned k q = (eq_by_cmp_equiv nat_cmp_total).symm k q

module _ {V : Type 0} where
  found : (es : List (ℕ × V)) (q : ℕ) → find nat_cmp q es ≡ lookup (is_at (nat_cmp q)) es
  found [] q = refl
  found (e ∷ es) q = ap (cond (is_eq (nat_cmp q e.0)) (Some e.1)) (found es q)

  -- what the tree has at a place
  pub get-tree : (es : List (ℕ × V)) (q : ℕ) → get (from_entries {R = nat_cmp} es) q ≡ lookup (is_at (nat_cmp q)) es
  get-tree es q = get-from_entries nat_cmp_total es q ∙ found es q

  pub insert-tree : (m n : BTreeMap ℕ V) (k : ℕ) (v : V) → Updates nat_cmp m n k (Some v) → from_entries {R = nat_cmp} n.entries ≡ insert (from_entries m.entries) k v
  insert-tree m n k v u = same_map nat_cmp_total nat_cmp-IsAntisymmetric _ _ (λ q.
      get-tree n.entries q
      ∙ u.0 q
      ∙ ap (λ b. cond b (Some v) (lookup (is_at (nat_cmp q)) m.entries)) (turned k q)
      ∙ ap (cond (eq_by_cmp nat_cmp q k) (Some v)) (sym (get-tree m.entries q))
      ∙ sym (get-insert nat_cmp_total (from_entries m.entries) k v q))

  pub remove-tree : (m n : BTreeMap ℕ V) (k : ℕ) → Updates nat_cmp m n k None → from_entries {R = nat_cmp} n.entries ≡ remove (from_entries m.entries) k
  remove-tree m n k u = same_map nat_cmp_total nat_cmp-IsAntisymmetric _ _ (λ q.
      get-tree n.entries q
      ∙ u.0 q
      ∙ ap (λ b. cond b None (lookup (is_at (nat_cmp q)) m.entries)) (turned k q)
      ∙ ap (cond (eq_by_cmp nat_cmp q k) None) (sym (get-tree m.entries q))
      ∙ sym (get-remove nat_cmp_total (from_entries m.entries) k q))
