-- A map of names is read and changed as the `BTreeMap` that holds it.
use Rattle.std.proofs.Common.{◌≡◌, ℕ, Bool, true, false, cond, List, [], ◌∷◌, map, Option, Some, Vec, String, string_bytes, sym, ap, refl, ◌∙◌}
use Rattle.std.specs.Option.{option_map}
use Rattle.std.specs.Ordering.{nat_cmp, is_eq}
use Rattle.std.specs.Cmp.Lexicographic.{slice_cmp, nat_list_cmp_total, nat_list_eq_equiv}
use Rattle.std.specs.String.{string_cmp}
use Rattle.std.specs.Str.{bytes_eq}
use Rattle.std.specs.Map.{lookup}
use Rattle.std.specs.BTreeMap.{BTreeMap, get_by_text, is_at, Updates}
use Rattle.std.specs.FinMap.{get, insert, find, get-from_entries, get-insert, same_map, slice_cmp-IsAntisymmetric, nat_cmp-IsAntisymmetric}
use Rattle.std.proofs.lemmas.Map.Text.{btree_map_updates_text, is_eq-slice_cmp}
use Rattle.mx_outside.specs.Names.{names_of}

-- the bytes of a file that may be there
abbrev held_by : {Z : Type 0} → Option (Vec ℕ Z) → Option (List ℕ)
held_by o = option_map (λ v. v.items) o

-- the same choice on both sides
chosen : {Z : Type 0} (b : Bool) (v : Vec ℕ Z) (o : Option (Vec ℕ Z)) → cond b (Some v.items) (held_by o) ≡ held_by (cond b (Some v) o)
chosen true v o = refl
chosen false v o = refl

same-test : (bs q : List ℕ) → bytes_eq bs q ≡ is_eq (slice_cmp nat_cmp q bs)
same-test bs q = nat_list_eq_equiv.symm bs q ∙ sym (is_eq-slice_cmp q bs)

module _ {Y Z : Type 0} where
  find-entries : (es : List (String Y × Vec ℕ Z)) (q : List ℕ)
      → find (slice_cmp nat_cmp) q (map (λ e. (string_bytes e.0, e.1.items)) es) ≡ held_by (lookup (is_at (λ k. slice_cmp nat_cmp q (string_bytes k))) es)
  find-entries [] q = refl
  find-entries (e ∷ es) q = ap (cond (is_eq (slice_cmp nat_cmp q (string_bytes e.0))) (Some e.1.items)) (find-entries es q) ∙ chosen (is_eq (slice_cmp nat_cmp q (string_bytes e.0))) e.1 _

  -- the bytes under a name
  pub get-names_of : (m : BTreeMap (String Y) (Vec ℕ Z)) (q : List ℕ) → get (names_of m) q ≡ held_by (get_by_text m q)
  get-names_of m q = get-from_entries nat_list_cmp_total _ q ∙ find-entries m.entries q

  -- after an insertion under a name
  pub names_of-insert : (m n : BTreeMap (String Y) (Vec ℕ Z)) (k : String Y) (v : Vec ℕ Z) → Updates string_cmp m n k (Some v) → names_of n ≡ insert (names_of m) (string_bytes k) v.items
  names_of-insert m n k v u = same_map nat_list_cmp_total (slice_cmp-IsAntisymmetric nat_cmp-IsAntisymmetric) _ _ (λ q.
      get-names_of n q
      ∙ ap held_by (btree_map_updates_text (string_bytes k) m n (Some v) u q)
      ∙ sym (chosen (bytes_eq (string_bytes k) q) v (get_by_text m q))
      ∙ ap (λ b. cond b (Some v.items) (held_by (get_by_text m q))) (same-test (string_bytes k) q)
      ∙ ap (cond (is_eq (slice_cmp nat_cmp q (string_bytes k))) (Some v.items)) (sym (get-names_of m q))
      ∙ sym (get-insert nat_list_cmp_total (names_of m) (string_bytes k) v.items q))
