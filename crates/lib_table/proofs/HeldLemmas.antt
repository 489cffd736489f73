-- The table of held mutexes, seen as a finite map, is read and changed as the `BTreeMap` that holds it.
use Rattle.std.proofs.Common.{◌≡◌, ℕ, cond, List, [], ◌∷◌, length, Some, None, refl, sym, ap, ◌∙◌, arith}
use Rattle.std.specs.declared.cmp.Ordering.TheVariants.{Less}
use Rattle.std.specs.Ordering.{nat_cmp, is_eq, eq_by_cmp}
use Rattle.std.specs.Cmp.{nat_cmp_total}
use Rattle.std.specs.Map.{lookup, keys_of}
use Rattle.std.specs.BTreeMap.{BTreeMap, is_at, IsOrdered, Updates}
use Rattle.std.specs.List.{AllByRecursion}
use Rattle.std.specs.List.Sorted.{IsStrictlySortedBy}
use Rattle.std.specs.FinMap.{empty, get, insert, remove, len, find, put, entries, from_entries, get-from_entries, get-insert, get-remove, entries-insert, len-entries, len-empty, same_map, nat_cmp-IsAntisymmetric}
use Rattle.std.proofs.lemmas.Cmp.{eq_by_cmp_equiv}

found : (es : List (ℕ × ℕ)) (q : ℕ) → find nat_cmp q es ≡ lookup (is_at (nat_cmp q)) es
found [] q = refl
found (e ∷ es) q = ap (cond (is_eq (nat_cmp q e.0)) (Some e.1)) (found es q)

-- who holds a mutex
pub get-held : (es : List (ℕ × ℕ)) (q : ℕ) → get (from_entries {R = nat_cmp} es) q ≡ lookup (is_at (nat_cmp q)) es
get-held es q = get-from_entries nat_cmp_total es q ∙ found es q

turned : (k q : ℕ) → eq_by_cmp nat_cmp k q ≡ eq_by_cmp nat_cmp q k
turned k q = (eq_by_cmp_equiv nat_cmp_total).symm k q

-- after a mutex was taken
pub insert-held : (m n : BTreeMap ℕ ℕ) (k v : ℕ) → Updates nat_cmp m n k (Some v) → from_entries {R = nat_cmp} n.entries ≡ insert (from_entries m.entries) k v
insert-held m n k v u = same_map nat_cmp_total nat_cmp-IsAntisymmetric _ _ (λ q.
    get-held n.entries q
    ∙ (u.0 q
    ∙ (ap (λ b. cond b (Some v) (lookup (is_at (nat_cmp q)) m.entries)) (turned k q)
    ∙ (ap (cond (eq_by_cmp nat_cmp q k) (Some v)) (sym (get-held m.entries q))
    ∙ sym (get-insert nat_cmp_total (from_entries m.entries) k v q)))))

-- after a mutex was released
pub remove-held : (m n : BTreeMap ℕ ℕ) (k : ℕ) → Updates nat_cmp m n k None → from_entries {R = nat_cmp} n.entries ≡ remove (from_entries m.entries) k
remove-held m n k u = same_map nat_cmp_total nat_cmp-IsAntisymmetric _ _ (λ q.
    get-held n.entries q
    ∙ (u.0 q
    ∙ (ap (λ b. cond b None (lookup (is_at (nat_cmp q)) m.entries)) (turned k q)
    ∙ (ap (cond (eq_by_cmp nat_cmp q k) None) (sym (get-held m.entries q))
    ∙ sym (get-remove nat_cmp_total (from_entries m.entries) k q)))))

no_entries : (es : List (ℕ × ℕ)) → length es ≡ 0 → es ≡ []
no_entries [] e = refl
no_entries (x ∷ es) e = absurd (omega (arith, e))

put_first : (e : ℕ × ℕ) (es : List (ℕ × ℕ)) → AllByRecursion (λ y. nat_cmp e.0 y ≡ Less) (keys_of es) → put nat_cmp e.0 e.1 es ≡ e ∷ es
put_first e [] h = refl
put_first e (f ∷ fs) h = rw h.0 refl

entries_of : (es : List (ℕ × ℕ)) → IsStrictlySortedBy nat_cmp (keys_of es) → entries (from_entries {R = nat_cmp} es) ≡ es
unfolding IsStrictlySortedBy
entries_of [] h = no_entries (entries (empty {R = nat_cmp})) (sym (len-entries (empty {X = ℕ} {R = nat_cmp})) ∙ len-empty nat_cmp ℕ)
entries_of (e ∷ es) h = entries-insert nat_cmp_total (from_entries es) e.0 e.1 ∙ (ap (put nat_cmp e.0 e.1) (entries_of es h.1) ∙ put_first e es h.0)

-- how many are held
pub len-held : (m : BTreeMap ℕ ℕ) → IsOrdered nat_cmp m → len (from_entries {R = nat_cmp} m.entries) ≡ length m.entries
len-held m h = len-entries (from_entries {R = nat_cmp} m.entries) ∙ ap length (entries_of m.entries h)
