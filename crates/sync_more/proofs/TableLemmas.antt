-- A tree with the newest value beside it, seen as one finite map.
use Rattle.std.proofs.Common.{◌≡◌, ◌≢◌, ℕ, Bool, true, false, cond, eqb, List, ◌++◌, Option, Some, None, Result, Ok, Err, OnErr, IsOk, refl, sym, ap, ◌∙◌}
use Rattle.std.specs.Ordering.{nat_cmp, eq_by_cmp}
use Rattle.std.specs.Cmp.{nat_cmp_total, unsigned_tied}
use Rattle.std.specs.Option.{option_to_list}
use Rattle.std.specs.FinMap.{FinMap, get, insert, from_entries, get-insert}
use Rattle.std.proofs.lemmas.Cmp.{eq_by_cmp_equiv}
use Rattle.std.proofs.lemmas.Map.Views.{exact_unsigned_eq}
use Rattle.sync_more.specs.Places.{is_newest}
use Rattle.sync_more.proofs.MapLemmas.{tied, insert-inserted, insert-apart}

decided : (b : Bool) → (b ≡ true → ⊥) → b ≡ false
decided true h = absurd (h refl)
decided false h = refl

same : (k : ℕ) → eq_by_cmp nat_cmp k k ≡ true
same k = (eq_by_cmp_equiv nat_cmp_total).refl k

other : (k j : ℕ) → k ≢ j → eq_by_cmp nat_cmp k j ≡ false
other k j ne = decided (eq_by_cmp nat_cmp k j) (λ e. ne (tied k j e))

differs : (j k : ℕ) → j ≡ k → eqb j k ≡ false → ⊥
differs j k is e = let t : eqb k k ≡ true = sym (unsigned_tied k k) ∙ same k in let f : eqb k k ≡ false = ap (λ (i : ℕ). eqb i k) (sym is) ∙ e in absurd cc

pub is_ok : {A E : Type 0} (r : Result A E) (P : Type 0) → OnErr r P → (P → ⊥) → IsOk r
is_ok (Ok v) P e h = refl
is_ok (Err x) P e h = absurd (h e)

module _ {V : Type 0} where
  abbrev pub over : Option (ℕ × V) → List (ℕ × V) → FinMap nat_cmp V
  over last es = from_entries (option_to_list last ++ es)

  pub over-some : (last : Option (ℕ × V)) (es : List (ℕ × V)) (j : ℕ) (w : V) → last ≡ Some (j, w) → over last es ≡ insert (from_entries es) j w
  over-some last es j w e = ap (λ (o : Option (ℕ × V)). over o es) e

  pub over-none : (last : Option (ℕ × V)) (es : List (ℕ × V)) → last ≡ None → over last es ≡ from_entries es
  over-none last es e = ap (λ (o : Option (ℕ × V)). over o es) e

  pub get-same : (m : FinMap nat_cmp V) (j k : ℕ) (w : V) → j ≡ k → get (insert m j w) k ≡ Some w
  get-same m j k w e =
      get-insert nat_cmp_total m j w k
      ∙ ap (λ b. cond b (Some w) (get m k)) (ap (eq_by_cmp nat_cmp k) e ∙ same k)

  pub get-other : (m : FinMap nat_cmp V) (j k : ℕ) (w : V) → (j ≡ k → ⊥) → get (insert m j w) k ≡ get m k
  get-other m j k w ne = get-insert nat_cmp_total m j w k ∙ ap (λ b. cond b (Some w) (get m k)) (other k j (λ e. ne (sym e)))

  -- where the newest value is at k, another one goes in its place
  pub newest-insert : (last : Option (ℕ × V)) (es : List (ℕ × V)) (k : ℕ) (v : V) → is_newest last k ≡ true → insert (from_entries es) k v ≡ insert (over last es) k v
  newest-insert None es k v e = absurd cc
  newest-insert (Some (j, w)) es k v e =
      sym (insert-inserted (from_entries es) k w v) ∙ ap (λ (i : ℕ). insert (insert (from_entries es) i w) k v) (sym (exact_unsigned_eq j k e))

  -- where it isn't, the tree has what is at k
  pub older-get : (last : Option (ℕ × V)) (es : List (ℕ × V)) (k : ℕ) → is_newest last k ≡ false → get (over last es) k ≡ get (from_entries {R = nat_cmp} es) k
  older-get None es k e = refl
  older-get (Some (j, w)) es k e = get-other (from_entries es) j k w (λ is. differs j k is e)

  pub older-insert : (last : Option (ℕ × V)) (es fs : List (ℕ × V)) (k : ℕ) (v : V) → is_newest last k ≡ false → from_entries fs ≡ insert (from_entries {R = nat_cmp} es) k v → over last fs ≡ insert (over last es) k v
  older-insert None es fs k v e h = h
  older-insert (Some (j, w)) es fs k v e h =
      ap (λ (m : FinMap nat_cmp V). insert m j w) h ∙ insert-apart (from_entries es) k j w v (λ is. differs j k (sym is) e)
