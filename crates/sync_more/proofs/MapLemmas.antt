-- Two changes of a finite map in a row.
use Rattle.std.proofs.Common.{◌≡◌, ◌≢◌, ℕ, Bool, true, false, cond, Option, Some, None, refl, sym, ap, ◌∙◌}
use Rattle.std.specs.Ordering.{nat_cmp, eq_by_cmp}
use Rattle.std.specs.Cmp.{nat_cmp_total, unsigned_tied}
use Rattle.std.specs.FinMap.{FinMap, get, insert, remove, get-insert, get-remove, same_map, nat_cmp-IsAntisymmetric}
use Rattle.std.proofs.lemmas.Map.Views.{exact_unsigned_eq}

shadow : {A : Type 0} (b : Bool) (x y z : A) → cond b x (cond b y z) ≡ cond b x z
shadow true x y z = refl
shadow false x y z = refl

swap : {A : Type 0} (a b : Bool) (x y z : A) → (a ≡ true → b ≡ true → ⊥) → cond b y (cond a x z) ≡ cond a x (cond b y z)
swap true true x y z h = absurd (h refl refl)
swap true false x y z h = refl
swap false b x y z h = refl

pub tied : (q k : ℕ) → eq_by_cmp nat_cmp q k ≡ true → q ≡ k
tied q k e = exact_unsigned_eq q k (sym (unsigned_tied q k) ∙ e)

apart : (k j q : ℕ) → k ≢ j → eq_by_cmp nat_cmp q k ≡ true → eq_by_cmp nat_cmp q j ≡ true → ⊥
apart k j q ne a b = ne (sym (tied q k a) ∙ tied q j b)

module _ {V : Type 0} where
  equal : (m n : FinMap nat_cmp V) → ((q : ℕ) → get m q ≡ get n q) → m ≡ n
  equal m n h = same_map nat_cmp_total nat_cmp-IsAntisymmetric m n h

  put_over : (m n : FinMap nat_cmp V) (k q : ℕ) (v : V) (o : Option V) → get m q ≡ o → get (insert m k v) q ≡ cond (eq_by_cmp nat_cmp q k) (Some v) o
  put_over m n k q v o e = get-insert nat_cmp_total m k v q ∙ ap (cond (eq_by_cmp nat_cmp q k) (Some v)) e

  gone_over : (m : FinMap nat_cmp V) (k q : ℕ) (o : Option V) → get m q ≡ o → get (remove m k) q ≡ cond (eq_by_cmp nat_cmp q k) None o
  gone_over m k q o e = get-remove nat_cmp_total m k q ∙ ap (cond (eq_by_cmp nat_cmp q k) None) e

  -- to take out and to put in is to put in
  pub insert-removed : (m : FinMap nat_cmp V) (k : ℕ) (v : V) → insert (remove m k) k v ≡ insert m k v
  insert-removed m k v = equal _ _ (λ q.
      put_over (remove m k) m k q v _ (gone_over m k q (get m q) refl) ∙ shadow (eq_by_cmp nat_cmp q k) (Some v) None (get m q) ∙ sym (put_over m m k q v (get m q) refl))

  -- to put in and to take out is to take out
  pub remove-inserted : (m : FinMap nat_cmp V) (k : ℕ) (v : V) → remove (insert m k v) k ≡ remove m k
  remove-inserted m k v = equal _ _ (λ q.
      gone_over (insert m k v) k q _ (put_over m m k q v (get m q) refl) ∙ shadow (eq_by_cmp nat_cmp q k) None (Some v) (get m q) ∙ sym (gone_over m k q (get m q) refl))

  -- to put in twice is to put in the second
  pub insert-inserted : (m : FinMap nat_cmp V) (k : ℕ) (v w : V) → insert (insert m k v) k w ≡ insert m k w
  insert-inserted m k v w = equal _ _ (λ q.
      put_over (insert m k v) m k q w _ (put_over m m k q v (get m q) refl) ∙ shadow (eq_by_cmp nat_cmp q k) (Some w) (Some v) (get m q) ∙ sym (put_over m m k q w (get m q) refl))

  -- changes at two places come in any order
  pub remove-apart : (m : FinMap nat_cmp V) (k j : ℕ) (v : V) → k ≢ j → insert (remove m k) j v ≡ remove (insert m j v) k
  remove-apart m k j v ne = equal _ _ (λ q.
      put_over (remove m k) m j q v _ (gone_over m k q (get m q) refl)
      ∙ swap (eq_by_cmp nat_cmp q k) (eq_by_cmp nat_cmp q j) None (Some v) (get m q) (apart k j q ne)
      ∙ sym (gone_over (insert m j v) k q _ (put_over m m j q v (get m q) refl)))

  pub insert-apart : (m : FinMap nat_cmp V) (k j : ℕ) (v w : V) → k ≢ j → insert (insert m k w) j v ≡ insert (insert m j v) k w
  insert-apart m k j v w ne = equal _ _ (λ q.
      put_over (insert m k w) m j q v _ (put_over m m k q w (get m q) refl)
      ∙ swap (eq_by_cmp nat_cmp q k) (eq_by_cmp nat_cmp q j) (Some w) (Some v) (get m q) (apart k j q ne)
      ∙ sym (put_over (insert m j v) m k q w _ (put_over m m j q v (get m q) refl)))

  -- to take out what isn't there changes nothing
  pub remove-absent : (m : FinMap nat_cmp V) (k : ℕ) → get m k ≡ None → remove m k ≡ m
  remove-absent m k e = equal _ _ (λ q. gone_over m k q (get m q) refl ∙ elim (eq_by_cmp nat_cmp q k) as (λ b. eq_by_cmp nat_cmp q k ≡ b → cond b None (get m q) ≡ get m q) [
    | true ↦ λ t. sym (ap (get m) (tied q k t) ∙ e)
    | false ↦ λ t. refl
  ] refl)
