-- What all values of a table keep below a number, through the changes of the table.
use Rattle.std.proofs.Common.{◌≡◌, ℕ, ◌≤◌, Bool, true, false, cond, List, [], ◌∷◌, length, Option, Some, None, IfSome, sym, subst, arith}
use Rattle.std.specs.Ordering.{nat_cmp, eq_by_cmp}
use Rattle.std.specs.Cmp.{nat_cmp_total}
use Rattle.sync_more.specs.declared.state.Sleepers.{Sleepers}
use Rattle.sync_more.specs.Conditions.{with_line}
use Rattle.std.specs.FinMap.{FinMap, empty, get, insert, remove, get-empty, get-insert, get-remove}

module _ {V : Type 0} (f : V → ℕ) where
  abbrev pub UpTo : ℕ → FinMap nat_cmp V → Type 0
  UpTo n m = (k : ℕ) → IfSome (get m k) (λ v. f v ≤ n)

  more : (n n' : ℕ) → n ≤ n' → (o : Option V) → IfSome o (λ v. f v ≤ n) → IfSome o (λ v. f v ≤ n')
  more n n' h None p = p
  more n n' h (Some v) p = omega (arith, h, p)

  none-or : (n : ℕ) (b : Bool) (o : Option V) → IfSome o (λ v. f v ≤ n) → IfSome (cond b None o) (λ v. f v ≤ n)
  none-or n true o p = tt
  none-or n false o p = p

  some-or : (n : ℕ) (b : Bool) (w : V) (o : Option V) → f w ≤ n → IfSome o (λ v. f v ≤ n) → IfSome (cond b (Some w) o) (λ v. f v ≤ n)
  some-or n true w o h p = h
  some-or n false w o h p = p

  pub UpTo-empty : (n : ℕ) (m : FinMap nat_cmp V) → m ≡ empty → UpTo n m
  UpTo-empty n m e q = subst (λ (w : FinMap nat_cmp V). IfSome (get w q) (λ v. f v ≤ n)) (sym e) (subst (λ (o : Option V). IfSome o (λ v. f v ≤ n)) (sym (get-empty nat_cmp q)) tt)

  pub UpTo-same : (n : ℕ) (m m' : FinMap nat_cmp V) → m' ≡ m → UpTo n m → UpTo n m'
  UpTo-same n m m' e h q = subst (λ (w : FinMap nat_cmp V). IfSome (get w q) (λ v. f v ≤ n)) (sym e) (h q)

  pub UpTo-more : (n n' : ℕ) (m : FinMap nat_cmp V) → n ≤ n' → UpTo n m → UpTo n' m
  UpTo-more n n' m le h q = more n n' le (get m q) (h q)

  pub UpTo-remove : (n : ℕ) (m m' : FinMap nat_cmp V) (k : ℕ) → m' ≡ remove m k → UpTo n m → UpTo n m'
  UpTo-remove n m m' k e h q =
      subst (λ (w : FinMap nat_cmp V). IfSome (get w q) (λ v. f v ≤ n)) (sym e)
      (subst (λ (o : Option V). IfSome o (λ v. f v ≤ n)) (sym (get-remove nat_cmp_total m k q)) (none-or n (eq_by_cmp nat_cmp q k) (get m q) (h q)))

  pub UpTo-insert : (n : ℕ) (m m' : FinMap nat_cmp V) (k : ℕ) (w : V) → m' ≡ insert m k w → f w ≤ n → UpTo n m → UpTo n m'
  UpTo-insert n m m' k w e le h q =
      subst (λ (x : FinMap nat_cmp V). IfSome (get x q) (λ v. f v ≤ n)) (sym e)
      (subst (λ (o : Option V). IfSome o (λ v. f v ≤ n)) (sym (get-insert nat_cmp_total m k w q)) (some-or n (eq_by_cmp nat_cmp q k) w (get m q) le (h q)))

  pub UpTo-at : (n : ℕ) (m : FinMap nat_cmp V) (k : ℕ) (w : V) → Some w ≡ get m k → UpTo n m → f w ≤ n
  UpTo-at n m k w e h = subst (λ (o : Option V). IfSome o (λ v. f v ≤ n)) (sym e) (h k)

-- those who stay at a condition variable are no more than n
pub UpTo-with_line : (n : ℕ) (m m' : FinMap nat_cmp Sleepers) (c mutex : ℕ) (ts : List ℕ) → m' ≡ with_line m c mutex ts → length ts ≤ n → UpTo (λ (s : Sleepers). length s.threads) n m → UpTo (λ (s : Sleepers). length s.threads) n m'
UpTo-with_line n m m' c mutex [] e le h = UpTo-same (λ (s : Sleepers). length s.threads) n m m' e h
UpTo-with_line n m m' c mutex (t ∷ ts) e le h = UpTo-insert (λ (s : Sleepers). length s.threads) n m m' c (record { mutex = mutex; threads = t ∷ ts }) e le h
