-- Cutting a string, and what a reading that gave something says of its steps.
use Rattle.std.proofs.Common.{◌≡◌, ℕ, ◌≤◌, Bool, true, false, cond, ltb, List, [], ◌∷◌, ◌++◌, length, take, drop, Option, Some, None, refl, sym, ap, arith, length-append, subst, zero, suc}
use Rattle.std.proofs.lemmas.Bool.{ltb-false, le-ltb, and_parts, and_from}
use Rattle.std.proofs.lemmas.List.{take_at, drop_at, take-append-drop, length-take}
use Rattle.std.proofs.lemmas.Option.{same_Some}
use Rattle.std.specs.List.{list_all}
use Rattle.std.specs.Prelude.{slice_get}
use Rattle.x86_forms.specs.Operands.{byte}
use Rattle.x86_forms.specs.Spelling.{is_asked}
use Rattle.x86_forms.specs.Reading.{◌>>=◌, cut, cut_fixed, with_rest}

-- ---- steps

pub bind_some : {A B : Type 0} (o : Option A) (f : A → Option B) (y : B) → (o >>= f) ≡ Some y → (x : A) × (o ≡ Some x) × (f x ≡ Some y)
bind_some None f y e = absurd cc
bind_some (Some x) f y e = (x, refl, e)

pub guard_some : {A : Type 0} (b : Bool) (x y : A) → cond b None (Some x) ≡ Some y → (b ≡ false) × (x ≡ y)
guard_some true x y e = absurd cc
guard_some false x y e = (refl, same_Some x y e)

pub test_some : {A : Type 0} (b : Bool) (o : Option A) (y : A) → cond b o None ≡ Some y → (b ≡ true) × (o ≡ Some y)
test_some true o y e = (refl, e)
test_some false o y e = absurd cc

pub rest_some : {A B : Type 0} (r : B) (o : Option A) (y : A × B) → with_rest r o ≡ Some y → (o ≡ Some y.0) × (r ≡ y.1)
rest_some r None y e = absurd cc
rest_some r (Some x) y e = let p = same_Some (x, r) y e in (ap (λ (q : _). Some q.0) p, ap (λ (q : _). q.1) p)

-- ---- cuts

pub cut_again : (a rest : List ℕ) (n : ℕ) → length a ≡ n → cut n (a ++ rest) ≡ Some (a, rest)
unfolding cut
cut_again a rest n e =
    let long : ltb (length (a ++ rest)) n ≡ false = le-ltb _ _ (omega (arith, length-append a rest)) in
    rw (long, take_at a rest n e, drop_at a rest n e) refl

pub cut_takes : (n : ℕ) (bytes : List ℕ) (x : List ℕ × List ℕ) → cut n bytes ≡ Some x → (bytes ≡ x.0 ++ x.1) × (length x.0 ≡ n)
unfolding cut
cut_takes n bytes x e =
    let g = guard_some (ltb (length bytes) n) (take n bytes, drop n bytes) x e in
    let long : n ≤ length bytes = ltb-false _ _ g.0 in
    let len : length (take n bytes) ≡ n = omega (arith, length-take n bytes) in
    let P : List ℕ × List ℕ → Type 0 = λ p. (bytes ≡ p.0 ++ p.1) × (length p.0 ≡ n) in
    subst P g.1 (sym (take-append-drop n bytes), len)

pub fixed_some : (f : Option ℕ) (o : Option (List ℕ × List ℕ)) (y : List ℕ × List ℕ) → cut_fixed f o ≡ Some y → (o ≡ Some y) × (is_asked f (byte y.0) ≡ true)
fixed_some f None y e = absurd cc
fixed_some f (Some x) y e =
    let t = test_some (is_asked f (byte x.0)) (Some x) y e in
    let P : List ℕ × List ℕ → Type 0 = λ p. is_asked f (byte p.0) ≡ true in
    (t.1, subst P (same_Some x y t.1) t.0)

pub fixed_again : (f : Option ℕ) (x : List ℕ × List ℕ) → is_asked f (byte x.0) ≡ true → cut_fixed f (Some x) ≡ Some x
fixed_again f x e = rw e refl

-- ---- lists

pub byte_front : (a rest : List ℕ) → length a ≡ 1 → byte (a ++ rest) ≡ byte a
byte_front [] rest e = absurd (omega (arith, e))
byte_front (x ∷ xs) rest e = refl

pub pass_at : {X : Type 0} (p : X → Bool) (xs : List X) (k : ℕ) (x : X) → list_all p xs ≡ true → slice_get xs k ≡ Some x → p x ≡ true
pass_at p [] k x all e = absurd cc
pass_at p (y ∷ ys) zero x all e = let a = and_parts (p y) (list_all p ys) all in subst (λ v. p v ≡ true) (same_Some y x e) a.0
pass_at p (y ∷ ys) (suc k) x all e = let a = and_parts (p y) (list_all p ys) all in pass_at p ys k x a.1 e

pub weaker : {X : Type 0} (p q : X → Bool) → ((x : X) → p x ≡ true → q x ≡ true) → (xs : List X) → list_all p xs ≡ true → list_all q xs ≡ true
weaker p q h [] all = refl
weaker p q h (x ∷ xs) all = let a = and_parts (p x) (list_all p xs) all in and_from (q x) (list_all q xs) (h x a.0) (weaker p q h xs a.1)
