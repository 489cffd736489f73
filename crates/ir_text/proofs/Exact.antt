-- What it means that a reader is exact for a text.
use Rattle.std.proofs.Common.{◌≡◌, ℕ, ◌+◌, ◌<◌, ◌≤◌, ◌⊎◌, inl, inr, List, [], ◌∷◌, ◌++◌, length, Result, Ok, Err, refl, sym, ap, arith, length-append}
use Rattle.ir_text.specs.Reading.{Reading, ◌>>=◌}
use Rattle.ir_text.specs.Row.{Field}

-- the bytes go wrong where `left` of them are left: what stands before goes on to some text
pub record Begins {A : Type 0} (Text : A → List ℕ → Type 0) (bytes : List ℕ) (left : ℕ) : Type 0 where
  pub good : List ℕ
  pub rest : List ℕ
  pub parts : good ++ rest ≡ bytes
  pub count : left ≡ length rest
  pub value : A
  pub tail : List ℕ
  pub text : Text value (good ++ tail)

-- the reader reads each text, whatever follows it, and nothing else; it goes wrong at the first byte with which the bytes
-- begin no text, whatever follows that
pub record Exact {A : Type 0} (read : List ℕ → Reading A) (Text : A → List ℕ → Type 0) : Type 0 where
  pub again : (a : A) (s rest : List ℕ) → Text a s → read (s ++ rest) ≡ Ok (a, rest)
  pub takes : (bytes : List ℕ) (a : A) (rest : List ℕ) → read bytes ≡ Ok (a, rest) → (s : List ℕ) × Text a s × (s ++ rest ≡ bytes)
  pub begins : (bytes : List ℕ) (left : ℕ) → read bytes ≡ Err left → Begins Text bytes left
  pub local : (front cs ds : List ℕ) (left : ℕ) → read (front ++ cs) ≡ Err left → length cs < left → (m : ℕ) × (read (front ++ ds) ≡ Err m) × (m + length cs ≡ left + length ds)
  pub some : (a : A) × (s : List ℕ) × Text a s

abbrev pub FieldText : {A : Type 0} → Field A → A → List ℕ → Type 0
FieldText f a s = f.Has a × (f.text a ≡ s)

abbrev pub IsExact : {A : Type 0} → Field A → Type 0
IsExact f = Exact f.read (FieldText f)

pub same_ok : {A : Type 0} (x y : A) → ◌≡◌ {A = Result A ℕ} (Ok x) (Ok y) → x ≡ y
same_ok x y e = cc

pub same_err : {A : Type 0} (m n : ℕ) → ◌≡◌ {A = Result A ℕ} (Err m) (Err n) → m ≡ n
same_err m n e = cc

pub ok_err : {A C : Type 0} (x : A) (n : ℕ) → ◌≡◌ {A = Result A ℕ} (Ok x) (Err n) → C
ok_err x n e = absurd cc

pub err_ok : {A C : Type 0} (x : A) (n : ℕ) → ◌≡◌ {A = Result A ℕ} (Err n) (Ok x) → C
err_ok x n e = absurd cc

pub bind_ok : {A B : Type 0} (r : Result A ℕ) (f : A → Result B ℕ) (y : B) → (r >>= f) ≡ Ok y → (x : A) × (r ≡ Ok x) × (f x ≡ Ok y)
bind_ok (Ok x) f y e = (x, refl, e)
bind_ok (Err n) f y e = err_ok y n e

pub bind_err : {A B : Type 0} (r : Result A ℕ) (f : A → Result B ℕ) (left : ℕ) → (r >>= f) ≡ Err left → (r ≡ Err left) ⊎ ((x : A) × (r ≡ Ok x) × (f x ≡ Err left))
bind_err {A} (Ok x) f left e = inr (x, refl, e)
bind_err {A} (Err n) f left e = inl (let same : n ≡ left = cc in λ i. Err (same i))

-- where the front of a list ends before what is left does
pub split_front : (u r front cs : List ℕ) → u ++ r ≡ front ++ cs → length cs ≤ length r → (more : List ℕ) × (front ≡ u ++ more) × (r ≡ more ++ cs)
split_front [] r front cs e h = (front, refl, e)
split_front (x ∷ u) r [] cs e h = absurd (omega (arith, ap length e, length-append (x ∷ u) r))
split_front (x ∷ u) r (y ∷ front) cs e h =
    let first : x ≡ y = cc in
    let others : u ++ r ≡ front ++ cs = cc in
    let s = split_front u r front cs others h in
    (s.0, (λ i. sym first i ∷ s.1 i), s.2)

-- the same text, said otherwise
pub exact_as : {A : Type 0} (read : List ℕ → Reading A) (S T : A → List ℕ → Type 0) → ((a : A) (s : List ℕ) → S a s → T a s) → ((a : A) (s : List ℕ) → T a s → S a s) → Exact read S → Exact read T
exact_as read S T to from ex = record {
  again = λ a s rest t. ex.again a s rest (from a s t);
  takes = λ bytes a rest e. let x = ex.takes bytes a rest e in (x.0, to a x.0 x.1, x.2);
  begins = λ bytes left e. let b = ex.begins bytes left e in record { good = b.good; rest = b.rest; parts = b.parts; count = b.count; value = b.value; tail = b.tail; text = to b.value (b.good ++ b.tail) b.text };
  local = ex.local;
  some = (ex.some.0, ex.some.1, to ex.some.0 ex.some.1 ex.some.2);
}
