-- Numbers: what is read is what std writes, and what std writes is read.
use Rattle.std.proofs.Common.{◌≡◌, ◌≢◌, ℕ, zero, suc, ◌+◌, ◌*◌, ◌/◌, ◌%◌, ◌^◌, ◌<◌, ◌≤◌, Bool, true, false, cond, eqb, ltb, List, [], ◌∷◌, ◌++◌, Option, Some, None, refl, sym, ap, ◌∙◌, arith}
use Rattle.std.specs.Fmt.{digits, digits_onto, digit_glyph}
use Rattle.std.proofs.Math.Nat.{mod-lt, div-eq_of_lt, mod-eq_of_lt, pow-suc, pow-zero, mul-le-mul_left}
use Rattle.std.proofs.lemmas.Nat.{div-mul-add, div-add-mod'}
use Rattle.std.proofs.lemmas.Bool.{ltb-true, lt-ltb, eqb-true, eqb-false, eq-eqb, ne_eqb}
use Rattle.std.proofs.lemmas.Bool.Decides.{nat_tests}
use Rattle.std.proofs.lemmas.Option.{none-some, some_pair_parts}
use Rattle.miss_report.specs.Reading.{◌>>=◌, digit_of, next_digit, more_digits, number_at}

-- ---- one digit

pub digit_again : (base d : ℕ) → base ≤ 16 → d < base → digit_of base (digit_glyph false d) ≡ Some d
unfolding digit_of
digit_again base d high h = grind (arith, nat_tests)

pub digit_takes : (base c d : ℕ) → digit_of base c ≡ Some d → (d < base) × (c ≡ digit_glyph false d)
unfolding digit_of
digit_takes base c d e = grind (arith, nat_tests)

-- ---- the digits that std writes

module _ (base n : ℕ) (acc : List ℕ) where
  onto_suc : (k : ℕ) (t : Bool) → eqb (n / base) 0 ≡ t → digits_onto (suc k) base false n acc ≡ cond t (digit_glyph false (n % base) ∷ acc) (digits_onto k base false (n / base) (digit_glyph false (n % base) ∷ acc))
  onto_suc k t e = ap (λ (b : Bool). cond b (digit_glyph false (n % base) ∷ acc) (digits_onto k base false (n / base) (digit_glyph false (n % base) ∷ acc))) e

  onto_last : (k : ℕ) → n / base ≡ 0 → digits_onto (suc k) base false n acc ≡ digit_glyph false (n % base) ∷ acc
  onto_last k e = onto_suc k true (eq-eqb _ 0 e)

  onto_step : (k : ℕ) → n / base ≢ 0 → digits_onto (suc k) base false n acc ≡ digits_onto k base false (n / base) (digit_glyph false (n % base) ∷ acc)
  onto_step k e = onto_suc k false (ne_eqb _ 0 e)

-- what stands behind the digits stays there
onto-append : (k base n : ℕ) (acc tail : List ℕ) → digits_onto k base false n acc ++ tail ≡ digits_onto k base false n (acc ++ tail)
onto-append zero base n acc tail = refl
onto-append (suc k) base n acc tail = by (eqb (n / base) 0) (onto-append k base (n / base) (digit_glyph false (n % base) ∷ acc) tail)
  where
    g : ℕ
    g = digit_glyph false (n % base)

    by : (t : Bool) → digits_onto k base false (n / base) (g ∷ acc) ++ tail ≡ digits_onto k base false (n / base) (g ∷ acc ++ tail)
        → cond t (g ∷ acc) (digits_onto k base false (n / base) (g ∷ acc)) ++ tail ≡ cond t (g ∷ acc ++ tail) (digits_onto k base false (n / base) (g ∷ acc ++ tail))
    by true r = refl
    by false r = r

-- the front of a number is less than half of it
half : (base n bound : ℕ) → 2 ≤ base → n < bound * 2 → n / base < bound
half base n bound low h = omega (arith, div-add-mod' n base, mul-le-mul_left (n / base) low)

some_bits : (k q : ℕ) → q ≢ 0 → q < 2 ^ k → 0 < k
some_bits zero q ne h = absurd (ne (omega (arith, pow-zero 2)))
some_bits (suc k) q ne h = omega arith

-- one digit more than needed is not used
onto_more : (k base n : ℕ) (acc : List ℕ) → 2 ≤ base → 0 < k → n < 2 ^ k → digits_onto (suc k) base false n acc ≡ digits_onto k base false n acc
onto_more zero base n acc low some h = absurd (omega arith)
onto_more (suc k) base n acc low some h = by (eqb (n / base) 0) refl (λ few small. onto_more k base (n / base) (digit_glyph false (n % base) ∷ acc) low few small)
  where
    g : ℕ
    g = digit_glyph false (n % base)

    by : (t : Bool) → eqb (n / base) 0 ≡ t
        → (0 < k → n / base < 2 ^ k → digits_onto (suc k) base false (n / base) (g ∷ acc) ≡ digits_onto k base false (n / base) (g ∷ acc))
        → digits_onto (suc (suc k)) base false n acc ≡ digits_onto (suc k) base false n acc
    by true e r = onto_suc base n acc (suc k) true e ∙ sym (onto_suc base n acc k true e)
    by false e r =
        let small : n / base < 2 ^ k = half base n (2 ^ k) low (omega (arith, pow-suc 2 k)) in
        onto_suc base n acc (suc k) false e ∙ r (some_bits k (n / base) (eqb-false _ 0 e) small) small ∙ sym (onto_suc base n acc k false e)

-- ---- a number that std writes is read

number_at_first : (base c d : ℕ) (cs : List ℕ) → digit_of base c ≡ Some d → number_at base (c ∷ cs) ≡ more_digits base d cs
unfolding number_at
number_at_first base c d cs e = ap (λ (o : Option ℕ). o >>= (λ d. more_digits base d cs)) e

more_digits_next : (base n c d : ℕ) (cs : List ℕ) → digit_of base c ≡ Some d → n ≢ 0 → n * base + d < 2 ^ 64 → more_digits base n (c ∷ cs) ≡ more_digits base (n * base + d) cs
unfolding more_digits next_digit
more_digits_next base n c d cs e ne lt =
    ap (λ (o : Option ℕ). next_digit base n (c ∷ cs) o (λ m. more_digits base m cs)) e
    ∙ ap (λ (b : Bool). cond b None (cond (ltb (n * base + d) (2 ^ 64)) (more_digits base (n * base + d) cs) None)) (ne_eqb n 0 ne)
    ∙ ap (λ (b : Bool). cond b (more_digits base (n * base + d) cs) None) (lt-ltb _ _ lt)

again_from : (k base m : ℕ) (acc : List ℕ) → 2 ≤ base → base ≤ 16 → 0 < k → m < 2 ^ k → m < 2 ^ 64 → number_at base (digits_onto k base false m acc) ≡ more_digits base m acc
again_from zero base m acc low high some h fits = absurd (omega arith)
again_from (suc k) base m acc low high some h fits = by (eqb (m / base) 0) refl (λ few small fits. again_from k base (m / base) (digit_glyph false (m % base) ∷ acc) low high few small fits)
  where
    g : ℕ
    g = digit_glyph false (m % base)

    digit : digit_of base g ≡ Some (m % base)
    digit = digit_again base (m % base) high (mod-lt m (omega arith))

    by : (t : Bool) → eqb (m / base) 0 ≡ t
        → (0 < k → m / base < 2 ^ k → m / base < 2 ^ 64 → number_at base (digits_onto k base false (m / base) (g ∷ acc)) ≡ more_digits base (m / base) (g ∷ acc))
        → number_at base (digits_onto (suc k) base false m acc) ≡ more_digits base m acc
    by true e r =
        let zero_front : m / base ≡ 0 = eqb-true _ 0 e in
        let same : m % base ≡ m = omega (arith, div-add-mod' m base, ap (λ (q : ℕ). q * base) zero_front) in
        ap (number_at base) (onto_suc base m acc k true e) ∙ number_at_first base g (m % base) acc digit ∙ ap (λ (x : ℕ). more_digits base x acc) same
    by false e r =
        let ne : m / base ≢ 0 = eqb-false _ 0 e in
        let small : m / base < 2 ^ k = half base m (2 ^ k) low (omega (arith, pow-suc 2 k)) in
        let whole : m / base * base + m % base ≡ m = div-add-mod' m base in
        ap (number_at base) (onto_suc base m acc k false e)
        ∙ r (some_bits k (m / base) ne small) small (half base m (2 ^ 64) low (omega arith))
        ∙ more_digits_next base (m / base) g (m % base) acc digit ne (omega arith)
        ∙ ap (λ (x : ℕ). more_digits base x acc) whole

-- where what follows is no digit, the number is read, and what follows it is left
pub number_again : (base m : ℕ) (tail : List ℕ) → 2 ≤ base → base ≤ 16 → m < 2 ^ 64 → number_at base (digits base false m ++ tail) ≡ more_digits base m tail
unfolding digits
number_again base m tail low high fits = ap (number_at base) (onto-append 64 base m [] tail) ∙ again_from 64 base m tail low high (omega arith) fits fits

pub more_digits_end : (base n c : ℕ) (cs : List ℕ) → digit_of base c ≡ None → more_digits base n (c ∷ cs) ≡ Some (n, c ∷ cs)
unfolding more_digits next_digit
more_digits_end base n c cs e = ap (λ (o : Option ℕ). next_digit base n (c ∷ cs) o (λ m. more_digits base m cs)) e

-- ---- a number that is read is what std writes

next_front : (base n d : ℕ) (cs : List ℕ) → 2 ≤ base → n ≢ 0 → d < base → n * base + d < 2 ^ 64 → digits_onto 64 base false (n * base + d) cs ≡ digits_onto 64 base false n (digit_glyph false d ∷ cs)
next_front base n d cs low ne lt fits =
    let front : (n * base + d) / base ≡ n = div-mul-add n base d lt in
    let last : (n * base + d) % base ≡ d = omega (arith, div-add-mod' (n * base + d) base, ap (λ (q : ℕ). q * base) front) in
    let small : n < 2 ^ 63 = omega (arith, mul-le-mul_left n low) in
    onto_step base (n * base + d) cs 63 (λ z. ne (sym front ∙ z))
    ∙ (λ i. digits_onto 63 base false (front i) (digit_glyph false (last i) ∷ cs))
    ∙ sym (onto_more 63 base n (digit_glyph false d ∷ cs) low (omega arith) small)

record Reads (base : ℕ) (front : List ℕ) (m : ℕ) (rest : List ℕ) : Type 0 where
  pub parts : front ≡ digits_onto 64 base false m rest
  pub fits : m < 2 ^ 64

Reads-end : (base n m : ℕ) (bytes rest : List ℕ) → n < 2 ^ 64 → ◌≡◌ {A = Option (ℕ × List ℕ)} (Some (n, bytes)) (Some (m, rest)) → Reads base (digits_onto 64 base false n bytes) m rest
Reads-end base n m bytes rest fits e =
    let same = some_pair_parts n m bytes rest e in
    record { parts = λ i. digits_onto 64 base false (same.0 i) (same.1 i); fits = omega (arith, same.0) }

more_takes_by : (base n c : ℕ) (cs : List ℕ) (m : ℕ) (rest : List ℕ) → 2 ≤ base → n < 2 ^ 64 → (o : Option ℕ) → digit_of base c ≡ o
    → next_digit base n (c ∷ cs) o (λ k. more_digits base k cs) ≡ Some (m, rest)
    → ((k : ℕ) → k < 2 ^ 64 → more_digits base k cs ≡ Some (m, rest) → Reads base (digits_onto 64 base false k cs) m rest)
    → Reads base (digits_onto 64 base false n (c ∷ cs)) m rest
unfolding next_digit
more_takes_by base n c cs m rest low fits None d e r = Reads-end base n m (c ∷ cs) rest fits e
more_takes_by base n c cs m rest low fits (Some d) is e r = by (eqb n 0) refl (ltb (n * base + d) (2 ^ 64)) refl e
  where
    by : (z : Bool) → eqb n 0 ≡ z → (t : Bool) → ltb (n * base + d) (2 ^ 64) ≡ t → cond z None (cond t (more_digits base (n * base + d) cs) None) ≡ Some (m, rest) → Reads base (digits_onto 64 base false n (c ∷ cs)) m rest
    by true ez t et f = absurd (none-some _ f)
    by false ez false et f = absurd (none-some _ f)
    by false ez true et f =
        let lt = ltb-true (n * base + d) (2 ^ 64) et in
        let known = digit_takes base c d is in
        let q = r (n * base + d) lt f in
        record {
          parts = ap (λ (x : ℕ). digits_onto 64 base false n (x ∷ cs)) known.1 ∙ sym (next_front base n d cs low (eqb-false n 0 ez) known.0 lt) ∙ q.parts;
          fits = q.fits;
        }

more_takes : (base n : ℕ) (bytes : List ℕ) (m : ℕ) (rest : List ℕ) → 2 ≤ base → n < 2 ^ 64 → more_digits base n bytes ≡ Some (m, rest) → Reads base (digits_onto 64 base false n bytes) m rest
unfolding more_digits
more_takes base n [] m rest low fits e = Reads-end base n m [] rest fits e
more_takes base n (c ∷ cs) m rest low fits e = more_takes_by base n c cs m rest low fits (digit_of base c) refl e (λ k lt f. more_takes base k cs m rest low lt f)

number_takes_by : (base c : ℕ) (cs : List ℕ) (m : ℕ) (rest : List ℕ) → 2 ≤ base → base ≤ 16 → (o : Option ℕ) → digit_of base c ≡ o → (o >>= (λ d. more_digits base d cs)) ≡ Some (m, rest)
    → (c ∷ cs ≡ digits base false m ++ rest) × (m < 2 ^ 64)
unfolding digits
number_takes_by base c cs m rest low high None is e = absurd (none-some _ e)
number_takes_by base c cs m rest low high (Some d) is e =
    let known = digit_takes base c d is in
    let q = more_takes base d cs m rest low (omega (arith, known.0)) e in
    let none_front : d / base ≡ 0 = div-eq_of_lt known.0 in
    let last : d % base ≡ d = mod-eq_of_lt known.0 in
    let first : digits_onto 64 base false d cs ≡ c ∷ cs = onto_last base d cs 63 none_front ∙ ap (λ (x : ℕ). digit_glyph false x ∷ cs) last ∙ ap (λ (x : ℕ). x ∷ cs) (sym known.1) in
    (sym first ∙ q.parts ∙ sym (onto-append 64 base m [] rest), q.fits)

pub number_takes : (base : ℕ) (bytes : List ℕ) (m : ℕ) (rest : List ℕ) → 2 ≤ base → base ≤ 16 → number_at base bytes ≡ Some (m, rest) → (bytes ≡ digits base false m ++ rest) × (m < 2 ^ 64)
unfolding number_at
number_takes base [] m rest low high e = absurd (none-some _ e)
number_takes base (c ∷ cs) m rest low high e = number_takes_by base c cs m rest low high (digit_of base c) refl e
