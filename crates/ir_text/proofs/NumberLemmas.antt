-- Numbers: what is read is what std writes, and what std writes is read.
use Rattle.std.proofs.Common.{◌≡◌, ◌≢◌, ℕ, zero, suc, ◌+◌, ◌*◌, ◌/◌, ◌%◌, ◌^◌, ◌<◌, ◌≤◌, Bool, true, false, cond, eqb, ltb, List, [], ◌∷◌, ◌++◌, length, Option, Some, None, Ok, Err, refl, sym, ap, subst, ◌∙◌, arith, length-append, codes}
use Rattle.std.specs.Fmt.{digits, digits_onto, digit_glyph}
use Rattle.std.proofs.Math.Nat.{mod-lt, div-eq_of_lt, mod-eq_of_lt, pow-suc, pow-zero}
use Rattle.std.proofs.lemmas.Nat.{div-mul-add, div-add-mod'}
use Rattle.std.proofs.lemmas.Bool.{ltb-true, lt-ltb, eqb-true, eqb-false, eq-eqb, ne_eqb}
use Rattle.std.proofs.lemmas.Bool.Decides.{nat_tests}
use Rattle.ir_text.specs.Reading.{digit_of, longer, go_on, more_digits, digits_at, number_at, digit_at, digit_or}
use Rattle.ir_text.specs.Row.{number, number_digits, digit, digit_unless}
use Rattle.ir_text.proofs.Exact.{Begins, Exact, FieldText, IsExact, exact_as, same_ok, same_err, ok_err, err_ok}
use Rattle.ir_text.proofs.RowLemmas.{after_exact}

-- ---- one digit

pub digit_again : (d : ℕ) → d < 16 → digit_of (digit_glyph false d) ≡ Some d
unfolding digit_of
digit_again d h = grind (arith, nat_tests)

pub digit_takes : (c d : ℕ) → digit_of c ≡ Some d → (d < 16) × (c ≡ digit_glyph false d)
unfolding digit_of
digit_takes c d e = grind (arith, nat_tests)

-- ---- the digits that std writes

module _ (n : ℕ) (acc : List ℕ) where
  onto_suc : (k : ℕ) (t : Bool) → eqb (n / 16) 0 ≡ t → digits_onto (suc k) 16 false n acc ≡ cond t (digit_glyph false (n % 16) ∷ acc) (digits_onto k 16 false (n / 16) (digit_glyph false (n % 16) ∷ acc))
  onto_suc k t e = ap (λ (b : Bool). cond b (digit_glyph false (n % 16) ∷ acc) (digits_onto k 16 false (n / 16) (digit_glyph false (n % 16) ∷ acc))) e

  onto_last : (k : ℕ) → n / 16 ≡ 0 → digits_onto (suc k) 16 false n acc ≡ digit_glyph false (n % 16) ∷ acc
  onto_last k e = onto_suc k true (eq-eqb _ 0 e)

  onto_step : (k : ℕ) → n / 16 ≢ 0 → digits_onto (suc k) 16 false n acc ≡ digits_onto k 16 false (n / 16) (digit_glyph false (n % 16) ∷ acc)
  onto_step k e = onto_suc k false (ne_eqb _ 0 e)

-- what stands behind the digits stays there
onto-append : (k n : ℕ) (acc tail : List ℕ) → digits_onto k 16 false n acc ++ tail ≡ digits_onto k 16 false n (acc ++ tail)
onto-append zero n acc tail = refl
onto-append (suc k) n acc tail = by (eqb (n / 16) 0) (onto-append k (n / 16) (digit_glyph false (n % 16) ∷ acc) tail)
  where
    g : ℕ
    g = digit_glyph false (n % 16)

    by : (t : Bool) → digits_onto k 16 false (n / 16) (g ∷ acc) ++ tail ≡ digits_onto k 16 false (n / 16) (g ∷ acc ++ tail)
        → cond t (g ∷ acc) (digits_onto k 16 false (n / 16) (g ∷ acc)) ++ tail ≡ cond t (g ∷ acc ++ tail) (digits_onto k 16 false (n / 16) (g ∷ acc ++ tail))
    by true r = refl
    by false r = r

-- the front of a number is less than half of it
half : (n bound : ℕ) → n < bound * 2 → n / 16 < bound
half n bound h = omega (arith, div-add-mod' n 16)

some_bits : (k q : ℕ) → q ≢ 0 → q < 2 ^ k → 0 < k
some_bits zero q ne h = absurd (ne (omega (arith, pow-zero 2)))
some_bits (suc k) q ne h = omega arith

-- one digit more than needed is not used
onto_more : (k n : ℕ) (acc : List ℕ) → 0 < k → n < 2 ^ k → digits_onto (suc k) 16 false n acc ≡ digits_onto k 16 false n acc
onto_more zero n acc some h = absurd (omega arith)
onto_more (suc k) n acc some h = by (eqb (n / 16) 0) refl (λ few small. onto_more k (n / 16) (digit_glyph false (n % 16) ∷ acc) few small)
  where
    g : ℕ
    g = digit_glyph false (n % 16)

    by : (t : Bool) → eqb (n / 16) 0 ≡ t → (0 < k → n / 16 < 2 ^ k → digits_onto (suc k) 16 false (n / 16) (g ∷ acc) ≡ digits_onto k 16 false (n / 16) (g ∷ acc))
        → digits_onto (suc (suc k)) 16 false n acc ≡ digits_onto (suc k) 16 false n acc
    by true e r = onto_suc n acc (suc k) true e ∙ sym (onto_suc n acc k true e)
    by false e r =
        let small : n / 16 < 2 ^ k = half n (2 ^ k) (omega (arith, pow-suc 2 k)) in
        onto_suc n acc (suc k) false e ∙ r (some_bits k (n / 16) (eqb-false _ 0 e) small) small ∙ sym (onto_suc n acc k false e)

next_front : (n d : ℕ) (cs : List ℕ) → n ≢ 0 → d < 16 → n * 16 + d < 2 ^ 64 → digits_onto 64 16 false (n * 16 + d) cs ≡ digits_onto 64 16 false n (digit_glyph false d ∷ cs)
next_front n d cs ne lt fits =
    let front : (n * 16 + d) / 16 ≡ n = div-mul-add n 16 d lt in
    let last : (n * 16 + d) % 16 ≡ d = omega (arith, div-add-mod' (n * 16 + d) 16, ap (λ (q : ℕ). q * 16) front) in
    let small : n < 2 ^ 63 = omega arith in
    onto_step (n * 16 + d) cs 63 (λ z. ne (sym front ∙ z))
    ∙ (λ i. digits_onto 63 16 false (front i) (digit_glyph false (last i) ∷ cs))
    ∙ sym (onto_more 63 n (digit_glyph false d ∷ cs) (omega arith) small)

one_digit : (d : ℕ) (cs : List ℕ) → d < 16 → digits_onto 64 16 false d cs ≡ digit_glyph false d ∷ cs
one_digit d cs h = onto_last d cs 63 (div-eq_of_lt h) ∙ ap (λ (x : ℕ). digit_glyph false x ∷ cs) (mod-eq_of_lt h)

none_some : (d : ℕ) → ◌≡◌ {A = Option ℕ} None (Some d) → ⊥
none_some d e = cc

module _ (bound end : ℕ) (wide : bound ≤ 2 ^ 64) (many : 16 ≤ bound) (no_digit : digit_of end ≡ None) where
  not_end : (c d : ℕ) → digit_of c ≡ Some d → eqb c end ≡ false
  not_end c d e = ne_eqb c end (λ s. none_some d (sym no_digit ∙ ap digit_of (sym s) ∙ e))

  digits_first : (c d : ℕ) (cs : List ℕ) → digit_of c ≡ Some d → digits_at bound end (c ∷ cs) ≡ more_digits bound end d cs
  unfolding digits_at
  digits_first c d cs e = ap (λ (o : Option ℕ). go_on o (length (c ∷ cs)) (λ d. more_digits bound end d cs)) e

  longer_more : (n d : ℕ) → n ≢ 0 → n * 16 + d < bound → longer bound n (Some d) ≡ Some (n * 16 + d)
  unfolding longer
  longer_more n d ne lt =
      ap (λ (b : Bool). cond b None (cond (ltb (n * 16 + d) bound) (Some (n * 16 + d)) None)) (ne_eqb n 0 ne) ∙ ap (λ (b : Bool). cond b (Some (n * 16 + d)) None) (lt-ltb _ _ lt)

  more_next : (n c d : ℕ) (cs : List ℕ) → digit_of c ≡ Some d → n ≢ 0 → n * 16 + d < bound → more_digits bound end n (c ∷ cs) ≡ more_digits bound end (n * 16 + d) cs
  unfolding more_digits
  more_next n c d cs e ne lt =
      ap (λ (b : Bool). cond b (Ok (n, cs)) (go_on (longer bound n (digit_of c)) (length (c ∷ cs)) (λ m. more_digits bound end m cs))) (not_end c d e)
      ∙ ap (λ (o : Option ℕ). go_on o (length (c ∷ cs)) (λ m. more_digits bound end m cs)) (ap (longer bound n) e ∙ longer_more n d ne lt)

  more_end : (n : ℕ) (rest : List ℕ) → more_digits bound end n (end ∷ rest) ≡ Ok (n, rest)
  unfolding more_digits
  more_end n rest =
      ap (λ (b : Bool). cond b (Ok (n, rest)) (go_on (longer bound n (digit_of end)) (length (end ∷ rest)) (λ m. more_digits bound end m rest))) (eq-eqb end end refl)

  again_from : (k m : ℕ) (acc : List ℕ) → 0 < k → m < 2 ^ k → m < bound → digits_at bound end (digits_onto k 16 false m acc) ≡ more_digits bound end m acc
  again_from zero m acc some h fits = absurd (omega arith)
  again_from (suc k) m acc some h fits = by (eqb (m / 16) 0) refl (λ few small fits. again_from k (m / 16) (digit_glyph false (m % 16) ∷ acc) few small fits)
    where
      g : ℕ
      g = digit_glyph false (m % 16)

      digit_is : digit_of g ≡ Some (m % 16)
      digit_is = digit_again (m % 16) (mod-lt m (omega arith))

      by : (t : Bool) → eqb (m / 16) 0 ≡ t → (0 < k → m / 16 < 2 ^ k → m / 16 < bound → digits_at bound end (digits_onto k 16 false (m / 16) (g ∷ acc)) ≡ more_digits bound end (m / 16) (g ∷ acc))
          → digits_at bound end (digits_onto (suc k) 16 false m acc) ≡ more_digits bound end m acc
      by true e r =
          let zero_front : m / 16 ≡ 0 = eqb-true _ 0 e in
          let same : m % 16 ≡ m = omega (arith, div-add-mod' m 16, ap (λ (q : ℕ). q * 16) zero_front) in
          ap (digits_at bound end) (onto_suc m acc k true e) ∙ digits_first g (m % 16) acc digit_is ∙ ap (λ (x : ℕ). more_digits bound end x acc) same
      by false e r =
          let ne : m / 16 ≢ 0 = eqb-false _ 0 e in
          let small : m / 16 < 2 ^ k = half m (2 ^ k) (omega (arith, pow-suc 2 k)) in
          let whole : m / 16 * 16 + m % 16 ≡ m = div-add-mod' m 16 in
          ap (digits_at bound end) (onto_suc m acc k false e)
          ∙ r (some_bits k (m / 16) ne small) small (omega (arith, whole))
          ∙ more_next (m / 16) g (m % 16) acc digit_is ne (omega (arith, whole))
          ∙ ap (λ (x : ℕ). more_digits bound end x acc) whole

  DigitsText : ℕ → List ℕ → Type 0
  DigitsText n s = (n < bound) × (digits 16 false n ++ end ∷ [] ≡ s)

  digits_again : (n : ℕ) (s rest : List ℕ) → DigitsText n s → digits_at bound end (s ++ rest) ≡ Ok (n, rest)
  unfolding digits DigitsText
  digits_again n s rest t =
      ap (λ (z : List ℕ). digits_at bound end (z ++ rest)) (sym t.1 ∙ onto-append 64 n [] (end ∷ [])) ∙ ap (digits_at bound end) (onto-append 64 n (end ∷ []) rest)
      ∙ again_from 64 n (end ∷ rest) (omega arith) (omega (arith, t.0, wide)) t.0
      ∙ more_end n rest

  -- ---- what is read

  record Reads (front : List ℕ) (m : ℕ) (rest : List ℕ) : Type 0 where
    pub parts : front ≡ digits_onto 64 16 false m (end ∷ rest)
    pub fits : m < bound

  longer_takes : (n c : ℕ) (o : Option ℕ) (m : ℕ) → digit_of c ≡ o → longer bound n o ≡ Some m → (d : ℕ) × (digit_of c ≡ Some d) × (n ≢ 0) × (m ≡ n * 16 + d) × (m < bound)
  unfolding longer
  longer_takes n c None m is e = absurd cc
  longer_takes n c (Some d) m is e = by (eqb n 0) refl (ltb (n * 16 + d) bound) refl e
    where
      by : (z : Bool) → eqb n 0 ≡ z → (t : Bool) → ltb (n * 16 + d) bound ≡ t → cond z None (cond t (Some (n * 16 + d)) None) ≡ Some m → (d : ℕ) × (digit_of c ≡ Some d) × (n ≢ 0) × (m ≡ n * 16 + d) × (m < bound)
      by true ez t et f = absurd cc
      by false ez false et f = absurd cc
      by false ez true et f =
          let same : m ≡ n * 16 + d = cc in
          (d, is, eqb-false n 0 ez, same, omega (arith, same, ltb-true (n * 16 + d) bound et))

  step_front : (n c m : ℕ) (cs : List ℕ) → longer bound n (digit_of c) ≡ Some m → digits_onto 64 16 false n (c ∷ cs) ≡ digits_onto 64 16 false m cs
  step_front n c m cs e =
      let l = longer_takes n c (digit_of c) m refl e in
      let known = digit_takes c l.0 l.1 in
      ap (λ (x : ℕ). digits_onto 64 16 false n (x ∷ cs)) known.1 ∙ sym (next_front n l.0 cs l.2 known.0 (omega (arith, l.3, l.4, wide))) ∙ ap (λ (x : ℕ). digits_onto 64 16 false x cs) (sym l.3)

  more_takes_by : (n c : ℕ) (cs : List ℕ) (m : ℕ) (rest : List ℕ) → n < bound → (b : Bool) → eqb c end ≡ b → (o : Option ℕ) → longer bound n (digit_of c) ≡ o
      → cond b (Ok (n, cs)) (go_on o (length (c ∷ cs)) (λ m. more_digits bound end m cs)) ≡ Ok (m, rest)
      → ((k : ℕ) → k < bound → more_digits bound end k cs ≡ Ok (m, rest) → Reads (digits_onto 64 16 false k cs) m rest)
      → Reads (digits_onto 64 16 false n (c ∷ cs)) m rest
  more_takes_by n c cs m rest fits true ec o eo e r =
      let same = same_ok (n, cs) (m, rest) e in
      let first : c ≡ end = eqb-true c end ec in
      record { parts = λ i. digits_onto 64 16 false (same i).0 (first i ∷ (same i).1); fits = omega (arith, ap (λ (p : ℕ × List ℕ). p.0) same) }
  more_takes_by n c cs m rest fits false ec None eo e r = err_ok (m, rest) (length (c ∷ cs)) e
  more_takes_by n c cs m rest fits false ec (Some k) eo e r =
      let l = longer_takes n c (digit_of c) k refl eo in
      let q = r k l.4 e in
      record { parts = step_front n c k cs eo ∙ q.parts; fits = q.fits }

  more_takes : (n : ℕ) (bytes : List ℕ) (m : ℕ) (rest : List ℕ) → n < bound → more_digits bound end n bytes ≡ Ok (m, rest) → Reads (digits_onto 64 16 false n bytes) m rest
  unfolding more_digits
  more_takes n [] m rest fits e = err_ok (m, rest) 0 e
  more_takes n (c ∷ cs) m rest fits e = more_takes_by n c cs m rest fits (eqb c end) refl (longer bound n (digit_of c)) refl e (λ k lt f. more_takes k cs m rest lt f)

  digits_takes_by : (c : ℕ) (cs : List ℕ) (m : ℕ) (rest : List ℕ) (o : Option ℕ) → digit_of c ≡ o → go_on o (length (c ∷ cs)) (λ d. more_digits bound end d cs) ≡ Ok (m, rest) → (s : List ℕ) × DigitsText m s × (s ++ rest ≡ c ∷ cs)
  unfolding digits DigitsText
  digits_takes_by c cs m rest None is e = err_ok (m, rest) (length (c ∷ cs)) e
  digits_takes_by c cs m rest (Some d) is e =
      let known = digit_takes c d is in
      let q = more_takes d cs m rest (omega (arith, known.0, many)) e in
      let first : digits_onto 64 16 false d cs ≡ c ∷ cs = one_digit d cs known.0 ∙ ap (λ (x : ℕ). x ∷ cs) (sym known.1) in
      let whole : (digits 16 false m ++ end ∷ []) ++ rest ≡ c ∷ cs = ap (λ (z : List ℕ). z ++ rest) (onto-append 64 m [] (end ∷ [])) ∙ onto-append 64 m (end ∷ []) rest ∙ sym q.parts ∙ first in
      (digits 16 false m ++ end ∷ [], (q.fits, refl), whole)

  digits_takes : (bytes : List ℕ) (m : ℕ) (rest : List ℕ) → digits_at bound end bytes ≡ Ok (m, rest) → (s : List ℕ) × DigitsText m s × (s ++ rest ≡ bytes)
  unfolding digits_at
  digits_takes [] m rest e = err_ok (m, rest) 0 e
  digits_takes (c ∷ cs) m rest e = digits_takes_by c cs m rest (digit_of c) refl e

  -- ---- where they go wrong

  -- the digits up to the stop are those of a number
  record Goes (n : ℕ) (bytes : List ℕ) (left : ℕ) : Type 0 where
    pub good : List ℕ
    pub rest : List ℕ
    pub parts : good ++ rest ≡ bytes
    pub count : left ≡ length rest
    pub value : ℕ
    pub fits : value < bound
    pub same : (acc : List ℕ) → digits_onto 64 16 false n (good ++ acc) ≡ digits_onto 64 16 false value acc

  more_begins_by : (n c : ℕ) (cs : List ℕ) (left : ℕ) → n < bound → (b : Bool) → eqb c end ≡ b → (o : Option ℕ) → longer bound n (digit_of c) ≡ o
      → cond b (Ok (n, cs)) (go_on o (length (c ∷ cs)) (λ m. more_digits bound end m cs)) ≡ Err left
      → ((k : ℕ) → k < bound → more_digits bound end k cs ≡ Err left → Goes k cs left) → Goes n (c ∷ cs) left
  more_begins_by n c cs left fits true ec o eo e r = ok_err (n, cs) left e
  more_begins_by n c cs left fits false ec None eo e r =
      record { good = []; rest = c ∷ cs; parts = refl; count = sym (same_err (length (c ∷ cs)) left e); value = n; fits = fits; same = λ acc. refl }
  more_begins_by n c cs left fits false ec (Some k) eo e r =
      let l = longer_takes n c (digit_of c) k refl eo in
      let q = r k l.4 e in
      record {
        good = c ∷ q.good;
        rest = q.rest;
        parts = ap (λ (z : List ℕ). c ∷ z) q.parts;
        count = q.count;
        value = q.value;
        fits = q.fits;
        same = λ acc. step_front n c k (q.good ++ acc) eo ∙ q.same acc;
      }

  more_begins : (n : ℕ) (bytes : List ℕ) (left : ℕ) → n < bound → more_digits bound end n bytes ≡ Err left → Goes n bytes left
  unfolding more_digits
  more_begins n [] left fits e = record { good = []; rest = []; parts = refl; count = sym (same_err 0 left e); value = n; fits = fits; same = λ acc. refl }
  more_begins n (c ∷ cs) left fits e = more_begins_by n c cs left fits (eqb c end) refl (longer bound n (digit_of c)) refl e (λ k lt f. more_begins k cs left lt f)

  none_yet : (bytes : List ℕ) (left : ℕ) → left ≡ length bytes → Begins DigitsText bytes left
  unfolding DigitsText
  none_yet bytes left e = record { good = []; rest = bytes; parts = refl; count = e; value = 0; tail = digits 16 false 0 ++ end ∷ []; text = (omega (arith, many), refl) }

  digits_begins_by : (c : ℕ) (cs : List ℕ) (left : ℕ) (o : Option ℕ) → digit_of c ≡ o → go_on o (length (c ∷ cs)) (λ d. more_digits bound end d cs) ≡ Err left → Begins DigitsText (c ∷ cs) left
  unfolding digits DigitsText
  digits_begins_by c cs left None is e = none_yet (c ∷ cs) left (sym (same_err (length (c ∷ cs)) left e))
  digits_begins_by c cs left (Some d) is e =
      let known = digit_takes c d is in
      let q = more_begins d cs left (omega (arith, known.0, many)) e in
      let whole : digits 16 false q.value ++ end ∷ [] ≡ (c ∷ q.good) ++ end ∷ [] =
      onto-append 64 q.value [] (end ∷ []) ∙ sym (q.same (end ∷ [])) ∙ one_digit d (q.good ++ end ∷ []) known.0 ∙ ap (λ (x : ℕ). x ∷ q.good ++ end ∷ []) (sym known.1) in
      record { good = c ∷ q.good; rest = q.rest; parts = ap (λ (z : List ℕ). c ∷ z) q.parts; count = q.count; value = q.value; tail = end ∷ []; text = (q.fits, whole) }

  digits_begins : (bytes : List ℕ) (left : ℕ) → digits_at bound end bytes ≡ Err left → Begins DigitsText bytes left
  unfolding digits_at
  digits_begins [] left e = none_yet [] left (sym (same_err 0 left e))
  digits_begins (c ∷ cs) left e = digits_begins_by c cs left (digit_of c) refl e

  -- ---- and nothing behind the stop counts

  more_within : (n : ℕ) (bytes : List ℕ) (left : ℕ) → n < bound → more_digits bound end n bytes ≡ Err left → left ≤ length bytes
  more_within n bytes left fits e = let q = more_begins n bytes left fits e in omega (arith, q.count, ap length q.parts, length-append q.good q.rest)

  more_local_by : (n f : ℕ) (front cs ds : List ℕ) (left : ℕ) (b : Bool) (o : Option ℕ) → longer bound n (digit_of f) ≡ o
      → cond b (Ok (n, front ++ cs)) (go_on o (length (f ∷ front ++ cs)) (λ m. more_digits bound end m (front ++ cs))) ≡ Err left
      → ((k : ℕ) → k < bound → more_digits bound end k (front ++ cs) ≡ Err left → (m : ℕ) × (more_digits bound end k (front ++ ds) ≡ Err m) × (m + length cs ≡ left + length ds))
      → (m : ℕ) × (cond b (Ok (n, front ++ ds)) (go_on o (length (f ∷ front ++ ds)) (λ m. more_digits bound end m (front ++ ds))) ≡ Err m) × (m + length cs ≡ left + length ds)
  more_local_by n f front cs ds left true o eo e r = ok_err (n, front ++ cs) left e
  more_local_by n f front cs ds left false None eo e r =
      let same = same_err (length (f ∷ front ++ cs)) left e in
      (length (f ∷ front ++ ds), refl, omega (arith, same, length-append front cs, length-append front ds))
  more_local_by n f front cs ds left false (Some k) eo e r = let l = longer_takes n f (digit_of f) k refl eo in r k l.4 e

  more_local : (n : ℕ) (front cs ds : List ℕ) (left : ℕ) → n < bound → more_digits bound end n (front ++ cs) ≡ Err left → length cs < left → (m : ℕ) × (more_digits bound end n (front ++ ds) ≡ Err m) × (m + length cs ≡ left + length ds)
  unfolding more_digits
  more_local n [] cs ds left fits e h = absurd (omega (arith, more_within n cs left fits e))
  more_local n (f ∷ front) cs ds left fits e h = more_local_by n f front cs ds left (eqb f end) (longer bound n (digit_of f)) refl e (λ k lt g. more_local k front cs ds left lt g h)

  digits_local_by : (f : ℕ) (front cs ds : List ℕ) (left : ℕ) → length cs < left → (o : Option ℕ) → digit_of f ≡ o → go_on o (length (f ∷ front ++ cs)) (λ d. more_digits bound end d (front ++ cs)) ≡ Err left
      → (m : ℕ) × (go_on o (length (f ∷ front ++ ds)) (λ d. more_digits bound end d (front ++ ds)) ≡ Err m) × (m + length cs ≡ left + length ds)
  digits_local_by f front cs ds left h None is e =
      let same = same_err (length (f ∷ front ++ cs)) left e in
      (length (f ∷ front ++ ds), refl, omega (arith, same, length-append front cs, length-append front ds))
  digits_local_by f front cs ds left h (Some d) is e = more_local d front cs ds left (omega (arith, (digit_takes f d is).0, many)) e h

  digits_local : (front cs ds : List ℕ) (left : ℕ) → digits_at bound end (front ++ cs) ≡ Err left → length cs < left → (m : ℕ) × (digits_at bound end (front ++ ds) ≡ Err m) × (m + length cs ≡ left + length ds)
  unfolding digits_at
  digits_local [] cs ds left e h = let b = digits_begins cs left e in absurd (omega (arith, b.count, ap length b.parts, length-append b.good b.rest))
  digits_local (f ∷ front) cs ds left e h = digits_local_by f front cs ds left h (digit_of f) refl e

  digits_exact : Exact (digits_at bound end) DigitsText
  unfolding DigitsText
  digits_exact = record {
    again = digits_again;
    takes = digits_takes;
    begins = digits_begins;
    local = digits_local;
    some = (0, digits 16 false 0 ++ end ∷ [], (omega (arith, many), refl));
  }

  to_field : (n : ℕ) (s : List ℕ) → ((t : List ℕ) × DigitsText n t × (codes "0x" ++ t ≡ s)) → FieldText (number bound end) n s
  unfolding DigitsText
  to_field n s t = (t.1.0, ap (λ (z : List ℕ). codes "0x" ++ z) t.1.1 ∙ t.2)

  from_field : (n : ℕ) (s : List ℕ) → FieldText (number bound end) n s → ((t : List ℕ) × DigitsText n t × (codes "0x" ++ t ≡ s))
  unfolding DigitsText
  from_field n s t = (digits 16 false n ++ end ∷ [], (t.0, refl), t.1)

  pub number_exact : IsExact (number bound end)
  unfolding number_at
  number_exact =
      exact_as (number_at bound end) (λ n s. (t : List ℕ) × DigitsText n t × (codes "0x" ++ t ≡ s)) (FieldText (number bound end)) to_field from_field (after_exact (codes "0x") (digits_at bound end) DigitsText digits_exact)

  pub after_prefix_exact : IsExact (number_digits bound end)
  unfolding DigitsText
  after_prefix_exact = digits_exact

-- ---- single digits

module _ (u : Unit {0}) where
  one_takes_by : (c : ℕ) (cs : List ℕ) (a : ℕ) (rest : List ℕ) (o : Option ℕ) → digit_of c ≡ o → go_on o (length (c ∷ cs)) (λ d. Ok (d, cs)) ≡ Ok (a, rest) → (s : List ℕ) × FieldText digit a s × (s ++ rest ≡ c ∷ cs)
  one_takes_by c cs a rest None is e = err_ok (a, rest) (length (c ∷ cs)) e
  one_takes_by c cs a rest (Some d) is e =
      let same = same_ok (d, cs) (a, rest) e in
      let known = digit_takes c d is in
      let value : d ≡ a = λ i. (same i).0 in
      let others : cs ≡ rest = λ i. (same i).1 in
      (digit_glyph false a ∷ [], (omega (arith, known.0, value), refl), (λ i. digit_glyph false (sym value i) ∷ sym others i) ∙ (λ i. sym known.1 i ∷ cs))

  one_begins_by : (c : ℕ) (cs : List ℕ) (left : ℕ) (o : Option ℕ) → digit_of c ≡ o → go_on o (length (c ∷ cs)) (λ d. Ok (d, cs)) ≡ Err left → Begins (FieldText digit) (c ∷ cs) left
  one_begins_by c cs left None is e =
      record { good = []; rest = c ∷ cs; parts = refl; count = sym (same_err (length (c ∷ cs)) left e); value = 0; tail = digit_glyph false 0 ∷ []; text = (omega arith, refl) }
  one_begins_by c cs left (Some d) is e = ok_err (d, cs) left e

  one_local_by : (f : ℕ) (front cs ds : List ℕ) (left : ℕ) (o : Option ℕ) → go_on o (length (f ∷ front ++ cs)) (λ d. Ok (d, front ++ cs)) ≡ Err left
      → (m : ℕ) × (go_on o (length (f ∷ front ++ ds)) (λ d. Ok (d, front ++ ds)) ≡ Err m) × (m + length cs ≡ left + length ds)
  one_local_by f front cs ds left None e =
      let same = same_err (length (f ∷ front ++ cs)) left e in
      (length (f ∷ front ++ ds), refl, omega (arith, same, length-append front cs, length-append front ds))
  one_local_by f front cs ds left (Some d) e = ok_err (d, front ++ cs) left e

  one_takes : (bytes : List ℕ) (a : ℕ) (rest : List ℕ) → digit_at bytes ≡ Ok (a, rest) → (s : List ℕ) × FieldText digit a s × (s ++ rest ≡ bytes)
  unfolding digit_at
  one_takes [] a rest e = err_ok (a, rest) 0 e
  one_takes (c ∷ cs) a rest e = one_takes_by c cs a rest (digit_of c) refl e

  one_begins : (bytes : List ℕ) (left : ℕ) → digit_at bytes ≡ Err left → Begins (FieldText digit) bytes left
  unfolding digit_at
  one_begins [] left e =
      record { good = []; rest = []; parts = refl; count = sym (same_err 0 left e); value = 0; tail = digit_glyph false 0 ∷ []; text = (omega arith, refl) }
  one_begins (c ∷ cs) left e = one_begins_by c cs left (digit_of c) refl e

  one_local : (front cs ds : List ℕ) (left : ℕ) → digit_at (front ++ cs) ≡ Err left → length cs < left → (m : ℕ) × (digit_at (front ++ ds) ≡ Err m) × (m + length cs ≡ left + length ds)
  unfolding digit_at
  one_local [] cs ds left e h = let b = one_begins cs left e in absurd (omega (arith, b.count, ap length b.parts, length-append b.good b.rest))
  one_local (f ∷ front) cs ds left e h = one_local_by f front cs ds left (digit_of f) e

  one_again : (a : ℕ) (s rest : List ℕ) → FieldText digit a s → digit_at (s ++ rest) ≡ Ok (a, rest)
  unfolding digit_at
  one_again a s rest t =
      ap (λ (z : List ℕ). digit_at (z ++ rest)) (sym t.1) ∙ ap (λ (o : Option ℕ). go_on o (length (digit_glyph false a ∷ rest)) (λ d. Ok (d, rest))) (digit_again a t.0)

  digit_is_exact : IsExact digit
  digit_is_exact = record { again = one_again; takes = one_takes; begins = one_begins; local = one_local; some = (0, digit_glyph false 0 ∷ [], (omega arith, refl)) }

pub digit_exact : IsExact digit
digit_exact = digit_is_exact tt

module _ (stop : ℕ) (no_digit : digit_of stop ≡ None) where
  abbrev OrText : Option ℕ → List ℕ → Type 0
  OrText = FieldText (digit_unless stop)

  or_again : (a : Option ℕ) (s rest : List ℕ) → OrText a s → digit_or stop (s ++ rest) ≡ Ok (a, rest)
  unfolding digit_or
  or_again None s rest t =
      ap (λ (z : List ℕ). digit_or stop (z ++ rest)) (sym t.1) ∙ ap (λ (b : Bool). cond b (Ok (None, rest)) (go_on (digit_of stop) (length (stop ∷ rest)) (λ d. Ok (Some d, rest)))) (eq-eqb stop stop refl)
  or_again (Some d) s rest t =
      let g = digit_glyph false d in
      let is = digit_again d t.0 in
      ap (λ (z : List ℕ). digit_or stop (z ++ rest)) (sym t.1)
      ∙ ap (λ (b : Bool). cond b (Ok (None, rest)) (go_on (digit_of g) (length (g ∷ rest)) (λ d. Ok (Some d, rest)))) (ne_eqb g stop (λ s. none_some d (sym no_digit ∙ ap digit_of (sym s) ∙ is)))
      ∙ ap (λ (o : Option ℕ). go_on o (length (g ∷ rest)) (λ d. Ok (Some d, rest))) is

  or_takes_by : (c : ℕ) (cs : List ℕ) (a : Option ℕ) (rest : List ℕ) (b : Bool) → eqb c stop ≡ b → (o : Option ℕ) → digit_of c ≡ o
      → cond b (Ok (None, cs)) (go_on o (length (c ∷ cs)) (λ d. Ok (Some d, cs))) ≡ Ok (a, rest) → (s : List ℕ) × OrText a s × (s ++ rest ≡ c ∷ cs)
  or_takes_by c cs a rest true ec o is e =
      let same : ◌≡◌ {A = Option ℕ × List ℕ} (None, cs) (a, rest) = same_ok (None, cs) (a, rest) e in
      let first : c ≡ stop = eqb-true c stop ec in
      subst (λ (p : Option ℕ × List ℕ). (s : List ℕ) × OrText p.0 s × (s ++ p.1 ≡ c ∷ cs)) same (stop ∷ [], (tt, refl), (λ i. sym first i ∷ cs))
  or_takes_by c cs a rest false ec None is e = err_ok (a, rest) (length (c ∷ cs)) e
  or_takes_by c cs a rest false ec (Some d) is e =
      let same : ◌≡◌ {A = Option ℕ × List ℕ} (Some d, cs) (a, rest) = same_ok (Some d, cs) (a, rest) e in
      let known = digit_takes c d is in
      subst (λ (p : Option ℕ × List ℕ). (s : List ℕ) × OrText p.0 s × (s ++ p.1 ≡ c ∷ cs)) same (digit_glyph false d ∷ [], (known.0, refl), (λ i. sym known.1 i ∷ cs))

  or_begins_by : (c : ℕ) (cs : List ℕ) (left : ℕ) (b : Bool) (o : Option ℕ) → cond b (Ok (None, cs)) (go_on o (length (c ∷ cs)) (λ d. Ok (Some d, cs))) ≡ Err left → Begins OrText (c ∷ cs) left
  or_begins_by c cs left true o e = ok_err (None, cs) left e
  or_begins_by c cs left false None e =
      record { good = []; rest = c ∷ cs; parts = refl; count = sym (same_err (length (c ∷ cs)) left e); value = None; tail = stop ∷ []; text = (tt, refl) }
  or_begins_by c cs left false (Some d) e = ok_err (Some d, cs) left e

  or_local_by : (f : ℕ) (front cs ds : List ℕ) (left : ℕ) (b : Bool) (o : Option ℕ) → cond b (Ok (None, front ++ cs)) (go_on o (length (f ∷ front ++ cs)) (λ d. Ok (Some d, front ++ cs))) ≡ Err left
      → (m : ℕ) × (cond b (Ok (None, front ++ ds)) (go_on o (length (f ∷ front ++ ds)) (λ d. Ok (Some d, front ++ ds))) ≡ Err m) × (m + length cs ≡ left + length ds)
  or_local_by f front cs ds left true o e = ok_err (None, front ++ cs) left e
  or_local_by f front cs ds left false None e =
      let same = same_err (length (f ∷ front ++ cs)) left e in
      (length (f ∷ front ++ ds), refl, omega (arith, same, length-append front cs, length-append front ds))
  or_local_by f front cs ds left false (Some d) e = ok_err (Some d, front ++ cs) left e

  or_takes : (bytes : List ℕ) (a : Option ℕ) (rest : List ℕ) → digit_or stop bytes ≡ Ok (a, rest) → (s : List ℕ) × OrText a s × (s ++ rest ≡ bytes)
  unfolding digit_or
  or_takes [] a rest e = err_ok (a, rest) 0 e
  or_takes (c ∷ cs) a rest e = or_takes_by c cs a rest (eqb c stop) refl (digit_of c) refl e

  or_begins : (bytes : List ℕ) (left : ℕ) → digit_or stop bytes ≡ Err left → Begins OrText bytes left
  unfolding digit_or
  or_begins [] left e = record { good = []; rest = []; parts = refl; count = sym (same_err 0 left e); value = None; tail = stop ∷ []; text = (tt, refl) }
  or_begins (c ∷ cs) left e = or_begins_by c cs left (eqb c stop) (digit_of c) e

  or_local : (front cs ds : List ℕ) (left : ℕ) → digit_or stop (front ++ cs) ≡ Err left → length cs < left → (m : ℕ) × (digit_or stop (front ++ ds) ≡ Err m) × (m + length cs ≡ left + length ds)
  unfolding digit_or
  or_local [] cs ds left e h = let b = or_begins cs left e in absurd (omega (arith, b.count, ap length b.parts, length-append b.good b.rest))
  or_local (f ∷ front) cs ds left e h = or_local_by f front cs ds left (eqb f stop) (digit_of f) e

  pub digit_unless_exact : IsExact (digit_unless stop)
  digit_unless_exact = record { again = or_again; takes = or_takes; begins = or_begins; local = or_local; some = (None, stop ∷ [], (tt, refl)) }
