-- Carries and overflows of sums and differences at w bits.
use Rattle.std.proofs.Common.{◌≡◌, ℕ, ◌+◌, ◌-◌, ◌^◌, ◌%◌, ◌<◌, ◌≤◌, Bool, true, false, arith, ap, sym, ◌∙◌, ℤ, pos, negsuc, neg_ℤ, leb, eqb, ◌+ℤ◌, ◌-ℤ◌, ⊎_elim}
use Rattle.std.proofs.lemmas.Int.{ints}
use Rattle.std.proofs.lemmas.Bool.{cases_lt, cases_eq, le-leb, lt-leb, eq-eqb, ne_eqb, false_from_ne_true}
use Rattle.std.proofs.lemmas.Nat.{mod_below, pow_pos}
use Rattle.std.specs.Prelude.{not, ◌&&◌}
use Rattle.std.specs.Bool.{beq}
use native.Mathlib.Nat.{mod-eq_of_lt, mod-eq-sub-mod}
use borrow.Author.Differences.{up, down}
use Rattle.x86_flags.specs.Numbers.{top_bit, signed, fits_signed, low_bits}
use Rattle.x86_flags.proofs.NumberLemmas.{fits-true, true-fits, pow_twice, signed_low, signed_high, top_bit_is, low_bits_is}

-- a number in the range, and one out of it
fine : (w : ℕ) (z : ℤ) → up z < down z + 2 ^ (w - 1) → down z ≤ up z + 2 ^ (w - 1) → false ≡ not (fits_signed w z)
fine w z p q = ap not (sym (true-fits w z p q))

over : (w : ℕ) (z : ℤ) → (up z < down z + 2 ^ (w - 1) → down z ≤ up z + 2 ^ (w - 1) → ⊥) → true ≡ not (fits_signed w z)
over w z f = ap not (sym (false_from_ne_true (fits_signed w z) (λ e. let h = fits-true w z e in f h.0 h.1)))

-- a total from 2 ^ w on, but below its double
pub mod_once : (t m : ℕ) → m ≤ t → t < m + m → t % m ≡ t - m
mod_once t m p q = mod-eq-sub-mod p ∙ mod-eq_of_lt (omega arith)

-- the signs of two numbers and of their sum tell whether the signed sum fits
module _ (w a b c : ℕ) (p : 0 < w) (ha : a < 2 ^ w) (hb : b < 2 ^ w) (hc : c ≤ 1) where
  abbrev half : ℕ
  half = 2 ^ (w - 1)

  abbrev Sum : Bool → Bool → Type 0
  Sum s t = (beq s t && not (beq (leb half ((a + b + c) % 2 ^ w)) s)) ≡ not (fits_signed w (signed w a +ℤ signed w b +ℤ pos c))

  two_low : a < half → b < half → Sum false false
  two_low la lb =
      let twice = pow_twice w p in
      let small : a + b + c < 2 ^ w = omega arith in
      rw (signed_low w a la, signed_low w b lb, mod-eq_of_lt small)
      (⊎_elim (λ l. rw (lt-leb half (a + b + c) l) (fine w (pos a +ℤ pos b +ℤ pos c) (omega (arith, ints)) (omega (arith, ints))))
      (λ l. rw (le-leb half (a + b + c) l) (over w (pos a +ℤ pos b +ℤ pos c) (λ h k. omega (arith, ints))))
      (cases_lt (a + b + c) half))

  two_high : half ≤ a → half ≤ b → Sum true true
  two_high la lb =
      let twice = pow_twice w p in
      let m = 2 ^ w in
      let z = negsuc (m - 1 - a) +ℤ negsuc (m - 1 - b) +ℤ pos c in
      rw (signed_high w a la, signed_high w b lb, mod_once (a + b + c) m (omega arith) (omega arith))
      (⊎_elim (λ l. rw (lt-leb half (a + b + c - m) l) (over w z (λ h k. omega (arith, ints))))
      (λ l. rw (le-leb half (a + b + c - m) l) (fine w z (omega (arith, ints)) (omega (arith, ints))))
      (cases_lt (a + b + c - m) half))

  low_high : a < half → half ≤ b → Sum false true
  low_high la lb =
      let twice = pow_twice w p in
      rw (signed_low w a la, signed_high w b lb) (fine w (pos a +ℤ negsuc (2 ^ w - 1 - b) +ℤ pos c) (omega (arith, ints)) (omega (arith, ints)))

  high_low : half ≤ a → b < half → Sum true false
  high_low la lb =
      let twice = pow_twice w p in
      rw (signed_high w a la, signed_low w b lb) (fine w (negsuc (2 ^ w - 1 - a) +ℤ pos b +ℤ pos c) (omega (arith, ints)) (omega (arith, ints)))

  pub sum_overflow : (beq (top_bit w a) (top_bit w b) && not (beq (top_bit w ((a + b + c) % 2 ^ w)) (top_bit w a))) ≡ not (fits_signed w (signed w a +ℤ signed w b +ℤ pos c))
  sum_overflow =
      rw (top_bit_is w a p ha, top_bit_is w b p hb, top_bit_is w ((a + b + c) % 2 ^ w) p (mod_below (a + b + c) (2 ^ w) (pow_pos w)))
      (⊎_elim (λ la. rw (lt-leb half a la) (⊎_elim (λ lb. rw (lt-leb half b lb) (two_low la lb)) (λ lb. rw (le-leb half b lb) (low_high la lb)) (cases_lt b half)))
      (λ la. rw (le-leb half a la) (⊎_elim (λ lb. rw (lt-leb half b lb) (high_low la lb)) (λ lb. rw (le-leb half b lb) (two_high la lb)) (cases_lt b half)))
      (cases_lt a half))

  -- and the signs of two numbers and of their difference
  abbrev Difference : Bool → Bool → Type 0
  Difference s t = (not (beq s t) && not (beq (leb half ((a + 2 ^ w - (b + c)) % 2 ^ w)) s)) ≡ not (fits_signed w (signed w a -ℤ signed w b -ℤ pos c))

  minus_low_low : a < half → b < half → Difference false false
  minus_low_low la lb =
      let twice = pow_twice w p in
      rw (signed_low w a la, signed_low w b lb) (fine w (pos a -ℤ pos b -ℤ pos c) (omega (arith, ints)) (omega (arith, ints)))

  minus_high_high : half ≤ a → half ≤ b → Difference true true
  minus_high_high la lb =
      let twice = pow_twice w p in
      rw (signed_high w a la, signed_high w b lb) (fine w (negsuc (2 ^ w - 1 - a) -ℤ negsuc (2 ^ w - 1 - b) -ℤ pos c) (omega (arith, ints)) (omega (arith, ints)))

  minus_low_high : a < half → half ≤ b → Difference false true
  minus_low_high la lb =
      let twice = pow_twice w p in
      let small : a + 2 ^ w - (b + c) < 2 ^ w = omega arith in
      let z = pos a -ℤ negsuc (2 ^ w - 1 - b) -ℤ pos c in
      rw (signed_low w a la, signed_high w b lb, mod-eq_of_lt small)
      (⊎_elim (λ l. rw (lt-leb half (a + 2 ^ w - (b + c)) l) (fine w z (omega (arith, ints)) (omega (arith, ints))))
      (λ l. rw (le-leb half (a + 2 ^ w - (b + c)) l) (over w z (λ h k. omega (arith, ints))))
      (cases_lt (a + 2 ^ w - (b + c)) half))

  minus_high_low : half ≤ a → b < half → Difference true false
  minus_high_low la lb =
      let twice = pow_twice w p in
      let m = 2 ^ w in
      let t = a + m - (b + c) in
      let z = negsuc (m - 1 - a) -ℤ pos b -ℤ pos c in
      rw (signed_high w a la, signed_low w b lb, mod_once t m (omega arith) (omega arith))
      (⊎_elim (λ l. rw (lt-leb half (t - m) l) (over w z (λ h k. omega (arith, ints))))
      (λ l. rw (le-leb half (t - m) l) (fine w z (omega (arith, ints)) (omega (arith, ints))))
      (cases_lt (t - m) half))

  pub difference_overflow : (not (beq (top_bit w a) (top_bit w b)) && not (beq (top_bit w ((a + 2 ^ w - (b + c)) % 2 ^ w)) (top_bit w a))) ≡ not (fits_signed w (signed w a -ℤ signed w b -ℤ pos c))
  difference_overflow =
      rw (top_bit_is w a p ha, top_bit_is w b p hb, top_bit_is w ((a + 2 ^ w - (b + c)) % 2 ^ w) p (mod_below (a + 2 ^ w - (b + c)) (2 ^ w) (pow_pos w)))
      (⊎_elim (λ la. rw (lt-leb half a la) (⊎_elim (λ lb. rw (lt-leb half b lb) (minus_low_low la lb)) (λ lb. rw (le-leb half b lb) (minus_low_high la lb)) (cases_lt b half)))
      (λ la. rw (le-leb half a la) (⊎_elim (λ lb. rw (lt-leb half b lb) (minus_high_low la lb)) (λ lb. rw (le-leb half b lb) (minus_high_high la lb)) (cases_lt b half)))
      (cases_lt a half))

-- a difference modulo 2 ^ w
pub difference_low : (w a b c : ℕ) → b + c ≤ 2 ^ w → (a + 2 ^ w - (b + c)) % 2 ^ w ≡ low_bits w (pos a -ℤ pos b -ℤ pos c)
difference_low w a b c h = sym (low_bits_is w (pos a -ℤ pos b -ℤ pos c) 1 (a + 2 ^ w - (b + c)) (omega (arith, ints)))

pub negation_low : (w a : ℕ) → a ≤ 2 ^ w → (2 ^ w - a) % 2 ^ w ≡ low_bits w (neg_ℤ (pos a))
negation_low w a h = sym (low_bits_is w (neg_ℤ (pos a)) 1 (2 ^ w - a) (omega (arith, ints)))

-- the least signed number is the one whose negation doesn't fit
pub negation_overflow : (w a : ℕ) → 0 < w → a < 2 ^ w → eqb a (2 ^ (w - 1)) ≡ not (fits_signed w (neg_ℤ (signed w a)))
negation_overflow w a p h =
    let twice = pow_twice w p in
    let half = 2 ^ (w - 1) in
    ⊎_elim (λ l. rw (signed_low w a l, ne_eqb a half (λ e. omega arith)) (fine w (neg_ℤ (pos a)) (omega (arith, ints)) (omega (arith, ints))))
    (λ l. rw (signed_high w a l) (⊎_elim (λ e. rw (eq-eqb a half e) (over w (neg_ℤ (negsuc (2 ^ w - 1 - a))) (λ g k. omega (arith, ints))))
    (λ e. rw (ne_eqb a half e) (fine w (neg_ℤ (negsuc (2 ^ w - 1 - a))) (omega (arith, ints)) (omega (arith, ints))))
    (cases_eq a half)))
    (cases_lt a half)
