-- Products and quotients of w bits, computed in 128.
use Rattle.std.proofs.Common.{◌≡◌, ℕ, suc, ◌+◌, ◌-◌, ◌*◌, ◌/◌, ◌%◌, ◌^◌, ◌<◌, ◌≤◌, arith, ap, sym, ◌∙◌, ℤ, pos, negsuc, eqb}
use Rattle.std.proofs.lemmas.Int.{ints, to_z-of_z}
use Rattle.std.proofs.lemmas.Bool.Decides.{Decides-int_eq}
use Rattle.std.specs.Ordering.{int_eq}
use Rattle.std.proofs.lemmas.Bool.{eqb-true, eq-eqb}
use Rattle.std.proofs.lemmas.Nat.{pow-add, field_of, mod_below, div-add-mod'}
use Rattle.std.specs.Prelude.{FitsSigned}
use Rattle.std.specs.Int.{w128, cast_unsigned, cast_signed}
use native.Mathlib.Nat.{div-eq_of_lt}
use Rattle.x86_flags.specs.Numbers.{low_bits}
use Rattle.x86_flags.proofs.NumberLemmas.{same_test, low_bits_is}

-- the upper half is 0 just where the whole is its lower half
pub high_zero : (p m : ℕ) → 0 < m → eqb (p / m) 0 ≡ eqb p (p % m)
high_zero p m h =
    same_test (eqb (p / m) 0) (eqb p (p % m))
    (λ e. let zero = ap (λ k. k * m) (eqb-true (p / m) 0 e) in eq-eqb p (p % m) (omega (arith, div-add-mod' p m)))
    (λ e. let same = eqb-true p (p % m) e in let small : p < m = omega (arith, mod_below p m h) in eq-eqb (p / m) 0 (div-eq_of_lt small))

-- the bits of a number of 128 bits, modulo 2 ^ w
pub low_bits_wide : (w : ℕ) (z : ℤ) → w ≤ 128 → FitsSigned w128 z → low_bits w z ≡ cast_unsigned w128 z % 2 ^ w
low_bits_wide w (pos n) h f = low_bits_is w (pos n) 0 n (omega (arith, ints))
low_bits_wide w (negsuc n) h f =
    let whole : 128 ≡ (128 - w) + w = omega arith in
    let range : 2 ^ 128 ≡ 2 ^ (128 - w) * 2 ^ w = ap (λ k. 2 ^ k) whole ∙ pow-add 2 (128 - w) w in
    let small : n < 2 ^ 127 = f.sfits in
    low_bits_is w (negsuc n) (2 ^ (128 - w)) (2 ^ 128 - suc n) (omega (arith, ints))

-- the upper half of 2 * w bits
pub high_bits_wide : (w : ℕ) (z : ℤ) → w ≤ 64 → FitsSigned w128 z → low_bits (w + w) z / 2 ^ w ≡ cast_unsigned w128 z / 2 ^ w % 2 ^ w
high_bits_wide w z h f = ap (λ n. n / 2 ^ w) (low_bits_wide (w + w) z (omega arith) f) ∙ field_of (cast_unsigned w128 z) w w

-- two numbers of 128 bits are equal just where their bits are
pub same_bits : (a b : ℤ) → FitsSigned w128 a → FitsSigned w128 b → eqb (cast_unsigned w128 a) (cast_unsigned w128 b) ≡ int_eq a b
same_bits a b f g =
    same_test (eqb (cast_unsigned w128 a) (cast_unsigned w128 b)) (int_eq a b)
    (λ e. let same = eqb-true (cast_unsigned w128 a) (cast_unsigned w128 b) e in
    (Decides-int_eq a b).1 (sym (to_z-of_z w128 a f) ∙ ap (cast_signed w128) same ∙ to_z-of_z w128 b g))
    (λ e. eq-eqb (cast_unsigned w128 a) (cast_unsigned w128 b) (ap (cast_unsigned w128) ((Decides-int_eq a b).0 e)))

-- the low bits of a number as the code takes them
pub low_code : (w : ℕ) (z y : ℤ) (n m : ℕ) → w ≤ 128 → FitsSigned w128 z → n ≡ m % 2 ^ w → m ≡ cast_unsigned w128 y → y ≡ z → n ≡ low_bits w z
low_code w z y n m h f e g k = e ∙ ap (λ i. i % 2 ^ w) (g ∙ ap (cast_unsigned w128) k) ∙ sym (low_bits_wide w z h f)
