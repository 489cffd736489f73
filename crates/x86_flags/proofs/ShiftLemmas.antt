-- Shifts and rotations of w bits.
use Rattle.std.proofs.Common.{◌≡◌, ℕ, ◌+◌, ◌-◌, ◌*◌, ◌/◌, ◌%◌, ◌^◌, ◌<◌, ◌≤◌, arith, ap, sym, subst, add-zero, ◌∙◌, pos, negsuc}
use Rattle.std.proofs.lemmas.Int.{ints}
use Rattle.std.proofs.lemmas.Nat.{mod-pow-add, shl-shr, shl_whole, or_shifted, shr_below, shr_le, mul-add-lt, mod_below, pow_pos, pow-add, mod_low}
use Rattle.std.specs.Prelude.{bit_or}
use Rattle.std.specs.Int.{int_div_euclid}
use native.Mathlib.Nat.{mod-eq_of_lt}
use Rattle.x86_flags.specs.Numbers.{signed, low_bits}
use Rattle.x86_flags.specs.Rotations.{turned_left, turned_right}
use Rattle.x86_flags.proofs.NumberLemmas.{pow_twice, signed_low, signed_high, low_bits_is}

-- the code shifts in 128 bits
pub shl_wide : (w a n : ℕ) → a < 2 ^ 64 → n < 64 → a * 2 ^ n % 2 ^ 128 % 2 ^ w ≡ a * 2 ^ n % 2 ^ w
shl_wide w a n h k = ap (λ m. m % 2 ^ w) (shl_whole a 64 n 128 h (omega arith))

-- a number that isn't negative, rounded down
pub floor_low : (w a n : ℕ) → 0 < w → a < 2 ^ (w - 1) → a / 2 ^ n ≡ low_bits w (int_div_euclid (signed w a) (pos (2 ^ n)))
floor_low w a n p l =
    let twice = pow_twice w p in
    let q = a / 2 ^ n in
    let small : q < 2 ^ w = omega (arith, shr_le a n) in
    rw (signed_low w a l) (sym (low_bits_is w (pos q) 0 q (omega (arith, ints)) ∙ mod-eq_of_lt small))

-- and a negative one
pub floor_high : (w a n : ℕ) → 0 < w → 2 ^ (w - 1) ≤ a → a < 2 ^ w → (2 ^ w - 1) - (2 ^ w - 1 - a) / 2 ^ n ≡ low_bits w (int_div_euclid (signed w a) (pos (2 ^ n)))
floor_high w a n p l h =
    let q = (2 ^ w - 1 - a) / 2 ^ n in
    let near : q ≤ 2 ^ w - 1 - a = shr_le (2 ^ w - 1 - a) n in
    let small : 2 ^ w - 1 - q < 2 ^ w = omega arith in
    rw (signed_high w a l) (sym (low_bits_is w (negsuc q) 1 (2 ^ w - 1 - q) (omega (arith, ints)) ∙ mod-eq_of_lt small))

-- what goes past the top is cut off
cut_left : (w a n : ℕ) → n ≤ w → a * 2 ^ n % 2 ^ w ≡ a % 2 ^ (w - n) * 2 ^ n
cut_left w a n h =
    let whole : w ≡ (w - n) + n = omega arith in
    let none : a * 2 ^ n % 2 ^ n ≡ 0 = ap (λ m. m % 2 ^ n) (sym (add-zero (a * 2 ^ n))) ∙ mod_low a n 0 (pow_pos n) in
    ap (λ k. a * 2 ^ n % 2 ^ k) whole ∙ mod-pow-add (a * 2 ^ n) (w - n) n ∙ rw (shl-shr a n, none) (add-zero (a % 2 ^ (w - n) * 2 ^ n))

pub turned_left_is : (w a n : ℕ) → n ≤ w → a < 2 ^ w → bit_or (a * 2 ^ n % 2 ^ w) (a / 2 ^ (w - n)) ≡ turned_left w a n
unfolding turned_left
turned_left_is w a n h l =
    let whole : w ≡ n + (w - n) = omega arith in
    let wide : a < 2 ^ (n + (w - n)) = subst (λ (k : ℕ). a < 2 ^ k) whole l in
    ap (λ m. bit_or m (a / 2 ^ (w - n))) (cut_left w a n h) ∙ or_shifted (a % 2 ^ (w - n)) n (a / 2 ^ (w - n)) (shr_below a n (w - n) wide)

pub turned_left_lt : (w a n : ℕ) → n ≤ w → a < 2 ^ w → turned_left w a n < 2 ^ w
unfolding turned_left
turned_left_lt w a n h l =
    let whole : w ≡ n + (w - n) = omega arith in
    let wide : a < 2 ^ (n + (w - n)) = subst (λ (k : ℕ). a < 2 ^ k) whole l in
    let range : 2 ^ w ≡ 2 ^ n * 2 ^ (w - n) = ap (λ k. 2 ^ k) whole ∙ pow-add 2 n (w - n) in
    rw range (mul-add-lt (a % 2 ^ (w - n)) (2 ^ n) (a / 2 ^ (w - n)) (2 ^ (w - n)) (mod_below a (2 ^ (w - n)) (pow_pos (w - n))) (shr_below a n (w - n) wide))

-- to the right by n is to the left by the rest
pub right_is_left : (w a n : ℕ) → n ≤ w → turned_left w a (w - n) ≡ turned_right w a n
unfolding turned_left turned_right
right_is_left w a n h =
    let rest : w - (w - n) ≡ n = omega arith in
    ap (λ k. a % 2 ^ k * 2 ^ (w - n) + a / 2 ^ k) rest

pub turned_right_is : (w a n : ℕ) → n ≤ w → a < 2 ^ w → bit_or (a * 2 ^ (w - n) % 2 ^ w) (a / 2 ^ n) ≡ turned_right w a n
turned_right_is w a n h l =
    let rest : w - (w - n) ≡ n = omega arith in
    ap (λ k. bit_or (a * 2 ^ (w - n) % 2 ^ w) (a / 2 ^ k)) (sym rest) ∙ turned_left_is w a (w - n) (omega arith) l ∙ right_is_left w a n h

pub turned_right_lt : (w a n : ℕ) → n ≤ w → a < 2 ^ w → turned_right w a n < 2 ^ w
turned_right_lt w a n h l = subst (λ (k : ℕ). k < 2 ^ w) (right_is_left w a n h) (turned_left_lt w a (w - n) (omega arith) l)
