-- A number of fewer bits as the same signed number in more.
use Rattle.std.proofs.Common.{◌≡◌, ℕ, suc, ◌+◌, ◌-◌, ◌*◌, ◌%◌, ◌^◌, ◌<◌, ◌≤◌, arith, ap, sym, ◌∙◌, pos, negsuc, lit≤}
use Rattle.std.proofs.lemmas.Int.{ints}
use native.Mathlib.Nat.{mod-eq_of_lt, pow-le-pow_right}
use Rattle.ir_syntax.specs.declared.width.Width.{Width}
use Rattle.ir_syntax.specs.declared.width.Width.TheVariants.{W8, W16, W32, W64}
use Rattle.ir_syntax.specs.Width.{bits_of}
use Rattle.x86_flags.specs.Numbers.{signed, low_bits}
use Rattle.x86_flags.proofs.NumberLemmas.{pow_twice, signed_low, signed_high, low_bits_is}

pub extended_low : (from w a : ℕ) → a < 2 ^ (from - 1) → 0 < from → a < 2 ^ from → from < w → a ≡ low_bits w (signed from a)
extended_low from w a h p l m =
    let less : from ≤ w = omega arith in
    let range : 2 ^ from ≤ 2 ^ w = pow-le-pow_right (lit≤ tt) less in
    sym (ap (low_bits w) (signed_low from a h) ∙ low_bits_is w (pos a) 0 a (omega (arith, ints)) ∙ mod-eq_of_lt (omega arith))

pub extended_high : (from w a : ℕ) → 2 ^ (from - 1) ≤ a → 0 < from → a < 2 ^ from → from < w → a + (2 ^ w - 1 - (2 ^ (from - 1) - 1) - 2 ^ (from - 1)) ≡ low_bits w (signed from a)
extended_high from w a h p l m =
    let less : from ≤ w = omega arith in
    let range : 2 ^ from ≤ 2 ^ w = pow-le-pow_right (lit≤ tt) less in
    let twice = pow_twice from p in
    let n = 2 ^ w - suc (2 ^ from - 1 - a) in
    let same : a + (2 ^ w - 1 - (2 ^ (from - 1) - 1) - 2 ^ (from - 1)) ≡ n = omega arith in
    let small : n < 2 ^ w = omega arith in
    same ∙ sym (ap (low_bits w) (signed_high from a h) ∙ low_bits_is w (negsuc (2 ^ from - 1 - a)) 1 n (omega (arith, ints)) ∙ mod-eq_of_lt small)

pub power_fits : (k : ℕ) → k < 64 → 1 * 2 ^ k % 2 ^ 64 ≡ 2 ^ k
power_fits k h =
    let less : k ≤ 63 = omega arith in
    let range : 2 ^ k ≤ 2 ^ 63 = pow-le-pow_right (lit≤ tt) less in
    let one : 1 * 2 ^ k ≡ 2 ^ k = omega arith in
    ap (λ n. n % 2 ^ 64) one ∙ mod-eq_of_lt (omega arith)

pub bits_le : (w : Width) → bits_of w ≤ 64
bits_le W8 = lit≤ tt
bits_le W16 = lit≤ tt
bits_le W32 = lit≤ tt
bits_le W64 = lit≤ tt
