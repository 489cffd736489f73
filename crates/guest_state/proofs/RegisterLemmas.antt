-- Parts of one register.
use Rattle.std.proofs.Common.{◌≡◌, ℕ, ◌+◌, ◌-◌, ◌*◌, ◌/◌, ◌%◌, ◌^◌, ◌<◌, ◌≤◌, arith, ap, ◌∙◌, lit≤}
use Rattle.std.proofs.lemmas.Nat.{or_shifted, and_mask, mod_low, shr_high, mod_below, pow_pos}
use Rattle.std.proofs.lemmas.Nat.Bits.{and_high_mask}
use Rattle.std.specs.Prelude.{bit_and, bit_or}
use native.Mathlib.Nat.{mod-eq_of_lt}
use Rattle.guest_state.specs.declared.width.Width.{Width}
use Rattle.guest_state.specs.declared.width.Width.TheVariants.{W8, W16, W32, W64}
use Rattle.guest_state.specs.Register.{low_of, high_of, written, written_high}
use Rattle.guest_state.specs.Width.{bits}

-- the bits from k on stay, and v comes below them
pub kept_above : (k n v : ℕ) → k ≤ 64 → n < 2 ^ 64 → v < 2 ^ k → bit_or (bit_and n (2 ^ 64 - 2 ^ k)) v ≡ n / 2 ^ k * 2 ^ k + v
kept_above k n v h l m = ap (λ a. bit_or a v) (and_high_mask 64 k h n l) ∙ or_shifted (n / 2 ^ k) k v m

-- a byte between the bits above and the byte below
pub byte_between : (n v : ℕ) → n < 2 ^ 64 → v < 2 ^ 8 → bit_or (bit_or (bit_and n (2 ^ 64 - 2 ^ 16)) (v * 2 ^ 8 % 2 ^ 64)) (bit_and n (2 ^ 8 - 1)) ≡ written_high n v
unfolding written_high
byte_between n v l h =
    let small : v * 2 ^ 8 < 2 ^ 16 = omega arith in
    let whole : v * 2 ^ 8 % 2 ^ 64 ≡ v * 2 ^ 8 = mod-eq_of_lt (omega arith) in
    let upper : bit_or (bit_and n (2 ^ 64 - 2 ^ 16)) (v * 2 ^ 8 % 2 ^ 64) ≡ n / 2 ^ 16 * 2 ^ 16 + v * 2 ^ 8 =
    ap (bit_or (bit_and n (2 ^ 64 - 2 ^ 16))) whole ∙ kept_above 16 n (v * 2 ^ 8) (lit≤ tt) l small in
    let together : n / 2 ^ 16 * 2 ^ 16 + v * 2 ^ 8 ≡ (n / 2 ^ 16 * 2 ^ 8 + v) * 2 ^ 8 = omega arith in
    let lower = or_shifted (n / 2 ^ 16 * 2 ^ 8 + v) 8 (n % 2 ^ 8) (mod_below n (2 ^ 8) (pow_pos 8)) in
    ap (λ a. bit_or a (bit_and n (2 ^ 8 - 1))) (upper ∙ together) ∙ ap (bit_or ((n / 2 ^ 16 * 2 ^ 8 + v) * 2 ^ 8)) (and_mask n 8) ∙ lower ∙ omega arith

-- a read after a write
pub low-written : (w : Width) (n v : ℕ) → v < 2 ^ bits w → low_of w (written w n v) ≡ v
unfolding bits low_of written
low-written W8 n v h = mod_low (n / 2 ^ 8) 8 v h
low-written W16 n v h = mod_low (n / 2 ^ 16) 16 v h
low-written W32 n v h = mod-eq_of_lt h
low-written W64 n v h = mod-eq_of_lt h

pub high-written_high : (n v : ℕ) → v < 2 ^ 8 → high_of (written_high n v) ≡ v
unfolding high_of written_high
high-written_high n v h =
    let low : n % 2 ^ 8 < 2 ^ 8 = mod_below n (2 ^ 8) (pow_pos 8) in
    let together : n / 2 ^ 16 * 2 ^ 16 + v * 2 ^ 8 + n % 2 ^ 8 ≡ (n / 2 ^ 16 * 2 ^ 8 + v) * 2 ^ 8 + n % 2 ^ 8 = omega arith in
    ap (λ a. a / 2 ^ 8 % 2 ^ 8) together ∙ ap (λ a. a % 2 ^ 8) (shr_high (n / 2 ^ 16 * 2 ^ 8 + v) 8 (n % 2 ^ 8) low) ∙ mod_low (n / 2 ^ 16) 8 v h
