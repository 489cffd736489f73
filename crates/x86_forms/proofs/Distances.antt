-- The numbers that bytes of an instruction make are within their limits.
use Rattle.std.proofs.Common.{◌≡◌, ℕ, suc, ◌-◌, ◌^◌, ◌<◌, pos, negsuc, true, List, [], ◌∷◌, length, take, arith}
use Rattle.std.specs.Prelude.{nat_le, nat_lt}
use Rattle.std.specs.Int.{w8, w16, w32, w64, cast_signed}
use Rattle.std.proofs.lemmas.Bool.{and_parts, leb-true, ltb-true, ltb-false, cond_both}
use Rattle.x86_forms.specs.Operands.{byte, unsigned, signed, displacement}
use Rattle.x86_forms.specs.Spelling.{are_bytes}
use Rattle.x86_forms.specs.Limits.{IsDistance}

pub byte_below : (a : List ℕ) → are_bytes a ≡ true → byte a < 256
byte_below [] h = omega arith
byte_below (b ∷ bs) h = ltb-true b 256 (and_parts (nat_lt b 256) (are_bytes bs) h).0

others : (b : ℕ) (bs : List ℕ) → are_bytes (b ∷ bs) ≡ true → are_bytes bs ≡ true
others b bs h = (and_parts (nat_lt b 256) (are_bytes bs) h).1

-- two bytes at most
pub two_bytes_below : (a : List ℕ) → are_bytes a ≡ true → unsigned (take 2 a) < 2 ^ 16
two_bytes_below [] h = omega arith
two_bytes_below (a ∷ []) h = omega (arith, byte_below (a ∷ []) h)
two_bytes_below (a ∷ b ∷ bs) h = omega (arith, byte_below (a ∷ b ∷ bs) h, byte_below (b ∷ bs) (others a (b ∷ bs) h))

-- ---- signed numbers

of_byte : (n : ℕ) → IsDistance (cast_signed w8 n)
of_byte n = cond_both (nat_lt n 128) (pos n) (negsuc (256 - suc n)) IsDistance (λ t. omega (arith, ltb-true n 128 t)) (λ f. omega arith)

of_two : (n : ℕ) → IsDistance (cast_signed w16 n)
of_two n = cond_both (nat_lt n 32768) (pos n) (negsuc (65536 - suc n)) IsDistance (λ t. omega (arith, ltb-true n 32768 t)) (λ f. omega arith)

of_four : (n : ℕ) → IsDistance (cast_signed w32 n)
of_four n = cond_both (nat_lt n 2147483648) (pos n) (negsuc (4294967296 - suc n)) IsDistance (λ t. omega (arith, ltb-true n 2147483648 t)) (λ f. omega (arith, ltb-false n 2147483648 f))

of_few : (n : ℕ) → n < 16777216 → IsDistance (cast_signed w64 n)
of_few n h = cond_both (nat_lt n 9223372036854775808) (pos n) (negsuc (18446744073709551616 - suc n)) IsDistance (λ t. omega (arith, h)) (λ f. absurd (omega (arith, h, ltb-false n 9223372036854775808 f)))

pub is_distance : (bs : List ℕ) → are_bytes bs ≡ true → IsDistance (displacement bs)
unfolding displacement signed
is_distance [] h = omega arith
is_distance (a ∷ []) h = of_byte (unsigned (a ∷ []))
is_distance (a ∷ b ∷ []) h = of_two (unsigned (a ∷ b ∷ []))
is_distance (a ∷ b ∷ c ∷ []) h =
    let x = byte_below (a ∷ b ∷ c ∷ []) h in
    let t = others a (b ∷ c ∷ []) h in
    let y = byte_below (b ∷ c ∷ []) t in
    let z = byte_below (c ∷ []) (others b (c ∷ []) t) in
    of_few (unsigned (a ∷ b ∷ c ∷ [])) (omega (arith, x, y, z))
is_distance (a ∷ b ∷ c ∷ d ∷ []) h = of_four (unsigned (a ∷ b ∷ c ∷ d ∷ []))
is_distance (a ∷ b ∷ c ∷ d ∷ e ∷ bs) h =
    cond_both (nat_le (length (a ∷ b ∷ c ∷ d ∷ e ∷ bs)) 4) (signed (a ∷ b ∷ c ∷ d ∷ e ∷ bs)) (pos 0) IsDistance (λ t. absurd (omega (arith, leb-true (length (a ∷ b ∷ c ∷ d ∷ e ∷ bs)) 4 t))) (λ f. omega arith)
