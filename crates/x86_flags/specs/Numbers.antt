-- What w bits mean, for any number of bits w.
use Rattle.std.specs.Prelude.{ℕ, ℤ, pos, negsuc, Bool, not, ◌-◌, ◌%◌, ◌^◌, ◌==◌, nat_lt, if◌then◌else◌, unsigned_abs, count_ones}
use Rattle.std.specs.Bool.{beq}
use Rattle.std.specs.Int.{int_rem_euclid, bit_at}

-- whether bit i of a number is 1
unfoldable pub bit : ℕ → ℕ → Bool
bit a i = bit_at a i == 1

-- the bit with the highest place of w bits, which is their sign
unfoldable pub top_bit : ℕ → ℕ → Bool
top_bit w a = bit a (w - 1)

-- exclusive or
abbrev pub differ : Bool → Bool → Bool
differ s t = not (beq s t)

-- the number that w bits mean in two's complement: with the top bit set it is -(n + 1), where n has all bits turned
unfoldable pub signed : ℕ → ℕ → ℤ
signed w a = if nat_lt a (2 ^ (w - 1)) then pos a else negsuc (2 ^ w - 1 - a)

-- whether a number is from -2 ^ (w - 1) to 2 ^ (w - 1) - 1, so that w bits can mean it
unfoldable pub fits_signed : ℕ → ℤ → Bool
fits_signed w (pos n) = nat_lt n (2 ^ (w - 1))
fits_signed w (negsuc n) = nat_lt n (2 ^ (w - 1))

-- whether a signed result is out of that range
abbrev pub overflows : ℕ → ℤ → Bool
overflows w z = not (fits_signed w z)

-- a number modulo 2 ^ w
unfoldable pub low_bits : ℕ → ℤ → ℕ
low_bits w z = unsigned_abs (int_rem_euclid z (pos (2 ^ w)))

-- whether the low byte has an even number of ones
unfoldable pub even_parity : ℕ → Bool
even_parity a = count_ones (a % 256) % 2 == 0
