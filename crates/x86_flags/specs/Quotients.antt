-- DIV and IDIV (Intel SDM Volume 2) at w bits: the dividend has 2 * w bits, in two halves.
use Rattle.std.specs.Prelude.{ℕ, Option, Some, None, ◌+◌, ◌*◌, ◌/◌, ◌%◌, ◌^◌, ◌==◌, ◌||◌, nat_le, if◌then◌else◌, int_div, int_rem}
use Rattle.x86_flags.specs.Numbers.{signed, overflows, low_bits}

-- the number of 2 * w bits with these halves
unfoldable pub joined : ℕ → ℕ → ℕ → ℕ
joined w high low = high * 2 ^ w + low

-- quotient and remainder; none (#DE) where the divisor is 0 or w bits are too few for the quotient
unfoldable pub udiv_of : ℕ → ℕ → ℕ → ℕ → Option (ℕ × ℕ)
udiv_of w high low by =
    let dividend = joined w high low in
    if by == 0 || nat_le (2 ^ w) (dividend / by) then None else Some (dividend / by, dividend % by)

-- the same of signed numbers: the quotient is rounded toward 0, and the remainder has the dividend's sign
unfoldable pub sdiv_of : ℕ → ℕ → ℕ → ℕ → Option (ℕ × ℕ)
sdiv_of w high low by =
    let dividend = signed (w + w) (joined w high low) in
    let quotient = int_div dividend (signed w by) in
    if by == 0 || overflows w quotient then None else Some (low_bits w quotient, low_bits w (int_rem dividend (signed w by)))
