-- SHL, SHR and SAR (Intel SDM Volume 2) at w bits. A flag that the manual leaves undefined is 0.
use Rattle.std.specs.Prelude.{ℕ, pos, Bool, false, ◌-◌, ◌*◌, ◌/◌, ◌%◌, ◌^◌, min, ◌==◌, ◌&&◌, nat_lt, if◌then◌else◌}
use Rattle.std.specs.Int.{int_div_euclid}
use Rattle.x86_flags.specs.declared.flags.Flags.{Flags}
use Rattle.x86_flags.specs.Numbers.{bit, top_bit, differ, signed, low_bits}
use Rattle.x86_flags.specs.Outcome.{Outcome, outcome, unless_zero}

-- the part of a count that is used: 6 bits of it at 64 bits, else 5
unfoldable pub count_of : ℕ → ℕ → ℕ
count_of w count = if w == 64 then count % 64 else count % 32

-- the last bit that a shift to the left by n moves out of w bits
unfoldable pub out_left : ℕ → ℕ → ℕ → Bool
out_left w a n = nat_lt n w && bit a (w - n)

-- the last bit that a shift to the right by n moves out of w bits
unfoldable pub out_right : ℕ → ℕ → ℕ → Bool
out_right w a n = nat_lt n w && bit a (n - 1)

-- a * 2 ^ n
unfoldable pub shl_by : ℕ → ℕ → ℕ → Outcome
shl_by w a n =
    let value = a * 2 ^ n % 2 ^ w in
    outcome w value (out_left w a n) (n == 1 && differ (top_bit w value) (out_left w a n))

-- a / 2 ^ n
unfoldable pub shr_by : ℕ → ℕ → ℕ → Outcome
shr_by w a n = outcome w (a / 2 ^ n) (out_right w a n) (n == 1 && top_bit w a)

-- the signed number divided by 2 ^ n and rounded down; its sign is moved out by each count past the width
unfoldable pub sar_by : ℕ → ℕ → ℕ → Outcome
sar_by w a n = outcome w (low_bits w (int_div_euclid (signed w a) (pos (2 ^ n)))) (bit a (min (n - 1) (w - 1))) false

unfoldable pub shl_of : ℕ → ℕ → ℕ → Flags → Outcome
shl_of w a count flags = unless_zero (count_of w count) a flags (shl_by w a (count_of w count))

unfoldable pub shr_of : ℕ → ℕ → ℕ → Flags → Outcome
shr_of w a count flags = unless_zero (count_of w count) a flags (shr_by w a (count_of w count))

unfoldable pub sar_of : ℕ → ℕ → ℕ → Flags → Outcome
sar_of w a count flags = unless_zero (count_of w count) a flags (sar_by w a (count_of w count))
