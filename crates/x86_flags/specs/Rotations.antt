-- ROL and ROR (Intel SDM Volume 2) at w bits, 32 or 64. The overflow flag, undefined past a count of 1, is 0 there.
use Rattle.std.specs.Prelude.{ℕ, Bool, ◌+◌, ◌-◌, ◌*◌, ◌/◌, ◌%◌, ◌^◌, ◌==◌, ◌&&◌}
use Rattle.x86_flags.specs.declared.flags.Flags.{Flags}
use Rattle.x86_flags.specs.Numbers.{bit, top_bit, differ}
use Rattle.x86_flags.specs.Outcome.{Outcome, unless_zero}
use Rattle.x86_flags.specs.Shifts.{count_of}

-- w bits turned right by n: the n lowest become the n highest
unfoldable pub turned_right : ℕ → ℕ → ℕ → ℕ
turned_right w a n = a % 2 ^ n * 2 ^ (w - n) + a / 2 ^ n

-- w bits turned left by n: the n highest become the n lowest
unfoldable pub turned_left : ℕ → ℕ → ℕ → ℕ
turned_left w a n = a % 2 ^ (w - n) * 2 ^ n + a / 2 ^ (w - n)

-- a turned number: the parity, zero and sign flags stay
unfoldable pub turned : ℕ → Flags → Bool → Bool → Outcome
turned value flags carry overflow = record { value = value; flags = record flags { cf = carry; of = overflow } }

-- the carry is the bit that came in at the bottom
unfoldable pub rol_by : ℕ → ℕ → ℕ → Flags → Outcome
rol_by w a n flags =
    let value = turned_left w a n in
    turned value flags (bit value 0) (n == 1 && differ (top_bit w value) (bit value 0))

-- the carry is the bit that came in at the top
unfoldable pub ror_by : ℕ → ℕ → ℕ → Flags → Outcome
ror_by w a n flags =
    let value = turned_right w a n in
    turned value flags (top_bit w value) (n == 1 && differ (top_bit w value) (bit value (w - 2)))

unfoldable pub rol_of : ℕ → ℕ → ℕ → Flags → Outcome
rol_of w a count flags = unless_zero (count_of w count) a flags (rol_by w a (count_of w count) flags)

unfoldable pub ror_of : ℕ → ℕ → ℕ → Flags → Outcome
ror_of w a count flags = unless_zero (count_of w count) a flags (ror_by w a (count_of w count) flags)
