-- AND, OR, XOR and NOT (Intel SDM Volume 2) at w bits.
use Rattle.std.specs.Prelude.{ℕ, false, ◌-◌, ◌^◌, bit_and, bit_or, bit_xor}
use Rattle.x86_flags.specs.declared.flags.Flags.{Flags}
use Rattle.x86_flags.specs.Outcome.{Outcome, outcome}

unfoldable pub and_of : ℕ → ℕ → ℕ → Flags → Outcome
and_of w a b flags = outcome w (bit_and a b) false false

unfoldable pub or_of : ℕ → ℕ → ℕ → Flags → Outcome
or_of w a b flags = outcome w (bit_or a b) false false

unfoldable pub xor_of : ℕ → ℕ → ℕ → Flags → Outcome
xor_of w a b flags = outcome w (bit_xor a b) false false

-- all w bits turned, and no flag changes
unfoldable pub not_of : ℕ → ℕ → Flags → Outcome
not_of w a flags = record { value = 2 ^ w - 1 - a; flags = flags }
