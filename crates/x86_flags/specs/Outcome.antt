-- What an instruction leaves.
use Rattle.std.specs.Prelude.{ℕ, Bool, ◌==◌, if◌then◌else◌}
use Rattle.x86_flags.specs.declared.flags.Flags.{Flags}
use Rattle.x86_flags.specs.Numbers.{even_parity, top_bit}

-- a result, and the five flags after it
pub record Outcome : Type 0 where
  pub value : ℕ
  pub flags : Flags

-- the flags by a result of w bits: its parity, whether it is 0, and its sign, beside a carry and an overflow
unfoldable pub status : ℕ → ℕ → Bool → Bool → Flags
status w result carry overflow =
    record { cf = carry; pf = even_parity result; zf = result == 0; sf = top_bit w result; of = overflow }

-- a result with its flags
unfoldable pub outcome : ℕ → ℕ → Bool → Bool → Outcome
outcome w result carry overflow = record { value = result; flags = status w result carry overflow }

-- the same outcome, but with the carry flag of before
unfoldable pub with_carry_of : Flags → Outcome → Outcome
with_carry_of flags o = record { value = o.value; flags = record o.flags { cf = flags.cf } }

-- a count of 0 leaves the operand and every flag
unfoldable pub unless_zero : ℕ → ℕ → Flags → Outcome → Outcome
unless_zero n a flags o = if n == 0 then record { value = a; flags = flags } else o
