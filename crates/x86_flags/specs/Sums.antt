-- ADD, ADC, INC, SUB, SBB, DEC and NEG (Intel SDM Volume 2) at w bits.
use Rattle.std.specs.Prelude.{ℕ, pos, neg_ℤ, not, ◌+◌, ◌%◌, ◌^◌, ◌==◌, nat_lt, nat_le, ◌+ℤ◌, ◌-ℤ◌}
use Rattle.std.specs.Int.{from_bool}
use Rattle.x86_flags.specs.declared.flags.Flags.{Flags}
use Rattle.x86_flags.specs.Numbers.{signed, overflows, low_bits}
use Rattle.x86_flags.specs.Outcome.{Outcome, outcome, with_carry_of}

-- a + b + c, where c is a carry: it goes out where the sum without modulus is 2 ^ w or more
unfoldable pub sum_of : ℕ → ℕ → ℕ → ℕ → Outcome
sum_of w a b c =
    outcome w ((a + b + c) % 2 ^ w) (nat_le (2 ^ w) (a + b + c)) (overflows w (signed w a +ℤ signed w b +ℤ pos c))

-- a - b - c, where c is a borrow: one goes out where a is below b + c
unfoldable pub difference_of : ℕ → ℕ → ℕ → ℕ → Outcome
difference_of w a b c =
    outcome w (low_bits w (pos a -ℤ pos b -ℤ pos c)) (nat_lt a (b + c)) (overflows w (signed w a -ℤ signed w b -ℤ pos c))

unfoldable pub add_of : ℕ → ℕ → ℕ → Flags → Outcome
add_of w a b flags = sum_of w a b 0

unfoldable pub adc_of : ℕ → ℕ → ℕ → Flags → Outcome
adc_of w a b flags = sum_of w a b (from_bool flags.cf)

unfoldable pub inc_of : ℕ → ℕ → Flags → Outcome
inc_of w a flags = with_carry_of flags (sum_of w a 1 0)

unfoldable pub sub_of : ℕ → ℕ → ℕ → Flags → Outcome
sub_of w a b flags = difference_of w a b 0

unfoldable pub sbb_of : ℕ → ℕ → ℕ → Flags → Outcome
sbb_of w a b flags = difference_of w a b (from_bool flags.cf)

unfoldable pub dec_of : ℕ → ℕ → Flags → Outcome
dec_of w a flags = with_carry_of flags (difference_of w a 1 0)

-- the carry says that the operand isn't 0; -a overflows at the least signed number alone
unfoldable pub neg_of : ℕ → ℕ → Flags → Outcome
neg_of w a flags = outcome w (low_bits w (neg_ℤ (pos a))) (not (a == 0)) (overflows w (neg_ℤ (signed w a)))
