-- What each family computes from operands of n bits: its result, and the flags after it.
use Rattle.std.specs.Prelude.{ℕ, ◌<◌, ◌≤◌, ◌^◌}
use Rattle.ir_syntax.specs.declared.line.Family.{Family}
use Rattle.ir_syntax.specs.declared.line.Family.TheVariants.{Add, Adc, Sub, Sbb, And, Or, Xor, Shl, Shr, Sar, Rol, Ror, Mul, Umulh, Smulh, Umul, Smul, Inc, Dec, Neg, Not}
use Rattle.x86_flags.specs.declared.flags.Flags.{Flags}
use Rattle.x86_flags.specs.Bitwise.{and_of, or_of, xor_of, not_of}
use Rattle.x86_flags.specs.Products.{umul_of, smul_of}
use Rattle.x86_flags.specs.Rotations.{rol_of, ror_of}
use Rattle.x86_flags.specs.Shifts.{shl_of, shr_of, sar_of}
use Rattle.x86_flags.specs.Sums.{add_of, adc_of, inc_of, sub_of, sbb_of, dec_of, neg_of}

-- the result on a and b; mul is the low half of a product, umulh and smulh the high half
abbrev pub result_of : Family → ℕ → ℕ → ℕ → Flags → ℕ
result_of Add n a b flags = (add_of n a b flags).value
result_of Adc n a b flags = (adc_of n a b flags).value
result_of Sub n a b flags = (sub_of n a b flags).value
result_of Sbb n a b flags = (sbb_of n a b flags).value
result_of And n a b flags = (and_of n a b flags).value
result_of Or n a b flags = (or_of n a b flags).value
result_of Xor n a b flags = (xor_of n a b flags).value
result_of Shl n a b flags = (shl_of n a b flags).value
result_of Shr n a b flags = (shr_of n a b flags).value
result_of Sar n a b flags = (sar_of n a b flags).value
result_of Rol n a b flags = (rol_of n a b flags).value
result_of Ror n a b flags = (ror_of n a b flags).value
result_of Mul n a b flags = (umul_of n a b).low
result_of Umulh n a b flags = (umul_of n a b).high
result_of Smulh n a b flags = (smul_of n a b).high
result_of Umul n a b flags = (umul_of n a b).low
result_of Smul n a b flags = (smul_of n a b).low
result_of Inc n a b flags = (inc_of n a flags).value
result_of Dec n a b flags = (dec_of n a flags).value
result_of Neg n a b flags = (neg_of n a flags).value
result_of Not n a b flags = (not_of n a flags).value

-- all five flags after the family, from those before it
abbrev pub flags_after : Family → ℕ → ℕ → ℕ → Flags → Flags
flags_after Add n a b flags = (add_of n a b flags).flags
flags_after Adc n a b flags = (adc_of n a b flags).flags
flags_after Sub n a b flags = (sub_of n a b flags).flags
flags_after Sbb n a b flags = (sbb_of n a b flags).flags
flags_after And n a b flags = (and_of n a b flags).flags
flags_after Or n a b flags = (or_of n a b flags).flags
flags_after Xor n a b flags = (xor_of n a b flags).flags
flags_after Shl n a b flags = (shl_of n a b flags).flags
flags_after Shr n a b flags = (shr_of n a b flags).flags
flags_after Sar n a b flags = (sar_of n a b flags).flags
flags_after Rol n a b flags = (rol_of n a b flags).flags
flags_after Ror n a b flags = (ror_of n a b flags).flags
flags_after Mul n a b flags = flags
flags_after Umulh n a b flags = flags
flags_after Smulh n a b flags = flags
flags_after Umul n a b flags = (umul_of n a b).flags
flags_after Smul n a b flags = (smul_of n a b).flags
flags_after Inc n a b flags = (inc_of n a flags).flags
flags_after Dec n a b flags = (dec_of n a flags).flags
flags_after Neg n a b flags = (neg_of n a flags).flags
flags_after Not n a b flags = (not_of n a flags).flags

-- the operands are numbers that the family takes: of n bits, a count of 8, and n is 32 or 64 where it has to be
abbrev pub AreOperands : Family → ℕ → ℕ → ℕ → Type 0
AreOperands Add n a b = (a < 2 ^ n) × (b < 2 ^ n)
AreOperands Adc n a b = (a < 2 ^ n) × (b < 2 ^ n)
AreOperands Sub n a b = (a < 2 ^ n) × (b < 2 ^ n)
AreOperands Sbb n a b = (a < 2 ^ n) × (b < 2 ^ n)
AreOperands And n a b = (a < 2 ^ n) × (b < 2 ^ n)
AreOperands Or n a b = (a < 2 ^ n) × (b < 2 ^ n)
AreOperands Xor n a b = (a < 2 ^ n) × (b < 2 ^ n)
AreOperands Shl n a b = (a < 2 ^ n) × (b < 2 ^ 8)
AreOperands Shr n a b = (a < 2 ^ n) × (b < 2 ^ 8)
AreOperands Sar n a b = (a < 2 ^ n) × (b < 2 ^ 8)
AreOperands Rol n a b = (a < 2 ^ n) × (b < 2 ^ 8) × (32 ≤ n)
AreOperands Ror n a b = (a < 2 ^ n) × (b < 2 ^ 8) × (32 ≤ n)
AreOperands Mul n a b = (a < 2 ^ n) × (b < 2 ^ n) × (32 ≤ n)
AreOperands Umulh n a b = (a < 2 ^ n) × (b < 2 ^ n) × (32 ≤ n)
AreOperands Smulh n a b = (a < 2 ^ n) × (b < 2 ^ n) × (32 ≤ n)
AreOperands Umul n a b = (a < 2 ^ n) × (b < 2 ^ n) × (32 ≤ n)
AreOperands Smul n a b = (a < 2 ^ n) × (b < 2 ^ n) × (32 ≤ n)
AreOperands Inc n a b = a < 2 ^ n
AreOperands Dec n a b = a < 2 ^ n
AreOperands Neg n a b = a < 2 ^ n
AreOperands Not n a b = a < 2 ^ n
