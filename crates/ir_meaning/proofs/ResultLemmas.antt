-- The result of each family at n bits is a number of n bits.
use Rattle.std.proofs.Common.{ℕ, ◌+◌, ◌*◌, ◌/◌, ◌^◌, ◌<◌, ◌≤◌, Bool, true, false, arith, subst, ℤ, pos, negsuc, eqb, ⊎_elim}
use Rattle.std.proofs.lemmas.Bool.{cases_eq, ne_eqb}
use Rattle.std.proofs.lemmas.Nat.{pow_pos, pow-add, mod_below, shr_le, and_le_l, or_lt, xor_lt, div_below, mul-add-lt}
use Rattle.std.specs.Prelude.{if◌then◌else◌}
use native.Mathlib.Nat.{mul-le-mul_left}
use Rattle.ir_syntax.specs.declared.line.Family.{Family}
use Rattle.ir_syntax.specs.declared.line.Family.TheVariants.{Add, Adc, Sub, Sbb, And, Or, Xor, Shl, Shr, Sar, Rol, Ror, Mul, Umulh, Smulh, Umul, Smul, Inc, Dec, Neg, Not}
use Rattle.x86_flags.specs.declared.flags.Flags.{Flags}
use Rattle.x86_flags.specs.Numbers.{low_bits}
use Rattle.x86_flags.specs.Outcome.{Outcome, outcome, with_carry_of, unless_zero}
use Rattle.x86_flags.specs.Bitwise.{and_of, or_of, xor_of, not_of}
use Rattle.x86_flags.specs.Products.{umul_of, smul_of}
use Rattle.x86_flags.specs.Rotations.{rol_of, ror_of, rol_by, ror_by, turned}
use Rattle.x86_flags.specs.Shifts.{shl_of, shr_of, sar_of, shl_by, shr_by, sar_by, count_of}
use Rattle.x86_flags.specs.Sums.{add_of, adc_of, inc_of, sub_of, sbb_of, dec_of, neg_of, sum_of, difference_of}
use Rattle.x86_flags.proofs.ShiftLemmas.{turned_left_lt, turned_right_lt}
use Rattle.ir_meaning.specs.Family.{result_of, AreOperands}

pub low_bits_lt : (w : ℕ) (z : ℤ) → low_bits w z < 2 ^ w
unfolding low_bits
low_bits_lt w (pos a) = mod_below a (2 ^ w) (pow_pos w)
low_bits_lt w (negsuc a) = omega (arith, pow_pos w)

high_lt : (n p : ℕ) → p < 2 ^ (n + n) → p / 2 ^ n < 2 ^ n
high_lt n p h = div_below p (2 ^ n) (2 ^ n) (pow_pos n) (subst (λ (k : ℕ). p < k) (pow-add 2 n n) h)

product_lt : (n a b : ℕ) → a < 2 ^ n → b < 2 ^ n → a * b < 2 ^ (n + n)
product_lt n a b h k =
    let less : b ≤ 2 ^ n = omega arith in
    let whole = mul-add-lt a (2 ^ n) 0 (2 ^ n) h (pow_pos n) in
    let step : a * b ≤ a * 2 ^ n = mul-le-mul_left a less in
    rw (pow-add 2 n n) (omega arith)

chosen_lt : (still : Bool) (a m : ℕ) (flags : Flags) (o : Outcome) → a < m → o.value < m → (if still then (record { value = a; flags = flags }) else o).value < m
chosen_lt true a m flags o h k = h
chosen_lt false a m flags o h k = k

unless_zero_lt : (n a m : ℕ) (flags : Flags) (o : Outcome) → a < m → o.value < m → (unless_zero n a flags o).value < m
unfolding unless_zero
unless_zero_lt n a m flags o h k = chosen_lt (eqb n 0) a m flags o h k

count_le : (w count : ℕ) → 32 ≤ w → count_of w count ≤ w
unfolding count_of
count_le w count h =
    ⊎_elim (λ e. rw e (omega (arith, mod_below count 64)))
    (λ n. rw (ne_eqb w 64 n) (omega (arith, mod_below count 32)))
    (cases_eq w 64)

pub result_fits : (family : Family) (n a b : ℕ) (flags : Flags) → AreOperands family n a b → result_of family n a b flags < 2 ^ n
unfolding add_of adc_of inc_of sub_of sbb_of dec_of neg_of sum_of difference_of outcome with_carry_of and_of or_of xor_of not_of umul_of smul_of rol_of ror_of rol_by ror_by turned shl_of shr_of sar_of shl_by shr_by sar_by
result_fits Add n a b flags h = mod_below _ (2 ^ n) (pow_pos n)
result_fits Adc n a b flags h = mod_below _ (2 ^ n) (pow_pos n)
result_fits Sub n a b flags h = low_bits_lt n _
result_fits Sbb n a b flags h = low_bits_lt n _
result_fits And n a b flags h = omega (arith, and_le_l a b, h.0)
result_fits Or n a b flags h = or_lt n a b h.0 h.1
result_fits Xor n a b flags h = xor_lt n a b h.0 h.1
result_fits Shl n a b flags h = unless_zero_lt (count_of n b) a (2 ^ n) flags (shl_by n a (count_of n b)) h.0 (mod_below _ (2 ^ n) (pow_pos n))
result_fits Shr n a b flags h = unless_zero_lt (count_of n b) a (2 ^ n) flags (shr_by n a (count_of n b)) h.0 (omega (arith, shr_le a (count_of n b), h.0))
result_fits Sar n a b flags h = unless_zero_lt (count_of n b) a (2 ^ n) flags (sar_by n a (count_of n b)) h.0 (low_bits_lt n _)
result_fits Rol n a b flags h = unless_zero_lt (count_of n b) a (2 ^ n) flags (rol_by n a (count_of n b) flags) h.0 (turned_left_lt n a (count_of n b) (count_le n b h.2) h.0)
result_fits Ror n a b flags h = unless_zero_lt (count_of n b) a (2 ^ n) flags (ror_by n a (count_of n b) flags) h.0 (turned_right_lt n a (count_of n b) (count_le n b h.2) h.0)
result_fits Mul n a b flags h = mod_below _ (2 ^ n) (pow_pos n)
result_fits Umulh n a b flags h = high_lt n (a * b) (product_lt n a b h.0 h.1)
result_fits Smulh n a b flags h = high_lt n _ (low_bits_lt (n + n) _)
result_fits Umul n a b flags h = mod_below _ (2 ^ n) (pow_pos n)
result_fits Smul n a b flags h = low_bits_lt n _
result_fits Inc n a b flags h = mod_below _ (2 ^ n) (pow_pos n)
result_fits Dec n a b flags h = low_bits_lt n _
result_fits Neg n a b flags h = low_bits_lt n _
result_fits Not n a b flags h = omega (arith, pow_pos n)
