use Rattle.std.proofs.Common.{◌≡◌, true, ◌<◌, ◌≤◌, ℤ, refl, sym, subst, arith, rules, ◌∙◌, ap, eqb, false}
use Rattle.std.proofs.lemmas.Int.{to_z-of_z}
use Rattle.std.proofs.lemmas.Bool.{or_from, or_right, not_from_false, not_from_true}
use Rattle.std.specs.Prelude.{FitsSigned, int_div, int_rem, not, ◌||◌}
use Rattle.std.specs.Int.{w128, cast_unsigned, cast_signed, CanDivide}
use lib.Signed.{mag_rem}
use native.Mathlib.Nat.{lt_of_le_of_lt}
use Rattle.x86_flags.specs.Numbers.{signed, fits_signed}
use Rattle.x86_flags.specs.Quotients.{sdiv_of}
use Rattle.x86_flags.specs.Width.{bits}
use Rattle.x86_flags.proofs.NumberLemmas.{bits-pos, bits_le}
use Rattle.x86_flags.proofs.ProductLemmas.{low_code}
use Rattle.x86_flags.proofs.QuotientLemmas.{sdiv_refused, divisor_is_some}
use Rattle.x86_flags.proofs.quotients.sdiv.Goals as goal

pub returns-in_default-clause-quotient : goal.returns-in_default-clause-quotient
unfolding sdiv_of
returns-in_default-clause-quotient c =
    let w = bits c.args.w in
    let fx : FitsSigned w128 c.signed_joined-dividend.result = search rules in
    let fv : FitsSigned w128 c.signed-divisor.result = search rules in
    let x = cast_signed w128 (cast_unsigned w128 c.signed_joined-dividend.result) in
    let v = cast_signed w128 (cast_unsigned w128 c.signed-divisor.result) in
    let ex = to_z-of_z w128 c.signed_joined-dividend.result fx ∙ c.signed_joined-dividend.ensures in
    let ev = to_z-of_z w128 c.signed-divisor.result fv ∙ c.signed-divisor.ensures.value in
    let never : CanDivide w128 x v → ⊥ = c.in_default.ensures in
    let h = sdiv_refused w c.args.by x v ev (bits-pos c.args.w) (bits_le c.args.w) c.requires.divisor never in
    rw (rw (ex, ev) at h) refl

pub returns-then-not-fits_signed-clause-quotient : goal.returns-then-not-fits_signed-clause-quotient
unfolding sdiv_of
returns-then-not-fits_signed-clause-quotient c =
    let w = bits c.args.w in
    let fx : FitsSigned w128 c.signed_joined-dividend.result = search rules in
    let fv : FitsSigned w128 c.signed-divisor.result = search rules in
    let x = cast_signed w128 (cast_unsigned w128 c.signed_joined-dividend.result) in
    let v = cast_signed w128 (cast_unsigned w128 c.signed-divisor.result) in
    let ex = to_z-of_z w128 c.signed_joined-dividend.result fx ∙ c.signed_joined-dividend.ensures in
    let ev = to_z-of_z w128 c.signed-divisor.result fv ∙ c.signed-divisor.ensures.value in
    let can : CanDivide w128 x v × (c.in-Some.quotient ≡ int_div x v) = c.in-Some.ensures in
    let fq : FitsSigned w128 c.in-Some.quotient = subst (λ (z : ℤ). FitsSigned w128 z) (sym can.1) can.0.1 in
    let quotient = to_z-of_z w128 c.in-Some.quotient fq ∙ can.1 in
    let wide : fits_signed w (int_div x v) ≡ false = ap (fits_signed w) (sym quotient) ∙ sym c.fits_signed.ensures ∙ c.if-not-fits_signed.true in
    let h = or_right (eqb c.args.by 0) (not (fits_signed w (int_div x v))) (not_from_false _ wide) in
    rw (rw (ex, ev) at h) refl

pub returns-clause-quotient : goal.returns-clause-quotient
unfolding sdiv_of
returns-clause-quotient c =
    let w = bits c.args.w in
    let fx : FitsSigned w128 c.signed_joined-dividend.result = search rules in
    let fv : FitsSigned w128 c.signed-divisor.result = search rules in
    let x = cast_signed w128 (cast_unsigned w128 c.signed_joined-dividend.result) in
    let v = cast_signed w128 (cast_unsigned w128 c.signed-divisor.result) in
    let back = to_z-of_z w128 c.signed_joined-dividend.result fx in
    let ex = back ∙ c.signed_joined-dividend.ensures in
    let ev = to_z-of_z w128 c.signed-divisor.result fv ∙ c.signed-divisor.ensures.value in
    let can : CanDivide w128 x v × (c.in-Some.quotient ≡ int_div x v) = c.in-Some.ensures in
    let fq : FitsSigned w128 c.in-Some.quotient = subst (λ (z : ℤ). FitsSigned w128 z) (sym can.1) can.0.1 in
    let quotient = to_z-of_z w128 c.in-Some.quotient fq ∙ can.1 in
    let counts : 0 < cast_unsigned w128 (signed w c.args.by) = subst (λ (z : ℤ). 0 < cast_unsigned w128 z) ev can.0.0 in
    let fits : fits_signed w (int_div x v) ≡ true = ap (fits_signed w) (sym quotient) ∙ sym c.fits_signed.ensures ∙ c.if-not-fits_signed.false in
    let done : (eqb c.args.by 0 || not (fits_signed w (int_div x v))) ≡ false = or_from _ _ (divisor_is_some w c.args.by counts) (not_from_true _ fits) in
    let fback : FitsSigned w128 x = subst (λ (z : ℤ). FitsSigned w128 z) (sym back) fx in
    let frem : FitsSigned w128 (int_rem x v) = record { sfits = lt_of_le_of_lt (mag_rem x v) fback.sfits } in
    let few : w ≤ 128 = omega (arith, bits_le c.args.w) in
    let low = low_code w (int_div x v) (cast_signed w128 (cast_unsigned w128 c.in-Some.quotient)) c.low.result c.cast_unsigned.result few can.0.1 c.low.ensures c.cast_unsigned.ensures quotient in
    let rest = low_code w (int_rem x v) (cast_signed w128 (cast_unsigned w128 (int_rem x v))) c.low-2.result c.cast_unsigned-2.result few frem c.low-2.ensures c.cast_unsigned-2.ensures (to_z-of_z w128 (int_rem x v) frem) in
    rw (← ex, ← ev, done, low, rest) refl
