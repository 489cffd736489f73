-- Numbers: what `parse` reads is what clap lets pass.
use Rattle.std.proofs.Common.{◌≡◌, ℕ, ◌≤◌, ◌<◌, ◌^◌, Bool, true, false, cond, List, Some, Err, refl, sym, ap, ◌∙◌, arith}
use Rattle.std.specs.Str.Parse.{IsNumeral, ParsesUnsigned, digits_value, without_leading_plus}
use Rattle.clap.specs.ValueTests.{is_unsigned_in}
use Rattle.clap.specs.Values.{IsUnsignedIn}
use Rattle.clap.specs.declared.builder.value_parser.ValueParser.TheVariants as vp
use Rattle.clap.proofs.ValueTestLemmas.{Accepts-accepts, accepts-Accepts}
use Rattle.words_line.specs.Plans.{number_in}

to_test : (low high : ℕ) (t : List ℕ) → IsUnsignedIn low high t → is_unsigned_in low high t ≡ true
to_test low high t h = Accepts-accepts false (vp.Unsigned low high) t h

from_test : (low high : ℕ) (t : List ℕ) → is_unsigned_in low high t ≡ true → IsUnsignedIn low high t
from_test low high t e = accepts-Accepts false (vp.Unsigned low high) t e

by_test : (low high : ℕ) (t : List ℕ) (b : Bool) → is_unsigned_in low high t ≡ b → number_in low high (Some t) ≡ cond b (digits_value 10 (without_leading_plus t)) low
by_test low high t b e = ap (λ (x : Bool). cond x (digits_value 10 (without_leading_plus t)) low) e

-- a number in the range is read
-- the text spells the number
abbrev pub Spells : List ℕ → ℕ → Type 0
Spells t n = (IsNumeral 10 (without_leading_plus t) × (digits_value 10 (without_leading_plus t) < 2 ^ 64)) × (n ≡ digits_value 10 (without_leading_plus t))

pub number_read : (low high n : ℕ) (t : List ℕ) → Spells t n → low ≤ n → n ≤ high → n ≡ number_in low high (Some t)
number_read low high n t p above below =
    let in_range : IsUnsignedIn low high t = (p.0.0, p.0.1, omega (arith, p.1), omega (arith, p.1)) in
    sym (by_test low high t true (to_test low high t in_range) ∙ sym p.1)

other : (low high : ℕ) (t : List ℕ) (b : Bool) → is_unsigned_in low high t ≡ b → (IsUnsignedIn low high t → ⊥) → number_in low high (Some t) ≡ low
other low high t true e none = absurd (none (from_test low high t e))
other low high t false e none = by_test low high t false e

-- no other is
pub number_not_read : {E : Type 0} (low high : ℕ) (t : List ℕ) (e : E) → ParsesUnsigned 64 10 t (Err e) → low ≡ number_in low high (Some t)
number_not_read low high t e p = sym (other low high t (is_unsigned_in low high t) refl (λ h. p (h.0, h.1)))

pub number_outside : (low high n : ℕ) (t : List ℕ) → Spells t n → (low ≤ n → n ≤ high → ⊥) → low ≡ number_in low high (Some t)
number_outside low high n t p none = sym (other low high t (is_unsigned_in low high t) refl (λ h. none (omega (arith, p.1, h.2)) (omega (arith, p.1, h.3))))
