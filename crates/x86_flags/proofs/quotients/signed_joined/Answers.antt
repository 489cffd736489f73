use Rattle.std.proofs.Common.{◌∙◌, refl, sym, subst, arith, ◌≡◌, ◌≤◌, ◌<◌, ◌+◌, ◌-◌, ◌^◌, ℕ}
use Rattle.std.proofs.lemmas.Int.{ints}
use Rattle.x86_flags.specs.Quotients.{joined}
use Rattle.x86_flags.specs.Width.{bits}
use Rattle.x86_flags.proofs.NumberLemmas.{bits-pos, bits_le, top_true, top_false, pow_twice}
use Rattle.x86_flags.proofs.QuotientLemmas.{joined_half, joined_turned, signed_joined_low, signed_joined_high}
use Rattle.x86_flags.proofs.quotients.signed_joined.Goals as goal

-- both halves turned, with their bound
turned : (w high low mask other whole : ℕ) → 0 < w → w ≤ 64 → 2 ^ (w - 1) ≤ high → high < 2 ^ w → low < 2 ^ w → mask ≡ 2 ^ w - 1 → other ≡ 2 ^ w - 1 → whole ≡ joined w (mask - high) (other - low) → (whole ≡ 2 ^ (w + w) - 1 - joined w high low) × (whole < 2 ^ 127)
turned w high low mask other whole p s l h k e f g =
    let twice = pow_twice w p in
    let small : 2 ^ w - 1 - high < 2 ^ (w - 1) = omega arith in
    let below : 2 ^ w - 1 - low < 2 ^ w = omega arith in
    let is : whole ≡ joined w (2 ^ w - 1 - high) (2 ^ w - 1 - low) = g ∙ rw (e, f) refl in
    (is ∙ joined_turned w high low h k, subst (λ (n : ℕ). n < 2 ^ 127) (sym is) (joined_half w (2 ^ w - 1 - high) (2 ^ w - 1 - low) p s small below))

pub returns-then-is_negative : goal.returns-then-is_negative
returns-then-is_negative c =
    let w = bits c.args.w in
    let high = top_true w c.args.high (bits-pos c.args.w) c.requires.high (sym c.is_negative.ensures ∙ c.if-is_negative.true) in
    let t = turned w c.args.high c.args.low c.mask.result c.mask-then-is_negative.result c.joined.result (bits-pos c.args.w) (bits_le c.args.w) high c.requires.high c.requires.low c.mask.ensures c.mask-then-is_negative.ensures c.joined.ensures in
    let is : c.joined.result ≡ 2 ^ (w + w) - 1 - joined w c.args.high c.args.low = t.0 in
    let small : c.joined.result < 2 ^ 127 = t.1 in
    rw (signed_joined_high w c.args.high c.args.low (bits-pos c.args.w) high) (omega (arith, ints))

pub overflow_cast-result : goal.overflow_cast-result
overflow_cast-result c =
    let w = bits c.args.w in
    let high = top_true w c.args.high (bits-pos c.args.w) c.requires.high (sym c.is_negative.ensures ∙ c.if-is_negative.true) in
    let t = turned w c.args.high c.args.low c.mask.result c.mask-then-is_negative.result c.joined.result (bits-pos c.args.w) (bits_le c.args.w) high c.requires.high c.requires.low c.mask.ensures c.mask-then-is_negative.ensures c.joined.ensures in
    record { sfits = t.1 }

pub returns-else-is_negative : goal.returns-else-is_negative
returns-else-is_negative c =
    let w = bits c.args.w in
    let low = top_false w c.args.high (bits-pos c.args.w) c.requires.high (sym c.is_negative.ensures ∙ c.if-is_negative.false) in
    let small = joined_half w c.args.high c.args.low (bits-pos c.args.w) (bits_le c.args.w) low c.requires.low in
    rw (signed_joined_low w c.args.high c.args.low (bits-pos c.args.w) low c.requires.low) (omega (arith, ints, c.joined-else-is_negative.ensures))

pub overflow_cast-result-else-is_negative : goal.overflow_cast-result-else-is_negative
overflow_cast-result-else-is_negative c =
    let w = bits c.args.w in
    let low = top_false w c.args.high (bits-pos c.args.w) c.requires.high (sym c.is_negative.ensures ∙ c.if-is_negative.false) in
    let small = joined_half w c.args.high c.args.low (bits-pos c.args.w) (bits_le c.args.w) low c.requires.low in
    record { sfits = omega (arith, c.joined-else-is_negative.ensures) }
