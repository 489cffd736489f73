use Rattle.std.proofs.Common.{◌≤◌, ◌<◌, ◌^◌, ◌-◌, arith, ◌∙◌, sym}
use Rattle.std.proofs.lemmas.Int.{ints}
use Rattle.x86_flags.specs.Width.{bits}
use Rattle.x86_flags.proofs.NumberLemmas.{top_true, top_false, signed_low, signed_high, bits-pos, range_le, half_le, signed_abs}
use Rattle.x86_flags.proofs.width.Width.signed.Goals as goal

pub returns-then-is_negative-clause-value : goal.returns-then-is_negative-clause-value
returns-then-is_negative-clause-value c =
    let w = bits c.args.self in
    let high : 2 ^ (w - 1) ≤ c.args.number = top_true w c.args.number (bits-pos c.args.self) c.requires (sym c.is_negative.ensures ∙ c.if-is_negative.true) in
    let below = range_le c.args.self in
    rw (signed_high w c.args.number high) (omega (arith, ints))

pub returns-then-is_negative-clause-bound : goal.returns-then-is_negative-clause-bound
returns-then-is_negative-clause-bound c = rw (returns-then-is_negative-clause-value c) (omega (arith, half_le c.args.self, signed_abs (bits c.args.self) c.args.number (bits-pos c.args.self) c.requires))

pub returns-else-is_negative-clause-value : goal.returns-else-is_negative-clause-value
returns-else-is_negative-clause-value c =
    let w = bits c.args.self in
    let low : c.args.number < 2 ^ (w - 1) = top_false w c.args.number (bits-pos c.args.self) c.requires (sym c.is_negative.ensures ∙ c.if-is_negative.false) in
    let below = range_le c.args.self in
    rw (signed_low w c.args.number low) (omega (arith, ints))

pub returns-else-is_negative-clause-bound : goal.returns-else-is_negative-clause-bound
returns-else-is_negative-clause-bound c = rw (returns-else-is_negative-clause-value c) (omega (arith, half_le c.args.self, signed_abs (bits c.args.self) c.args.number (bits-pos c.args.self) c.requires))
