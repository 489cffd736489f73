use Rattle.std.proofs.Common.{sym, ◌∙◌}
use Rattle.x86_flags.specs.Width.{bits}
use Rattle.x86_flags.proofs.NumberLemmas.{top_true, top_false, bits-pos}
use Rattle.x86_flags.proofs.ShiftLemmas.{floor_low, floor_high}
use Rattle.x86_flags.proofs.shifts.divided.Goals as goal

pub returns-then-is_negative-clause-value : goal.returns-then-is_negative-clause-value
returns-then-is_negative-clause-value c =
    let w = bits c.args.w in
    let high = top_true w c.args.a (bits-pos c.args.w) c.requires.operand (sym c.is_negative.ensures ∙ c.if-is_negative.true) in
    rw (c.mask.ensures, c.mask-then-is_negative.ensures) (floor_high w c.args.a c.args.n (bits-pos c.args.w) high c.requires.operand)

pub returns-else-is_negative-clause-value : goal.returns-else-is_negative-clause-value
returns-else-is_negative-clause-value c =
    let w = bits c.args.w in
    floor_low w c.args.a c.args.n (bits-pos c.args.w) (top_false w c.args.a (bits-pos c.args.w) c.requires.operand (sym c.is_negative.ensures ∙ c.if-is_negative.false))
