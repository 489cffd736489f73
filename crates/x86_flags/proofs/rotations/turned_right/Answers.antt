use Rattle.std.proofs.Common.{sym, subst, arith, ◌<◌, ◌-◌, ◌^◌, ℕ}
use Rattle.x86_flags.specs.Width.{bits}
use Rattle.x86_flags.proofs.NumberLemmas.{bits_le}
use Rattle.x86_flags.proofs.ShiftLemmas.{shl_wide, turned_right_is, turned_right_lt}
use Rattle.x86_flags.proofs.rotations.turned_right.Goals as goal

pub returns-clause-value : goal.returns-clause-value
returns-clause-value c =
    let w = bits c.args.w in
    let few : (bits c.args.w - c.args.n) < 64 = omega (arith, bits_le c.args.w) in
    rw (c.low.ensures, c.bits.ensures.value, shl_wide w c.args.a (bits c.args.w - c.args.n) c.ranges.a.fits few) (turned_right_is w c.args.a c.args.n (omega arith) c.requires.operand)

pub returns-clause-bound : goal.returns-clause-bound
returns-clause-bound c =
    let w = bits c.args.w in
    subst (λ (k : ℕ). k < 2 ^ w) (sym (returns-clause-value c)) (turned_right_lt w c.args.a c.args.n (omega arith) c.requires.operand)
