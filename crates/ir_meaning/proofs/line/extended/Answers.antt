use Rattle.std.proofs.Common.{◌<◌, ◌≤◌, ◌-◌, ◌^◌, arith, subst, ℕ}
use Rattle.ir_meaning.proofs.NumberLemmas.{extended_low, extended_high, bits_le}
use Rattle.ir_syntax.specs.Width.{bits_of}
use Rattle.ir_meaning.proofs.line.extended.Goals as goal

pub half-sign-requires-clause-few : goal.half-sign-requires-clause-few
half-sign-requires-clause-few c = omega (arith, c.requires.wider, bits_le c.args.w)

pub returns-then-number-sign : goal.returns-then-number-sign
returns-then-number-sign c =
    let below : c.args.number < 2 ^ (c.args.from - 1) = subst (λ (n : ℕ). c.args.number < n) c.half-sign.ensures c.if-number-sign.true in
    extended_low c.args.from (bits_of c.args.w) c.args.number below c.requires.some c.requires.fits c.requires.wider

pub returns-else-number-sign : goal.returns-else-number-sign
returns-else-number-sign c =
    let above : 2 ^ (c.args.from - 1) ≤ c.args.number = subst (λ (n : ℕ). n ≤ c.args.number) c.half-sign.ensures c.if-number-sign.false in
    rw (c.greatest.ensures, c.half-sign.ensures) (extended_high c.args.from (bits_of c.args.w) c.args.number above c.requires.some c.requires.fits c.requires.wider)
