use Rattle.std.proofs.Common.{◌<◌, ◌/◌, ◌%◌, ◌^◌, refl, arith}
use Rattle.std.proofs.lemmas.Nat.{mod_below}
use native.Mathlib.Nat.{mod-eq_of_lt}
use Rattle.x86_flags.specs.Quotients.{udiv_of, joined}
use Rattle.x86_flags.specs.Width.{bits}
use Rattle.x86_flags.proofs.QuotientLemmas.{udiv_refused, udiv_small, udiv_done}
use Rattle.x86_flags.proofs.quotients.udiv.Goals as goal

pub returns-then-high-by-clause-quotient : goal.returns-then-high-by-clause-quotient
unfolding udiv_of
returns-then-high-by-clause-quotient c =
    rw (udiv_refused (bits c.args.w) c.args.high c.args.low c.args.by c.if-high-by.true) refl

pub returns-clause-quotient : goal.returns-clause-quotient
unfolding udiv_of
returns-clause-quotient c =
    let w = bits c.args.w in
    let below : c.args.high < c.args.by = c.if-high-by.false in
    let dividend = joined w c.args.high c.args.low in
    let quotient : dividend / c.args.by < 2 ^ w = udiv_small w c.args.high c.args.low c.args.by below c.requires.low in
    let remainder : dividend % c.args.by < 2 ^ w = omega (arith, mod_below dividend c.args.by (omega arith), c.requires.divisor) in
    rw (udiv_done w c.args.high c.args.low c.args.by below c.requires.low, c.low.ensures, c.low-2.ensures, c.joined-dividend.ensures, mod-eq_of_lt quotient, mod-eq_of_lt remainder) refl
