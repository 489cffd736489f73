use Rattle.std.proofs.Common.{◌∙◌, ◌*◌, ◌/◌, ◌^◌, ◌<◌, ap, eqb}
use Rattle.std.proofs.lemmas.Nat.{div_below, mul-lt}
use Rattle.std.specs.Prelude.{not}
use native.Mathlib.Nat.{mod-eq_of_lt}
use Rattle.x86_flags.specs.Products.{umul_of, product_flags}
use Rattle.x86_flags.specs.Width.{bits}
use Rattle.x86_flags.proofs.NumberLemmas.{range_pos}
use Rattle.x86_flags.proofs.ProductLemmas.{high_zero}
use Rattle.x86_flags.proofs.products.umul.Goals as goal

pub returns-clause-high : goal.returns-clause-high
unfolding umul_of
returns-clause-high c =
    let m = 2 ^ bits c.args.w in
    let small : c.args.a * c.args.b / m < m = div_below (c.args.a * c.args.b) m m (range_pos c.args.w) (mul-lt c.args.a c.args.b m m c.requires.first c.requires.second) in
    rw (c.low-high.ensures, c.bits.ensures.value) (mod-eq_of_lt small)

pub returns-clause-flags : goal.returns-clause-flags
unfolding umul_of
returns-clause-flags c =
    c.product_flags.ensures ∙ ap (λ t. product_flags (not t)) (ap (λ h. eqb h 0) (returns-clause-high c) ∙ high_zero (c.args.a * c.args.b) (2 ^ bits c.args.w) (range_pos c.args.w))
