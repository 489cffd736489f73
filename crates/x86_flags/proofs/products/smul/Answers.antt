use Rattle.std.proofs.Common.{◌∙◌, refl, ap, rules, ◌≤◌, arith, sym}
use Rattle.std.specs.Int.{w128}
use Rattle.std.specs.Prelude.{not, FitsSigned}
use Rattle.std.proofs.lemmas.Int.{to_z-of_z}
use Rattle.x86_flags.specs.Products.{smul_of, product_flags}
use Rattle.x86_flags.specs.Width.{bits}
use Rattle.x86_flags.proofs.NumberLemmas.{bits_le}
use Rattle.x86_flags.proofs.ProductLemmas.{low_bits_wide, high_bits_wide, same_bits}
use Rattle.x86_flags.proofs.products.smul.Goals as goal

pub returns-clause-low : goal.returns-clause-low
unfolding smul_of
returns-clause-low c =
    let f : FitsSigned w128 c.signed_product-product.result = search rules in
    let few : bits c.args.w ≤ 128 = omega (arith, bits_le c.args.w) in
    rw (← c.signed_product-product.ensures, c.low-low.ensures, c.cast_unsigned-bits.ensures, to_z-of_z w128 c.signed_product-product.result f) (sym (low_bits_wide (bits c.args.w) c.signed_product-product.result few f))

pub returns-clause-high : goal.returns-clause-high
unfolding smul_of
returns-clause-high c =
    let f : FitsSigned w128 c.signed_product-product.result = search rules in
    rw (← c.signed_product-product.ensures, c.low.ensures, c.bits.ensures.value, c.cast_unsigned-bits.ensures, to_z-of_z w128 c.signed_product-product.result f) (sym (high_bits_wide (bits c.args.w) c.signed_product-product.result (bits_le c.args.w) f))

pub returns-clause-flags : goal.returns-clause-flags
unfolding smul_of
returns-clause-flags c =
    let f : FitsSigned w128 c.signed_product-product.result = search rules in
    let g : FitsSigned w128 c.signed.result = search rules in
    let low = returns-clause-low c in
    c.product_flags.ensures ∙ ap (λ t. product_flags (not t)) (same_bits c.signed_product-product.result c.signed.result f g ∙ rw (c.signed.ensures.value, low, c.signed_product-product.ensures) refl)
