use Rattle.std.proofs.Common.{◌≡◌, ◌-◌, ◌/◌, ◌^◌, suc, negsuc, pos, arith, rules, ◌-ℤ◌}
use Rattle.std.proofs.lemmas.Int.{ints, to_z-of_z}
use Rattle.std.specs.Prelude.{FitsSigned}
use Rattle.std.specs.Int.{w128, cast_unsigned, cast_signed}
use Rattle.x86_flags.specs.Width.{bits}
use Rattle.x86_flags.proofs.NumberLemmas.{fits_code, bits-pos, pow_twice, range_pos}
use Rattle.x86_flags.proofs.width.Width.fits_signed.Goals as goal

pub returns : goal.returns
returns c =
    let w = bits c.args.self in
    let k = c.mask.result / 2 in
    let twice = pow_twice w (bits-pos c.args.self) in
    let some = range_pos c.args.self in
    let half : suc k ≡ 2 ^ (w - 1) = omega (arith, c.mask.ensures) in
    let f : FitsSigned w128 c.args.number = search rules in
    let least : cast_signed w128 (cast_unsigned w128 (negsuc 0 -ℤ cast_signed w128 k)) ≡ negsuc k = omega (arith, ints) in
    let most : cast_signed w128 k ≡ pos k = omega (arith, ints) in
    fits_code w k c.args.number _ _ _ half least (to_z-of_z w128 c.args.number f) most
