-- The name of the last register, and of the last temporary; the code of a block in pairs of digits.
use Rattle.std.proofs.Common.{◌≡◌, ℕ, zero, suc, ◌<◌, ◌/◌, ◌%◌, List, [], ◌∷◌, refl, arith, false}
use Rattle.std.specs.Prelude.{slice_index}
use Rattle.std.specs.Fmt.{digit_glyph}
use Rattle.std.specs.List.{flat_map, AllByRecursion}
use Rattle.std.proofs.Math.Nat.{mod-lt}
use Rattle.hex.specs.Hex.{encode_with, encode_lower, lower_digits}
use Rattle.ir_text.specs.Text.{byte_text}

glyph_of : (d : ℕ) → d < 16 → slice_index lower_digits d ≡ digit_glyph false d
glyph_of zero h = refl
glyph_of (suc zero) h = refl
glyph_of (suc (suc zero)) h = refl
glyph_of (suc (suc (suc zero))) h = refl
glyph_of (suc (suc (suc (suc zero)))) h = refl
glyph_of (suc (suc (suc (suc (suc zero))))) h = refl
glyph_of (suc (suc (suc (suc (suc (suc zero)))))) h = refl
glyph_of (suc (suc (suc (suc (suc (suc (suc zero))))))) h = refl
glyph_of (suc (suc (suc (suc (suc (suc (suc (suc zero)))))))) h = refl
glyph_of (suc (suc (suc (suc (suc (suc (suc (suc (suc zero))))))))) h = refl
glyph_of (suc (suc (suc (suc (suc (suc (suc (suc (suc (suc zero)))))))))) h = refl
glyph_of (suc (suc (suc (suc (suc (suc (suc (suc (suc (suc (suc zero))))))))))) h = refl
glyph_of (suc (suc (suc (suc (suc (suc (suc (suc (suc (suc (suc (suc zero)))))))))))) h = refl
glyph_of (suc (suc (suc (suc (suc (suc (suc (suc (suc (suc (suc (suc (suc zero))))))))))))) h = refl
glyph_of (suc (suc (suc (suc (suc (suc (suc (suc (suc (suc (suc (suc (suc (suc zero)))))))))))))) h = refl
glyph_of (suc (suc (suc (suc (suc (suc (suc (suc (suc (suc (suc (suc (suc (suc (suc zero))))))))))))))) h = refl
glyph_of (suc (suc (suc (suc (suc (suc (suc (suc (suc (suc (suc (suc (suc (suc (suc (suc n)))))))))))))))) h = absurd (omega arith)

pub code_pairs : (code : List ℕ) → AllByRecursion (λ c. c < 256) code → encode_lower code ≡ flat_map byte_text code
unfolding encode_with
code_pairs [] h = refl
code_pairs (c ∷ cs) h =
    let high = glyph_of (c / 16) (omega (arith, h.0)) in
    let low = glyph_of (c % 16) (mod-lt c (omega arith)) in
    let others = code_pairs cs h.1 in
    λ i. high i ∷ low i ∷ others i
