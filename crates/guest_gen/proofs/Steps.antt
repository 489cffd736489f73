-- The numbers of one more thread.
use Rattle.std.proofs.Common.{◌≡◌, ℕ, zero, suc, ◌+◌, ◌%◌, List, [], ◌∷◌, ◌++◌, ap, arith, ◌∙◌}
use Rattle.std.specs.List.{flat_map, range_with_len}
use Rattle.std.proofs.lemmas.Grind.{flat_map-append, common_steps}
use Rattle.byteorder.specs.Endian.{little_bytes}
use Rattle.guest_gen.specs.Generated.{step_of, steps}

range_more : (a n : ℕ) → range_with_len a (suc n) ≡ range_with_len a n ++ (a + n) ∷ []
range_more a zero = ap (λ (x : ℕ). x ∷ []) (omega arith)
range_more a (suc n) = ap (λ (xs : List ℕ). a ∷ xs) (range_more (a + 1) n ∙ ap (λ (x : ℕ). range_with_len (a + 1) n ++ x ∷ []) (omega arith))

pub steps_more : (number i : ℕ) → steps number (i + 1) ≡ steps number i ++ little_bytes 8 ((number + (1 + i)) % 251 + 1)
steps_more number i =
    let f = λ (j : ℕ). little_bytes 8 (step_of number j) in
    let next : i + 1 ≡ suc i = omega arith in
    let last : f (1 + i) ++ [] ≡ f (1 + i) = grind (arith, common_steps) in
    ap (steps number) next ∙ (ap (flat_map f) (range_more 1 i) ∙ (flat_map-append f (range_with_len 1 i) ((1 + i) ∷ []) ∙ ap (λ (xs : List ℕ). steps number i ++ xs) last))
