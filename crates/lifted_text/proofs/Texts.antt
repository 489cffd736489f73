-- The laws.
use Rattle.std.proofs.Common.{◌≡◌, ◌≢◌, ℕ, ◌+◌, ◌<◌, ◌%◌, ◌^◌, true, ap, sym, subst, refl, ◌∙◌, List, [], ◌∷◌, ◌++◌, length, take, drop, arith, append-nil}
use Rattle.std.proofs.lemmas.Bool.{and_parts, ltb-true}
use Rattle.std.proofs.lemmas.List.{append_assoc, take-append-drop}
use Rattle.std.proofs.lemmas.List.Elements.{All-append, All-cons, All-nil}
use Rattle.std.specs.List.{flat_map}
use Rattle.std.specs.Prelude.{All, nat_lt, codes}
use Rattle.ir_syntax.specs.declared.block.Block.{Block}
use Rattle.ir_syntax.specs.declared.block.Part.{Part}
use Rattle.ir_syntax.specs.Typed.{unwritten}
use Rattle.ir_text.specs.Text.{block_text}
use Rattle.x86_forms.specs.Laws.{SpelledFits}
use Rattle.x86_forms.specs.Spelling.{are_bytes}
use Rattle.basic_blocks.specs.Placed.{Placed}
use Rattle.block_lift.specs.Spelled.{AreSpelled}
use Rattle.lifted_text.specs.Laws.{BlocksOfBytesHaveText, TextGrowsByBlocks}
use Rattle.lifted_text.proofs.Numbers.{AreFit, block_numbers}
use Rattle.lifted_text.proofs.Spelled.{AllNumbers, parts_have}

-- ---- bytes

each_byte : (xs : List ℕ) → are_bytes xs ≡ true → All (λ c. c < 256) xs
each_byte [] h = All-nil (λ c. c < 256)
each_byte (x ∷ xs) h = let p = and_parts (nat_lt x 256) (are_bytes xs) h in All-cons (λ c. c < 256) x xs (ltb-true x 256 p.0) (each_byte xs p.1)

spelled_bytes : (a : ℕ) (code : List ℕ) (is : List Placed) → AreSpelled a code is → All (λ c. c < 256) code
spelled_bytes a code [] h = subst (λ (xs : List ℕ). All (λ c. c < 256) xs) (sym h) (All-nil (λ c. c < 256))
spelled_bytes a code (p ∷ ps) h =
    let n = h.0.size in
    subst (λ (xs : List ℕ). All (λ c. c < 256) xs) (take-append-drop n code)
    (All-append (λ c. c < 256) (take n code) (drop n code) (each_byte (take n code) h.0.spelled.bytes) (spelled_bytes p.next (drop n code) ps h.1))

-- ---- instructions

within : (n : ℕ) → n % 2 ^ 64 < 2 ^ 64
within n = omega arith

spelled_fit : SpelledFits → (a : ℕ) (code : List ℕ) (is : List Placed) → AreSpelled a code is → AreFit is
spelled_fit fits a code [] h = tt
spelled_fit fits a code (p ∷ ps) h =
    ((subst (λ (n : ℕ). n < 2 ^ 64) (sym h.0.next) (within (a + h.0.size)), fits p.instr (take h.0.size code) h.0.spelled), spelled_fit fits p.next (drop h.0.size code) ps h.1)

-- ---- blocks

not_empty : (ps : List Part) → 0 < length ps → ps ≢ []
not_empty [] h e = absurd (omega arith)
not_empty (p ∷ ps) h e = absurd (cc)

pub blocks_have : SpelledFits → BlocksOfBytesHaveText
blocks_have fits b at typed known =
    record {
      at = at;
      code = spelled_bytes b.at b.code known.instrs known.spelled;
      some = not_empty b.parts typed.0;
      parts = parts_have unwritten b.parts refl typed.1 (subst (λ (ps : List Part). AllNumbers ps) (sym known.parts) (block_numbers known.instrs (spelled_fit fits b.at b.code known.instrs known.spelled)));
    }

-- ---- texts

more : (blocks : List Block) (b : Block) → flat_map block_text (blocks ++ b ∷ []) ≡ flat_map block_text blocks ++ block_text b
more [] b = append-nil (block_text b)
more (x ∷ xs) b = ap (λ (s : List ℕ). block_text x ++ s) (more xs b) ∙ sym (append_assoc (block_text x) (flat_map block_text xs) (block_text b))

pub grows : TextGrowsByBlocks
grows blocks b = ap (λ (s : List ℕ). codes "ir 1\n" ++ s) (more blocks b) ∙ sym (append_assoc (codes "ir 1\n") (flat_map block_text blocks) (block_text b))
