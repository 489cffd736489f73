use Rattle.std.proofs.Common.{◌≡◌, ◌≢◌, ◌++◌, ◌∷◌, [], ◌<◌, Bool, false, eqb, ℕ, List, length, string_bytes, sym, ap, ◌∙◌}
use Rattle.std.proofs.lemmas.Bool.{eqb-false}
use Rattle.std.proofs.lemmas.List.Elements.{recursion_from_All}
use Rattle.std.proofs.lemmas.Result.{IfOk-equal}
use Rattle.ir_text.specs.Text.{code_text}
use Rattle.ir_text.proofs.NameLemmas.{code_pairs}
use Rattle.ir_text.proofs.RunLemmas.{code_is_bytes}
use Rattle.ir_text.proofs.printing.push_code.Goals as goal

some_left : (rest : List ℕ) (b : Bool) → b ≡ eqb (length rest) 0 → b ≡ false → rest ≢ []
some_left rest b e f z = eqb-false (length rest) 0 (sym e ∙ f) (ap length z)

pub returns-in_ok-pairs : goal.returns-in_ok-pairs
returns-in_ok-pairs c =
    let code = c.args.code.now in
    let some = some_left code c.is_empty.result c.is_empty.ensures c.if-is_empty.false in
    let pairs : c.as_str.result.now ≡ code_text code =
    c.as_str.ensures.value ∙ c.in_ok-pairs.ensures ∙ code_pairs code (recursion_from_All (λ c. c < 256) code c.requires) ∙ sym (code_is_bytes code some) in
    IfOk-equal c.put.result _ _ _ c.put.ensures (ap (λ (z : List ℕ). string_bytes c.args.out.now ++ (z ++ 10 ∷ [])) pairs)
