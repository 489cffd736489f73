use Rattle.std.proofs.Common.{◌≡◌, [], drop, sym, ap, ◌∙◌}
use Rattle.std.proofs.lemmas.List.{nil_from_length}
use Rattle.ir_text.specs.Reading.{literal}
use Rattle.ir_text.proofs.LiteralLemmas.{literal_none}
use Rattle.ir_text.proofs.words.literal.Goals as goal

pub returns-in-None : goal.returns-in-None
returns-in-None c =
    let none : c.loop-byte.rest.now ≡ [] = nil_from_length c.loop-byte.rest.now c.in-None.ensures.cases in
    sym (literal_none c.args.word.now c.loop-byte.byte-index c.loop-byte-test.true)
    ∙ ap (literal (drop c.loop-byte.byte-index c.args.word.now)) (sym none)
    ∙ c.loop-byte.invariant
