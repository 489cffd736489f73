use Rattle.std.proofs.Common.{◌≡◌, ◌∷◌, [], ◌++◌, ◌∙◌, arith}
use Rattle.words_line.proofs.WordLemmas.{more_texts}
use Rattle.words_line.proofs.words.copies.Goals as goal

pub loop-word-preserved : goal.loop-word-preserved
loop-word-preserved c =
    let pushed : c.push.new.self.items ≡ c.loop-word.copies.items ++ c.in_ok-copy.copy ∷ [] = grind arith in
    more_texts c.args.words.now c.loop-word.copies.items c.push.new.self.items c.loop-word.word-index c.in_ok-copy.copy c.word-item.result c.loop-word.invariant c.loop-word-test.true pushed c.word-item.is (c.in_ok-copy.ensures.ok ∙ c.deref.ensures)
