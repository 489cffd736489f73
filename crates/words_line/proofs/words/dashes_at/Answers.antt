use Rattle.std.proofs.Common.{sym, ap, ◌∙◌}
use Rattle.words_line.specs.Commands.{is_dashes}
use Rattle.words_line.proofs.WordLemmas.{at_end, at_place, not_at}
use Rattle.words_line.proofs.words.dashes_at.Goals as goal

pub returns-then-eq-clause-place : goal.returns-then-eq-clause-place
returns-then-eq-clause-place c =
    at_place c.args.words.now c.loop-place.place c.index-words-place.result c.loop-place-test.true c.loop-place.invariant c.index-words-place.is (ap is_dashes (sym c.as_str.ensures.value) ∙ sym c.eq.ensures ∙ c.if-eq.true)

pub loop-place-preserved : goal.loop-place-preserved
loop-place-preserved c =
    not_at c.args.words.now c.loop-place.place c.index-words-place.result c.loop-place-test.true c.loop-place.invariant c.index-words-place.is (ap is_dashes (sym c.as_str.ensures.value) ∙ sym c.eq.ensures ∙ c.if-eq.false)

pub returns-clause-place : goal.returns-clause-place
returns-clause-place c = at_end c.args.words.now c.loop-place.place c.loop-place-test.false c.loop-place.invariant
