use Rattle.std.proofs.Common.{sym, ap, subst, ◌∙◌, Option, Result}
use Rattle.words_line.specs.declared.plan.Plan.{Plan}
use Rattle.words_line.specs.declared.plan.WordsFault.{WordsFault}
use Rattle.words_line.specs.declared.table.Kind.{Kind}
use Rattle.words_line.specs.Commands.{AnswersBy, command_of, plan_or_unknown, texts}
use Rattle.words_line.proofs.WordLemmas.{none_first, some_first}
use Rattle.words_line.proofs.words.read_words.Goals as goal

pub returns-in_default-clause-answer : goal.returns-in_default-clause-answer
returns-in_default-clause-answer c = none_first c.args.words.now (sym c.in_default.ensures.value)

pub returns-in-None-clause-answer : goal.returns-in-None-clause-answer
returns-in-None-clause-answer c =
    some_first c.args.words.now c.in-Some.word.now (sym c.in-Some.ensures.value) ∙ ap (λ (o : Option Kind). plan_or_unknown o (texts c.args.words.now)) (ap command_of (sym c.deref.ensures) ∙ sym c.of.ensures ∙ c.in-None.is)

pub returns-in-Some-of-clause-answer : goal.returns-in-Some-of-clause-answer
returns-in-Some-of-clause-answer c =
    let same = some_first c.args.words.now c.in-Some.word.now (sym c.in-Some.ensures.value) ∙ ap (λ (o : Option Kind). plan_or_unknown o (texts c.args.words.now)) (ap command_of (sym c.deref.ensures) ∙ sym c.of.ensures ∙ c.in-Some-of.is) in
    subst (λ (r : Result Plan WordsFault). AnswersBy r c.read_line.result) (sym same) c.read_line.ensures.answer
