use Rattle.std.proofs.Common.{sym, ◌∙◌}
use Rattle.words_line.proofs.WordLemmas.{args_behind}
use Rattle.words_line.proofs.words.split_at_dashes.Goals as goal

pub returns-in-Some-clause-back : goal.returns-in-Some-clause-back
returns-in-Some-clause-back c = args_behind c.args.words.now c.in-Some.args.now c.args.at c.in-Some.field-0-0.now (sym c.split_at.ensures.back ∙ c.in-Some.ensures.cases.0)
