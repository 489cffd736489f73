use Rattle.std.proofs.Common.{◌∙◌}
use Rattle.words_line.proofs.WordLemmas.{first_here}
use Rattle.words_line.proofs.words.value_of.Goals as goal

pub returns : goal.returns
returns c = c.get_str.ensures ∙ first_here c.args.matches.now c.args.id.now
