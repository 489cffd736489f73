use Rattle.words_line.specs.Commands.{row_of, texts}
use Rattle.words_line.proofs.WordLemmas.{not_refused, refused_by}
use Rattle.words_line.proofs.words.is_refused.Goals as goal

pub returns-then-has_arguments : goal.returns-then-has_arguments
returns-then-has_arguments c = not_refused (row_of c.args.kind) (texts c.args.words.now) c.has_arguments.result c.has_arguments.ensures c.if-has_arguments.true

pub returns-else-has_arguments : goal.returns-else-has_arguments
returns-else-has_arguments c = refused_by (row_of c.args.kind) c.args.words.now c.args.at c.has_arguments.result c.requires c.has_arguments.ensures c.if-has_arguments.false
