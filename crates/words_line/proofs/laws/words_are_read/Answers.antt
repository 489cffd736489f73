use Rattle.words_line.proofs.Reading.{words_are_read}
use Rattle.words_line.proofs.laws.words_are_read.Goals as goal

pub returns : goal.returns
returns c words = words_are_read words
