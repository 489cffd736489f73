use Rattle.journal_pack.proofs.EntryLemmas.{length-spelling}
use Rattle.journal_pack.proofs.at_most_28_bytes.Goals as goal

pub returns : goal.returns
returns c = length-spelling
