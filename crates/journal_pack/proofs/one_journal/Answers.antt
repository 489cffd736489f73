use Rattle.journal_pack.proofs.PackedLemmas.{same_journal}
use Rattle.journal_pack.proofs.one_journal.Goals as goal

pub returns : goal.returns
returns c = same_journal
