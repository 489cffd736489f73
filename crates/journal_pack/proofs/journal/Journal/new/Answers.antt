use Rattle.journal_pack.proofs.PackedLemmas.{none_kept}
use Rattle.journal_pack.proofs.journal.Journal.new.Goals as goal

pub invariant_of-result : goal.invariant_of-result
invariant_of-result c = (none_kept c.new.result.items c.new.ensures.items).0

pub returns : goal.returns
returns c = (none_kept c.new.result.items c.new.ensures.items).1
