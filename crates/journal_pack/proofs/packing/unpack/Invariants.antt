use Rattle.std.proofs.Common.{length}
use Rattle.journal_pack.proofs.PackedLemmas.{IsRead}
use Rattle.journal_pack.proofs.packing.unpack.Given as goal

-- these entries are read
abbrev pub invariant-loop-rest : goal.invariant-loop-rest
invariant-loop-rest l = IsRead l.bytes l.entries.items l.rest

abbrev pub decreases-loop-rest : goal.decreases-loop-rest
decreases-loop-rest l = length l.rest
