use Rattle.std.proofs.Common.{length}
use Rattle.ir_text.specs.Draft.{made_by}
use Rattle.ir_text.proofs.ReadsLemmas.{Reads}
use Rattle.ir_text.proofs.reading.blocks_of.Given as goal

abbrev pub invariant-pieces : goal.invariant-pieces
invariant-pieces l = Reads l.bytes l.rest (made_by l.draft) l.draft.state

abbrev pub decreases-pieces : goal.decreases-pieces
decreases-pieces l = length l.rest
