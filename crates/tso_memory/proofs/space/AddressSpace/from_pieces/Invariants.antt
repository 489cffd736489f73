use Rattle.std.proofs.Common.{vec_len}
use Rattle.tso_memory.proofs.MakeLemmas.{LaidFrom}
use Rattle.tso_memory.proofs.space.AddressSpace.from_pieces.Given as goal

-- as far as the sorted pieces are taken from their end
abbrev pub invariant-loop-piece : goal.invariant-loop-piece
invariant-loop-piece l = LaidFrom l.initial.pieces.items l.pieces.items l.space

abbrev pub decreases-loop-piece : goal.decreases-loop-piece
decreases-loop-piece l = vec_len l.pieces
