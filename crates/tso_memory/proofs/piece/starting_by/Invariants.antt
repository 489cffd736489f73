use Rattle.std.proofs.Common.{ℕ, ◌<◌, ◌≤◌, ◌-◌, List, length}
use Rattle.tso_memory.specs.Piece.{PieceData, piece_at}
use Rattle.tso_memory.proofs.piece.starting_by.Given as goal

pub record Halved (ps : List PieceData) (x low high : ℕ) : Type 0 where
  pub ordered : low ≤ high
  pub within : high ≤ length ps
  pub before : (i : ℕ) → i < low → (piece_at ps i).at ≤ x
  pub after : (i : ℕ) → high ≤ i → i < length ps → x < (piece_at ps i).at

abbrev pub invariant-loop-low : goal.invariant-loop-low
invariant-loop-low l = Halved l.pieces l.x l.low l.high

abbrev pub decreases-loop-low : goal.decreases-loop-low
decreases-loop-low l = l.high - l.low
