use Rattle.std.proofs.Common.{◌≡◌, ℕ, ◌+◌, ◌<◌, ◌≤◌, ◌-◌, ◌/◌, List, length, ap, ◌∙◌, inl, inr, arith}
use Rattle.std.proofs.lemmas.Bool.{cases_order}
use Rattle.tso_memory.specs.Piece.{PieceData, IsLaidOut, piece_at}
use Rattle.tso_memory.proofs.PieceLemmas.{read_piece}
use Rattle.tso_memory.proofs.piece.starting_by.Invariants.{Halved}
use Rattle.tso_memory.proofs.piece.starting_by.Goals as goal

rising : (ps : List PieceData) (i j : ℕ) → IsLaidOut ps → i < j → j < length ps → (piece_at ps i).at < (piece_at ps j).at
rising ps i j h below within = omega (arith, h.in_order i j below within, h.filled i (omega arith))

halved_up : (ps : List PieceData) (x low high m : ℕ) → IsLaidOut ps → Halved ps x low high → m < high → (piece_at ps m).at ≤ x → Halved ps x (m + 1) high
halved_up ps x low high m h v within here = record {
  ordered = omega arith;
  within = v.within;
  before = λ i below. elim (cases_order i m) [
    | inl e ↦ rw e here
    | inr rest ↦ elim rest [ inl less ↦ omega (arith, rising ps i m h less (omega (arith, v.within))) | inr more ↦ absurd (omega arith) ]
  ];
  after = v.after;
}

halved_down : (ps : List PieceData) (x low high m : ℕ) → IsLaidOut ps → Halved ps x low high → low ≤ m → m < high → x < (piece_at ps m).at → Halved ps x low m
halved_down ps x low high m h v from within here = record {
  ordered = from;
  within = omega (arith, v.within);
  before = v.before;
  after = λ i above far. elim (cases_order i m) [
    | inl e ↦ rw e here
    | inr rest ↦ elim rest [ inl less ↦ absurd (omega arith) | inr more ↦ omega (arith, rising ps m i h more far) ]
  ];
}

pub loop-low-preserved-then-piece-x : goal.loop-low-preserved-then-piece-x
loop-low-preserved-then-piece-x c =
    let m = c.loop-low.low + (c.loop-low.high - c.loop-low.low) / 2 in
    let e : c.piece.inside.at ≡ (piece_at c.args.pieces.now m).at = ap (λ (p : PieceData). p.at) (c.piece.view_is ∙ read_piece c.args.pieces.now m c.index-pieces-middle.result (omega (arith, c.loop-low.invariant.within)) c.index-pieces-middle.is) in
    halved_up c.args.pieces.now c.args.x c.loop-low.low c.loop-low.high m c.requires c.loop-low.invariant (omega arith) (omega arith)

pub loop-low-preserved : goal.loop-low-preserved
loop-low-preserved c =
    let m = c.loop-low.low + (c.loop-low.high - c.loop-low.low) / 2 in
    let e : c.piece.inside.at ≡ (piece_at c.args.pieces.now m).at = ap (λ (p : PieceData). p.at) (c.piece.view_is ∙ read_piece c.args.pieces.now m c.index-pieces-middle.result (omega (arith, c.loop-low.invariant.within)) c.index-pieces-middle.is) in
    halved_down c.args.pieces.now c.args.x c.loop-low.low c.loop-low.high m c.requires c.loop-low.invariant (omega arith) (omega arith) (omega arith)
