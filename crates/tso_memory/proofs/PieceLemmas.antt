-- Pieces in a list.
use Rattle.std.proofs.Common.{◌≡◌, ℕ, ◌+◌, ◌<◌, List, ◌++◌, length, get_or, take, drop, ap, ◌∙◌}
use Rattle.std.proofs.lemmas.List.{get_or_default, take_at}
use Rattle.tso_memory.specs.Piece.{PieceData, piece_at, no_piece, with_bytes}

-- what is read at a place is the piece there
pub read_piece : (ps : List PieceData) (i : ℕ) (p : PieceData) → i < length ps → p ≡ get_or ps i p → p ≡ piece_at ps i
read_piece ps i p within e = e ∙ get_or_default ps i p no_piece within

-- the piece after a write
abbrev pub overwritten : PieceData → ℕ → List ℕ → PieceData
overwritten p k bs = with_bytes p (take k p.bytes ++ (bs ++ drop (k + length bs) p.bytes))

pub piece_overwritten : (p q : PieceData) (n k : ℕ) (bs old new : List ℕ) → p ≡ q → old ≡ p.bytes → length new ≡ length old → length old ≡ n → new ≡ take k old ++ (bs ++ drop (k + length bs) old) → with_bytes p (take n (new ++ drop (length new) p.bytes)) ≡ overwritten q k bs
piece_overwritten p q n k bs old new v o size len e =
    ap (with_bytes p) (take_at new (drop (length new) p.bytes) n (size ∙ len) ∙ (e ∙ ap (λ xs. take k xs ++ (bs ++ drop (k + length bs) xs)) o))
    ∙ ap (λ (z : PieceData). overwritten z k bs) v
