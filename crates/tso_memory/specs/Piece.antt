-- A run of bytes with one set of rights, as contracts see it.
use Rattle.std.specs.Prelude.{◌≡◌, ℕ, ◌+◌, ◌^◌, ◌<◌, ◌≤◌, Bool, false, ◌&&◌, nat_le, nat_lt, IsTrue, List, [], length, slice_index_or}

pub record PieceData : Type 0 where
  pub at : ℕ
  pub r : Bool
  pub w : Bool
  pub bytes : List ℕ

-- the first address after a piece
abbrev pub end_of : PieceData → ℕ
end_of p = p.at + length p.bytes

-- an address is one of a piece's
abbrev pub has : PieceData → ℕ → Bool
has p x = nat_le p.at x && nat_lt x (end_of p)

abbrev pub ShareNone : PieceData → PieceData → Type 0
ShareNone p q = (x : ℕ) → IsTrue (has p x) → IsTrue (has q x) → ⊥

-- the piece with other bytes
abbrev pub with_bytes : PieceData → List ℕ → PieceData
with_bytes p bs = record p { bytes = bs }

abbrev pub no_piece : PieceData
no_piece = record { at = 0; r = false; w = false; bytes = [] }

abbrev pub piece_at : List PieceData → ℕ → PieceData
piece_at ps i = slice_index_or ps i no_piece

-- no address is one of two pieces'
abbrev pub AreApart : List PieceData → Type 0
AreApart ps = (i j : ℕ) → i < j → j < length ps → ShareNone (piece_at ps i) (piece_at ps j)

-- the pieces lie below 2^47
abbrev pub AreLow : List PieceData → Type 0
AreLow ps = (i : ℕ) → i < length ps → end_of (piece_at ps i) ≤ 2 ^ 47

-- pieces that have bytes, in the order of their addresses, below 2^47
pub record IsLaidOut (ps : List PieceData) : Type 0 where
  pub in_order : (i j : ℕ) → i < j → j < length ps → end_of (piece_at ps i) ≤ (piece_at ps j).at
  pub filled : (i : ℕ) → i < length ps → (piece_at ps i).at < end_of (piece_at ps i)
  pub low : AreLow ps

-- the n bytes from address a on are those of piece i from place k on
pub record IsRunAt (ps : List PieceData) (a n i k : ℕ) : Type 0 where
  pub within : i < length ps
  pub begins : a ≡ (piece_at ps i).at + k
  pub fits : k + n ≤ length (piece_at ps i).bytes
