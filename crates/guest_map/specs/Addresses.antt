-- The stacks of the slots as pieces of memory.
use Rattle.std.specs.Prelude.{ℕ, ◌-◌, true, List, map, replicate}
use Rattle.std.specs.List.{range_with_len}
use Rattle.address_space.specs.Addresses.{bottom, top}
use Rattle.tso_memory.specs.Piece.{PieceData}

-- the zero bytes from an address up to another
unfoldable pub zeros : ℕ → ℕ → List ℕ
zeros from to = replicate (to - from) 0

-- the stack of slot t, to read and to write, with these bytes
abbrev pub stack : ℕ → List ℕ → PieceData
stack t bytes = record { at = bottom t; r = true; w = true; bytes = bytes }

-- the stack of a slot before its first thread: zero bytes
abbrev pub unborn_stack : ℕ → PieceData
unborn_stack t = stack t (zeros (bottom t) (top t))

-- the stacks of n slots from slot 1 on
unfoldable pub unborn_stacks : ℕ → List PieceData
unborn_stacks n = map unborn_stack (range_with_len 1 n)
