-- Memory: a finite map from addresses to a byte with rights.
use Rattle.std.specs.Prelude.{ℕ, zero, suc, ◌+◌, ◌-◌, ◌*◌, Bool, false, ◌&&◌, nat_le, nat_lt, length, slice_index, if◌then◌else◌, List, [], ◌∷◌, Option, Some, None, Result, Ok, Err, refl}
use Rattle.std.specs.Coded.{Coded, code_by, coded×, coded_ℕ, coded_bool}
use Rattle.std.specs.Ordering.{nat_cmp}
use Rattle.std.specs.FinMap.{FinMap, code, empty, get, insert}
use Rattle.tso_memory.specs.declared.access.Access.{Access}
use Rattle.tso_memory.specs.declared.access.Access.TheVariants.{Load, Store, Locked}
use Rattle.tso_memory.specs.declared.access.Denied.{Denied}
use Rattle.tso_memory.specs.Piece.{PieceData}

-- what stands at an address
pub record Cell : Type 0 where
  pub byte : ℕ
  pub r : Bool
  pub w : Bool

-- as three values
abbrev pub coded_cell : Coded Cell
coded_cell = code_by (ℕ × (Bool × Bool)) (coded× coded_ℕ (coded× coded_bool coded_bool)) (λ c. (c.byte, (c.r, c.w))) (λ p. record { byte = p.0; r = p.1.0; w = p.1.1 }) (λ _. refl)

abbrev pub Memory : Type 0
Memory = FinMap nat_cmp Cell

abbrev pub coded_memory : Coded Memory
coded_memory = code coded_ℕ coded_cell

abbrev pub cell_byte : Option Cell → ℕ
cell_byte None = 0
cell_byte (Some c) = c.byte

-- the byte at an address, 0 where there is none
abbrev pub byte_of : Memory → ℕ → ℕ
byte_of m x = cell_byte (get m x)

-- a load needs R, a store W, a locked access both
abbrev pub permits : Access → Option Cell → Bool
permits access None = false
permits Load (Some c) = c.r
permits Store (Some c) = c.w
permits Locked (Some c) = c.r && c.w

abbrev pub may : Memory → Access → ℕ → Bool
may m access x = permits access (get m x)

-- the first of n addresses from x that may not be accessed
unfoldable pub first_denied : (ℕ → Bool) → ℕ → ℕ → Option ℕ
first_denied allowed x zero = None
first_denied allowed x (suc n) = if allowed x then first_denied allowed (x + 1) n else Some x

-- the address that an answer denies
abbrev pub refusal : {A : Type 0} → Result A Denied → Option ℕ
refusal (Ok v) = None
refusal (Err d) = Some d.0

-- the number in the n bytes from an address, the lowest byte first
unfoldable pub number_from : (ℕ → ℕ) → ℕ → ℕ → ℕ
number_from byte zero x = 0
number_from byte (suc n) x = byte x + 256 * number_from byte n (x + 1)

-- the n bytes from an address on
unfoldable pub bytes_from : Memory → ℕ → ℕ → List ℕ
bytes_from m x zero = []
bytes_from m x (suc n) = byte_of m x ∷ bytes_from m (x + 1) n

-- with another byte at an address: its rights stay, and where there is none nothing changes
abbrev pub with_cell : Memory → ℕ → ℕ → Option Cell → Memory
with_cell m x b None = m
with_cell m x b (Some c) = insert m x (record c { byte = b })

abbrev pub put_byte : Memory → ℕ → ℕ → Memory
put_byte m x b = with_cell m x b (get m x)

-- a cell with another byte
abbrev pub written : Option Cell → ℕ → Option Cell
written None b = None
written (Some c) b = Some (record c { byte = b })

-- what stands at x after these bytes are put from a on, by what stood there
abbrev pub put_at : ℕ → List ℕ → ℕ → Option Cell → Option Cell
put_at a bs x o = if nat_le a x && nat_lt x (a + length bs) then written o (slice_index bs (x - a)) else o

-- with these bytes from an address on
unfoldable pub put_bytes : Memory → ℕ → List ℕ → Memory
put_bytes m x [] = m
put_bytes m x (b ∷ bs) = put_bytes (put_byte m x b) (x + 1) bs

-- with new cells of these rights from an address on
unfoldable pub add_cells : Memory → ℕ → Bool → Bool → List ℕ → Memory
add_cells m x r w [] = m
add_cells m x r w (b ∷ bs) = insert (add_cells m (x + 1) r w bs) x (record { byte = b; r = r; w = w })

-- the memory of these pieces; where two share an address the earlier counts
unfoldable pub memory_of : List PieceData → Memory
memory_of [] = empty
memory_of (p ∷ ps) = add_cells (memory_of ps) p.at p.r p.w p.bytes

-- what a piece has at one of its addresses
abbrev pub cell_of : PieceData → ℕ → Cell
cell_of p x = record { byte = slice_index p.bytes (x - p.at); r = p.r; w = p.w }
