-- How a guest's memory begins, and when it can't.
use Rattle.std.specs.Prelude.{◌≡◌, ℕ, ◌+◌, ◌<◌, ◌≤◌, Bool, ◌&&◌, nat_lt, List, ◌∷◌, ◌++◌, length, map, position, Option, Some, None}
use Rattle.elf_image.specs.Layout.{SegmentData, ImageData}
use Rattle.tso_memory.specs.Piece.{PieceData}
use Rattle.tso_memory.specs.Tso as tso
use Rattle.guest_map.specs.declared.start.Start.{Start}
use Rattle.guest_map.specs.declared.fault.LayFault.{LayFault}
use Rattle.guest_map.specs.declared.fault.LayFault.TheVariants.{Clash, ArgsTooLong, Memory}
use Rattle.address_space.specs.declared.TheConstants.{FIRST_RESERVED, AFTER_RESERVED}
use Rattle.guest_map.specs.Addresses.{stack, unborn_stacks}
use Rattle.guest_map.specs.Entry.{strings, entry_rsp, entry_stack}

-- some of the segment's addresses is reserved
abbrev pub meets_reserved : SegmentData → Bool
meets_reserved s = nat_lt s.at AFTER_RESERVED && nat_lt FIRST_RESERVED (s.at + s.size)

-- the first segment that has a reserved address
abbrev pub first_clash : ImageData → Option ℕ
first_clash image = position meets_reserved image.segments

-- the strings of the arguments, each with its zero byte, have at most 4,096 bytes
abbrev pub AreShort : List (List ℕ) → Type 0
AreShort args = length (strings args) ≤ 4096

abbrev pub IsAccepted : ImageData → List (List ℕ) → Type 0
IsAccepted image args = (first_clash image ≡ None) × AreShort args

-- which fault comes: a clash before arguments that are too long, and want of memory where neither is
abbrev pub FaultsAt : ImageData → List (List ℕ) → LayFault → Type 0
FaultsAt image args (Clash i) = first_clash image ≡ Some i
FaultsAt image args ArgsTooLong = (first_clash image ≡ None) × (4096 < length (strings args))
FaultsAt image args (Memory e) = IsAccepted image args

abbrev pub piece_of : SegmentData → PieceData
piece_of s = record { at = s.at; r = s.r; w = s.w; bytes = s.bytes }

-- the stacks of the 64 slots; that of slot 0 is as the process is entered
abbrev pub stacks : List (List ℕ) → List PieceData
stacks args = stack 0 (entry_stack args) ∷ unborn_stacks 63

-- all that is in memory: the image's segments and the stacks
abbrev pub pieces : ImageData → List (List ℕ) → List PieceData
pieces image args = map piece_of image.segments ++ stacks args

-- the memory and the stack pointer of thread 0 as a guest begins; no store waits
abbrev pub start_of : ImageData → List (List ℕ) → Start
start_of image args = record { memory = tso.start_of (pieces image args); rsp = entry_rsp args }
