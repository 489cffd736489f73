-- A guest with its thread: between blocks, at an address, or before a part of a lifted block.
use Rattle.std.specs.Prelude.{◌≡◌, ℕ, zero, suc, ◌+◌, ◌%◌, ◌^◌, ◌<◌, Bool, true, false, nat_lt, List, [], ◌∷◌, drop, length, None}
use Rattle.elf_image.specs.Layout.{ImageData}
use Rattle.guest_state.specs.declared.virtual_state.Virtual.{Virtual}
use Rattle.ir_meaning.specs.Ready.{Fits}
use Rattle.ir_syntax.specs.declared.block.Block.{Block}
use Rattle.ir_syntax.specs.declared.block.Part.{Part}
use Rattle.ir_syntax.specs.Typed.{IsWellTyped, Types, are_parts_typed}
use Rattle.basic_blocks.specs.Placed.{Placed}
use Rattle.basic_blocks.specs.Places.{is_code_place}
use Rattle.basic_blocks.specs.Reach.{is_among}
use Rattle.basic_blocks.specs.Span.{block_at}
use Rattle.lift_table.specs.Block.{IsFaithful, StandsAt, lifted_block, place_in}
use Rattle.lift_table.specs.Faithful.{left_after, takes_answer}
use Rattle.lift_table.specs.Follow.{Onward}
use Rattle.machine_model.specs.Gated.{Stand}
use Rattle.machine_model.specs.InBlocks.{addresses}

-- ---- blocks

-- the block is what lifting gives at a code place
pub record IsLiftedAt (image : ImageData) (a : ℕ) (b : Block) : Type 0 where
  pub address : a < 2 ^ 64
  pub place : is_code_place image a ≡ true
  pub lifted : b ≡ lifted_block image a
  pub typed : IsWellTyped b
  pub faithful : IsFaithful image b

-- the address after the bytes of a block
abbrev pub end_of : Block → ℕ
end_of b = (b.at + length b.code) % 2 ^ 64

-- ---- where a thread is in a block

-- the instructions that are left before part n of a block, the one under way first
abbrev pub instrs_left : ImageData → Block → ℕ → List Placed
instrs_left image b n = (place_in None (block_at image b.at) b.parts n).1

-- the addresses of its block that are left to a thread before part n; before the first part it stands between blocks
abbrev pub left_before : ImageData → Block → ℕ → List ℕ
left_before image b zero = []
left_before image b (suc n) = addresses (instrs_left image b (suc n))

-- an instruction that waits for its second step isn't finished
abbrev pub last_after : Bool → ℕ → ℕ → ℕ
last_after true last at = last
last_after false last at = at

-- Where the instruction stands that was finished last before the n-th of these parts of these instructions; before the
-- first of them it is this one.
unfoldable pub last_in : ℕ → List Placed → List Part → ℕ → ℕ
last_in last is ps zero = last
last_in last is [] (suc n) = last
last_in last [] (p ∷ ps) (suc n) = last
last_in last (i ∷ is) (p ∷ ps) (suc n) = last_in (last_after (takes_answer p.end) last i.at) (left_after p i is) ps n

abbrev pub last_before : ImageData → Block → ℕ → ℕ → ℕ
last_before image b n last = last_in last (block_at image b.at) b.parts n

-- Where the instruction of each of these parts stands; that of parts without one, at this place.
unfoldable pub places_in : ℕ → List Placed → List Part → List ℕ
places_in at is [] = []
places_in at [] (p ∷ ps) = at ∷ places_in at [] ps
places_in at (i ∷ is) (p ∷ ps) = i.at ∷ places_in at (left_after p i is) ps

-- where the instruction of each part of a block stands
abbrev pub places_of : ImageData → Block → List ℕ
places_of image b = places_in b.at (block_at image b.at) b.parts

-- ---- a guest with its thread

-- the parts that are left are typed, and the temporaries hold what they need
pub record IsTyped (parts : List Part) (v : Virtual) : Type 0 where
  pub types : Types
  pub lines : are_parts_typed types parts ≡ true
  pub fits : Fits types v.temps

-- Between blocks at an address: nothing is loaded, and registers, flags, rip and the instruction that was finished last agree.
pub record StandsBetween (a last : ℕ) (v : Virtual) (d : Stand) : Type 0 where
  pub left : d.left ≡ []
  pub agrees : Onward a v d.cpu
  pub finished : d.cpu.last ≡ last

-- Before part n of a block that is lifted at a grown place: the guest matches its thread there. The thread is at that
-- part's instruction in the block, or, before the first part, between blocks. Before the block `last` was finished last.
pub record StandsInside (image : ImageData) (grown : List ℕ) (b : Block) (n last : ℕ) (v : Virtual) (d : Stand) : Type 0 where
  pub inside : n < length b.parts
  pub lifted : IsLiftedAt image b.at b
  pub grown_place : is_among grown b.at ≡ true
  pub matches : StandsAt image b n v d.cpu
  pub left : d.left ≡ left_before image b n
  pub finished : d.cpu.last ≡ last_before image b n last
  pub typed : IsTyped (drop n b.parts) v

-- where a guest is: between blocks, at an address, or before a part of a block
pub data Position : Type 0 where
  Between : (place : ℕ) → Position
  Inside : (block : Block) (part : ℕ) → Position

-- a guest stands with its thread
abbrev pub StandsIn : ImageData → List ℕ → Position → ℕ → Virtual → Stand → Type 0
StandsIn image grown (Between a) last v d = StandsBetween a last v d
StandsIn image grown (Inside b n) last v d = StandsInside image grown b n last v d

-- ---- after a part

-- Where a guest is after part n of a block: before the next part, or after the last one at the address to which it leads,
-- where the instruction at `rip` was finished last.
abbrev pub has_more : Block → ℕ → Bool
has_more b n = nat_lt (n + 1) (length b.parts)

abbrev pub StandsAfter : Bool → ImageData → List ℕ → Block → ℕ → ℕ → ℕ → ℕ → Virtual → Stand → Type 0
StandsAfter true image grown b n last rip to v d = StandsInside image grown b (n + 1) last v d
StandsAfter false image grown b n last rip to v d = StandsBetween to rip v d
