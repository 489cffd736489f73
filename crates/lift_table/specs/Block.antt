-- The block at a code place, and when a block does what the code at its place does.
use Rattle.std.specs.Prelude.{◌≡◌, ℕ, zero, suc, List, [], ◌∷◌, drop, Option, None}
use Rattle.guest_state.specs.declared.virtual_state.Virtual.{Virtual}
use Rattle.x86_model.specs.declared.cpu.Cpu.{Cpu}
use Rattle.elf_image.specs.Layout.{ImageData}
use Rattle.ir_syntax.specs.declared.block.Block.{Block}
use Rattle.ir_syntax.specs.declared.block.Part.{Part}
use Rattle.ir_syntax.specs.declared.line.PartEnd.TheVariants.{BadCode}
use Rattle.x86_model.specs.Want.{want}
use Rattle.basic_blocks.specs.Placed.{Placed}
use Rattle.basic_blocks.specs.Span.{block_at}
use Rattle.basic_blocks.specs.Bytes.{bytes_of}
use Rattle.lift_table.specs.LiftLines.{alone}
use Rattle.lift_table.specs.Faithful.{AreFaithful, Matches, MatchesAt, block_parts, left_after, under_way}

-- ---- blocks

-- where no instruction stands, the block has no bytes and one part, which says so
abbrev pub trap_block : ℕ → Block
trap_block a = record { at = a; code = []; parts = alone [] BadCode }

-- the block of instructions: their bytes and the table's parts in order, without the dead puts of a flag
abbrev pub block_of : ImageData → ℕ → List Placed → Block
block_of image a is = record { at = a; code = bytes_of image is; parts = block_parts is }

-- the block at a code place
abbrev pub lifted_block : ImageData → ℕ → Block
lifted_block image a = block_of image a (block_at image a)

-- ---- faithful blocks

-- a block has the bytes of these instructions, and its parts follow a thread through them
abbrev pub IsFaithfulTo : ImageData → Block → List Placed → Type 0
IsFaithfulTo image b [] = b ≡ trap_block b.at
IsFaithfulTo image b (i ∷ is) = (b.code ≡ bytes_of image (i ∷ is)) × AreFaithful (want image) None (i ∷ is) b.parts

-- a block does what the code at its place does
abbrev pub IsFaithful : ImageData → Block → Type 0
IsFaithful image b = IsFaithfulTo image b (block_at image b.at)

-- ---- a guest in a block

-- the instructions that are left after a part of the first of them
abbrev pub left_of : Part → List Placed → List Placed
left_of p [] = []
left_of p (i ∷ is) = left_after p i is

-- before the n-th of these parts: the first part of the instruction under way, if one is, and the instructions that are
-- left, that one first
unfoldable pub place_in : Option Part → List Placed → List Part → ℕ → Option Part × List Placed
place_in under is ps zero = (under, is)
place_in under is [] (suc n) = (under, is)
place_in under is (p ∷ ps) (suc n) = place_in (under_way p) (left_of p is) ps n

-- a guest matches its thread before these last parts: at the first instruction that is left or, in a trap block, at the
-- block's own place
abbrev pub MatchesThere : ℕ → Option Part → List Placed → List Part → Virtual → Cpu → Type 0
MatchesThere at under [] parts v s = Matches parts at None v s
MatchesThere at under (i ∷ is) parts v s = MatchesAt under parts i.at v s

-- the guest matches its thread at part n of a block, a trap block among them
abbrev pub StandsAt : ImageData → Block → ℕ → Virtual → Cpu → Type 0
StandsAt image b n v s = let there = place_in None (block_at image b.at) b.parts n in MatchesThere b.at there.0 there.1 (drop n b.parts) v s
