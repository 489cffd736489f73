-- The instructions that bytes spell, and blocks that are known by their bytes.
use Rattle.std.specs.Prelude.{◌≡◌, ◌≤◌, ℕ, ◌+◌, ◌%◌, ◌^◌, List, [], ◌∷◌, length, take, drop}
use Rattle.elf_image.specs.Layout.{ImageData}
use Rattle.ir_syntax.specs.declared.block.Block.{Block}
use Rattle.x86_forms.specs.Spelling.{Spells}
use Rattle.basic_blocks.specs.Placed.{Placed}
use Rattle.basic_blocks.specs.Span.{block_at}
use Rattle.basic_blocks.specs.Bytes.{bytes_of}
use Rattle.lift_table.specs.Block.{lifted_block}
use Rattle.lift_table.specs.Faithful.{block_parts}

-- The first bytes from an address on spell this instruction, which stands there. The address after it is as many bytes
-- further, modulo 2^64.
pub record IsFirst (a : ℕ) (code : List ℕ) (p : Placed) : Type 0 where
  pub at : p.at ≡ a
  pub size : ℕ
  pub within : size ≤ length code
  pub spelled : Spells p.instr (take size code)
  pub next : p.next ≡ (a + size) % 2 ^ 64

-- bytes from an address on spell these instructions, one after another, to their end
abbrev pub AreSpelled : ℕ → List ℕ → List Placed → Type 0
AreSpelled a code [] = code ≡ []
AreSpelled a code (p ∷ ps) = (first : IsFirst a code p) × AreSpelled p.next (drop first.size code) ps

-- A block's bytes spell instructions from its address on, and its parts are the table's for them, without the dead puts
-- of a flag; where it has no bytes, it has the one part that says that no instruction stands there.
pub record IsOfItsBytes (b : Block) : Type 0 where
  pub instrs : List Placed
  pub spelled : AreSpelled b.at b.code instrs
  pub parts : b.parts ≡ block_parts instrs

-- bytes spell one list of instructions at most
abbrev pub SpellOneList : Type 0
SpellOneList = (a : ℕ) (code : List ℕ) (is js : List Placed) → AreSpelled a code is → AreSpelled a code js → is ≡ js

-- such a block with the bytes that the block at its place has is the lifted block there
abbrev pub KnownByItsBytes : Type 0
KnownByItsBytes = (image : ImageData) (b : Block) → IsOfItsBytes b → b.code ≡ bytes_of image (block_at image b.at) → b ≡ lifted_block image b.at
