-- Which lifted blocks have a text, and how the text of a list of blocks is made of theirs.
use Rattle.std.specs.Prelude.{◌≡◌, ℕ, ◌^◌, ◌<◌, List, [], ◌∷◌, ◌++◌}
use Rattle.elf_image.specs.Layout.{ImageData}
use Rattle.ir_syntax.specs.declared.block.Block.{Block}
use Rattle.ir_syntax.specs.Typed.{IsWellTyped}
use Rattle.ir_text.specs.Text.{HasText, block_text, text}
use Rattle.lift_table.specs.Block.{lifted_block}
use Rattle.block_lift.specs.Spelled.{IsOfItsBytes}

-- A well typed block at an address of 64 bits has a text, if its parts are the table's for the instructions that its bytes
-- spell, without the dead puts of a flag.
abbrev pub BlocksOfBytesHaveText : Type 0
BlocksOfBytesHaveText = (b : Block) → b.at < 2 ^ 64 → IsWellTyped b → IsOfItsBytes b → HasText b

-- so has the lifted block at an address
abbrev pub LiftedBlocksHaveText : Type 0
LiftedBlocksHaveText = (image : ImageData) (a : ℕ) → a < 2 ^ 64 → IsWellTyped (lifted_block image a) → IsOfItsBytes (lifted_block image a) → HasText (lifted_block image a)

-- the text of a block more is the text before it, and then the block's own
abbrev pub TextGrowsByBlocks : Type 0
TextGrowsByBlocks = (blocks : List Block) (b : Block) → text (blocks ++ b ∷ []) ≡ text blocks ++ block_text b
