-- How a block goes on, instruction by instruction, and what it is with its dead puts.
use Rattle.std.specs.Prelude.{ℕ, List, [], ◌∷◌, Option, Some, None}
use Rattle.elf_image.specs.Layout.{ImageData}
use Rattle.ir_syntax.specs.declared.block.Block.{Block}
use Rattle.ir_syntax.specs.declared.block.Part.{Part}
use Rattle.ir_syntax.specs.declared.line.PartEnd.TheVariants.{BadCode}
use Rattle.basic_blocks.specs.Placed.{Placed}
use Rattle.basic_blocks.specs.Span.{block_up_to, block_at}
use Rattle.lift_table.specs.LiftLines.{alone}
use Rattle.lift_table.specs.Faithful.{lifted_all}
use Rattle.basic_blocks.specs.Bytes.{bytes_of}

-- at most so many instructions more, from where the block goes on, if it does
abbrev pub going_on : ImageData → ℕ → Option ℕ → List Placed
going_on image n None = []
going_on image n (Some a) = block_up_to image n a

-- the table's parts in order, or the one part that says that no instruction stands there
abbrev pub unstripped : List Placed → List Part
unstripped [] = alone [] BadCode
unstripped (p ∷ ps) = lifted_all (p ∷ ps)

-- the block at a code place, with the dead puts of a flag
abbrev pub unstripped_block : ImageData → ℕ → Block
unstripped_block image a = record { at = a; code = bytes_of image (block_at image a); parts = unstripped (block_at image a) }
