-- The blocks that a guest keeps at hand.
use Rattle.std.specs.Prelude.{◌≡◌, ℕ, true, List, slice_index_or, Option, Some, None}
use Rattle.elf_image.specs.Layout.{ImageData}
use Rattle.ir_syntax.specs.declared.block.Block.{Block}
use Rattle.basic_blocks.specs.Reach.{is_among}

-- a block of an image
pub record KeptData : Type 0 where
  pub image : ImageData
  pub block : Block

-- blocks at hand, each at its place in the table
abbrev pub Table : Type 0
Table = List (Option KeptData)

-- it is of this image, and stands at one of these places
pub record IsKept (image : ImageData) (grown : List ℕ) (x : KeptData) : Type 0 where
  pub same : x.image ≡ image
  pub there : is_among grown x.block.at ≡ true

abbrev pub AreKept : ImageData → List ℕ → List (Option KeptData) → Type 0
AreKept image grown table = (i : ℕ) (x : KeptData) → slice_index_or table i None ≡ Some x → IsKept image grown x

-- Of one table and of another: blocks that are grown at their places are, too.
abbrev pub KeepsBlocks : List (Option KeptData) → List (Option KeptData) → Type 0
KeepsBlocks old new = (image : ImageData) (grown : List ℕ) → AreKept image grown old → AreKept image grown new
