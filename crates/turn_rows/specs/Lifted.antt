-- The block that a test hands to the shared state.
use Rattle.std.specs.Prelude.{◌≡◌, ℕ}
use Rattle.elf_image.specs.Layout.{ImageData}
use Rattle.ir_syntax.specs.declared.block.Block.{Block}
use Rattle.ir_syntax.specs.Typed.{IsWellTyped}
use Rattle.lift_table.specs.Block.{IsFaithful, lifted_block}

-- what lifting gives at a place
abbrev pub IsLifted : ImageData → ℕ → Block → Type 0
IsLifted image a b = (b ≡ lifted_block image a) × IsWellTyped b × IsFaithful image b
