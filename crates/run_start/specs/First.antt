-- The blocks of a run's first places.
use Rattle.std.specs.Prelude.{◌≡◌, ℕ, List, [], ◌∷◌, IsTrue}
use Rattle.elf_image.specs.Layout.{ImageData}
use Rattle.ir_syntax.specs.declared.block.Block.{Block}
use Rattle.ir_syntax.specs.Typed.{IsWellTyped}
use Rattle.basic_blocks.specs.Places.{is_code_place}
use Rattle.lift_table.specs.Block.{IsFaithful, lifted_block}
use Rattle.hall_core.specs.Hall.{Placed}

-- blocks may stand at all of these places
abbrev pub AreCodePlaces : ImageData → List ℕ → Type 0
AreCodePlaces image [] = Unit {0}
AreCodePlaces image (a ∷ places) = IsTrue (is_code_place image a) × AreCodePlaces image places

-- the block is what lifting gives at a place
pub record IsLifted (image : ImageData) (a : ℕ) (p : Placed Block) : Type 0 where
  pub at : p.0 ≡ a
  pub fits : (p.1.value ≡ lifted_block image a) × IsWellTyped p.1.value × IsFaithful image p.1.value

-- these are the blocks at these places, in their order
abbrev pub AreLifted : ImageData → List ℕ → List (Placed Block) → Type 0
AreLifted image [] [] = Unit {0}
AreLifted image [] (p ∷ blocks) = ⊥
AreLifted image (a ∷ places) [] = ⊥
AreLifted image (a ∷ places) (p ∷ blocks) = IsLifted image a p × AreLifted image places blocks
