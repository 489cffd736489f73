-- The case of a run.
use Rattle.std.specs.Prelude.{◌≡◌, ℕ, ◌≤◌, Bool, List, length, Option, Some, None}
use Rattle.elf_image.specs.Layout.{ImageData}
use Rattle.guest_map.specs.Layout.{IsAccepted}
use Rattle.ir_syntax.specs.declared.block.Block.{Block}
use Rattle.block_lift.specs.Accepted.{AreAccepted, places_of}
use Rattle.ir_file.specs.Blocks.{AreBlocksIn}
use Rattle.machine_laws.specs.Cases.{IsCase, IsFirst}
use Rattle.machine_model.specs.CaseData.{CaseData}
use Rattle.mx_outside.specs.Names.{NameMap}
use Rattle.run_start.specs.Program.{IsProgram}

-- so many places may be grown
abbrev pub block_limit : ℕ
block_limit = 65536

-- these are, by rising address, the places of the blocks of the text of this name, each of which is the image's own
pub record ArePlacesIn (names : Option NameMap) (name : List ℕ) (image : ImageData) (places : List ℕ) : Type 0 where
  pub blocks : List Block
  pub text : AreBlocksIn names name blocks
  pub few : length blocks ≤ block_limit
  pub all : List Block
  pub accepted : AreAccepted image blocks all
  pub same : places ≡ places_of all

-- the places that were given, where a text of blocks was named
abbrev pub AreGiven : Option NameMap → Option (List ℕ) → ImageData → Option (List ℕ) → Type 0
AreGiven names None image given = given ≡ None
AreGiven names (Some ir) image given = (places : List ℕ) × (given ≡ Some places) × ArePlacesIn names ir image places

-- the first places of a run of the image: those of the text of blocks, where one was named, else what is reached from the entry
pub record IsFirstOf (names : Option NameMap) (ir : Option (List ℕ)) (image : ImageData) (places : List ℕ) : Type 0 where
  pub given : Option (List ℕ)
  pub are_given : AreGiven names ir image given
  pub first : IsFirst image given places

-- The case of the run of a program file's bytes, whose image can be put into memory with these arguments, and whose first
-- places are those of the text of blocks, where one was named, else what is reached from the entry.
pub record IsCaseOf (names : Option NameMap) (ir : Option (List ℕ)) (bytes : List ℕ) (args : List (List ℕ)) (left : Option (List ℕ)) (limit : ℕ) (strict : Bool) (c : CaseData) : Type 0 where
  pub given : Option (List ℕ)
  pub are_given : AreGiven names ir c.image given
  pub case : IsCase IsProgram bytes args left limit strict given c
  pub accepted : IsAccepted c.image args
