-- Where the threads of a gated journal stand in their blocks.
use Rattle.std.specs.Prelude.{◌≡◌, ℕ, ◌<◌, true, false, ◌⊎◌, List, [], ◌++◌, map, None}
use Rattle.elf_image.specs.Layout.{ImageData}
use Rattle.basic_blocks.specs.Reach.{is_among}
use Rattle.basic_blocks.specs.Span.{block_up_to, span}
use Rattle.basic_blocks.specs.Placed.{Placed}
use Rattle.machine_model.specs.State.{list_at}
use Rattle.machine_model.specs.Step.{is_in_use}
use Rattle.machine_model.specs.Gated.{Both, Other, Stand, spot_at, spot_with, stand_at}

-- where instructions stand
abbrev pub addresses : List Placed → List ℕ
addresses is = map (λ p. p.at) is

-- A block is under way: these addresses are left of the span of a grown place, and they are those of the instructions from an address on.
pub record IsUnderWay (image : ImageData) (grown : List ℕ) (rip : ℕ) (left : List ℕ) : Type 0 where
  pub place : ℕ
  pub grown_place : is_among grown place ≡ true
  pub done : List ℕ
  pub whole : done ++ left ≡ span image place
  pub count : ℕ
  pub here : left ≡ addresses (block_up_to image count rip)

-- a thread stands between blocks, or in a block under way at its next instruction
abbrev pub IsPlaced : ImageData → List ℕ → Stand → Type 0
IsPlaced image grown d = (d.left ≡ []) ⊎ IsUnderWay image grown d.cpu.rip d.left

-- A thread that lives in a slot is placed. Where none does, no write waits, and the next one begins between blocks.
pub record IsSettled (image : ImageData) (b : Both) (s : ℕ) : Type 0 where
  pub placed : is_in_use b.machine.library s ≡ true → IsPlaced image b.gate.grown (stand_at b s)
  pub free : is_in_use b.machine.library s ≡ false → spot_at b.gate s ≡ spot_with [] Other
  pub empty : is_in_use b.machine.library s ≡ false → list_at b.machine s ≡ []

-- while the run goes on, each slot is so
abbrev pub AreSettled : ImageData → Both → Type 0
AreSettled image b = b.machine.ending ≡ None → (s : ℕ) → s < 64 → IsSettled image b s
