-- What is kept by the instructions of a block.
use Rattle.std.specs.Prelude.{ℕ, ◌<◌, ◌^◌, List, [], ◌∷◌, ⊤}
use Rattle.x86_forms.specs.Limits.{InstrFits}
use Rattle.basic_blocks.specs.Placed.{Placed}

pub record IsPlaced (p : Placed) : Type 0 where
  pub instr : InstrFits p.instr
  pub next : p.next < 2 ^ 64

abbrev pub ArePlaced : List Placed → Type 0
ArePlaced [] = ⊤
ArePlaced (p ∷ ps) = IsPlaced p × ArePlaced ps
