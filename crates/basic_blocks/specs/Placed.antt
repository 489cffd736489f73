-- An instruction in its place.
use Rattle.std.specs.Prelude.{ℕ}
use Rattle.x86_forms.specs.declared.instructions.Instr.{Instr}

-- an instruction where it stands, and the address after it
pub record Placed : Type 0 where
  pub at : ℕ
  pub instr : Instr
  pub next : ℕ
