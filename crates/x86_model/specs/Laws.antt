-- What `want` comes to where bytes spell an instruction, and where they spell none.
use Rattle.std.specs.Prelude.{◌≡◌, ℕ, ◌+◌, ◌%◌, ◌^◌, ◌≤◌, true, length, take, None}
use Rattle.elf_image.specs.Layout.{ImageData, function_at}
use Rattle.x86_forms.specs.declared.instructions.Instr.{Instr}
use Rattle.x86_forms.specs.Spelling.{Spells, are_bytes}
use Rattle.x86_model.specs.declared.cpu.Cpu.{Cpu}
use Rattle.x86_model.specs.declared.want.BadStep.TheVariants.{Code}
use Rattle.x86_model.specs.declared.want.Want.TheVariants.{Bad}
use Rattle.x86_model.specs.Want.{want_of, door_at, code_from, want}

-- the address is no door and no place of a library function, and what can be run from there on are bytes
pub record IsCode (image : ImageData) (a : ℕ) : Type 0 where
  pub no_door : door_at a ≡ None
  pub no_function : function_at a image.entries ≡ None
  pub bytes : are_bytes (code_from image.segments a) ≡ true

-- the first n bytes that can be run from the address on spell the instruction
pub record Stands (image : ImageData) (a : ℕ) (i : Instr) (n : ℕ) : Type 0 where
  pub inside : n ≤ length (code_from image.segments a)
  pub spelled : Spells i (take n (code_from image.segments a))

-- a thread does what the instruction at rip says
abbrev pub RunsSpelled : Type 0
RunsSpelled = (image : ImageData) (s : Cpu) (i : Instr) (n : ℕ) → IsCode image s.rip → Stands image s.rip i n → want image s ≡ want_of i ((s.rip + n) % 2 ^ 64) s

-- where no instruction stands, the step is bad
abbrev pub RefusesUnspelled : Type 0
RefusesUnspelled = (image : ImageData) (s : Cpu) → IsCode image s.rip → ((i : Instr) (n : ℕ) → ¬ Stands image s.rip i n) → want image s ≡ Bad Code
