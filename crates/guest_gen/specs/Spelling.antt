-- How lines of assembly are spelled one after another.
use Rattle.std.specs.Prelude.{◌≡◌, ℕ, ◌+◌, ◌≤◌, pos, ◌-ℤ◌, List, [], ◌∷◌, length, ⊤}
use Rattle.std.specs.List.{concat}
use Rattle.x86_forms.specs.declared.conditions.Cond.TheVariants.{Ne}
use Rattle.x86_forms.specs.declared.instructions.Instr.TheVariants as instr
use Rattle.x86_forms.specs.Spelling.{Spells}
use Rattle.guest_asm.specs.Assembling.{CanBeWritten, usual}
use Rattle.guest_gen.specs.declared.line.Line.{Line}
use Rattle.guest_gen.specs.declared.line.Line.TheVariants.{Label, Plain, Call, Jne}

-- the string spells the line, where `label` is the last label's address and `next` that of the next line: calls and jumps count from there
abbrev pub SpellsLine : ℕ → ℕ → Line → List ℕ → Type 0
SpellsLine label next Label s = s ≡ []
SpellsLine label next (Plain i) s = Spells i s
SpellsLine label next (Call address) s = Spells (instr.Call (pos address -ℤ pos next)) s
SpellsLine label next Jne s = Spells (instr.Jcc Ne (pos label -ℤ pos next)) s

-- where the last label is behind a line at this address
abbrev pub label_after : ℕ → ℕ → Line → ℕ
label_after label at Label = at
label_after label at (Plain i) = label
label_after label at (Call address) = label
label_after label at Jne = label

-- the strings spell the lines, each where the one before it ends, the first at this address
abbrev pub AreSpelled : ℕ → ℕ → List Line → List (List ℕ) → Type 0
AreSpelled label at [] [] = ⊤
AreSpelled label at [] (s ∷ ss) = ⊥
AreSpelled label at (l ∷ ls) [] = ⊥
AreSpelled label at (l ∷ ls) (s ∷ ss) = SpellsLine label (at + length s) l s × AreSpelled (label_after label at l) (at + length s) ls ss

-- the bytes from this address on spell the lines one after another
pub record IsSpelled (start : ℕ) (lines : List Line) (code : List ℕ) : Type 0 where
  pub strings : List (List ℕ)
  pub each : AreSpelled start start lines strings
  pub joined : code ≡ concat strings

-- ---- sizes

-- the most bytes of a line as the assembler writes it
abbrev pub most : Line → ℕ
most Label = 0
most (Plain i) = length (usual i)
most (Call address) = 5
most Jne = 6

abbrev pub most_of : List Line → ℕ
most_of [] = 0
most_of (l ∷ ls) = most l + most_of ls

-- the assembler takes the line, whose address is one of the low ones
abbrev pub CanStand : Line → Type 0
CanStand Label = ⊤
CanStand (Plain i) = CanBeWritten i
CanStand (Call address) = address ≤ 0x7fffffff
CanStand Jne = ⊤
