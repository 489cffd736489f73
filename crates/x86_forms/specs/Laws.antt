-- The laws of spelling.
use Rattle.std.specs.Prelude.{◌≡◌, ◌≤◌, ◌↔◌, ℕ, List, [], ◌++◌, length, take, true, Some}
use Rattle.x86_forms.specs.declared.instructions.Instr.{Instr}
use Rattle.x86_forms.specs.Spelling.{Spells, are_bytes}
use Rattle.x86_forms.specs.Reading.{read}
use Rattle.x86_forms.specs.Limits.{InstrFits}

-- a string spells at most one instruction
abbrev pub OneMeaning : Type 0
OneMeaning = (i j : Instr) (s : List ℕ) → Spells i s → Spells j s → i ≡ j

-- no spelling is a proper prefix of another
abbrev pub NoProperPrefix : Type 0
NoProperPrefix = (i j : Instr) (s rest : List ℕ) → Spells i s → Spells j (s ++ rest) → rest ≡ []

-- reading from left to right gives the instruction exactly where that many bytes spell it
abbrev pub ReadsExactly : Type 0
ReadsExactly = (bytes : List ℕ) (i : Instr) (n : ℕ) → are_bytes bytes ≡ true → n ≤ length bytes → (read bytes ≡ Some (i, n)) ↔ Spells i (take n bytes)

-- what an instruction with a spelling keeps
abbrev pub SpelledFits : Type 0
SpelledFits = (i : Instr) (s : List ℕ) → Spells i s → InstrFits i
