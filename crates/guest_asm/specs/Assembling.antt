-- What the assembler promises.
use Rattle.std.specs.Prelude.{◌≡◌, ℕ, List, true, false, ◌||◌}
use Rattle.x86_forms.specs.declared.instructions.Instr.{Instr}
use Rattle.x86_forms.specs.Spelling.{bytes_of, Spells}
use Rattle.guest_asm.specs.Pieces.{parts_of}
use Rattle.guest_asm.specs.Encodable.{can}
use Rattle.guest_asm.specs.Choices.{pieces}

-- no byte string spells the instruction
abbrev pub HasNoSpelling : Instr → Type 0
HasNoSpelling i = (s : List ℕ) → Spells i s → ⊥

-- the instruction can be put together, without a REX byte or with one
abbrev pub CanBeWritten : Instr → Type 0
CanBeWritten i = (can true i || can false i) ≡ true

-- the usual spelling of an instruction that can be put together: without a REX byte where it can be
abbrev pub usual : Instr → List ℕ
usual i = bytes_of (parts_of (pieces (can true i) i))
