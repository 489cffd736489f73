-- Worked byte strings, and the instruction that each spells, if any.
use Rattle.std.specs.Prelude.{ℕ, ℤ, pos, negsuc, List, [], ◌∷◌, ◌++◌, replicate, true, false, Option, Some, None}
use Rattle.std.specs.List.{AllByRecursion}
use Rattle.x86_forms.specs.declared.operands.Width.TheVariants.{W8, W16, W32, W64}
use Rattle.x86_forms.specs.declared.operands.Base.{Base}
use Rattle.x86_forms.specs.declared.operands.Base.TheVariants as base
use Rattle.x86_forms.specs.declared.operands.Mem.{Mem}
use Rattle.x86_forms.specs.declared.operands.Operand.TheVariants as operand
use Rattle.x86_forms.specs.declared.conditions.Cond.TheVariants.{O, E, L, G}
use Rattle.x86_forms.specs.declared.instructions.AluOp.TheVariants.{Add, Or, Adc, Sbb, And, Sub, Xor, Cmp, Test}
use Rattle.x86_forms.specs.declared.instructions.OneOp.TheVariants.{Inc, Dec, Not, Neg}
use Rattle.x86_forms.specs.declared.instructions.ShiftOp.TheVariants.{Shl, Shr, Sar, Rol, Ror}
use Rattle.x86_forms.specs.declared.instructions.Instr.{Instr}
use Rattle.x86_forms.specs.declared.instructions.Instr.TheVariants as instr
use Rattle.x86_forms.specs.Spelling.{Spells, SpellsNothing}

abbrev pub Worked : Type 0
Worked = List ℕ × Option Instr

-- a string spells this instruction, or none
abbrev pub SpellsOnly : List ℕ → Option Instr → Type 0
SpellsOnly s (Some i) = Spells i s
SpellsOnly s None = SpellsNothing s

unfoldable pub AllWorked : List Worked → Type 0
AllWorked rows = AllByRecursion (λ r. SpellsOnly r.0 r.1) rows

abbrev pub mem : Base → Option ℕ → ℕ → ℤ → Mem
mem b i s d = record { base = b; index = i; scale = s; disp = d }

-- legacy prefixes, and what a row asks of REX
abbrev pub prefixes : List Worked
prefixes =
    (0xC3 ∷ [], Some (instr.Ret 0))
    ∷ (0xF3 ∷ 0xC3 ∷ [], Some (instr.Ret 0))
    ∷ (0x66 ∷ 0xC3 ∷ [], None)
    ∷ (0x48 ∷ 0xC3 ∷ [], None)
    ∷ (0xF3 ∷ 0x48 ∷ 0xC3 ∷ [], None)
    ∷ (0xC2 ∷ 0x08 ∷ 0x00 ∷ [], Some (instr.Ret 8))
    ∷ (0x48 ∷ 0xC2 ∷ 0x08 ∷ 0x00 ∷ [], None)
    ∷ (0xFF ∷ 0xE0 ∷ [], Some (instr.JmpTo (operand.Reg 0)))
    ∷ (0x3E ∷ 0xFF ∷ 0xE0 ∷ [], Some (instr.JmpTo (operand.Reg 0)))
    ∷ (0x3E ∷ 0x3E ∷ 0xFF ∷ 0xE0 ∷ [], None)
    ∷ (0x66 ∷ 0xFF ∷ 0xE0 ∷ [], None)
    ∷ (0x41 ∷ 0xFF ∷ 0xD3 ∷ [], Some (instr.CallTo (operand.Reg 11)))
    ∷ (replicate 14 0x66 ++ 0x90 ∷ [], Some instr.Nop)
    ∷ (replicate 15 0x66 ++ 0x90 ∷ [], None)
    ∷ (0x2E ∷ 0x66 ∷ 0x90 ∷ [], Some instr.Nop)
    ∷ (0xF2 ∷ 0x90 ∷ [], None)
    ∷ (0x2E ∷ 0x01 ∷ 0xD8 ∷ [], None)
    ∷ (0xF3 ∷ 0x90 ∷ [], Some instr.Pause)
    ∷ (0xF3 ∷ 0x48 ∷ 0x90 ∷ [], None)
    ∷ (0xF3 ∷ 0x0F ∷ 0x1E ∷ 0xFA ∷ [], Some instr.Endbr)
    ∷ (0xF3 ∷ 0x0F ∷ 0x1E ∷ 0xFB ∷ [], None)
    ∷ (0xF3 ∷ 0x48 ∷ 0x0F ∷ 0x1E ∷ 0xFA ∷ [], None)
    ∷ (0x0F ∷ 0xAE ∷ 0xF0 ∷ [], Some instr.Mfence)
    ∷ (0x0F ∷ 0xAE ∷ 0xF8 ∷ [], None)
    ∷ (0x66 ∷ 0x0F ∷ 0xAE ∷ 0xF0 ∷ [], None)
    ∷ (0x48 ∷ 0x0F ∷ 0xAE ∷ 0xF0 ∷ [], None)
    ∷ (0x66 ∷ 0x2E ∷ 0x0F ∷ 0x1F ∷ 0x84 ∷ 0x00 ∷ 0x00 ∷ 0x00 ∷ 0x00 ∷ 0x00 ∷ [], Some instr.Nop)
    ∷ (0x0F ∷ 0x1F ∷ 0xC0 ∷ [], Some instr.Nop)
    ∷ (0x0F ∷ 0x1F ∷ 0xC8 ∷ [], None)
    ∷ (0xC9 ∷ [], Some instr.Leave)
    ∷ (0x48 ∷ 0xC9 ∷ [], None)
    ∷ (0x40 ∷ 0x48 ∷ 0x01 ∷ 0xD8 ∷ [], None)
    ∷ (0x48 ∷ 0x66 ∷ 0x01 ∷ 0xD8 ∷ [], None)
    ∷ (0x48 ∷ [], None)
    ∷ []

-- the width by 66 and REX.W
abbrev pub widths : List Worked
widths =
    (0x00 ∷ 0xD8 ∷ [], Some (instr.Alu Add W8 (operand.Reg 0) (operand.Reg 3)))
    ∷ (0x01 ∷ 0xD8 ∷ [], Some (instr.Alu Add W32 (operand.Reg 0) (operand.Reg 3)))
    ∷ (0x66 ∷ 0x01 ∷ 0xD8 ∷ [], Some (instr.Alu Add W16 (operand.Reg 0) (operand.Reg 3)))
    ∷ (0x48 ∷ 0x01 ∷ 0xD8 ∷ [], Some (instr.Alu Add W64 (operand.Reg 0) (operand.Reg 3)))
    ∷ (0x66 ∷ 0x48 ∷ 0x01 ∷ 0xD8 ∷ [], Some (instr.Alu Add W64 (operand.Reg 0) (operand.Reg 3)))
    ∷ (0x66 ∷ 0x00 ∷ 0xD8 ∷ [], Some (instr.Alu Add W8 (operand.Reg 0) (operand.Reg 3)))
    ∷ (0xF7 ∷ 0xE1 ∷ [], Some (instr.Mul false W32 (operand.Reg 1)))
    ∷ (0x66 ∷ 0xF7 ∷ 0xE1 ∷ [], None)
    ∷ (0x66 ∷ 0x48 ∷ 0xF7 ∷ 0xE1 ∷ [], Some (instr.Mul false W64 (operand.Reg 1)))
    ∷ (0x0F ∷ 0xAF ∷ 0xC1 ∷ [], Some (instr.Imul W32 0 (operand.Reg 0) (operand.Reg 1)))
    ∷ (0x66 ∷ 0x0F ∷ 0xAF ∷ 0xC1 ∷ [], None)
    ∷ (0x0F ∷ 0x44 ∷ 0xC1 ∷ [], Some (instr.Cmov E W32 0 (operand.Reg 1)))
    ∷ (0x66 ∷ 0x0F ∷ 0x44 ∷ 0xC1 ∷ [], None)
    ∷ (0x48 ∷ 0x63 ∷ 0xC1 ∷ [], Some (instr.Sx W32 W64 0 (operand.Reg 1)))
    ∷ (0x66 ∷ 0x48 ∷ 0x63 ∷ 0xC1 ∷ [], Some (instr.Sx W32 W64 0 (operand.Reg 1)))
    ∷ (0x63 ∷ 0xC1 ∷ [], None)
    ∷ (0x98 ∷ [], Some (instr.Widen W32))
    ∷ (0x48 ∷ 0x98 ∷ [], Some (instr.Widen W64))
    ∷ (0x66 ∷ 0x98 ∷ [], None)
    ∷ (0x99 ∷ [], Some (instr.Spread W32))
    ∷ (0x48 ∷ 0x99 ∷ [], Some (instr.Spread W64))
    ∷ (0x66 ∷ 0x99 ∷ [], None)
    ∷ (0xC1 ∷ 0xC0 ∷ 0x05 ∷ [], Some (instr.Shift Rol W32 (operand.Reg 0) (Some 5)))
    ∷ (0x48 ∷ 0xD3 ∷ 0xC8 ∷ [], Some (instr.Shift Ror W64 (operand.Reg 0) None))
    ∷ (0x66 ∷ 0xC1 ∷ 0xC0 ∷ 0x05 ∷ [], None)
    ∷ (0xC0 ∷ 0xC0 ∷ 0x05 ∷ [], None)
    ∷ (0x0F ∷ 0xB7 ∷ 0xC1 ∷ [], Some (instr.Zx W16 W32 0 (operand.Reg 1)))
    ∷ (0x66 ∷ 0x0F ∷ 0xB7 ∷ 0xC1 ∷ [], None)
    ∷ (0x66 ∷ 0x0F ∷ 0xBE ∷ 0xC1 ∷ [], Some (instr.Sx W8 W16 0 (operand.Reg 1)))
    ∷ []

-- registers, and AH, CH, DH and BH where no REX stands
abbrev pub registers : List Worked
registers =
    (0x88 ∷ 0xE0 ∷ [], Some (instr.Mov W8 (operand.Reg 0) (operand.High 0)))
    ∷ (0x40 ∷ 0x88 ∷ 0xE0 ∷ [], Some (instr.Mov W8 (operand.Reg 0) (operand.Reg 4)))
    ∷ (0x44 ∷ 0x88 ∷ 0xC8 ∷ [], Some (instr.Mov W8 (operand.Reg 0) (operand.Reg 9)))
    ∷ (0x8A ∷ 0xFD ∷ [], Some (instr.Mov W8 (operand.High 3) (operand.High 1)))
    ∷ (0x89 ∷ 0xE0 ∷ [], Some (instr.Mov W32 (operand.Reg 0) (operand.Reg 4)))
    ∷ (0xB4 ∷ 0x05 ∷ [], Some (instr.Mov W8 (operand.High 0) (operand.Imm 5)))
    ∷ (0x40 ∷ 0xB4 ∷ 0x05 ∷ [], Some (instr.Mov W8 (operand.Reg 4) (operand.Imm 5)))
    ∷ (0x41 ∷ 0xB4 ∷ 0x05 ∷ [], Some (instr.Mov W8 (operand.Reg 12) (operand.Imm 5)))
    ∷ (0x0F ∷ 0xB6 ∷ 0xC4 ∷ [], Some (instr.Zx W8 W32 0 (operand.High 0)))
    ∷ (0x40 ∷ 0x0F ∷ 0xB6 ∷ 0xC4 ∷ [], Some (instr.Zx W8 W32 0 (operand.Reg 4)))
    ∷ (0x0F ∷ 0xB7 ∷ 0xC4 ∷ [], Some (instr.Zx W16 W32 0 (operand.Reg 4)))
    ∷ (0x0F ∷ 0x94 ∷ 0xC4 ∷ [], Some (instr.Set E (operand.High 0)))
    ∷ (0x0F ∷ 0x9F ∷ 0xF8 ∷ [], Some (instr.Set G (operand.Reg 0)))
    ∷ (0x48 ∷ 0xF7 ∷ 0xD8 ∷ [], Some (instr.One Neg W64 (operand.Reg 0)))
    ∷ (0x4C ∷ 0xF7 ∷ 0xD8 ∷ [], Some (instr.One Neg W64 (operand.Reg 0)))
    ∷ (0x90 ∷ [], Some instr.Nop)
    ∷ (0x40 ∷ 0x90 ∷ [], Some instr.Nop)
    ∷ (0x48 ∷ 0x90 ∷ [], Some instr.Nop)
    ∷ (0x41 ∷ 0x90 ∷ [], Some (instr.Xchg W32 (operand.Reg 8) (operand.Reg 0)))
    ∷ (0x49 ∷ 0x90 ∷ [], Some (instr.Xchg W64 (operand.Reg 8) (operand.Reg 0)))
    ∷ (0x66 ∷ 0x41 ∷ 0x90 ∷ [], Some (instr.Xchg W16 (operand.Reg 8) (operand.Reg 0)))
    ∷ (0x93 ∷ [], Some (instr.Xchg W32 (operand.Reg 3) (operand.Reg 0)))
    ∷ (0x41 ∷ 0x57 ∷ [], Some (instr.Push (operand.Reg 15)))
    ∷ (0x48 ∷ 0x5D ∷ [], Some (instr.Pop 5))
    ∷ (0x66 ∷ 0x50 ∷ [], None)
    ∷ (0x8F ∷ 0xC0 ∷ [], None)
    ∷ []

-- ModRM, SIB and displacement
abbrev pub memory : List Worked
memory =
    (0x48 ∷ 0x8B ∷ 0x05 ∷ 0x10 ∷ 0x00 ∷ 0x00 ∷ 0x00 ∷ [], Some (instr.Mov W64 (operand.Reg 0) (operand.Mem (mem base.Rip None 1 (pos 16)))))
    ∷ (0x49 ∷ 0x8B ∷ 0x05 ∷ 0x10 ∷ 0x00 ∷ 0x00 ∷ 0x00 ∷ [], Some (instr.Mov W64 (operand.Reg 0) (operand.Mem (mem base.Rip None 1 (pos 16)))))
    ∷ (0x43 ∷ 0x8B ∷ 0x04 ∷ 0xA5 ∷ 0x00 ∷ 0x10 ∷ 0x00 ∷ 0x00 ∷ [], Some (instr.Mov W32 (operand.Reg 0) (operand.Mem (mem base.None (Some 12) 4 (pos 4096)))))
    ∷ (0x8B ∷ 0x00 ∷ [], Some (instr.Mov W32 (operand.Reg 0) (operand.Mem (mem (base.Reg 0) None 1 (pos 0)))))
    ∷ (0x41 ∷ 0x8B ∷ 0x00 ∷ [], Some (instr.Mov W32 (operand.Reg 0) (operand.Mem (mem (base.Reg 8) None 1 (pos 0)))))
    ∷ (0x8B ∷ 0x04 ∷ 0x24 ∷ [], Some (instr.Mov W32 (operand.Reg 0) (operand.Mem (mem (base.Reg 4) None 1 (pos 0)))))
    ∷ (0x41 ∷ 0x8B ∷ 0x04 ∷ 0x24 ∷ [], Some (instr.Mov W32 (operand.Reg 0) (operand.Mem (mem (base.Reg 12) None 1 (pos 0)))))
    ∷ (0x8B ∷ 0x04 ∷ 0xE4 ∷ [], Some (instr.Mov W32 (operand.Reg 0) (operand.Mem (mem (base.Reg 4) None 1 (pos 0)))))
    ∷ (0x8B ∷ 0x45 ∷ 0xFC ∷ [], Some (instr.Mov W32 (operand.Reg 0) (operand.Mem (mem (base.Reg 5) None 1 (negsuc 3)))))
    ∷ (0x41 ∷ 0x8B ∷ 0x45 ∷ 0x00 ∷ [], Some (instr.Mov W32 (operand.Reg 0) (operand.Mem (mem (base.Reg 13) None 1 (pos 0)))))
    ∷ (0x8B ∷ 0x80 ∷ 0xFF ∷ 0xFF ∷ 0xFF ∷ 0xFF ∷ [], Some (instr.Mov W32 (operand.Reg 0) (operand.Mem (mem (base.Reg 0) None 1 (negsuc 0)))))
    ∷ (0x8B ∷ 0x04 ∷ 0x25 ∷ 0x00 ∷ 0x10 ∷ 0x00 ∷ 0x00 ∷ [], Some (instr.Mov W32 (operand.Reg 0) (operand.Mem (mem base.None None 1 (pos 4096)))))
    ∷ (0x41 ∷ 0x8B ∷ 0x04 ∷ 0x25 ∷ 0x00 ∷ 0x10 ∷ 0x00 ∷ 0x00 ∷ [], Some (instr.Mov W32 (operand.Reg 0) (operand.Mem (mem base.None None 1 (pos 4096)))))
    ∷ (0x8B ∷ 0x04 ∷ 0x2D ∷ 0x00 ∷ 0x00 ∷ 0x00 ∷ 0x80 ∷ [], Some (instr.Mov W32 (operand.Reg 0) (operand.Mem (mem base.None (Some 5) 1 (negsuc 2147483647)))))
    ∷ (0x42 ∷ 0x8B ∷ 0x44 ∷ 0xCD ∷ 0x08 ∷ [], Some (instr.Mov W32 (operand.Reg 0) (operand.Mem (mem (base.Reg 5) (Some 9) 8 (pos 8)))))
    ∷ (0x8B ∷ 0x44 ∷ 0x4D ∷ 0x00 ∷ [], Some (instr.Mov W32 (operand.Reg 0) (operand.Mem (mem (base.Reg 5) (Some 1) 2 (pos 0)))))
    ∷ (0x46 ∷ 0x8B ∷ 0x04 ∷ 0x20 ∷ [], Some (instr.Mov W32 (operand.Reg 8) (operand.Mem (mem (base.Reg 0) (Some 12) 1 (pos 0)))))
    ∷ (0x48 ∷ 0x8D ∷ 0x04 ∷ 0x8B ∷ [], Some (instr.Lea W64 0 (mem (base.Reg 3) (Some 1) 4 (pos 0))))
    ∷ (0x8D ∷ 0xC0 ∷ [], None)
    ∷ (0x8B ∷ 0x45 ∷ [], None)
    ∷ (0x8B ∷ 0x04 ∷ [], None)
    ∷ []

-- the immediate of each kind at each width
abbrev pub immediates : List Worked
immediates =
    (0x80 ∷ 0xC0 ∷ 0xFF ∷ [], Some (instr.Alu Add W8 (operand.Reg 0) (operand.Imm 0xFF)))
    ∷ (0x66 ∷ 0x83 ∷ 0xC0 ∷ 0xFF ∷ [], Some (instr.Alu Add W16 (operand.Reg 0) (operand.Imm 0xFFFF)))
    ∷ (0x83 ∷ 0xC0 ∷ 0x80 ∷ [], Some (instr.Alu Add W32 (operand.Reg 0) (operand.Imm 0xFFFFFF80)))
    ∷ (0x48 ∷ 0x83 ∷ 0xC0 ∷ 0x80 ∷ [], Some (instr.Alu Add W64 (operand.Reg 0) (operand.Imm 0xFFFFFFFFFFFFFF80)))
    ∷ (0x66 ∷ 0x81 ∷ 0xC0 ∷ 0x34 ∷ 0x92 ∷ [], Some (instr.Alu Add W16 (operand.Reg 0) (operand.Imm 0x9234)))
    ∷ (0x81 ∷ 0xC0 ∷ 0xFF ∷ 0xFF ∷ 0xFF ∷ 0xFF ∷ [], Some (instr.Alu Add W32 (operand.Reg 0) (operand.Imm 0xFFFFFFFF)))
    ∷ (0x48 ∷ 0x81 ∷ 0xC0 ∷ 0xFF ∷ 0xFF ∷ 0xFF ∷ 0xFF ∷ [], Some (instr.Alu Add W64 (operand.Reg 0) (operand.Imm 0xFFFFFFFFFFFFFFFF)))
    ∷ (0x48 ∷ 0x05 ∷ 0x00 ∷ 0x00 ∷ 0x00 ∷ 0x80 ∷ [], Some (instr.Alu Add W64 (operand.Reg 0) (operand.Imm 0xFFFFFFFF80000000)))
    ∷ (0x2C ∷ 0x01 ∷ [], Some (instr.Alu Sub W8 (operand.Reg 0) (operand.Imm 1)))
    ∷ (0x68 ∷ 0x00 ∷ 0x00 ∷ 0x00 ∷ 0x80 ∷ [], Some (instr.Push (operand.Imm 0xFFFFFFFF80000000)))
    ∷ (0x6A ∷ 0xFF ∷ [], Some (instr.Push (operand.Imm 0xFFFFFFFFFFFFFFFF)))
    ∷ (0x66 ∷ 0x6A ∷ 0x01 ∷ [], None)
    ∷ (0xB8 ∷ 0xFF ∷ 0xFF ∷ 0xFF ∷ 0xFF ∷ [], Some (instr.Mov W32 (operand.Reg 0) (operand.Imm 0xFFFFFFFF)))
    ∷ (0x66 ∷ 0xBB ∷ 0x34 ∷ 0x12 ∷ [], Some (instr.Mov W16 (operand.Reg 3) (operand.Imm 0x1234)))
    ∷ (0x49 ∷ 0xB8 ∷ 0x88 ∷ 0x77 ∷ 0x66 ∷ 0x55 ∷ 0x44 ∷ 0x33 ∷ 0x22 ∷ 0xF1 ∷ [], Some (instr.Mov W64 (operand.Reg 8) (operand.Imm 0xF122334455667788)))
    ∷ (0x48 ∷ 0xC7 ∷ 0xC0 ∷ 0xFF ∷ 0xFF ∷ 0xFF ∷ 0xFF ∷ [], Some (instr.Mov W64 (operand.Reg 0) (operand.Imm 0xFFFFFFFFFFFFFFFF)))
    ∷ (0xC6 ∷ 0xC4 ∷ 0x05 ∷ [], Some (instr.Mov W8 (operand.High 0) (operand.Imm 5)))
    ∷ (0xC1 ∷ 0xE0 ∷ 0xFF ∷ [], Some (instr.Shift Shl W32 (operand.Reg 0) (Some 255)))
    ∷ (0xD1 ∷ 0xE8 ∷ [], Some (instr.Shift Shr W32 (operand.Reg 0) (Some 1)))
    ∷ (0xD2 ∷ 0xFC ∷ [], Some (instr.Shift Sar W8 (operand.High 0) None))
    ∷ (0x6B ∷ 0xC1 ∷ 0xFE ∷ [], Some (instr.Imul W32 0 (operand.Reg 1) (operand.Imm 0xFFFFFFFE)))
    ∷ (0x48 ∷ 0x69 ∷ 0xC1 ∷ 0x00 ∷ 0x00 ∷ 0x00 ∷ 0x80 ∷ [], Some (instr.Imul W64 0 (operand.Reg 1) (operand.Imm 0xFFFFFFFF80000000)))
    ∷ (0xA8 ∷ 0x80 ∷ [], Some (instr.Alu Test W8 (operand.Reg 0) (operand.Imm 0x80)))
    ∷ (0x48 ∷ 0xA9 ∷ 0x00 ∷ 0x00 ∷ 0x00 ∷ 0x80 ∷ [], Some (instr.Alu Test W64 (operand.Reg 0) (operand.Imm 0xFFFFFFFF80000000)))
    ∷ (0x05 ∷ 0x01 ∷ 0x00 ∷ 0x00 ∷ [], None)
    ∷ []

-- the opcode and the reg field
abbrev pub fields : List Worked
fields =
    (0x83 ∷ 0xC1 ∷ 0x07 ∷ [], Some (instr.Alu Add W32 (operand.Reg 1) (operand.Imm 7)))
    ∷ (0x83 ∷ 0xC9 ∷ 0x07 ∷ [], Some (instr.Alu Or W32 (operand.Reg 1) (operand.Imm 7)))
    ∷ (0x83 ∷ 0xD1 ∷ 0x07 ∷ [], Some (instr.Alu Adc W32 (operand.Reg 1) (operand.Imm 7)))
    ∷ (0x83 ∷ 0xD9 ∷ 0x07 ∷ [], Some (instr.Alu Sbb W32 (operand.Reg 1) (operand.Imm 7)))
    ∷ (0x83 ∷ 0xE1 ∷ 0x07 ∷ [], Some (instr.Alu And W32 (operand.Reg 1) (operand.Imm 7)))
    ∷ (0x83 ∷ 0xE9 ∷ 0x07 ∷ [], Some (instr.Alu Sub W32 (operand.Reg 1) (operand.Imm 7)))
    ∷ (0x83 ∷ 0xF1 ∷ 0x07 ∷ [], Some (instr.Alu Xor W32 (operand.Reg 1) (operand.Imm 7)))
    ∷ (0x83 ∷ 0xF9 ∷ 0x07 ∷ [], Some (instr.Alu Cmp W32 (operand.Reg 1) (operand.Imm 7)))
    ∷ (0x03 ∷ 0xC8 ∷ [], Some (instr.Alu Add W32 (operand.Reg 1) (operand.Reg 0)))
    ∷ (0x0B ∷ 0xC8 ∷ [], Some (instr.Alu Or W32 (operand.Reg 1) (operand.Reg 0)))
    ∷ (0x13 ∷ 0xC8 ∷ [], Some (instr.Alu Adc W32 (operand.Reg 1) (operand.Reg 0)))
    ∷ (0x1B ∷ 0xC8 ∷ [], Some (instr.Alu Sbb W32 (operand.Reg 1) (operand.Reg 0)))
    ∷ (0x23 ∷ 0xC8 ∷ [], Some (instr.Alu And W32 (operand.Reg 1) (operand.Reg 0)))
    ∷ (0x2B ∷ 0xC8 ∷ [], Some (instr.Alu Sub W32 (operand.Reg 1) (operand.Reg 0)))
    ∷ (0x33 ∷ 0xC8 ∷ [], Some (instr.Alu Xor W32 (operand.Reg 1) (operand.Reg 0)))
    ∷ (0x3B ∷ 0xC8 ∷ [], Some (instr.Alu Cmp W32 (operand.Reg 1) (operand.Reg 0)))
    ∷ (0x82 ∷ 0xC1 ∷ 0x07 ∷ [], None)
    ∷ (0xF6 ∷ 0xC1 ∷ 0x05 ∷ [], Some (instr.Alu Test W8 (operand.Reg 1) (operand.Imm 5)))
    ∷ (0xF6 ∷ 0xC9 ∷ 0x05 ∷ [], None)
    ∷ (0xF7 ∷ 0xD1 ∷ [], Some (instr.One Not W32 (operand.Reg 1)))
    ∷ (0xF7 ∷ 0xD9 ∷ [], Some (instr.One Neg W32 (operand.Reg 1)))
    ∷ (0xF7 ∷ 0xE9 ∷ [], Some (instr.Mul true W32 (operand.Reg 1)))
    ∷ (0xF7 ∷ 0xF1 ∷ [], Some (instr.Div false W32 (operand.Reg 1)))
    ∷ (0xF7 ∷ 0xF9 ∷ [], Some (instr.Div true W32 (operand.Reg 1)))
    ∷ (0xF6 ∷ 0xE1 ∷ [], None)
    ∷ (0xFE ∷ 0xC1 ∷ [], Some (instr.One Inc W8 (operand.Reg 1)))
    ∷ (0xFF ∷ 0xC9 ∷ [], Some (instr.One Dec W32 (operand.Reg 1)))
    ∷ (0xFE ∷ 0xD1 ∷ [], None)
    ∷ (0xFF ∷ 0xD1 ∷ [], Some (instr.CallTo (operand.Reg 1)))
    ∷ (0xFF ∷ 0xE1 ∷ [], Some (instr.JmpTo (operand.Reg 1)))
    ∷ (0xFF ∷ 0xF1 ∷ [], Some (instr.Push (operand.Reg 1)))
    ∷ (0xFF ∷ 0xD9 ∷ [], None)
    ∷ (0xFF ∷ 0x30 ∷ [], Some (instr.Push (operand.Mem (mem (base.Reg 0) None 1 (pos 0)))))
    ∷ (0xC1 ∷ 0xE1 ∷ 0x05 ∷ [], Some (instr.Shift Shl W32 (operand.Reg 1) (Some 5)))
    ∷ (0xC1 ∷ 0xE9 ∷ 0x05 ∷ [], Some (instr.Shift Shr W32 (operand.Reg 1) (Some 5)))
    ∷ (0xC1 ∷ 0xF9 ∷ 0x05 ∷ [], Some (instr.Shift Sar W32 (operand.Reg 1) (Some 5)))
    ∷ (0xC1 ∷ 0xC9 ∷ 0x05 ∷ [], Some (instr.Shift Ror W32 (operand.Reg 1) (Some 5)))
    ∷ (0xC1 ∷ 0xF0 ∷ 0x05 ∷ [], None)
    ∷ (0xC1 ∷ 0xD0 ∷ 0x05 ∷ [], None)
    ∷ (0xC7 ∷ 0xC8 ∷ 0x00 ∷ 0x00 ∷ 0x00 ∷ 0x00 ∷ [], None)
    ∷ (0x84 ∷ 0xC8 ∷ [], Some (instr.Alu Test W8 (operand.Reg 0) (operand.Reg 1)))
    ∷ []

-- relative targets and conditions
abbrev pub jumps : List Worked
jumps =
    (0x70 ∷ 0x00 ∷ [], Some (instr.Jcc O (pos 0)))
    ∷ (0x74 ∷ 0xFE ∷ [], Some (instr.Jcc E (negsuc 1)))
    ∷ (0x7F ∷ 0x7F ∷ [], Some (instr.Jcc G (pos 127)))
    ∷ (0x0F ∷ 0x8C ∷ 0xFC ∷ 0xFF ∷ 0xFF ∷ 0xFF ∷ [], Some (instr.Jcc L (negsuc 3)))
    ∷ (0x66 ∷ 0x74 ∷ 0x00 ∷ [], None)
    ∷ (0x48 ∷ 0x74 ∷ 0x00 ∷ [], Some (instr.Jcc E (pos 0)))
    ∷ (0xEB ∷ 0x80 ∷ [], Some (instr.Jmp (negsuc 127)))
    ∷ (0xE9 ∷ 0x00 ∷ 0x00 ∷ 0x00 ∷ 0x80 ∷ [], Some (instr.Jmp (negsuc 2147483647)))
    ∷ (0xE8 ∷ 0xFF ∷ 0xFF ∷ 0xFF ∷ 0x7F ∷ [], Some (instr.Call (pos 2147483647)))
    ∷ (0x66 ∷ 0xE8 ∷ 0x00 ∷ 0x00 ∷ [], None)
    ∷ (0x66 ∷ 0xE8 ∷ 0x00 ∷ 0x00 ∷ 0x00 ∷ 0x00 ∷ [], None)
    ∷ (0xE2 ∷ 0x00 ∷ [], None)
    ∷ []

-- what takes F0
abbrev pub locks : List Worked
locks =
    (0xF0 ∷ 0x48 ∷ 0x0F ∷ 0xC1 ∷ 0x03 ∷ [], Some (instr.Xadd W64 (mem (base.Reg 3) None 1 (pos 0)) (operand.Reg 0)))
    ∷ (0x48 ∷ 0x0F ∷ 0xC1 ∷ 0x03 ∷ [], None)
    ∷ (0xF0 ∷ 0x48 ∷ 0x0F ∷ 0xC1 ∷ 0xC3 ∷ [], None)
    ∷ (0xF0 ∷ 0x0F ∷ 0xB1 ∷ 0x0B ∷ [], Some (instr.Cmpxchg W32 (mem (base.Reg 3) None 1 (pos 0)) (operand.Reg 1)))
    ∷ (0xF0 ∷ 0x0F ∷ 0xB0 ∷ 0x23 ∷ [], Some (instr.Cmpxchg W8 (mem (base.Reg 3) None 1 (pos 0)) (operand.High 0)))
    ∷ (0x0F ∷ 0xB1 ∷ 0x0B ∷ [], None)
    ∷ (0xF0 ∷ 0x01 ∷ 0x03 ∷ [], Some (instr.LockAlu Add W32 (mem (base.Reg 3) None 1 (pos 0)) (operand.Reg 0)))
    ∷ (0x66 ∷ 0xF0 ∷ 0x66 ∷ 0x01 ∷ 0x03 ∷ [], Some (instr.LockAlu Add W16 (mem (base.Reg 3) None 1 (pos 0)) (operand.Reg 0)))
    ∷ (0xF0 ∷ 0xF0 ∷ 0x01 ∷ 0x03 ∷ [], None)
    ∷ (0xF0 ∷ 0x01 ∷ 0xC3 ∷ [], None)
    ∷ (0xF0 ∷ 0x03 ∷ 0x03 ∷ [], None)
    ∷ (0xF0 ∷ 0x11 ∷ 0x03 ∷ [], None)
    ∷ (0xF0 ∷ 0x48 ∷ 0x83 ∷ 0x2B ∷ 0x01 ∷ [], Some (instr.LockAlu Sub W64 (mem (base.Reg 3) None 1 (pos 0)) (operand.Imm 1)))
    ∷ (0xF0 ∷ 0x83 ∷ 0x3B ∷ 0x01 ∷ [], None)
    ∷ (0xF0 ∷ 0xFF ∷ 0x03 ∷ [], Some (instr.LockOne Inc W32 (mem (base.Reg 3) None 1 (pos 0))))
    ∷ (0xF0 ∷ 0xFE ∷ 0x0B ∷ [], Some (instr.LockOne Dec W8 (mem (base.Reg 3) None 1 (pos 0))))
    ∷ (0xF0 ∷ 0xF7 ∷ 0x1B ∷ [], None)
    ∷ (0x87 ∷ 0x03 ∷ [], Some (instr.Xchg W32 (operand.Mem (mem (base.Reg 3) None 1 (pos 0))) (operand.Reg 0)))
    ∷ (0xF0 ∷ 0x87 ∷ 0x03 ∷ [], Some (instr.Xchg W32 (operand.Mem (mem (base.Reg 3) None 1 (pos 0))) (operand.Reg 0)))
    ∷ (0x87 ∷ 0xC3 ∷ [], Some (instr.Xchg W32 (operand.Reg 3) (operand.Reg 0)))
    ∷ (0xF0 ∷ 0x87 ∷ 0xC3 ∷ [], None)
    ∷ (0xF0 ∷ 0x90 ∷ [], None)
    ∷ []

-- instructions that the subset leaves out
abbrev pub left_out : List Worked
left_out =
    (0xF5 ∷ [], None)
    ∷ (0xF8 ∷ [], None)
    ∷ (0xF9 ∷ [], None)
    ∷ (0x9C ∷ [], None)
    ∷ (0x9D ∷ [], None)
    ∷ (0x9E ∷ [], None)
    ∷ (0x9F ∷ [], None)
    ∷ (0xA4 ∷ [], None)
    ∷ (0xAA ∷ [], None)
    ∷ (0xCC ∷ [], None)
    ∷ (0xC8 ∷ 0x00 ∷ 0x00 ∷ 0x00 ∷ [], None)
    ∷ (0xE2 ∷ 0x00 ∷ [], None)
    ∷ (0xE3 ∷ 0x00 ∷ [], None)
    ∷ (0x0F ∷ 0x05 ∷ [], None)
    ∷ (0x0F ∷ 0x0B ∷ [], None)
    ∷ (0x0F ∷ 0xA2 ∷ [], None)
    ∷ (0x0F ∷ 0xBC ∷ 0xC1 ∷ [], None)
    ∷ (0x0F ∷ 0xBD ∷ 0xC1 ∷ [], None)
    ∷ (0xF3 ∷ 0x0F ∷ 0xB8 ∷ 0xC1 ∷ [], None)
    ∷ (0x0F ∷ 0xA4 ∷ 0xC1 ∷ 0x05 ∷ [], None)
    ∷ (0x0F ∷ 0xAC ∷ 0xC1 ∷ 0x05 ∷ [], None)
    ∷ (0x0F ∷ 0xBA ∷ 0xE0 ∷ 0x05 ∷ [], None)
    ∷ (0x0F ∷ 0xC8 ∷ [], None)
    ∷ (0xC0 ∷ 0xD0 ∷ 0x05 ∷ [], None)
    ∷ (0xD9 ∷ 0xC0 ∷ [], None)
    ∷ (0x0F ∷ 0x28 ∷ 0xC1 ∷ [], None)
    ∷ (0x64 ∷ 0x8B ∷ 0x00 ∷ [], None)
    ∷ (0x67 ∷ 0x8B ∷ 0x00 ∷ [], None)
    ∷ (0xF2 ∷ 0xC3 ∷ [], None)
    ∷ (0x8C ∷ 0xD8 ∷ [], None)
    ∷ (0xC4 ∷ 0xE2 ∷ 0x70 ∷ 0xF2 ∷ 0xC2 ∷ [], None)
    ∷ []
