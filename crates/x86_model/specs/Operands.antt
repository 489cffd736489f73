-- What operands are worth, where they are, and what writes to them leave.
use Rattle.std.specs.Prelude.{ℕ, ℤ, ◌+◌, ◌*◌, ◌%◌, ◌^◌, Option, Some, None}
use Rattle.std.specs.Int.{w64, cast_unsigned}
use Rattle.x86_forms.specs.declared.operands.Width.{Width}
use Rattle.x86_forms.specs.declared.operands.Base.{Base}
use Rattle.x86_forms.specs.declared.operands.Base.TheVariants as base
use Rattle.x86_forms.specs.declared.operands.Mem.{Mem}
use Rattle.x86_forms.specs.declared.operands.Operand.{Operand}
use Rattle.x86_forms.specs.declared.operands.Operand.TheVariants.{Reg, High, Mem as InMem, Imm}
use Rattle.x86_model.specs.declared.cpu.Cpu.{Cpu}
use Rattle.x86_model.specs.declared.want.Want.{Want}
use Rattle.x86_model.specs.declared.want.Want.TheVariants.{Private, Store}
use Rattle.x86_model.specs.Registers.{reg, low, get, high_byte, put, put_high, loaded, going_to}

-- ---- addresses (Intel SDM, Volume 1, 3.7.5; Volume 2, 2.2.1.6)

abbrev pub base_of : Cpu → ℕ → Base → ℕ
base_of s next base.None = 0
base_of s next (base.Reg r) = reg s r
base_of s next base.Rip = next

abbrev pub index_of : Cpu → Option ℕ → ℕ
index_of s None = 0
index_of s (Some r) = reg s r

-- base + index * scale + displacement modulo 2 ^ 64, where next is the address of the next instruction
unfoldable pub address : Cpu → ℕ → Mem → ℕ
address s next m = (base_of s next m.base + index_of s m.index * m.scale + cast_unsigned w64 m.disp) % 2 ^ 64

-- so many bytes after the next instruction
unfoldable pub target : ℕ → ℤ → ℕ
target next rel = (next + cast_unsigned w64 rel) % 2 ^ 64

-- ---- values

-- what an operand is worth; one in memory was loaded before
unfoldable pub value : Cpu → Width → Operand → ℕ
value s w (Reg r) = get s w r
value s w (High r) = high_byte (reg s r)
value s w (InMem m) = loaded s w
value s w (Imm n) = low w n

-- ---- results

-- after a write to a register or a part of one
unfoldable pub assigned : Cpu → Width → Operand → ℕ → Cpu
assigned s w (Reg r) v = put s w r v
assigned s w (High r) v = put_high s r v
assigned s w (InMem m) v = s
assigned s w (Imm n) v = s

-- a result goes to a register, or to memory by a store, and the instruction ends
unfoldable pub given : Cpu → ℕ → Width → Operand → ℕ → Want
given s next w (Reg r) v = Private (going_to (assigned s w (Reg r) v) next)
given s next w (High r) v = Private (going_to (assigned s w (High r) v) next)
given s next w (InMem m) v = Store (address s next m) w v (going_to s next)
given s next w (Imm n) v = Private (going_to s next)
