-- Registers, and the parts of them that instructions read and write (Intel SDM, Volume 1, 3.4.1 and 3.4.1.1).
use Rattle.std.specs.Prelude.{ℕ, Bool, true, false, ◌+◌, ◌-◌, ◌*◌, ◌/◌, ◌%◌, ◌^◌, slice_index, slice_set, nat_lt, if◌then◌else◌, Option, Some, None}
use Rattle.x86_forms.specs.declared.operands.Width.{Width}
use Rattle.x86_forms.specs.declared.operands.Width.TheVariants.{W8, W16, W32, W64}
use Rattle.x86_forms.specs.Widths.{bits_in}
use Rattle.x86_flags.specs.declared.flags.Flags.{Flags}
use Rattle.x86_model.specs.declared.cpu.Cpu.{Cpu}

-- ---- numbers

-- the lowest bits of a number
unfoldable pub low : Width → ℕ → ℕ
low w n = n % 2 ^ bits_in w

-- the second lowest byte
unfoldable pub high_byte : ℕ → ℕ
high_byte n = n / 2 ^ 8 % 2 ^ 8

-- a number of one width at another: the bits above are copies of the top bit
unfoldable pub sign_extended : Width → Width → ℕ → ℕ
sign_extended from w v = if nat_lt v (2 ^ (bits_in from - 1)) then v else v + (2 ^ bits_in w - 2 ^ bits_in from)

-- as many copies of the top bit as the width has bits
unfoldable pub spread : Width → ℕ → ℕ
spread w v = if nat_lt v (2 ^ (bits_in w - 1)) then 0 else 2 ^ bits_in w - 1

-- MUL, IMUL, DIV, IDIV, ROL and ROR have 32 and 64 bits alone
abbrev pub is_wide : Width → Bool
is_wide W8 = false
is_wide W16 = false
is_wide W32 = true
is_wide W64 = true

-- half of 32 or 64 bits
abbrev pub half : Width → Width
half W64 = W32
half w = W16

-- ---- registers

abbrev pub reg : Cpu → ℕ → ℕ
reg s r = slice_index s.regs r

-- a register n after a write: all of it at 64 bits, a zeroed upper half at 32, and the bits above kept at 16 and 8
unfoldable pub written : Width → ℕ → ℕ → ℕ
written W8 n v = n / 2 ^ 8 * 2 ^ 8 + v % 2 ^ 8
written W16 n v = n / 2 ^ 16 * 2 ^ 16 + v % 2 ^ 16
written W32 n v = v % 2 ^ 32
written W64 n v = v

-- a register n after a write to its second lowest byte
unfoldable pub written_high : ℕ → ℕ → ℕ
written_high n v = n / 2 ^ 16 * 2 ^ 16 + v % 2 ^ 8 * 2 ^ 8 + n % 2 ^ 8

unfoldable pub get : Cpu → Width → ℕ → ℕ
get s w r = low w (reg s r)

unfoldable pub put : Cpu → Width → ℕ → ℕ → Cpu
put s w r v = record s { regs = slice_set s.regs r (written w (reg s r) v) }

unfoldable pub put_high : Cpu → ℕ → ℕ → Cpu
put_high s r v = record s { regs = slice_set s.regs r (written_high (reg s r) v) }

abbrev pub with_flags : Cpu → Flags → Cpu
with_flags s flags = record s { flags = flags }

-- ---- the loaded value

abbrev pub loaded_or_zero : Option ℕ → ℕ
loaded_or_zero None = 0
loaded_or_zero (Some v) = v

-- the value that the instruction under way has loaded
unfoldable pub loaded : Cpu → Width → ℕ
loaded s w = low w (loaded_or_zero s.mid)

-- ---- the end of an instruction

-- it goes on at an address
unfoldable pub going_to : Cpu → ℕ → Cpu
going_to s a = record s { last = s.rip; rip = a; mid = None }
