-- The bytes after an opcode: ModRM, SIB, displacement and immediate, and the bits of REX
-- (Intel SDM, Volume 2, chapter 2).
use Rattle.std.specs.Prelude.{ℕ, ◌+◌, ◌-◌, ◌*◌, ◌/◌, ◌%◌, ◌^◌, ℤ, pos, List, [], ◌∷◌, length, Bool, false, ◌&&◌, Option, Some, None, nat_eq, nat_le, if◌then◌else◌}
use Rattle.std.specs.Int.{w8, w16, w32, w64, cast_signed, cast_unsigned}
use Rattle.x86_forms.specs.declared.operands.Width.{Width}
use Rattle.x86_forms.specs.declared.operands.Width.TheVariants.{W8, W16, W32, W64}
use Rattle.x86_forms.specs.declared.operands.Base.{Base}
use Rattle.x86_forms.specs.declared.operands.Base.TheVariants as base
use Rattle.x86_forms.specs.declared.operands.Mem.{Mem}
use Rattle.x86_forms.specs.declared.operands.Operand.{Operand}
use Rattle.x86_forms.specs.declared.operands.Operand.TheVariants as operand
use Rattle.x86_forms.specs.declared.operands.Place.{Place}
use Rattle.x86_forms.specs.declared.operands.Place.TheVariants as place
use Rattle.x86_forms.specs.declared.rows.Size.{Size}
use Rattle.x86_forms.specs.declared.rows.Size.TheVariants as size
use Rattle.x86_forms.specs.declared.rows.Tail.{Tail}
use Rattle.x86_forms.specs.declared.rows.Tail.TheVariants as tail
use Rattle.x86_forms.specs.Widths.{bytes_in}

-- ---- numbers

-- A part that may be missing is a list of no byte or of one. A missing one reads as 0.
abbrev pub byte : List ℕ → ℕ
byte [] = 0
byte (b ∷ bs) = b

-- the number that little-endian bytes make
abbrev pub unsigned : List ℕ → ℕ
unsigned [] = 0
unsigned (b ∷ bs) = b + 256 * unsigned bs

-- the same of one, two, four or eight bytes, the top bit being a sign
unfoldable pub signed : List ℕ → ℤ
signed bs = if nat_eq (length bs) 1 then cast_signed w8 (unsigned bs) else if nat_eq (length bs) 2 then cast_signed w16 (unsigned bs) else if nat_eq (length bs) 4 then cast_signed w32 (unsigned bs) else cast_signed w64 (unsigned bs)

-- A displacement or a relative target has at most four bytes (2.2.1.3).
unfoldable pub displacement : List ℕ → ℤ
displacement bs = if nat_le (length bs) 4 then signed bs else pos 0

-- ---- the fields of the bytes

-- a REX byte is 0100WRXB (2.2.1)
abbrev pub is_rex : ℕ → Bool
is_rex b = nat_eq (b / 16) 4

abbrev pub rex_w : ℕ → ℕ
rex_w x = x / 8 % 2

abbrev pub rex_r : ℕ → ℕ
rex_r x = x / 4 % 2

abbrev pub rex_x : ℕ → ℕ
rex_x x = x / 2 % 2

abbrev pub rex_b : ℕ → ℕ
rex_b x = x % 2

-- A ModRM byte has mod (two bits), reg and rm (three each); a SIB byte has scale, index and base (2.1.3).
abbrev pub high_field : ℕ → ℕ
high_field m = m / 64

abbrev pub middle_field : ℕ → ℕ
middle_field m = m / 8 % 8

abbrev pub low_field : ℕ → ℕ
low_field m = m % 8

-- ---- registers and memory (tables 2-2 and 2-3, 2.2.1.2)

-- whether a SIB byte follows this ModRM byte: mod is not 11, and rm is 100 whatever REX.B is
unfoldable pub has_sib : ℕ → Bool
has_sib m = if nat_eq (high_field m) 3 then false else nat_eq (low_field m) 4

-- whether memory has no base register: mod is 00, and rm or the base field of SIB is 101 whatever REX.B is
unfoldable pub is_baseless : ℕ → ℕ → Bool
is_baseless m sib = if nat_eq (high_field m) 0 then (if nat_eq (low_field m) 4 then nat_eq (low_field sib) 5 else nat_eq (low_field m) 5) else false

-- how many bytes of displacement follow
unfoldable pub disp_len : ℕ → ℕ → ℕ
disp_len m sib = if nat_eq (high_field m) 3 then 0 else if nat_eq (high_field m) 1 then 1 else if nat_eq (high_field m) 2 then 4 else if is_baseless m sib then 4 else 0

-- Memory by a SIB byte. An index of 100 with REX.X = 0 is none.
abbrev pub index_of : ℕ → ℕ → ℕ
index_of x sib = middle_field sib + 8 * rex_x x

abbrev pub sib_base : ℕ → ℕ → ℕ → Base
sib_base x m sib = if is_baseless m sib then base.None else base.Reg (low_field sib + 8 * rex_b x)

abbrev pub sib_index : ℕ → ℕ → Option ℕ
sib_index x sib = if nat_eq (index_of x sib) 4 then None else Some (index_of x sib)

abbrev pub sib_scale : ℕ → ℕ → ℕ
sib_scale x sib = if nat_eq (index_of x sib) 4 then 1 else 2 ^ high_field sib

unfoldable pub indexed : ℕ → ℕ → ℕ → ℤ → Mem
indexed x m sib d = record { base = sib_base x m sib; index = sib_index x sib; scale = sib_scale x sib; disp = d }

-- Memory without one: mod 00 with rm 101 counts from the next instruction (2.2.1.6).
unfoldable pub based : ℕ → ℕ → ℤ → Mem
based x m d = record { base = if is_baseless m 0 then base.Rip else base.Reg (low_field m + 8 * rex_b x); index = None; scale = 1; disp = d }

-- what mod and rm name: a register where mod is 11, else memory
unfoldable pub place_of : ℕ → ℕ → ℕ → ℤ → Place
place_of x m sib d = if nat_eq (high_field m) 3 then place.Reg (low_field m + 8 * rex_b x) else if nat_eq (low_field m) 4 then place.Mem (indexed x m sib d) else place.Mem (based x m d)

-- Codes 4 to 7 at 8 bits are AH, CH, DH and BH where no REX byte stands (3.1.1.1, table 3-1).
abbrev pub narrow : Bool → ℕ → Operand
narrow no_rex n = if (no_rex && nat_le 4 n) then operand.High (n - 4) else operand.Reg n

unfoldable pub register : Width → Bool → ℕ → Operand
register W8 no_rex n = narrow no_rex n
register W16 no_rex n = operand.Reg n
register W32 no_rex n = operand.Reg n
register W64 no_rex n = operand.Reg n

unfoldable pub operand_of : Width → Bool → Place → Operand
operand_of w no_rex (place.Reg n) = register w no_rex n
operand_of w no_rex (place.Mem m) = operand.Mem m

-- ---- widths and immediates (2.2.1.2, 2.2.1.5, 3.1.1.1)

-- the width by the column of the row, whether a 66 stands, and REX.W
abbrev pub sized : Bool → ℕ → Width
sized narrowed wide = if nat_eq wide 1 then W64 else if narrowed then W16 else W32

unfoldable pub width_of : Size → Bool → ℕ → Option Width
width_of size.B narrowed wide = Some W8
width_of size.V narrowed wide = Some (sized narrowed wide)
width_of size.D narrowed wide = if nat_eq wide 1 then Some W64 else if narrowed then None else Some W32
width_of size.Q narrowed wide = Some W64

-- iz is 16 bits at the width 16, else 32
abbrev pub iz_len : Width → ℕ
iz_len W8 = 4
iz_len W16 = 2
iz_len W32 = 4
iz_len W64 = 4

-- how many bytes of immediate follow
unfoldable pub tail_len : Tail → Width → ℕ
tail_len tail.Nothing w = 0
tail_len tail.Ib w = 1
tail_len tail.Iz w = iz_len w
tail_len tail.Iv w = bytes_in w
tail_len tail.Iw w = 2
tail_len tail.Rel8 w = 1
tail_len tail.Rel32 w = 4

-- a signed number, extended or cut to a width
unfoldable pub at_width : Width → ℤ → ℕ
at_width w z = cast_unsigned w64 z % 2 ^ (8 * bytes_in w)
