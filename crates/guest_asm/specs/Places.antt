-- The bytes that name a register or memory.
use Rattle.std.specs.Prelude.{ℕ, zero, suc, ◌+◌, ◌*◌, ◌/◌, ◌%◌, List, [], ◌∷◌, Bool, true, false, ◌&&◌, ◌||◌, Option, Some, None, is_some, nat_eq, nat_le, nat_lt, if◌then◌else◌, not}
use Rattle.std.specs.Int.{w32, cast_unsigned}
use Rattle.x86_forms.specs.declared.operands.Base.{Base}
use Rattle.x86_forms.specs.declared.operands.Base.TheVariants as base
use Rattle.x86_forms.specs.declared.operands.Mem.{Mem}
use Rattle.x86_forms.specs.declared.operands.Place.{Place}
use Rattle.x86_forms.specs.declared.operands.Place.TheVariants as place

abbrev pub optional : Option ℕ → List ℕ
optional None = []
optional (Some b) = b ∷ []

-- the low bytes of a number, the lowest first
abbrev pub low_bytes : ℕ → ℕ → List ℕ
low_bytes zero n = []
low_bytes (suc k) n = n % 256 ∷ low_bytes k (n / 256)

-- whether a signed number of 32 bits is that of its lowest byte
abbrev pub is_short : ℕ → Bool
is_short bits = nat_lt bits 128 || nat_le 4294967168 bits

abbrev pub reg_disp_mode : ℕ → ℕ → ℕ
reg_disp_mode low bits = if (nat_eq bits 0 && not (nat_eq low 5)) then 0 else if is_short bits then 1 else 2

abbrev pub disp_mode : Base → ℕ → ℕ
disp_mode base.None bits = 0
disp_mode base.Rip bits = 0
disp_mode (base.Reg r) bits = reg_disp_mode (r % 8) bits

abbrev pub base_low : Base → ℕ
base_low base.None = 5
base_low base.Rip = 5
base_low (base.Reg r) = r % 8

abbrev pub base_high : Base → ℕ
base_high base.None = 0
base_high base.Rip = 0
base_high (base.Reg r) = r / 8

abbrev pub base_needs_sib : Base → Bool → Bool
base_needs_sib base.None indexed = true
base_needs_sib base.Rip indexed = false
base_needs_sib (base.Reg r) indexed = indexed || nat_eq (r % 8) 4

abbrev pub needs_sib : Mem → Bool
needs_sib m = base_needs_sib m.base (is_some m.index)

abbrev pub scale_bits : ℕ → ℕ
scale_bits s = if nat_eq s 1 then 0 else if nat_eq s 2 then 1 else if nat_eq s 4 then 2 else 3

abbrev pub index_low : Option ℕ → ℕ
index_low None = 4
index_low (Some r) = r % 8

abbrev pub index_high : Option ℕ → ℕ
index_high None = 0
index_high (Some r) = r / 8

abbrev pub sib_of : Mem → ℕ
sib_of m = 64 * scale_bits m.scale + 8 * index_low m.index + base_low m.base

abbrev pub disp_bits : Mem → ℕ
disp_bits m = cast_unsigned w32 m.disp

-- ---- a register or memory

abbrev pub high_of : Place → ℕ
high_of (place.Reg n) = 3
high_of (place.Mem m) = disp_mode m.base (disp_bits m)

abbrev pub low_of : Place → ℕ
low_of (place.Reg n) = n % 8
low_of (place.Mem m) = if needs_sib m then 4 else base_low m.base

abbrev pub modrm_of : ℕ → Place → ℕ
modrm_of reg p = 64 * high_of p + 8 * (reg % 8) + low_of p

abbrev pub b_of : Place → ℕ
b_of (place.Reg n) = n / 8
b_of (place.Mem m) = base_high m.base

abbrev pub x_of : Place → ℕ
x_of (place.Reg n) = 0
x_of (place.Mem m) = index_high m.index

abbrev pub sib_part : Place → Option ℕ
sib_part (place.Reg n) = None
sib_part (place.Mem m) = if needs_sib m then Some (sib_of m) else None

abbrev pub mode_len : ℕ → ℕ
mode_len n = if nat_eq n 0 then 0 else if nat_eq n 1 then 1 else 4

abbrev pub base_disp_len : Base → ℕ → ℕ
base_disp_len base.None bits = 4
base_disp_len base.Rip bits = 4
base_disp_len (base.Reg r) bits = mode_len (reg_disp_mode (r % 8) bits)

abbrev pub disp_len_of : Place → ℕ
disp_len_of (place.Reg n) = 0
disp_len_of (place.Mem m) = base_disp_len m.base (disp_bits m)

abbrev pub bits_of : Place → ℕ
bits_of (place.Reg n) = 0
bits_of (place.Mem m) = disp_bits m

-- ---- what can be named

-- the numbers of registers without a REX byte, and with one
abbrev pub below : Bool → ℕ → Bool
below no_rex r = nat_lt r (if no_rex then 8 else 16)

abbrev pub is_scale : ℕ → Bool
is_scale s = nat_eq s 1 || (nat_eq s 2 || (nat_eq s 4 || nat_eq s 8))

-- an index is never rsp
abbrev pub index_can : Bool → Option ℕ → ℕ → Bool
index_can no_rex None scale = nat_eq scale 1
index_can no_rex (Some r) scale = below no_rex r && (not (nat_eq r 4) && is_scale scale)

-- the next instruction's address takes no index
abbrev pub base_can : Bool → Base → Bool → Bool
base_can no_rex base.None indexed = true
base_can no_rex base.Rip indexed = not indexed
base_can no_rex (base.Reg r) indexed = below no_rex r

abbrev pub mem_can : Bool → Mem → Bool
mem_can no_rex m = base_can no_rex m.base (is_some m.index) && index_can no_rex m.index m.scale

abbrev pub place_can : Bool → Place → Bool
place_can no_rex (place.Reg n) = below no_rex n
place_can no_rex (place.Mem m) = mem_can no_rex m
