-- An instruction's bytes from what the assembler chose.
use Rattle.std.specs.Prelude.{ℕ, ◌+◌, ◌*◌, ◌/◌, ◌%◌, List, [], ◌∷◌, ◌++◌, Bool, true, false, ◌&&◌, not, Option, Some, None, if◌then◌else◌}
use Rattle.x86_forms.specs.declared.operands.Width.{Width}
use Rattle.x86_forms.specs.declared.operands.Width.TheVariants.{W8, W16, W32, W64}
use Rattle.x86_forms.specs.declared.operands.Place.{Place}
use Rattle.x86_forms.specs.Spelling.{Parts, escape_bytes}
use Rattle.guest_asm.specs.declared.assembler.pieces.Number.{Number}
use Rattle.guest_asm.specs.declared.assembler.pieces.Opcode.{Opcode}
use Rattle.guest_asm.specs.declared.assembler.pieces.Pieces.{Pieces}
use Rattle.guest_asm.specs.Places.{optional, low_bytes, modrm_of, b_of, x_of, sib_part, disp_len_of, bits_of}

abbrev pub is_16 : Width → Bool
is_16 W16 = true
is_16 W8 = false
is_16 W32 = false
is_16 W64 = false

-- the bit W of REX
abbrev pub w_of : Width → ℕ
w_of W64 = 1
w_of W8 = 0
w_of W16 = 0
w_of W32 = 0

abbrev pub is_64 : Width → Bool
is_64 W64 = true
is_64 W8 = false
is_64 W16 = false
is_64 W32 = false

-- REX where it stands, for a width and the numbers in reg, index and base
abbrev pub rex_of : Bool → Width → ℕ → ℕ → ℕ → Option ℕ
rex_of no_rex marks reg x b = if no_rex then None else Some (64 + 8 * w_of marks + 4 * (reg / 8 % 2) + 2 * (x % 2) + b % 2)

abbrev pub number : ℕ → ℕ → Number
number len bits = record { len = len; bits = bits }

abbrev pub number_bytes : Number → List ℕ
number_bytes n = low_bytes n.len n.bits

-- with ModRM: `marks` is the width that 66 and REX.W show
abbrev pub with_place : Bool → Width → Opcode → ℕ → Place → Number → Pieces
with_place no_rex marks o reg p imm =
    record {
      narrowed = is_16 marks;
      rex = rex_of no_rex marks reg (x_of p) (b_of p);
      opcode = o;
      modrm = Some (modrm_of reg p);
      sib = sib_part p;
      disp = number (disp_len_of p) (bits_of p);
      imm = imm;
    }

-- without: a register's number is in the opcode, and in REX.B
abbrev pub with_code : Bool → Width → Opcode → ℕ → Number → Pieces
with_code no_rex marks o code imm =
    record {
      narrowed = is_16 marks;
      rex = rex_of no_rex marks 0 0 (code / 8);
      opcode = o;
      modrm = None;
      sib = None;
      disp = number 0 0;
      imm = imm;
    }

-- a byte that stands or not
abbrev pub only_if : Bool → ℕ → List ℕ
only_if true b = b ∷ []
only_if false b = []

abbrev pub narrow_bytes : Bool → List ℕ
narrow_bytes true = 0x66 ∷ []
narrow_bytes false = []

abbrev pub parts_of : Pieces → Parts
parts_of p =
    record {
      prefixes = narrow_bytes p.narrowed ++ optional p.opcode.prefix;
      rex = optional p.rex;
      escape = escape_bytes p.opcode.escape;
      opcode = p.opcode.byte ∷ [];
      modrm = optional p.modrm;
      sib = optional p.sib;
      disp = number_bytes p.disp;
      imm = number_bytes p.imm;
    }

-- a width of 64 bits is shown by REX
abbrev pub marks_can : Bool → Width → Bool
marks_can no_rex w = not (no_rex && is_64 w)
