-- The text of the register language: the one spelling of a list of blocks.
use Rattle.std.specs.Prelude.{◌⊎◌, ◌≡◌, ◌≢◌, ℕ, ◌+◌, ◌/◌, ◌%◌, ◌^◌, ◌<◌, Bool, true, false, List, [], ◌∷◌, ◌++◌, All, Option, Some, None, codes, slice_index_or}
use Rattle.std.specs.List.{flat_map}
use Rattle.std.specs.Fmt.{decimal, digits, digit_glyph}
use Rattle.ir_syntax.specs.declared.block.Block.{Block}
use Rattle.ir_syntax.specs.declared.block.Part.{Part}
use Rattle.ir_syntax.specs.declared.cond.Cond.{Cond}
use Rattle.ir_syntax.specs.declared.cond.Cond.TheVariants.{O, No, B, Ae, E, Ne, Be, A, S, Ns, P, Np, L, Ge, Le, G}
use Rattle.ir_syntax.specs.declared.cond.Flag.{Flag}
use Rattle.ir_syntax.specs.declared.cond.Flag.TheVariants.{Cf, Pf, Zf, Sf, Of}
use Rattle.ir_syntax.specs.declared.line.Family.{Family}
use Rattle.ir_syntax.specs.declared.line.Family.TheVariants.{Add, Adc, Sub, Sbb, And, Or, Xor, Shl, Shr, Sar, Rol, Ror, Mul, Umulh, Smulh, Umul, Smul, Inc, Dec, Neg, Not}
use Rattle.ir_syntax.specs.declared.line.LockOp.{LockOp}
use Rattle.ir_syntax.specs.declared.line.LockOp.TheVariants as lock
use Rattle.ir_syntax.specs.declared.line.Op.{Op}
use Rattle.ir_syntax.specs.declared.line.Op.TheVariants.{Get, GetHigh, Put, PutHigh, Const, Ea, Calc, FlagOf, FlagZero, Cond as CondOp, Pick, Zext, Sext, Cut}
use Rattle.ir_syntax.specs.declared.line.PartEnd.{PartEnd}
use Rattle.ir_syntax.specs.declared.line.PartEnd.TheVariants.{Tick, Load, Store, StoreGo, Fence, Locked, LockedCmpxchg, Divide, Go, Branch, BadCode}
use Rattle.ir_syntax.specs.declared.line.Target.{Target}
use Rattle.ir_syntax.specs.declared.line.Target.TheVariants.{Place, Temp}
use Rattle.ir_syntax.specs.declared.width.Width.{Width}
use Rattle.ir_syntax.specs.declared.width.Width.TheVariants.{W8, W16, W32, W64}
use Rattle.ir_syntax.specs.Width.{bits_of}
use Rattle.ir_syntax.specs.Typed.{has_result}

-- ---- words

abbrev pub width_name : Width → List ℕ
width_name W8 = codes "8"
width_name W16 = codes "16"
width_name W32 = codes "32"
width_name W64 = codes "64"

-- t0 to t7
abbrev pub temp_name : ℕ → List ℕ
temp_name t = 116 ∷ (48 + t) ∷ []

abbrev pub register_names : List (List ℕ)
register_names =
    codes "rax" ∷ codes "rcx" ∷ codes "rdx" ∷ codes "rbx" ∷ codes "rsp" ∷ codes "rbp" ∷ codes "rsi" ∷ codes "rdi" ∷ codes "r8" ∷ codes "r9" ∷ codes "r10" ∷ codes "r11" ∷ codes "r12" ∷ codes "r13" ∷ codes "r14" ∷ codes "r15" ∷ []

unfoldable pub register_name : ℕ → List ℕ
register_name r = slice_index_or register_names r []

-- a register, or none
abbrev pub base_name : Option ℕ → List ℕ
base_name None = codes "-"
base_name (Some r) = register_name r

abbrev pub flag_name : Flag → List ℕ
flag_name Cf = codes "cf"
flag_name Pf = codes "pf"
flag_name Zf = codes "zf"
flag_name Sf = codes "sf"
flag_name Of = codes "of"

abbrev pub cond_name : Cond → List ℕ
cond_name O = codes "o"
cond_name No = codes "no"
cond_name B = codes "b"
cond_name Ae = codes "ae"
cond_name E = codes "e"
cond_name Ne = codes "ne"
cond_name Be = codes "be"
cond_name A = codes "a"
cond_name S = codes "s"
cond_name Ns = codes "ns"
cond_name P = codes "p"
cond_name Np = codes "np"
cond_name L = codes "l"
cond_name Ge = codes "ge"
cond_name Le = codes "le"
cond_name G = codes "g"

abbrev pub family_name : Family → List ℕ
family_name Add = codes "add"
family_name Adc = codes "adc"
family_name Sub = codes "sub"
family_name Sbb = codes "sbb"
family_name And = codes "and"
family_name Or = codes "or"
family_name Xor = codes "xor"
family_name Shl = codes "shl"
family_name Shr = codes "shr"
family_name Sar = codes "sar"
family_name Rol = codes "rol"
family_name Ror = codes "ror"
family_name Mul = codes "mul"
family_name Umulh = codes "umulh"
family_name Smulh = codes "smulh"
family_name Umul = codes "umul"
family_name Smul = codes "smul"
family_name Inc = codes "inc"
family_name Dec = codes "dec"
family_name Neg = codes "neg"
family_name Not = codes "not"

abbrev pub lock_name : LockOp → List ℕ
lock_name lock.Xchg = codes "xchg"
lock_name lock.Add = codes "add"
lock_name lock.Sub = codes "sub"
lock_name lock.And = codes "and"
lock_name lock.Or = codes "or"
lock_name lock.Xor = codes "xor"

abbrev pub sign_name : Bool → List ℕ
sign_name true = codes "s"
sign_name false = codes "u"

-- from a number of bits to a width
abbrev pub cast_name : ℕ → Width → List ℕ
cast_name from w = decimal from ++ 46 ∷ [] ++ width_name w

abbrev pub hex : ℕ → List ℕ
hex n = codes "0x" ++ digits 16 false n

abbrev pub target_name : Target → List ℕ
target_name (Place n) = hex n
target_name (Temp t) = temp_name t

-- a word, and the space, the dot or the newline behind it
abbrev pub spaced : List ℕ → List ℕ
spaced s = s ++ 32 ∷ []

abbrev pub dotted : List ℕ → List ℕ
dotted s = s ++ 46 ∷ []

abbrev pub lined : List ℕ → List ℕ
lined s = s ++ 10 ∷ []

-- ---- lines

unfoldable pub op_text : Op → List ℕ
op_text (Get w t r) = codes "get." ++ spaced (width_name w) ++ spaced (temp_name t) ++ lined (register_name r)
op_text (GetHigh t r) = codes "get.h " ++ spaced (temp_name t) ++ lined (register_name r)
op_text (Put w r t) = codes "put." ++ spaced (width_name w) ++ spaced (register_name r) ++ lined (temp_name t)
op_text (PutHigh r t) = codes "put.h " ++ spaced (register_name r) ++ lined (temp_name t)
op_text (Const w t n) = codes "const." ++ spaced (width_name w) ++ spaced (temp_name t) ++ lined (hex n)
op_text (Ea t base index scale n) = codes "ea " ++ spaced (temp_name t) ++ spaced (base_name base) ++ spaced (base_name index) ++ spaced (decimal scale) ++ lined (hex n)
op_text (Calc family w t a (Some b)) = codes "calc." ++ dotted (family_name family) ++ spaced (width_name w) ++ spaced (temp_name t) ++ spaced (temp_name a) ++ lined (temp_name b)
op_text (Calc family w t a None) = codes "calc." ++ dotted (family_name family) ++ spaced (width_name w) ++ spaced (temp_name t) ++ lined (temp_name a)
op_text (FlagOf flag family w a (Some b)) = codes "flag " ++ spaced (flag_name flag) ++ dotted (family_name family) ++ spaced (width_name w) ++ spaced (temp_name a) ++ lined (temp_name b)
op_text (FlagOf flag family w a None) = codes "flag " ++ spaced (flag_name flag) ++ dotted (family_name family) ++ spaced (width_name w) ++ lined (temp_name a)
op_text (FlagZero flag) = codes "flag " ++ spaced (flag_name flag) ++ codes "zero\n"
op_text (CondOp t c) = codes "cond " ++ spaced (temp_name t) ++ lined (cond_name c)
op_text (Pick w t c a b) = codes "pick." ++ spaced (width_name w) ++ spaced (temp_name t) ++ spaced (temp_name c) ++ spaced (temp_name a) ++ lined (temp_name b)
op_text (Zext from w t a) = codes "zext." ++ spaced (cast_name from w) ++ spaced (temp_name t) ++ lined (temp_name a)
op_text (Sext from w t a) = codes "sext." ++ spaced (cast_name from w) ++ spaced (temp_name t) ++ lined (temp_name a)
op_text (Cut from w t a) = codes "cut." ++ spaced (cast_name from w) ++ spaced (temp_name t) ++ lined (temp_name a)

unfoldable pub end_text : PartEnd → List ℕ
end_text Tick = codes "tick\n"
end_text (Load w t a) = codes "load." ++ spaced (width_name w) ++ spaced (temp_name t) ++ lined (temp_name a)
end_text (Store w a t) = codes "store." ++ spaced (width_name w) ++ spaced (temp_name a) ++ lined (temp_name t)
end_text (StoreGo a t to) = codes "storego.64 " ++ spaced (temp_name a) ++ spaced (temp_name t) ++ lined (target_name to)
end_text Fence = codes "fence\n"
end_text (Locked kind w t a s) = codes "locked." ++ dotted (lock_name kind) ++ spaced (width_name w) ++ spaced (temp_name t) ++ spaced (temp_name a) ++ lined (temp_name s)
end_text (LockedCmpxchg w t a c s) = codes "locked." ++ codes "cmpxchg." ++ spaced (width_name w) ++ spaced (temp_name t) ++ spaced (temp_name a) ++ spaced (temp_name c) ++ lined (temp_name s)
end_text (Divide signed w t) = codes "divide." ++ dotted (sign_name signed) ++ spaced (width_name w) ++ lined (temp_name t)
end_text (Go to) = codes "go " ++ lined (target_name to)
end_text (Branch c taken other) = codes "branch " ++ spaced (cond_name c) ++ spaced (hex taken) ++ lined (hex other)
end_text BadCode = codes "bad code\n"

-- ---- parts, blocks, files

abbrev pub part_text : Part → List ℕ
part_text p = flat_map op_text p.ops ++ end_text p.end

abbrev pub byte_text : ℕ → List ℕ
byte_text c = digit_glyph false (c / 16) ∷ digit_glyph false (c % 16) ∷ []

abbrev pub code_text : List ℕ → List ℕ
code_text [] = codes "-"
code_text (c ∷ cs) = flat_map byte_text (c ∷ cs)

abbrev pub block_text : Block → List ℕ
block_text b = codes "block " ++ (spaced (hex b.at) ++ (lined (code_text b.code) ++ (flat_map part_text b.parts ++ codes "end\n")))

-- the text of a list of blocks
abbrev pub text : List Block → List ℕ
text blocks = codes "ir 1\n" ++ flat_map block_text blocks

-- ---- what has a text

abbrev pub IsOneOf : List ℕ → ℕ → Type 0
IsOneOf [] n = ⊥
IsOneOf (x ∷ xs) n = (n ≡ x) ⊎ IsOneOf xs n

abbrev pub IsTemp : ℕ → Type 0
IsTemp t = t < 8

abbrev pub IsRegister : ℕ → Type 0
IsRegister r = r < 16

abbrev pub IsBase : Option ℕ → Type 0
IsBase None = Unit {0}
IsBase (Some r) = IsRegister r

-- the scale of an index; without one it is 1
abbrev pub IsScale : Option ℕ → ℕ → Type 0
IsScale None scale = scale ≡ 1
IsScale (Some r) scale = IsOneOf (1 ∷ 2 ∷ 4 ∷ 8 ∷ []) scale

abbrev pub IsNumber : ℕ → Type 0
IsNumber n = n < 2 ^ 64

abbrev pub IsTarget : Target → Type 0
IsTarget (Place n) = IsNumber n
IsTarget (Temp t) = IsTemp t

-- inc, dec, neg and not have one operand
abbrev pub has_two : Family → Bool
has_two Add = true
has_two Adc = true
has_two Sub = true
has_two Sbb = true
has_two And = true
has_two Or = true
has_two Xor = true
has_two Shl = true
has_two Shr = true
has_two Sar = true
has_two Rol = true
has_two Ror = true
has_two Mul = true
has_two Umulh = true
has_two Smulh = true
has_two Umul = true
has_two Smul = true
has_two Inc = false
has_two Dec = false
has_two Neg = false
has_two Not = false

-- mul, umulh, smulh and not name no flags
abbrev pub has_flags : Family → Bool
has_flags Add = true
has_flags Adc = true
has_flags Sub = true
has_flags Sbb = true
has_flags And = true
has_flags Or = true
has_flags Xor = true
has_flags Shl = true
has_flags Shr = true
has_flags Sar = true
has_flags Rol = true
has_flags Ror = true
has_flags Mul = false
has_flags Umulh = false
has_flags Smulh = false
has_flags Umul = true
has_flags Smul = true
has_flags Inc = true
has_flags Dec = true
has_flags Neg = true
has_flags Not = false

abbrev pub HasOp : Op → Type 0
HasOp (Get w t r) = IsTemp t × IsRegister r
HasOp (GetHigh t r) = IsTemp t × IsRegister r
HasOp (Put w r t) = IsRegister r × IsTemp t
HasOp (PutHigh r t) = IsRegister r × IsTemp t
HasOp (Const w t n) = IsTemp t × (n < 2 ^ bits_of w)
HasOp (Ea t base index scale n) = IsTemp t × IsBase base × IsBase index × IsScale index scale × IsNumber n
HasOp (Calc family w t a (Some b)) = (has_result family ≡ true) × (has_two family ≡ true) × IsTemp t × IsTemp a × IsTemp b
HasOp (Calc family w t a None) = (has_result family ≡ true) × (has_two family ≡ false) × IsTemp t × IsTemp a
HasOp (FlagOf flag family w a (Some b)) = (has_flags family ≡ true) × (has_two family ≡ true) × IsTemp a × IsTemp b
HasOp (FlagOf flag family w a None) = (has_flags family ≡ true) × (has_two family ≡ false) × IsTemp a
HasOp (FlagZero flag) = Unit {0}
HasOp (CondOp t c) = IsTemp t
HasOp (Pick w t c a b) = IsTemp t × IsTemp c × IsTemp a × IsTemp b
HasOp (Zext from w t a) = IsOneOf (1 ∷ 8 ∷ 16 ∷ 32 ∷ []) from × (from < bits_of w) × IsTemp t × IsTemp a
HasOp (Sext from w t a) = IsOneOf (8 ∷ 16 ∷ 32 ∷ []) from × (from < bits_of w) × IsTemp t × IsTemp a
HasOp (Cut from w t a) = IsOneOf (16 ∷ 32 ∷ 64 ∷ []) from × (bits_of w < from) × IsTemp t × IsTemp a

abbrev pub HasEnd : PartEnd → Type 0
HasEnd Tick = Unit {0}
HasEnd (Load w t a) = IsTemp t × IsTemp a
HasEnd (Store w a t) = IsTemp a × IsTemp t
HasEnd (StoreGo a t to) = IsTemp a × IsTemp t × IsTarget to
HasEnd Fence = Unit {0}
HasEnd (Locked kind w t a s) = IsTemp t × IsTemp a × IsTemp s
HasEnd (LockedCmpxchg w t a c s) = IsTemp t × IsTemp a × IsTemp c × IsTemp s
HasEnd (Divide signed w t) = IsTemp t
HasEnd (Go to) = IsTarget to
HasEnd (Branch c taken other) = IsNumber taken × IsNumber other
HasEnd BadCode = Unit {0}

pub record HasPart (p : Part) : Type 0 where
  pub ops : All HasOp p.ops
  pub end : HasEnd p.end

-- the block has a spelling: its lines have one, and there is a part
pub record HasText (b : Block) : Type 0 where
  pub at : IsNumber b.at
  pub code : All (λ c. c < 256) b.code
  pub some : b.parts ≢ []
  pub parts : All HasPart b.parts
