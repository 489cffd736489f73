-- Which lines are well typed, by what the temporaries t0 to t7 hold before them.
use Rattle.std.specs.Prelude.{ℕ, ◌<◌, ◌≡◌, ◌^◌, Bool, true, false, not, ◌&&◌, ◌||◌, ◌==◌, zero, suc, nat_lt, nat_le, List, [], ◌∷◌, length, IsTrue, Option, Some, None, slice_index_or, slice_set, slice_get, take, IsSomeAnd, ◌⊎◌}
use Rattle.ir_syntax.specs.declared.block.Block.{Block}
use Rattle.ir_syntax.specs.declared.block.Part.{Part}
use Rattle.ir_syntax.specs.declared.cond.Flag.{Flag}
use Rattle.ir_syntax.specs.declared.line.Family.{Family}
use Rattle.ir_syntax.specs.declared.line.Family.TheVariants.{Add, Adc, Sub, Sbb, And, Or, Xor, Shl, Shr, Sar, Rol, Ror, Mul, Umulh, Smulh, Umul, Smul, Inc, Dec, Neg, Not}
use Rattle.ir_syntax.specs.declared.line.Op.{Op}
use Rattle.ir_syntax.specs.declared.line.Op.TheVariants.{Get, GetHigh, Put, PutHigh, Const, Ea, Calc, FlagOf, FlagZero, Cond, Pick, Zext, Sext, Cut}
use Rattle.ir_syntax.specs.declared.line.PartEnd.{PartEnd}
use Rattle.ir_syntax.specs.declared.line.PartEnd.TheVariants.{Tick, Load, Store, StoreGo, Fence, Locked, LockedCmpxchg, Divide, Go, Branch, BadCode}
use Rattle.ir_syntax.specs.declared.line.Target.{Target}
use Rattle.ir_syntax.specs.declared.line.Target.TheVariants.{Place, Temp}
use Rattle.ir_syntax.specs.declared.typing.TypeFault.{TypeFault}
use Rattle.ir_syntax.specs.Cond.{is_cf, is_of}
use Rattle.ir_syntax.specs.Width.{bits_of}

-- the types of t0 to t7: the number of bits that each was last written with, None before its first write
abbrev pub Types : Type 0
Types = List (Option ℕ)

abbrev pub unwritten : Types
unwritten = None ∷ None ∷ None ∷ None ∷ None ∷ None ∷ None ∷ None ∷ []

abbrev pub is_of_bits : ℕ → Option ℕ → Bool
is_of_bits n None = false
is_of_bits n (Some m) = m == n

-- temporary t was last written with n bits
abbrev pub holds : Types → ℕ → ℕ → Bool
holds types t n = is_of_bits n (slice_index_or types t None)

abbrev pub wrote : Types → ℕ → ℕ → Types
wrote types t n = slice_set types t (Some n)

abbrev pub is_temp : ℕ → Bool
is_temp t = nat_lt t 8

abbrev pub is_register : ℕ → Bool
is_register r = nat_lt r 16

-- rax, rcx, rdx and rbx
abbrev pub has_high_byte : ℕ → Bool
has_high_byte r = nat_lt r 4

abbrev pub is_width : ℕ → Bool
is_width n = n == 8 || n == 16 || n == 32 || n == 64

abbrev pub is_base : Option ℕ → Bool
is_base None = true
is_base (Some r) = is_register r

-- the index register and the scale; without an index the scale is 1
abbrev pub is_index : Option ℕ → ℕ → Bool
is_index None scale = scale == 1
is_index (Some r) scale = is_register r && (scale == 1 || scale == 2 || scale == 4 || scale == 8)

-- the bits of the second operand of a family at n bits: a count has 8
abbrev pub second_bits : Family → ℕ → Option ℕ
second_bits Add n = Some n
second_bits Adc n = Some n
second_bits Sub n = Some n
second_bits Sbb n = Some n
second_bits And n = Some n
second_bits Or n = Some n
second_bits Xor n = Some n
second_bits Shl n = Some 8
second_bits Shr n = Some 8
second_bits Sar n = Some 8
second_bits Rol n = Some 8
second_bits Ror n = Some 8
second_bits Mul n = Some n
second_bits Umulh n = Some n
second_bits Smulh n = Some n
second_bits Umul n = Some n
second_bits Smul n = Some n
second_bits Inc n = None
second_bits Dec n = None
second_bits Neg n = None
second_bits Not n = None

-- rotations and multiplications have 32 or 64 bits
abbrev pub has_width : Family → ℕ → Bool
has_width Add n = true
has_width Adc n = true
has_width Sub n = true
has_width Sbb n = true
has_width And n = true
has_width Or n = true
has_width Xor n = true
has_width Shl n = true
has_width Shr n = true
has_width Sar n = true
has_width Rol n = nat_le 32 n
has_width Ror n = nat_le 32 n
has_width Mul n = nat_le 32 n
has_width Umulh n = nat_le 32 n
has_width Smulh n = nat_le 32 n
has_width Umul n = nat_le 32 n
has_width Smul n = nat_le 32 n
has_width Inc n = true
has_width Dec n = true
has_width Neg n = true
has_width Not n = true

-- umul and smul name flags alone
abbrev pub has_result : Family → Bool
has_result Add = true
has_result Adc = true
has_result Sub = true
has_result Sbb = true
has_result And = true
has_result Or = true
has_result Xor = true
has_result Shl = true
has_result Shr = true
has_result Sar = true
has_result Rol = true
has_result Ror = true
has_result Mul = true
has_result Umulh = true
has_result Smulh = true
has_result Umul = false
has_result Smul = false
has_result Inc = true
has_result Dec = true
has_result Neg = true
has_result Not = true

-- the flags that a family puts
abbrev pub puts : Family → Flag → Bool
puts Add flag = true
puts Adc flag = true
puts Sub flag = true
puts Sbb flag = true
puts And flag = true
puts Or flag = true
puts Xor flag = true
puts Shl flag = true
puts Shr flag = true
puts Sar flag = true
puts Rol flag = is_cf flag || is_of flag
puts Ror flag = is_cf flag || is_of flag
puts Mul flag = false
puts Umulh flag = false
puts Smulh flag = false
puts Umul flag = is_cf flag || is_of flag
puts Smul flag = is_cf flag || is_of flag
puts Inc flag = not (is_cf flag)
puts Dec flag = not (is_cf flag)
puts Neg flag = true
puts Not flag = false

-- the second operand stands where one is needed, and holds what is needed
abbrev pub is_second : Types → Option ℕ → Option ℕ → Bool
is_second types None None = true
is_second types None (Some b) = false
is_second types (Some n) None = false
is_second types (Some n) (Some b) = holds types b n

abbrev pub are_operands : Types → Family → ℕ → ℕ → Option ℕ → Bool
are_operands types family n a b = has_width family n && holds types a n && is_second types (second_bits family n) b

abbrev pub is_target : Types → Target → Bool
is_target types (Place to) = true
is_target types (Temp t) = holds types t 64

-- the line spells an op line, and reads what was written with the width that it needs
abbrev pub is_typed : Types → Op → Bool
is_typed types (Get w t r) = is_temp t && is_register r
is_typed types (GetHigh t r) = is_temp t && has_high_byte r
is_typed types (Put w r t) = is_register r && holds types t (bits_of w)
is_typed types (PutHigh r t) = has_high_byte r && holds types t 8
is_typed types (Const w t n) = is_temp t && nat_lt n (2 ^ bits_of w)
is_typed types (Ea t base index scale n) = is_temp t && is_base base && is_index index scale
is_typed types (Calc family w t a b) = is_temp t && has_result family && are_operands types family (bits_of w) a b
is_typed types (FlagOf flag family w a b) = puts family flag && are_operands types family (bits_of w) a b
is_typed types (FlagZero flag) = true
is_typed types (Cond t c) = is_temp t
is_typed types (Pick w t c a b) = is_temp t && holds types c 1 && holds types a (bits_of w) && holds types b (bits_of w)
is_typed types (Zext from w t a) = is_temp t && (from == 1 || is_width from) && nat_lt from (bits_of w) && holds types a from
is_typed types (Sext from w t a) = is_temp t && is_width from && nat_lt from (bits_of w) && holds types a from
is_typed types (Cut from w t a) = is_temp t && is_width from && nat_lt (bits_of w) from && holds types a from

-- the types after an op line
abbrev pub types_after : Types → Op → Types
types_after types (Get w t r) = wrote types t (bits_of w)
types_after types (GetHigh t r) = wrote types t 8
types_after types (Put w r t) = types
types_after types (PutHigh r t) = types
types_after types (Const w t n) = wrote types t (bits_of w)
types_after types (Ea t base index scale n) = wrote types t 64
types_after types (Calc family w t a b) = wrote types t (bits_of w)
types_after types (FlagOf flag family w a b) = types
types_after types (FlagZero flag) = types
types_after types (Cond t c) = wrote types t 1
types_after types (Pick w t c a b) = wrote types t (bits_of w)
types_after types (Zext from w t a) = wrote types t (bits_of w)
types_after types (Sext from w t a) = wrote types t (bits_of w)
types_after types (Cut from w t a) = wrote types t (bits_of w)

-- the line spells an end line, and reads what was written with the width that it needs
abbrev pub is_end_typed : Types → PartEnd → Bool
is_end_typed types Tick = true
is_end_typed types (Load w t a) = is_temp t && holds types a 64
is_end_typed types (Store w a t) = holds types a 64 && holds types t (bits_of w)
is_end_typed types (StoreGo a t to) = holds types a 64 && holds types t 64 && is_target types to
is_end_typed types Fence = true
is_end_typed types (Locked kind w t a s) = is_temp t && holds types a 64 && holds types s (bits_of w)
is_end_typed types (LockedCmpxchg w t a c s) = is_temp t && holds types a 64 && holds types c (bits_of w) && holds types s (bits_of w)
is_end_typed types (Divide signed w t) = nat_le 32 (bits_of w) && holds types t (bits_of w)
is_end_typed types (Go to) = is_target types to
is_end_typed types (Branch c taken other) = true
is_end_typed types BadCode = true

-- the types after an end line, once the answer is there
abbrev pub types_after_end : Types → PartEnd → Types
types_after_end types Tick = types
types_after_end types (Load w t a) = wrote types t (bits_of w)
types_after_end types (Store w a t) = types
types_after_end types (StoreGo a t to) = types
types_after_end types Fence = types
types_after_end types (Locked kind w t a s) = wrote types t (bits_of w)
types_after_end types (LockedCmpxchg w t a c s) = wrote types t (bits_of w)
types_after_end types (Divide signed w t) = types
types_after_end types (Go to) = types
types_after_end types (Branch c taken other) = types
types_after_end types BadCode = types

-- storego, go, branch and bad leave the block
abbrev pub goes_on : PartEnd → Bool
goes_on Tick = true
goes_on (Load w t a) = true
goes_on (Store w a t) = true
goes_on (StoreGo a t to) = false
goes_on Fence = true
goes_on (Locked kind w t a s) = true
goes_on (LockedCmpxchg w t a c s) = true
goes_on (Divide signed w t) = true
goes_on (Go to) = false
goes_on (Branch c taken other) = false
goes_on BadCode = false

-- a line that leaves the block ends its last part only
abbrev pub is_end_right : Bool → Types → PartEnd → Bool
is_end_right last types end = is_end_typed types end && (last || goes_on end)

-- each op line is typed after those before it
abbrev pub are_typed : Types → List Op → Bool
are_typed types [] = true
are_typed types (o ∷ os) = is_typed types o && are_typed (types_after types o) os

abbrev pub types_after_all : Types → List Op → Types
types_after_all types [] = types
types_after_all types (o ∷ os) = types_after_all (types_after types o) os

abbrev pub is_part_typed : Bool → Types → Part → Bool
is_part_typed last types p = are_typed types p.ops && is_end_right last (types_after_all types p.ops) p.end

abbrev pub types_after_part : Types → Part → Types
types_after_part types p = types_after_end (types_after_all types p.ops) p.end

abbrev pub is_empty : List Part → Bool
is_empty [] = true
is_empty (p ∷ ps) = false

-- each part is typed after those before it: temporaries keep their types from part to part
abbrev pub are_parts_typed : Types → List Part → Bool
are_parts_typed types [] = true
are_parts_typed types (p ∷ ps) = is_part_typed (is_empty ps) types p && are_parts_typed (types_after_part types p) ps

-- a block is well typed: it has a part, and its lines are typed
abbrev pub IsWellTyped : Block → Type 0
IsWellTyped block = (0 < length block.parts) × IsTrue (are_parts_typed unwritten block.parts)

-- op line k is the first wrong one: the lines before it are typed, and it is not
pub record IsFirstWrongOp (types : Types) (ops : List Op) (k : ℕ) : Type 0 where
  pub before : are_typed types (take k ops) ≡ true
  pub wrong : IsSomeAnd (slice_get ops k) (λ o. is_typed (types_after_all types (take k ops)) o ≡ false)

-- line k of a part is its first wrong one; the end line counts last
abbrev pub IsFirstWrongLine : Bool → Types → Part → ℕ → Type 0
IsFirstWrongLine last types p k =
    IsFirstWrongOp types p.ops k ⊎ ((k ≡ length p.ops) × (are_typed types p.ops ≡ true) × (is_end_right last (types_after_all types p.ops) p.end ≡ false))

-- line k of part i is the first wrong one: the parts before it are typed, and it is the first in its part
abbrev pub IsFirstWrong : Types → List Part → ℕ → ℕ → Type 0
IsFirstWrong types [] i k = ⊥
IsFirstWrong types (p ∷ ps) zero k = IsFirstWrongLine (is_empty ps) types p k
IsFirstWrong types (p ∷ ps) (suc i) k = (is_part_typed (is_empty ps) types p ≡ true) × IsFirstWrong (types_after_part types p) ps i k

-- the fault of a block that is not well typed; without parts it is part 0, op 0
abbrev pub IsFault : List Part → TypeFault → Type 0
IsFault [] fault = (fault.part ≡ 0) × (fault.op ≡ 0)
IsFault (p ∷ ps) fault = IsFirstWrong unwritten (p ∷ ps) fault.part fault.op
