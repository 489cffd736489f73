-- The lines of a block as rows: the grammar to read by.
use Rattle.std.specs.Prelude.{◌≡◌, ℕ, ◌^◌, ◌<◌, Bool, true, false, List, [], ◌∷◌, Option, Some, None, codes}
use Rattle.std.specs.Fmt.{decimal}
use Rattle.ir_syntax.specs.declared.cond.Cond.{Cond}
use Rattle.ir_syntax.specs.declared.cond.Flag.{Flag}
use Rattle.ir_syntax.specs.declared.line.Family.{Family}
use Rattle.ir_syntax.specs.declared.line.LockOp.{LockOp}
use Rattle.ir_syntax.specs.declared.line.Op.TheVariants.{Get, GetHigh, Put, PutHigh, Const, Ea, Calc, FlagOf, FlagZero, Cond as CondOp, Pick, Zext, Sext, Cut}
use Rattle.ir_syntax.specs.declared.line.PartEnd.TheVariants.{Tick, Load, Store, StoreGo, Fence, Locked, LockedCmpxchg, Divide, Go, Branch, BadCode}
use Rattle.ir_syntax.specs.declared.line.Target.{Target}
use Rattle.ir_syntax.specs.declared.line.Target.TheVariants.{Place, Temp}
use Rattle.ir_syntax.specs.declared.width.Width.{Width}
use Rattle.ir_syntax.specs.Width.{bits_of}
use Rattle.ir_syntax.specs.Typed.{has_result}
use Rattle.ir_text.specs.declared.pieces.Head.{Head}
use Rattle.ir_text.specs.declared.pieces.Head.TheVariants as head
use Rattle.ir_text.specs.declared.pieces.Item.{Item}
use Rattle.ir_text.specs.declared.pieces.Item.TheVariants as item
use Rattle.ir_text.specs.Text.{width_name, temp_name, register_name, base_name, flag_name, cond_name, family_name, lock_name, sign_name, cast_name, spaced, dotted, lined, IsOneOf, IsTemp, IsRegister, IsBase, IsScale, has_two, has_flags}
use Rattle.ir_text.specs.Row.{Field, Row, Done, Last, Then, worded, token, number, number_digits}
use Rattle.ir_text.specs.Tables.{widths, temps, registers, bases, scales, one_scale, flags, conds, result_families, flag_families, lock_ops, signs, parts_of_register, zexts, sexts, cuts, targets, heads, heads_or_end}

-- ---- fields

abbrev pub sp : List ℕ
sp = 32 ∷ []

abbrev pub dot : List ℕ
dot = 46 ∷ []

abbrev pub nl : List ℕ
nl = 10 ∷ []

abbrev pub Any : {A : Type 0} → A → Type 0
Any a = Unit {0}

abbrev pub width : List ℕ → Field Width
width end = worded widths Any width_name end

abbrev pub temp : List ℕ → Field ℕ
temp end = worded temps IsTemp temp_name end

abbrev pub register : List ℕ → Field ℕ
register end = worded registers IsRegister register_name end

abbrev pub base : Field (Option ℕ)
base = worded bases IsBase base_name sp

abbrev pub scales_of : Option ℕ → List (List ℕ × ℕ)
scales_of None = one_scale
scales_of (Some r) = scales

abbrev pub scale : Option ℕ → Field ℕ
scale i = worded (scales_of i) (IsScale i) decimal sp

abbrev pub flag : Field Flag
flag = worded flags Any flag_name sp

abbrev pub cond : List ℕ → Field Cond
cond end = worded conds Any cond_name end

abbrev pub HasResult : Family → Type 0
HasResult f = has_result f ≡ true

abbrev pub result_family : Field Family
result_family = worded result_families HasResult family_name dot

abbrev pub HasFlags : Option Family → Type 0
HasFlags None = Unit {0}
HasFlags (Some f) = has_flags f ≡ true

abbrev pub flag_family_name : Option Family → List ℕ
flag_family_name None = codes "zero\n"
flag_family_name (Some f) = dotted (family_name f)

abbrev pub flag_family : Field (Option Family)
flag_family = token flag_families HasFlags flag_family_name

abbrev pub lock_op_name : Option LockOp → List ℕ
lock_op_name None = codes "cmpxchg."
lock_op_name (Some k) = dotted (lock_name k)

abbrev pub lock_op : Field (Option LockOp)
lock_op = token lock_ops Any lock_op_name

abbrev pub sign : Field Bool
sign = worded signs Any sign_name dot

abbrev pub register_part_name : Option Width → List ℕ
register_part_name None = codes "h "
register_part_name (Some w) = spaced (width_name w)

abbrev pub register_part : Field (Option Width)
register_part = token parts_of_register Any register_part_name

abbrev pub IsZext : ℕ × Width → Type 0
IsZext x = IsOneOf (1 ∷ 8 ∷ 16 ∷ 32 ∷ []) x.0 × (x.0 < bits_of x.1)

abbrev pub IsSext : ℕ × Width → Type 0
IsSext x = IsOneOf (8 ∷ 16 ∷ 32 ∷ []) x.0 × (x.0 < bits_of x.1)

abbrev pub IsCut : ℕ × Width → Type 0
IsCut x = IsOneOf (16 ∷ 32 ∷ 64 ∷ []) x.0 × (bits_of x.1 < x.0)

abbrev pub name_of_cast : ℕ × Width → List ℕ
name_of_cast x = cast_name x.0 x.1

abbrev pub zext : Field (ℕ × Width)
zext = worded zexts IsZext name_of_cast sp

abbrev pub sext : Field (ℕ × Width)
sext = worded sexts IsSext name_of_cast sp

abbrev pub cut : Field (ℕ × Width)
cut = worded cuts IsCut name_of_cast sp

abbrev pub IsMaybeTemp : Option ℕ → Type 0
IsMaybeTemp None = Unit {0}
IsMaybeTemp (Some t) = IsTemp t

abbrev pub target_front_name : Option ℕ → List ℕ
target_front_name None = codes "0x"
target_front_name (Some t) = lined (temp_name t)

abbrev pub target_front : Field (Option ℕ)
target_front = token targets IsMaybeTemp target_front_name

abbrev pub head_name : Head → List ℕ
head_name head.Get = codes "get."
head_name head.Put = codes "put."
head_name head.Const = codes "const."
head_name head.Ea = codes "ea "
head_name head.Calc = codes "calc."
head_name head.Flag = codes "flag "
head_name head.Cond = codes "cond "
head_name head.Pick = codes "pick."
head_name head.Zext = codes "zext."
head_name head.Sext = codes "sext."
head_name head.Cut = codes "cut."
head_name head.Tick = codes "tick\n"
head_name head.Load = codes "load."
head_name head.Store = codes "store."
head_name head.StoreGo = codes "storego.64 "
head_name head.Fence = codes "fence\n"
head_name head.Locked = codes "locked."
head_name head.Divide = codes "divide."
head_name head.Go = codes "go "
head_name head.Branch = codes "branch "
head_name head.BadCode = codes "bad code\n"
head_name head.End = codes "end\n"

abbrev pub IsLineOfPart : Head → Type 0
IsLineOfPart head.End = ⊥
IsLineOfPart _ = Unit {0}

abbrev pub first_word : Bool → Field Head
first_word false = token heads IsLineOfPart head_name
first_word true = token heads_or_end Any head_name

abbrev pub top : ℕ
top = 2 ^ 64

-- ---- rows

abbrev pub get_operands : Option Width → Row Item
get_operands None = Then ℕ (temp sp) (λ t. Last ℕ (register nl) (λ r. item.Op (GetHigh t r)))
get_operands (Some w) = Then ℕ (temp sp) (λ t. Last ℕ (register nl) (λ r. item.Op (Get w t r)))

abbrev pub get_row : Row Item
get_row = Then (Option Width) register_part get_operands

abbrev pub put_operands : Option Width → Row Item
put_operands None = Then ℕ (register sp) (λ r. Last ℕ (temp nl) (λ t. item.Op (PutHigh r t)))
put_operands (Some w) = Then ℕ (register sp) (λ r. Last ℕ (temp nl) (λ t. item.Op (Put w r t)))

abbrev pub put_row : Row Item
put_row = Then (Option Width) register_part put_operands

abbrev pub const_row : Row Item
const_row = Then Width (width sp) (λ w. Then ℕ (temp sp) (λ t. Last ℕ (number (2 ^ bits_of w) 10) (λ n. item.Op (Const w t n))))

abbrev pub ea_row : Row Item
ea_row = Then ℕ (temp sp) (λ t. Then (Option ℕ) base (λ b. Then (Option ℕ) base (λ i. Then ℕ (scale i) (λ s. Last ℕ (number top 10) (λ n. item.Op (Ea t b i s n))))))

abbrev pub calc_operands : Bool → Family → Width → ℕ → Row Item
calc_operands true f w t = Then ℕ (temp sp) (λ a. Last ℕ (temp nl) (λ b. item.Op (Calc f w t a (Some b))))
calc_operands false f w t = Last ℕ (temp nl) (λ a. item.Op (Calc f w t a None))

abbrev pub calc_row : Row Item
calc_row = Then Family result_family (λ f. Then Width (width sp) (λ w. Then ℕ (temp sp) (λ t. calc_operands (has_two f) f w t)))

abbrev pub flag_operands : Bool → Flag → Family → Width → Row Item
flag_operands true g f w = Then ℕ (temp sp) (λ a. Last ℕ (temp nl) (λ b. item.Op (FlagOf g f w a (Some b))))
flag_operands false g f w = Last ℕ (temp nl) (λ a. item.Op (FlagOf g f w a None))

abbrev pub flag_value : Flag → Option Family → Row Item
flag_value g None = Done (item.Op (FlagZero g))
flag_value g (Some f) = Then Width (width sp) (λ w. flag_operands (has_two f) g f w)

abbrev pub flag_row : Row Item
flag_row = Then Flag flag (λ g. Then (Option Family) flag_family (λ o. flag_value g o))

abbrev pub cond_row : Row Item
cond_row = Then ℕ (temp sp) (λ t. Last Cond (cond nl) (λ c. item.Op (CondOp t c)))

abbrev pub pick_row : Row Item
pick_row = Then Width (width sp) (λ w. Then ℕ (temp sp) (λ t. Then ℕ (temp sp) (λ c. Then ℕ (temp sp) (λ a. Last ℕ (temp nl) (λ b. item.Op (Pick w t c a b))))))

abbrev pub zext_row : Row Item
zext_row = Then (ℕ × Width) zext (λ x. Then ℕ (temp sp) (λ t. Last ℕ (temp nl) (λ a. item.Op (Zext x.0 x.1 t a))))

abbrev pub sext_row : Row Item
sext_row = Then (ℕ × Width) sext (λ x. Then ℕ (temp sp) (λ t. Last ℕ (temp nl) (λ a. item.Op (Sext x.0 x.1 t a))))

abbrev pub cut_row : Row Item
cut_row = Then (ℕ × Width) cut (λ x. Then ℕ (temp sp) (λ t. Last ℕ (temp nl) (λ a. item.Op (Cut x.0 x.1 t a))))

abbrev pub load_row : Row Item
load_row = Then Width (width sp) (λ w. Then ℕ (temp sp) (λ t. Last ℕ (temp nl) (λ a. item.Part (Load w t a))))

abbrev pub store_row : Row Item
store_row = Then Width (width sp) (λ w. Then ℕ (temp sp) (λ a. Last ℕ (temp nl) (λ t. item.Part (Store w a t))))

abbrev pub target_row : (Target → Item) → Option ℕ → Row Item
target_row make None = Last ℕ (number_digits top 10) (λ n. make (Place n))
target_row make (Some x) = Done (make (Temp x))

abbrev pub storego_row : Row Item
storego_row = Then ℕ (temp sp) (λ a. Then ℕ (temp sp) (λ t. Then (Option ℕ) target_front (λ o. target_row (λ to. item.Part (StoreGo a t to)) o)))

abbrev pub locked_operands : Option LockOp → Row Item
locked_operands None =
    Then Width (width sp) (λ w. Then ℕ (temp sp) (λ t. Then ℕ (temp sp) (λ a. Then ℕ (temp sp) (λ c. Last ℕ (temp nl) (λ s. item.Part (LockedCmpxchg w t a c s))))))
locked_operands (Some k) = Then Width (width sp) (λ w. Then ℕ (temp sp) (λ t. Then ℕ (temp sp) (λ a. Last ℕ (temp nl) (λ s. item.Part (Locked k w t a s)))))

abbrev pub locked_row : Row Item
locked_row = Then (Option LockOp) lock_op locked_operands

abbrev pub divide_row : Row Item
divide_row = Then Bool sign (λ g. Then Width (width sp) (λ w. Last ℕ (temp nl) (λ t. item.Part (Divide g w t))))

abbrev pub go_row : Row Item
go_row = Then (Option ℕ) target_front (λ o. target_row (λ to. item.Part (Go to)) o)

abbrev pub branch_row : Row Item
branch_row = Then Cond (cond sp) (λ c. Then ℕ (number top 32) (λ a. Last ℕ (number top 10) (λ b. item.Part (Branch c a b))))

abbrev pub head_row : Head → Row Item
head_row head.Get = get_row
head_row head.Put = put_row
head_row head.Const = const_row
head_row head.Ea = ea_row
head_row head.Calc = calc_row
head_row head.Flag = flag_row
head_row head.Cond = cond_row
head_row head.Pick = pick_row
head_row head.Zext = zext_row
head_row head.Sext = sext_row
head_row head.Cut = cut_row
head_row head.Tick = Done (item.Part Tick)
head_row head.Load = load_row
head_row head.Store = store_row
head_row head.StoreGo = storego_row
head_row head.Fence = Done (item.Part Fence)
head_row head.Locked = locked_row
head_row head.Divide = divide_row
head_row head.Go = go_row
head_row head.Branch = branch_row
head_row head.BadCode = Done (item.Part BadCode)
head_row head.End = Done item.End

-- a line inside a block; whether it may be the block's end
abbrev pub line_row : Bool → Row Item
line_row may_end = Then Head (first_word may_end) (λ h. head_row h)
