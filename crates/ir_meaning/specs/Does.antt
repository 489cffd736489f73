-- What the lines of a part do to the virtual registers, and what its end line asks for.
use Rattle.std.specs.Prelude.{ℕ, Bool, false, ◌+◌, ◌*◌, ◌%◌, ◌^◌, ◌==◌, if◌then◌else◌, List, [], ◌∷◌, Option, Some, None, slice_index, slice_set}
use Rattle.std.specs.Int.{from_bool}
use Rattle.guest_state.specs.declared.virtual_state.Virtual.{Virtual}
use Rattle.guest_state.specs.Virtual.{get_of, get_high_of, put_of, put_high_of}
use Rattle.ir_syntax.specs.declared.block.Part.{Part}
use Rattle.ir_syntax.specs.declared.cond.Flag.{Flag}
use Rattle.ir_syntax.specs.declared.cond.Flag.TheVariants.{Cf, Pf, Zf, Sf, Of}
use Rattle.ir_syntax.specs.declared.line.LockOp.{LockOp}
use Rattle.ir_syntax.specs.declared.line.LockOp.TheVariants.{Xchg, Add, Sub, And, Or, Xor}
use Rattle.ir_syntax.specs.declared.line.Op.{Op}
use Rattle.ir_syntax.specs.declared.line.Op.TheVariants.{Get, GetHigh, Put, PutHigh, Const, Ea, Calc, FlagOf, FlagZero, Cond, Pick, Zext, Sext, Cut}
use Rattle.ir_syntax.specs.declared.line.PartEnd.{PartEnd}
use Rattle.ir_syntax.specs.declared.line.PartEnd.TheVariants.{Tick, Load, Store, StoreGo, Fence, Locked, LockedCmpxchg, Divide, Go, Branch, BadCode}
use Rattle.ir_syntax.specs.declared.line.Target.{Target}
use Rattle.ir_syntax.specs.declared.line.Target.TheVariants.{Place, Temp}
use Rattle.ir_syntax.specs.declared.request.BadKind.TheVariants.{Code, Divide as bad_divide}
use Rattle.ir_syntax.specs.declared.request.Change.{Change}
use Rattle.ir_syntax.specs.declared.request.Change.TheVariants.{Xchg as to_xchg, Add as to_add, Sub as to_sub, And as to_and, Or as to_or, Xor as to_xor, Cmpxchg as to_cmpxchg}
use Rattle.ir_syntax.specs.declared.request.Request.{Request}
use Rattle.ir_syntax.specs.declared.request.Request.TheVariants.{Tick as ask_tick, Load as ask_load, Store as ask_store, StoreGo as ask_storego, Fence as ask_fence, Locked as ask_locked, Go as ask_go, Bad as ask_bad}
use Rattle.ir_syntax.specs.declared.width.Width.{Width}
use Rattle.ir_syntax.specs.Cond.{test}
use Rattle.ir_syntax.specs.Width.{bits_of}
use Rattle.x86_flags.specs.declared.flags.Flags.{Flags}
use Rattle.x86_flags.specs.Numbers.{signed, low_bits}
use Rattle.x86_flags.specs.Quotients.{udiv_of, sdiv_of}
use Rattle.ir_meaning.specs.Family.{result_of, flags_after}
use Rattle.ir_meaning.specs.Width.{state_width}

abbrev pub flags_of : Virtual → Flags
flags_of v = record { cf = v.cf; pf = v.pf; zf = v.zf; sf = v.sf; of = v.of }

-- one flag of five
abbrev pub flag_in : Flags → Flag → Bool
flag_in flags Cf = flags.cf
flag_in flags Pf = flags.pf
flag_in flags Zf = flags.zf
flag_in flags Sf = flags.sf
flag_in flags Of = flags.of

abbrev pub with_flag : Virtual → Flag → Bool → Virtual
with_flag v Cf x = record v { cf = x }
with_flag v Pf x = record v { pf = x }
with_flag v Zf x = record v { zf = x }
with_flag v Sf x = record v { sf = x }
with_flag v Of x = record v { of = x }

abbrev pub with_temp : Virtual → ℕ → ℕ → Virtual
with_temp v t x = record v { temps = slice_set v.temps t x }

-- the second operand, which a family of one operand has not
abbrev pub second : List ℕ → Option ℕ → ℕ
second temps None = 0
second temps (Some b) = slice_index temps b

-- a register of an address, or nothing
abbrev pub register_or_zero : List ℕ → Option ℕ → ℕ
register_or_zero regs None = 0
register_or_zero regs (Some r) = slice_index regs r

abbrev pub holds_now : Virtual → Flag → Bool
holds_now v flag = flag_in (flags_of v) flag

-- the virtual registers after an op line
abbrev pub did : Op → Virtual → Virtual
did (Get w t r) v = with_temp v t (get_of v r (state_width w))
did (GetHigh t r) v = with_temp v t (get_high_of v r)
did (Put w r t) v = put_of v r (state_width w) (slice_index v.temps t)
did (PutHigh r t) v = put_high_of v r (slice_index v.temps t)
did (Const w t n) v = with_temp v t n
did (Ea t base index scale n) v =
    with_temp v t ((register_or_zero v.regs base + register_or_zero v.regs index * scale + n) % 2 ^ 64)
did (Calc family w t a b) v =
    with_temp v t (result_of family (bits_of w) (slice_index v.temps a) (second v.temps b) (flags_of v))
did (FlagOf flag family w a b) v =
    with_flag v flag (flag_in (flags_after family (bits_of w) (slice_index v.temps a) (second v.temps b) (flags_of v)) flag)
did (FlagZero flag) v = with_flag v flag false
did (Cond t c) v = with_temp v t (from_bool (test c (holds_now v)))
did (Pick w t c a b) v =
    with_temp v t (if slice_index v.temps c == 1 then slice_index v.temps a else slice_index v.temps b)
did (Zext from w t a) v = with_temp v t (slice_index v.temps a)
did (Sext from w t a) v = with_temp v t (low_bits (bits_of w) (signed from (slice_index v.temps a)))
did (Cut from w t a) v = with_temp v t (slice_index v.temps a % 2 ^ bits_of w)

-- after the op lines of a part, one after another
abbrev pub did_all : List Op → Virtual → Virtual
did_all [] v = v
did_all (o ∷ os) v = did_all os (did o v)

-- what a part asks for, and the virtual registers then
pub record Done : Type 0 where
  pub request : Request
  pub state : Virtual

abbrev pub asking : Virtual → Request → Done
asking v request = record { request = request; state = v }

-- the address of a transfer
abbrev pub place_of : List ℕ → Target → ℕ
place_of temps (Place to) = to
place_of temps (Temp t) = slice_index temps t

-- what a locked line does to memory with s
abbrev pub change_of : LockOp → ℕ → Change
change_of Xchg s = to_xchg s
change_of Add s = to_add s
change_of Sub s = to_sub s
change_of And s = to_and s
change_of Or s = to_or s
change_of Xor s = to_xor s

-- rdx:rax divided by a number; none at a divide error
abbrev pub quotient_of : Bool → Width → Virtual → ℕ → Option (ℕ × ℕ)
quotient_of signed w v by =
    if signed then sdiv_of (bits_of w) (get_of v 2 (state_width w)) (get_of v 0 (state_width w)) by
    else udiv_of (bits_of w) (get_of v 2 (state_width w)) (get_of v 0 (state_width w)) by

-- the quotient goes to rax (0), the remainder to rdx (2)
abbrev pub divided : Width → Virtual → Option (ℕ × ℕ) → Done
divided w v None = asking v (ask_bad bad_divide)
divided w v (Some q) = asking (put_of (put_of v 0 (state_width w) q.0) 2 (state_width w) q.1) ask_tick

-- what an end line asks for; a division also writes registers
abbrev pub ended : PartEnd → Virtual → Done
ended Tick v = asking v ask_tick
ended (Load w t a) v = asking v (ask_load (slice_index v.temps a) w)
ended (Store w a t) v = asking v (ask_store (slice_index v.temps a) w (slice_index v.temps t))
ended (StoreGo a t to) v = asking v (ask_storego (slice_index v.temps a) (slice_index v.temps t) (place_of v.temps to))
ended Fence v = asking v ask_fence
ended (Locked kind w t a s) v = asking v (ask_locked (slice_index v.temps a) w (change_of kind (slice_index v.temps s)))
ended (LockedCmpxchg w t a c s) v =
    asking v (ask_locked (slice_index v.temps a) w (to_cmpxchg (slice_index v.temps c) (slice_index v.temps s)))
ended (Divide signed w t) v = divided w v (quotient_of signed w v (slice_index v.temps t))
ended (Go to) v = asking v (ask_go (place_of v.temps to))
ended (Branch c taken other) v = asking v (ask_go (if test c (holds_now v) then taken else other))
ended BadCode v = asking v (ask_bad Code)

-- what a part does: its op lines in order, then its end line
abbrev pub does : Part → Virtual → Done
does p v = ended p.end (did_all p.ops v)

-- an answer goes to the temporary that the end line names
abbrev pub answered : PartEnd → ℕ → Virtual → Virtual
answered Tick x v = v
answered (Load w t a) x v = with_temp v t x
answered (Store w a t) x v = v
answered (StoreGo a t to) x v = v
answered Fence x v = v
answered (Locked kind w t a s) x v = with_temp v t x
answered (LockedCmpxchg w t a c s) x v = with_temp v t x
answered (Divide signed w t) x v = v
answered (Go to) x v = v
answered (Branch c taken other) x v = v
answered BadCode x v = v
