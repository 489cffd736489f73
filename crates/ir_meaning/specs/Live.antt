-- Which flags are live between the lines of a block, and which puts of a flag are dead.
use Rattle.std.specs.Prelude.{Bool, true, false, not, ◌&&◌, ◌||◌, if◌then◌else◌, List, [], ◌∷◌}
use Rattle.ir_syntax.specs.declared.block.Part.{Part}
use Rattle.ir_syntax.specs.declared.cond.Flag.{Flag}
use Rattle.ir_syntax.specs.declared.cond.Flag.TheVariants.{Cf, Pf, Zf, Sf, Of}
use Rattle.ir_syntax.specs.declared.line.Family.{Family}
use Rattle.ir_syntax.specs.declared.line.Family.TheVariants.{Add, Adc, Sub, Sbb, And, Or, Xor, Shl, Shr, Sar, Rol, Ror, Mul, Umulh, Smulh, Umul, Smul, Inc, Dec, Neg, Not}
use Rattle.ir_syntax.specs.declared.line.Op.{Op}
use Rattle.ir_syntax.specs.declared.line.Op.TheVariants.{Get, GetHigh, Put, PutHigh, Const, Ea, Calc, FlagOf, FlagZero, Cond, Pick, Zext, Sext, Cut}
use Rattle.ir_syntax.specs.declared.line.PartEnd.{PartEnd}
use Rattle.ir_syntax.specs.declared.line.PartEnd.TheVariants.{Tick, Load, Store, StoreGo, Fence, Locked, LockedCmpxchg, Divide, Go, Branch, BadCode}
use Rattle.ir_syntax.specs.Cond.{reads, is_cf, is_pf, is_zf, is_sf, is_of}
use Rattle.x86_flags.specs.declared.flags.Flags.{Flags}
use Rattle.ir_meaning.specs.Does.{flag_in}

-- a set of flags, as whether each flag is in it
abbrev pub flags_where : (Flag → Bool) → Flags
flags_where is_in = record { cf = is_in Cf; pf = is_in Pf; zf = is_in Zf; sf = is_in Sf; of = is_in Of }

abbrev pub all_flags : Flags
all_flags = record { cf = true; pf = true; zf = true; sf = true; of = true }

abbrev pub is_flag : Flag → Flag → Bool
is_flag Cf f = is_cf f
is_flag Pf f = is_pf f
is_flag Zf f = is_zf f
is_flag Sf f = is_sf f
is_flag Of f = is_of f

-- an addition or subtraction with carry reads cf
abbrev pub uses_carry : Family → Bool
uses_carry Add = false
uses_carry Adc = true
uses_carry Sub = false
uses_carry Sbb = true
uses_carry And = false
uses_carry Or = false
uses_carry Xor = false
uses_carry Shl = false
uses_carry Shr = false
uses_carry Sar = false
uses_carry Rol = false
uses_carry Ror = false
uses_carry Mul = false
uses_carry Umulh = false
uses_carry Smulh = false
uses_carry Umul = false
uses_carry Smul = false
uses_carry Inc = false
uses_carry Dec = false
uses_carry Neg = false
uses_carry Not = false

-- a family that can keep a flag: a shift or a rotation keeps it at a count of 0, and any family
-- keeps a flag that it doesn't put (no well typed line names such a flag)
abbrev pub can_keep : Family → Flag → Bool
can_keep Add flag = false
can_keep Adc flag = false
can_keep Sub flag = false
can_keep Sbb flag = false
can_keep And flag = false
can_keep Or flag = false
can_keep Xor flag = false
can_keep Shl flag = true
can_keep Shr flag = true
can_keep Sar flag = true
can_keep Rol flag = true
can_keep Ror flag = true
can_keep Mul flag = true
can_keep Umulh flag = true
can_keep Smulh flag = true
can_keep Umul flag = false
can_keep Smul flag = false
can_keep Inc flag = is_cf flag
can_keep Dec flag = is_cf flag
can_keep Neg flag = false
can_keep Not flag = true

-- the flags that an op line reads: a `flag` line reads its own flag where the family can keep it
abbrev pub op_reads : Op → Flag → Bool
op_reads (Get w t r) f = false
op_reads (GetHigh t r) f = false
op_reads (Put w r t) f = false
op_reads (PutHigh r t) f = false
op_reads (Const w t n) f = false
op_reads (Ea t base index scale n) f = false
op_reads (Calc family w t a b) f = uses_carry family && is_cf f
op_reads (FlagOf flag family w a b) f = (uses_carry family && is_cf f) || (can_keep family flag && is_flag flag f)
op_reads (FlagZero flag) f = false
op_reads (Cond t c) f = reads c f
op_reads (Pick w t c a b) f = false
op_reads (Zext from w t a) f = false
op_reads (Sext from w t a) f = false
op_reads (Cut from w t a) f = false

-- the flag that an op line puts
abbrev pub op_puts : Op → Flag → Bool
op_puts (Get w t r) f = false
op_puts (GetHigh t r) f = false
op_puts (Put w r t) f = false
op_puts (PutHigh r t) f = false
op_puts (Const w t n) f = false
op_puts (Ea t base index scale n) f = false
op_puts (Calc family w t a b) f = false
op_puts (FlagOf flag family w a b) f = is_flag flag f
op_puts (FlagZero flag) f = is_flag flag f
op_puts (Cond t c) f = false
op_puts (Pick w t c a b) f = false
op_puts (Zext from w t a) f = false
op_puts (Sext from w t a) f = false
op_puts (Cut from w t a) f = false

-- an end line reads the flags of its condition
abbrev pub end_reads : PartEnd → Flag → Bool
end_reads Tick f = false
end_reads (Load w t a) f = false
end_reads (Store w a t) f = false
end_reads (StoreGo a t to) f = false
end_reads Fence f = false
end_reads (Locked kind w t a s) f = false
end_reads (LockedCmpxchg w t a c s) f = false
end_reads (Divide signed w t) f = false
end_reads (Go to) f = false
end_reads (Branch c taken other) f = reads c f
end_reads BadCode f = false

-- live before a line: the line reads the flag, or doesn't put it and it is live after the line
abbrev pub live_before : Op → Flags → Flags
live_before o live = flags_where (λ f. op_reads o f || (not (op_puts o f) && flag_in live f))

abbrev pub live_before_end : PartEnd → Flags → Flags
live_before_end end live = flags_where (λ f. end_reads end f || flag_in live f)

abbrev pub live_before_ops : List Op → Flags → Flags
live_before_ops [] live = live
live_before_ops (o ∷ os) live = live_before o (live_before_ops os live)

abbrev pub live_before_part : Part → Flags → Flags
live_before_part p live = live_before_ops p.ops (live_before_end p.end live)

-- the flags that are live before the first of these last parts of a block; its end reads all five
abbrev pub live_before_parts : List Part → Flags
live_before_parts [] = all_flags
live_before_parts (p ∷ ps) = live_before_part p (live_before_parts ps)

-- a put is dead where its flag isn't live after it
abbrev pub is_dead : Op → Flags → Bool
is_dead (Get w t r) live = false
is_dead (GetHigh t r) live = false
is_dead (Put w r t) live = false
is_dead (PutHigh r t) live = false
is_dead (Const w t n) live = false
is_dead (Ea t base index scale n) live = false
is_dead (Calc family w t a b) live = false
is_dead (FlagOf flag family w a b) live = not (flag_in live flag)
is_dead (FlagZero flag) live = not (flag_in live flag)
is_dead (Cond t c) live = false
is_dead (Pick w t c a b) live = false
is_dead (Zext from w t a) live = false
is_dead (Sext from w t a) live = false
is_dead (Cut from w t a) live = false

-- the op lines that aren't dead puts; lines that are taken out count as reading what they read
abbrev pub kept_ops : List Op → Flags → List Op
kept_ops [] live = []
kept_ops (o ∷ os) live = if is_dead o (live_before_ops os live) then kept_ops os live else o ∷ kept_ops os live

-- the parts of a block without its dead puts
abbrev pub kept_parts : List Part → List Part
kept_parts [] = []
kept_parts (p ∷ ps) = record { ops = kept_ops p.ops (live_before_end p.end (live_before_parts ps)); end = p.end } ∷ kept_parts ps
