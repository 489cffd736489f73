-- Which temporaries are needed between the lines of a block: read from there on before they are written.
use Rattle.std.specs.Prelude.{ℕ, Bool, false, not, ◌&&◌, ◌||◌, ◌==◌, List, [], ◌∷◌, Option, Some, None}
use Rattle.ir_syntax.specs.declared.block.Part.{Part}
use Rattle.ir_syntax.specs.declared.line.Op.{Op}
use Rattle.ir_syntax.specs.declared.line.Op.TheVariants.{Get, GetHigh, Put, PutHigh, Const, Ea, Calc, FlagOf, FlagZero, Cond, Pick, Zext, Sext, Cut}
use Rattle.ir_syntax.specs.declared.line.PartEnd.{PartEnd}
use Rattle.ir_syntax.specs.declared.line.PartEnd.TheVariants.{Tick, Load, Store, StoreGo, Fence, Locked, LockedCmpxchg, Divide, Go, Branch, BadCode}
use Rattle.ir_syntax.specs.declared.line.Target.{Target}
use Rattle.ir_syntax.specs.declared.line.Target.TheVariants.{Place, Temp}

-- the second operand, which a family of one operand has not
abbrev pub is_operand : Option ℕ → ℕ → Bool
is_operand None s = false
is_operand (Some b) s = s == b

abbrev pub is_target_temp : Target → ℕ → Bool
is_target_temp (Place to) s = false
is_target_temp (Temp t) s = s == t

-- the temporaries that an op line reads
abbrev pub op_reads_temp : Op → ℕ → Bool
op_reads_temp (Get w t r) s = false
op_reads_temp (GetHigh t r) s = false
op_reads_temp (Put w r t) s = s == t
op_reads_temp (PutHigh r t) s = s == t
op_reads_temp (Const w t n) s = false
op_reads_temp (Ea t base index scale n) s = false
op_reads_temp (Calc family w t a b) s = s == a || is_operand b s
op_reads_temp (FlagOf flag family w a b) s = s == a || is_operand b s
op_reads_temp (FlagZero flag) s = false
op_reads_temp (Cond t c) s = false
op_reads_temp (Pick w t c a b) s = s == c || (s == a || s == b)
op_reads_temp (Zext from w t a) s = s == a
op_reads_temp (Sext from w t a) s = s == a
op_reads_temp (Cut from w t a) s = s == a

-- the temporary that an op line writes
abbrev pub op_writes_temp : Op → ℕ → Bool
op_writes_temp (Get w t r) s = s == t
op_writes_temp (GetHigh t r) s = s == t
op_writes_temp (Put w r t) s = false
op_writes_temp (PutHigh r t) s = false
op_writes_temp (Const w t n) s = s == t
op_writes_temp (Ea t base index scale n) s = s == t
op_writes_temp (Calc family w t a b) s = s == t
op_writes_temp (FlagOf flag family w a b) s = false
op_writes_temp (FlagZero flag) s = false
op_writes_temp (Cond t c) s = s == t
op_writes_temp (Pick w t c a b) s = s == t
op_writes_temp (Zext from w t a) s = s == t
op_writes_temp (Sext from w t a) s = s == t
op_writes_temp (Cut from w t a) s = s == t

-- the temporaries that an end line reads
abbrev pub end_reads_temp : PartEnd → ℕ → Bool
end_reads_temp Tick s = false
end_reads_temp (Load w t a) s = s == a
end_reads_temp (Store w a t) s = s == a || s == t
end_reads_temp (StoreGo a t to) s = s == a || (s == t || is_target_temp to s)
end_reads_temp Fence s = false
end_reads_temp (Locked kind w t a b) s = s == a || s == b
end_reads_temp (LockedCmpxchg w t a c b) s = s == a || (s == c || s == b)
end_reads_temp (Divide signed w t) s = s == t
end_reads_temp (Go to) s = is_target_temp to s
end_reads_temp (Branch c taken other) s = false
end_reads_temp BadCode s = false

-- the temporary that an answer goes to
abbrev pub end_writes_temp : PartEnd → ℕ → Bool
end_writes_temp Tick s = false
end_writes_temp (Load w t a) s = s == t
end_writes_temp (Store w a t) s = false
end_writes_temp (StoreGo a t to) s = false
end_writes_temp Fence s = false
end_writes_temp (Locked kind w t a b) s = s == t
end_writes_temp (LockedCmpxchg w t a c b) s = s == t
end_writes_temp (Divide signed w t) s = false
end_writes_temp (Go to) s = false
end_writes_temp (Branch c taken other) s = false
end_writes_temp BadCode s = false

-- needed before a line: the line reads the temporary, or doesn't write it and it is needed after the line
abbrev pub needed_before : Op → (ℕ → Bool) → ℕ → Bool
needed_before o need s = op_reads_temp o s || (not (op_writes_temp o s) && need s)

abbrev pub needed_before_end : PartEnd → (ℕ → Bool) → ℕ → Bool
needed_before_end end need s = end_reads_temp end s || (not (end_writes_temp end s) && need s)

abbrev pub needed_before_ops : List Op → (ℕ → Bool) → ℕ → Bool
needed_before_ops [] need = need
needed_before_ops (o ∷ os) need = needed_before o (needed_before_ops os need)

abbrev pub needed_before_part : Part → (ℕ → Bool) → ℕ → Bool
needed_before_part p need = needed_before_ops p.ops (needed_before_end p.end need)

-- the temporaries that are needed before the first of these last parts of a block, where some are needed after it
abbrev pub needed_before_parts : List Part → (ℕ → Bool) → ℕ → Bool
needed_before_parts [] need = need
needed_before_parts (p ∷ ps) need = needed_before_part p (needed_before_parts ps need)
