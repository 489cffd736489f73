-- The text of a line behind what is written already: the same text, grouped as it is written.
use Rattle.std.specs.Prelude.{ℕ, List, ◌++◌, Some, None, codes}
use Rattle.std.specs.Fmt.{decimal}
use Rattle.ir_syntax.specs.declared.line.Op.{Op}
use Rattle.ir_syntax.specs.declared.line.Op.TheVariants.{Get, GetHigh, Put, PutHigh, Const, Ea, Calc, FlagOf, FlagZero, Cond as CondOp, Pick, Zext, Sext, Cut}
use Rattle.ir_syntax.specs.declared.line.PartEnd.{PartEnd}
use Rattle.ir_syntax.specs.declared.line.PartEnd.TheVariants.{Tick, Load, Store, StoreGo, Fence, Locked, LockedCmpxchg, Divide, Go, Branch, BadCode}
use Rattle.ir_text.specs.Text.{width_name, temp_name, register_name, base_name, flag_name, cond_name, family_name, lock_name, sign_name, cast_name, target_name, hex, spaced, dotted, lined}

abbrev pub op_onto : List ℕ → Op → List ℕ
op_onto s (Get w t r) = s ++ codes "get." ++ spaced (width_name w) ++ spaced (temp_name t) ++ lined (register_name r)
op_onto s (GetHigh t r) = s ++ codes "get.h " ++ spaced (temp_name t) ++ lined (register_name r)
op_onto s (Put w r t) = s ++ codes "put." ++ spaced (width_name w) ++ spaced (register_name r) ++ lined (temp_name t)
op_onto s (PutHigh r t) = s ++ codes "put.h " ++ spaced (register_name r) ++ lined (temp_name t)
op_onto s (Const w t n) = s ++ codes "const." ++ spaced (width_name w) ++ spaced (temp_name t) ++ lined (hex n)
op_onto s (Ea t base index scale n) = s ++ codes "ea " ++ spaced (temp_name t) ++ spaced (base_name base) ++ spaced (base_name index) ++ spaced (decimal scale) ++ lined (hex n)
op_onto s (Calc family w t a (Some b)) = s ++ codes "calc." ++ dotted (family_name family) ++ spaced (width_name w) ++ spaced (temp_name t) ++ spaced (temp_name a) ++ lined (temp_name b)
op_onto s (Calc family w t a None) = s ++ codes "calc." ++ dotted (family_name family) ++ spaced (width_name w) ++ spaced (temp_name t) ++ lined (temp_name a)
op_onto s (FlagOf flag family w a (Some b)) = s ++ codes "flag " ++ spaced (flag_name flag) ++ dotted (family_name family) ++ spaced (width_name w) ++ spaced (temp_name a) ++ lined (temp_name b)
op_onto s (FlagOf flag family w a None) = s ++ codes "flag " ++ spaced (flag_name flag) ++ dotted (family_name family) ++ spaced (width_name w) ++ lined (temp_name a)
op_onto s (FlagZero flag) = s ++ codes "flag " ++ spaced (flag_name flag) ++ codes "zero\n"
op_onto s (CondOp t c) = s ++ codes "cond " ++ spaced (temp_name t) ++ lined (cond_name c)
op_onto s (Pick w t c a b) = s ++ codes "pick." ++ spaced (width_name w) ++ spaced (temp_name t) ++ spaced (temp_name c) ++ spaced (temp_name a) ++ lined (temp_name b)
op_onto s (Zext from w t a) = s ++ codes "zext." ++ spaced (cast_name from w) ++ spaced (temp_name t) ++ lined (temp_name a)
op_onto s (Sext from w t a) = s ++ codes "sext." ++ spaced (cast_name from w) ++ spaced (temp_name t) ++ lined (temp_name a)
op_onto s (Cut from w t a) = s ++ codes "cut." ++ spaced (cast_name from w) ++ spaced (temp_name t) ++ lined (temp_name a)

abbrev pub end_onto : List ℕ → PartEnd → List ℕ
end_onto s Tick = s ++ codes "tick\n"
end_onto s (Load w t a) = s ++ codes "load." ++ spaced (width_name w) ++ spaced (temp_name t) ++ lined (temp_name a)
end_onto s (Store w a t) = s ++ codes "store." ++ spaced (width_name w) ++ spaced (temp_name a) ++ lined (temp_name t)
end_onto s (StoreGo a t to) = s ++ codes "storego.64 " ++ spaced (temp_name a) ++ spaced (temp_name t) ++ lined (target_name to)
end_onto s Fence = s ++ codes "fence\n"
end_onto s (Locked kind w t a v) = s ++ codes "locked." ++ dotted (lock_name kind) ++ spaced (width_name w) ++ spaced (temp_name t) ++ spaced (temp_name a) ++ lined (temp_name v)
end_onto s (LockedCmpxchg w t a c v) =
    s ++ codes "locked." ++ codes "cmpxchg." ++ spaced (width_name w) ++ spaced (temp_name t) ++ spaced (temp_name a) ++ spaced (temp_name c) ++ lined (temp_name v)
end_onto s (Divide signed w t) = s ++ codes "divide." ++ dotted (sign_name signed) ++ spaced (width_name w) ++ lined (temp_name t)
end_onto s (Go to) = s ++ codes "go " ++ lined (target_name to)
end_onto s (Branch c taken other) = s ++ codes "branch " ++ spaced (cond_name c) ++ spaced (hex taken) ++ lined (hex other)
end_onto s BadCode = s ++ codes "bad code\n"
