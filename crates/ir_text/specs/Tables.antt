-- The words of the text, as tables to read by. A word that is followed by different bytes holds its end.
use Rattle.std.specs.Prelude.{ℕ, ◌+◌, Bool, true, false, List, [], ◌∷◌, Option, Some, None, codes}
use Rattle.ir_syntax.specs.declared.cond.Cond.{Cond}
use Rattle.ir_syntax.specs.declared.cond.Cond.TheVariants.{O, No, B, Ae, E, Ne, Be, A, S, Ns, P, Np, L, Ge, Le, G}
use Rattle.ir_syntax.specs.declared.cond.Flag.{Flag}
use Rattle.ir_syntax.specs.declared.cond.Flag.TheVariants.{Cf, Pf, Zf, Sf, Of}
use Rattle.ir_syntax.specs.declared.line.Family.{Family}
use Rattle.ir_syntax.specs.declared.line.Family.TheVariants.{Add, Adc, Sub, Sbb, And, Or, Xor, Shl, Shr, Sar, Rol, Ror, Mul, Umulh, Smulh, Umul, Smul, Inc, Dec, Neg, Not}
use Rattle.ir_syntax.specs.declared.line.LockOp.{LockOp}
use Rattle.ir_syntax.specs.declared.line.LockOp.TheVariants as lock
use Rattle.ir_syntax.specs.declared.width.Width.{Width}
use Rattle.ir_syntax.specs.declared.width.Width.TheVariants.{W8, W16, W32, W64}
use Rattle.ir_text.specs.declared.pieces.Head.{Head}
use Rattle.ir_text.specs.declared.pieces.Head.TheVariants as head
use Rattle.ir_text.specs.Text.{register_names}

-- the words of a list, numbered from k on
abbrev pub numbered : ℕ → List (List ℕ) → List (List ℕ × ℕ)
numbered k [] = []
numbered k (n ∷ ns) = (n, k) ∷ numbered (k + 1) ns

-- the same, behind the word for none
abbrev pub some_numbered : ℕ → List (List ℕ) → List (List ℕ × Option ℕ)
some_numbered k [] = []
some_numbered k (n ∷ ns) = (n, Some k) ∷ some_numbered (k + 1) ns

abbrev pub widths : List (List ℕ × Width)
widths = (codes "8", W8) ∷ (codes "16", W16) ∷ (codes "32", W32) ∷ (codes "64", W64) ∷ []

abbrev pub temps : List (List ℕ × ℕ)
temps = (codes "t0", 0) ∷ (codes "t1", 1) ∷ (codes "t2", 2) ∷ (codes "t3", 3) ∷ (codes "t4", 4) ∷ (codes "t5", 5) ∷ (codes "t6", 6) ∷ (codes "t7", 7) ∷ []

abbrev pub registers : List (List ℕ × ℕ)
registers = numbered 0 register_names

-- a register, or none
abbrev pub bases : List (List ℕ × Option ℕ)
bases = (codes "-", None) ∷ some_numbered 0 register_names

abbrev pub scales : List (List ℕ × ℕ)
scales = (codes "1", 1) ∷ (codes "2", 2) ∷ (codes "4", 4) ∷ (codes "8", 8) ∷ []

-- without an index
abbrev pub one_scale : List (List ℕ × ℕ)
one_scale = (codes "1", 1) ∷ []

abbrev pub flags : List (List ℕ × Flag)
flags = (codes "cf", Cf) ∷ (codes "pf", Pf) ∷ (codes "zf", Zf) ∷ (codes "sf", Sf) ∷ (codes "of", Of) ∷ []

abbrev pub conds : List (List ℕ × Cond)
conds =
    (codes "o", O) ∷ (codes "no", No) ∷ (codes "b", B) ∷ (codes "ae", Ae) ∷ (codes "e", E) ∷ (codes "ne", Ne) ∷ (codes "be", Be) ∷ (codes "a", A)
    ∷ (codes "s", S) ∷ (codes "ns", Ns) ∷ (codes "p", P) ∷ (codes "np", Np) ∷ (codes "l", L) ∷ (codes "ge", Ge) ∷ (codes "le", Le) ∷ (codes "g", G) ∷ []

-- the families that have a result
abbrev pub result_families : List (List ℕ × Family)
result_families =
    (codes "add", Add) ∷ (codes "sub", Sub) ∷ (codes "and", And) ∷ (codes "xor", Xor) ∷ (codes "or", Or) ∷ (codes "inc", Inc) ∷ (codes "dec", Dec)
    ∷ (codes "shl", Shl) ∷ (codes "shr", Shr) ∷ (codes "sar", Sar) ∷ (codes "mul", Mul) ∷ (codes "adc", Adc) ∷ (codes "sbb", Sbb) ∷ (codes "rol", Rol)
    ∷ (codes "ror", Ror) ∷ (codes "umulh", Umulh) ∷ (codes "smulh", Smulh) ∷ (codes "neg", Neg) ∷ (codes "not", Not) ∷ []

-- the families that name flags, and none for 0
abbrev pub flag_families : List (List ℕ × Option Family)
flag_families =
    (codes "add.", Some Add) ∷ (codes "sub.", Some Sub) ∷ (codes "and.", Some And) ∷ (codes "xor.", Some Xor) ∷ (codes "or.", Some Or) ∷ (codes "zero\n", None)
    ∷ (codes "inc.", Some Inc) ∷ (codes "dec.", Some Dec) ∷ (codes "shl.", Some Shl) ∷ (codes "shr.", Some Shr) ∷ (codes "sar.", Some Sar) ∷ (codes "umul.", Some Umul)
    ∷ (codes "smul.", Some Smul) ∷ (codes "adc.", Some Adc) ∷ (codes "sbb.", Some Sbb) ∷ (codes "rol.", Some Rol) ∷ (codes "ror.", Some Ror) ∷ (codes "neg.", Some Neg) ∷ []

-- what a locked line does, and none for cmpxchg
abbrev pub lock_ops : List (List ℕ × Option LockOp)
lock_ops = (codes "xchg.", Some lock.Xchg) ∷ (codes "add.", Some lock.Add) ∷ (codes "sub.", Some lock.Sub) ∷ (codes "and.", Some lock.And) ∷ (codes "or.", Some lock.Or) ∷ (codes "xor.", Some lock.Xor) ∷ (codes "cmpxchg.", None) ∷ []

abbrev pub signs : List (List ℕ × Bool)
signs = (codes "u", false) ∷ (codes "s", true) ∷ []

-- the width of a register's low part, and none for its high byte
abbrev pub parts_of_register : List (List ℕ × Option Width)
parts_of_register = (codes "8 ", Some W8) ∷ (codes "16 ", Some W16) ∷ (codes "32 ", Some W32) ∷ (codes "64 ", Some W64) ∷ (codes "h ", None) ∷ []

abbrev pub zexts : List (List ℕ × (ℕ × Width))
zexts =
    (codes "32.64", (32, W64)) ∷ (codes "8.32", (8, W32)) ∷ (codes "1.8", (1, W8)) ∷ (codes "16.32", (16, W32)) ∷ (codes "8.64", (8, W64)) ∷ (codes "16.64", (16, W64))
    ∷ (codes "8.16", (8, W16)) ∷ (codes "1.16", (1, W16)) ∷ (codes "1.32", (1, W32)) ∷ (codes "1.64", (1, W64)) ∷ []

abbrev pub sexts : List (List ℕ × (ℕ × Width))
sexts = (codes "32.64", (32, W64)) ∷ (codes "8.32", (8, W32)) ∷ (codes "16.32", (16, W32)) ∷ (codes "8.64", (8, W64)) ∷ (codes "16.64", (16, W64)) ∷ (codes "8.16", (8, W16)) ∷ []

abbrev pub cuts : List (List ℕ × (ℕ × Width))
cuts = (codes "64.32", (64, W32)) ∷ (codes "64.16", (64, W16)) ∷ (codes "64.8", (64, W8)) ∷ (codes "32.16", (32, W16)) ∷ (codes "32.8", (32, W8)) ∷ (codes "16.8", (16, W8)) ∷ []

-- a temporary that ends the line, or the beginning of an address
abbrev pub targets : List (List ℕ × Option ℕ)
targets =
    (codes "0x", None) ∷ (codes "t0\n", Some 0) ∷ (codes "t1\n", Some 1) ∷ (codes "t2\n", Some 2) ∷ (codes "t3\n", Some 3) ∷ (codes "t4\n", Some 4) ∷ (codes "t5\n", Some 5)
    ∷ (codes "t6\n", Some 6) ∷ (codes "t7\n", Some 7) ∷ []

-- what begins a line inside a block
abbrev pub heads : List (List ℕ × Head)
heads =
    (codes "get.", head.Get) ∷ (codes "put.", head.Put) ∷ (codes "flag ", head.Flag) ∷ (codes "calc.", head.Calc) ∷ (codes "tick\n", head.Tick) ∷ (codes "ea ", head.Ea)
    ∷ (codes "load.", head.Load) ∷ (codes "store.", head.Store) ∷ (codes "const.", head.Const) ∷ (codes "branch ", head.Branch) ∷ (codes "go ", head.Go) ∷ (codes "zext.", head.Zext)
    ∷ (codes "sext.", head.Sext) ∷ (codes "cut.", head.Cut) ∷ (codes "storego.64 ", head.StoreGo) ∷ (codes "cond ", head.Cond) ∷ (codes "pick.", head.Pick) ∷ (codes "locked.", head.Locked)
    ∷ (codes "divide.", head.Divide) ∷ (codes "fence\n", head.Fence) ∷ (codes "bad code\n", head.BadCode) ∷ []

-- what begins a line behind a part
abbrev pub heads_or_end : List (List ℕ × Head)
heads_or_end = (codes "end\n", head.End) ∷ heads
