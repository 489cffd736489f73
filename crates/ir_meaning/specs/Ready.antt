-- When a part can be run on the virtual registers, and when its answer can be given.
use Rattle.std.specs.Prelude.{ℕ, ◌<◌, ◌≤◌, ◌≡◌, ◌^◌, true, List, [], ◌∷◌, IfSome, slice_index, length}
use Rattle.guest_state.specs.declared.virtual_state.Virtual.{Virtual}
use Rattle.ir_syntax.specs.declared.block.Part.{Part}
use Rattle.ir_syntax.specs.declared.line.Op.{Op}
use Rattle.ir_syntax.specs.declared.line.Op.TheVariants.{Get, GetHigh, Put, PutHigh, Const, Ea, Calc, FlagOf, FlagZero, Cond, Pick, Zext, Sext, Cut}
use Rattle.ir_syntax.specs.declared.line.PartEnd.{PartEnd}
use Rattle.ir_syntax.specs.declared.line.PartEnd.TheVariants.{Tick, Load, Store, StoreGo, Fence, Locked, LockedCmpxchg, Divide, Go, Branch, BadCode}
use Rattle.ir_syntax.specs.declared.line.Target.{Target}
use Rattle.ir_syntax.specs.declared.line.Target.TheVariants.{Place, Temp}
use Rattle.ir_syntax.specs.Typed.{Types, holds, are_typed, is_end_typed, types_after_all}
use Rattle.ir_syntax.specs.Width.{bits_of}
use Rattle.ir_meaning.specs.Does.{did, second}
use Rattle.ir_meaning.specs.Family.{AreOperands}

-- each temporary that has a type holds a number of so many bits
pub record Fits (types : Types) (temps : List ℕ) : Type 0 where
  pub room : length types ≡ 8
  pub each : (t n : ℕ) → holds types t n ≡ true → slice_index temps t < 2 ^ n

-- the part is well typed after these types, and the temporaries fit them
pub record IsReadyUnder (types : Types) (p : Part) (v : Virtual) : Type 0 where
  pub lines : are_typed types p.ops ≡ true
  pub end : is_end_typed (types_after_all types p.ops) p.end ≡ true
  pub fits : Fits types v.temps

-- the part stands in a well typed block: it is ready under some types of the temporaries
abbrev pub IsReady : Part → Virtual → Type 0
IsReady p v = (types : Types) × IsReadyUnder types p v

-- the end line takes an answer, and the value fits its width
abbrev pub Answers : PartEnd → ℕ → Type 0
Answers Tick x = ⊥
Answers (Load w t a) x = (t < 8) × (x < 2 ^ bits_of w)
Answers (Store w a t) x = ⊥
Answers (StoreGo a t to) x = ⊥
Answers Fence x = ⊥
Answers (Locked kind w t a s) x = (t < 8) × (x < 2 ^ bits_of w)
Answers (LockedCmpxchg w t a c s) x = (t < 8) × (x < 2 ^ bits_of w)
Answers (Divide signed w t) x = ⊥
Answers (Go to) x = ⊥
Answers (Branch c taken other) x = ⊥
Answers BadCode x = ⊥

-- what an op line needs of the numbers that it names and reads
abbrev pub OpReady : Op → Virtual → Type 0
OpReady (Get w t r) v = (t < 8) × (r < 16)
OpReady (GetHigh t r) v = (t < 8) × (r < 4)
OpReady (Put w r t) v = (t < 8) × (r < 16) × (slice_index v.temps t < 2 ^ bits_of w)
OpReady (PutHigh r t) v = (t < 8) × (r < 4) × (slice_index v.temps t < 2 ^ 8)
OpReady (Const w t n) v = t < 8
OpReady (Ea t base index scale n) v = (t < 8) × IfSome base (λ r. r < 16) × IfSome index (λ r. r < 16)
OpReady (Calc family w t a b) v =
    (t < 8) × (a < 8) × IfSome b (λ s. s < 8) × AreOperands family (bits_of w) (slice_index v.temps a) (second v.temps b)
OpReady (FlagOf flag family w a b) v =
    (a < 8) × IfSome b (λ s. s < 8) × AreOperands family (bits_of w) (slice_index v.temps a) (second v.temps b)
OpReady (FlagZero flag) v = Unit {0}
OpReady (Cond t c) v = t < 8
OpReady (Pick w t c a b) v = (t < 8) × (c < 8) × (a < 8) × (b < 8)
OpReady (Zext from w t a) v = (t < 8) × (a < 8)
OpReady (Sext from w t a) v = (t < 8) × (a < 8) × (0 < from) × (from < bits_of w) × (slice_index v.temps a < 2 ^ from)
OpReady (Cut from w t a) v = (t < 8) × (a < 8)

-- each op line has what it needs once those before it have run
abbrev pub LinesReady : List Op → Virtual → Type 0
LinesReady [] v = Unit {0}
LinesReady (o ∷ os) v = OpReady o v × LinesReady os (did o v)

abbrev pub IsPlaced : Target → Type 0
IsPlaced (Place to) = Unit {0}
IsPlaced (Temp t) = t < 8

-- what an end line needs of the numbers that it names and reads
abbrev pub EndReady : PartEnd → Virtual → Type 0
EndReady Tick v = Unit {0}
EndReady (Load w t a) v = a < 8
EndReady (Store w a t) v = (a < 8) × (t < 8)
EndReady (StoreGo a t to) v = (a < 8) × (t < 8) × IsPlaced to
EndReady Fence v = Unit {0}
EndReady (Locked kind w t a s) v = (a < 8) × (s < 8)
EndReady (LockedCmpxchg w t a c s) v = (a < 8) × (c < 8) × (s < 8)
EndReady (Divide signed w t) v = (t < 8) × (32 ≤ bits_of w) × (slice_index v.temps t < 2 ^ bits_of w)
EndReady (Go to) v = IsPlaced to
EndReady (Branch c taken other) v = Unit {0}
EndReady BadCode v = Unit {0}
