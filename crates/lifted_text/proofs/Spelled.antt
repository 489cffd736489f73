-- Well typed lines have a spelling, where their numbers have 64 bits.
use Rattle.std.proofs.Common.{◌≡◌, ◌⊎◌, inl, inr, ℕ, ◌<◌, ◌≤◌, Bool, true, false, ◌&&◌, ◌||◌, ◌==◌, ap, subst, refl, ◌∙◌, ⊎_elim, List, [], ◌∷◌, length, Option, Some, None, arith}
use Rattle.std.proofs.lemmas.Bool.{and_parts, cases_lt, eqb-true, ltb-true}
use Rattle.std.proofs.lemmas.List.{get_or_past, length-set}
use Rattle.std.proofs.lemmas.List.Elements.{All-cons, All-nil}
use Rattle.std.specs.Prelude.{nat_lt, All}
use Rattle.ir_syntax.specs.declared.block.Part.{Part}
use Rattle.ir_syntax.specs.declared.cond.Flag.{Flag}
use Rattle.ir_syntax.specs.declared.line.Family.{Family}
use Rattle.ir_syntax.specs.declared.line.Family.TheVariants as family
use Rattle.ir_syntax.specs.declared.line.Op.{Op}
use Rattle.ir_syntax.specs.declared.line.Op.TheVariants.{Get, GetHigh, Put, PutHigh, Const, Ea, Calc, FlagOf, FlagZero, Cond, Pick, Zext, Sext, Cut}
use Rattle.ir_syntax.specs.declared.line.PartEnd.{PartEnd}
use Rattle.ir_syntax.specs.declared.line.PartEnd.TheVariants.{Tick, Load, Store, StoreGo, Fence, Locked, LockedCmpxchg, Divide, Go, Branch, BadCode}
use Rattle.ir_syntax.specs.declared.line.Target.{Target}
use Rattle.ir_syntax.specs.declared.line.Target.TheVariants.{Place, Temp}
use Rattle.ir_syntax.specs.declared.width.Width.{Width}
use Rattle.ir_syntax.specs.declared.width.Width.TheVariants.{W8, W16, W32, W64}
use Rattle.ir_syntax.specs.Typed.{Types, are_parts_typed, are_typed, holds, is_base, is_empty, is_end_typed, is_index, is_of_bits, is_part_typed, is_second, is_target, is_typed, is_width, puts, second_bits, types_after, types_after_all, types_after_end, types_after_part}
use Rattle.ir_syntax.specs.Width.{bits_of}
use Rattle.ir_text.specs.Text.{HasEnd, HasOp, HasPart, IsBase, IsNumber, IsOneOf, IsScale, IsTarget, IsTemp, has_flags, has_two}

-- ---- numbers of 64 bits

-- the number in an address
abbrev pub OpNumber : Op → Type 0
OpNumber (Ea t base index scale n) = IsNumber n
OpNumber _ = Unit {0}

abbrev pub TargetNumber : Target → Type 0
TargetNumber (Place n) = IsNumber n
TargetNumber (Temp t) = Unit {0}

-- the places to which a line goes
abbrev pub EndNumber : PartEnd → Type 0
EndNumber (StoreGo a t to) = TargetNumber to
EndNumber (Go to) = TargetNumber to
EndNumber (Branch c taken other) = IsNumber taken × IsNumber other
EndNumber _ = Unit {0}

-- so of all lines of a part, and of all parts
abbrev pub OpNumbers : List Op → Type 0
OpNumbers [] = Unit {0}
OpNumbers (o ∷ os) = OpNumber o × OpNumbers os

pub record PartNumbers (p : Part) : Type 0 where
  pub ops : OpNumbers p.ops
  pub end : EndNumber p.end

abbrev pub AllNumbers : List Part → Type 0
AllNumbers [] = Unit {0}
AllNumbers (p ∷ ps) = PartNumbers p × AllNumbers ps

-- ---- tests

both : (a b : Bool) → (a && b) ≡ true → (a ≡ true) × (b ≡ true)
both a b h = and_parts a b h

three : (a b c : Bool) → (a && b && c) ≡ true → (a ≡ true) × (b ≡ true) × (c ≡ true)
three true true true h = (refl, refl, refl)
three true true false h = absurd (cc)
three true false c h = absurd (cc)
three false b c h = absurd (cc)

four : (a b c d : Bool) → (a && b && c && d) ≡ true → (a ≡ true) × (b ≡ true) × (c ≡ true) × (d ≡ true)
four true true true true h = (refl, refl, refl, refl)
four true true true false h = absurd (cc)
four true true false d h = absurd (cc)
four true false c d h = absurd (cc)
four false b c d h = absurd (cc)

either : (a b : Bool) → (a || b) ≡ true → (a ≡ true) ⊎ (b ≡ true)
either true b h = inl refl
either false true h = inr refl
either false false h = absurd (cc)

any_of_four : (a b c d : Bool) → (a || b || c || d) ≡ true → (a ≡ true) ⊎ ((b ≡ true) ⊎ ((c ≡ true) ⊎ (d ≡ true)))
any_of_four true b c d h = inl refl
any_of_four false true c d h = inr (inl refl)
any_of_four false false true d h = inr (inr (inl refl))
any_of_four false false false true h = inr (inr (inr refl))
any_of_four false false false false h = absurd (cc)

equal : (m n : ℕ) → (m == n) ≡ true → m ≡ n
equal m n h = eqb-true m n h

below : (m n : ℕ) → nat_lt m n ≡ true → m < n
below m n h = ltb-true m n h

-- ---- temporaries

pub held_within : (T : Types) (t n : ℕ) → holds T t n ≡ true → t < length T
held_within T t n h = ⊎_elim (λ (l : t < length T). l) (λ (past : length T ≤ t). let e : holds T t n ≡ false = ap (is_of_bits n) (get_or_past T t None past) in absurd (cc)) (cases_lt t (length T))

held : (T : Types) (t n : ℕ) → length T ≡ 8 → holds T t n ≡ true → IsTemp t
held T t n room h = subst (λ m. t < m) room (held_within T t n h)

op_room : (T : Types) (o : Op) → length (types_after T o) ≡ length T
op_room T (Get w t r) = length-set T t (Some (bits_of w))
op_room T (GetHigh t r) = length-set T t (Some 8)
op_room T (Put w r t) = refl
op_room T (PutHigh r t) = refl
op_room T (Const w t n) = length-set T t (Some (bits_of w))
op_room T (Ea t base index scale n) = length-set T t (Some 64)
op_room T (Calc family w t a b) = length-set T t (Some (bits_of w))
op_room T (FlagOf flag family w a b) = refl
op_room T (FlagZero flag) = refl
op_room T (Cond t c) = length-set T t (Some 1)
op_room T (Pick w t c a b) = length-set T t (Some (bits_of w))
op_room T (Zext from w t a) = length-set T t (Some (bits_of w))
op_room T (Sext from w t a) = length-set T t (Some (bits_of w))
op_room T (Cut from w t a) = length-set T t (Some (bits_of w))

ops_room : (T : Types) (os : List Op) → length (types_after_all T os) ≡ length T
ops_room T [] = refl
ops_room T (o ∷ os) = ops_room (types_after T o) os ∙ op_room T o

end_room : (T : Types) (end : PartEnd) → length (types_after_end T end) ≡ length T
end_room T Tick = refl
end_room T (Load w t a) = length-set T t (Some (bits_of w))
end_room T (Store w a t) = refl
end_room T (StoreGo a t to) = refl
end_room T Fence = refl
end_room T (Locked kind w t a s) = length-set T t (Some (bits_of w))
end_room T (LockedCmpxchg w t a c s) = length-set T t (Some (bits_of w))
end_room T (Divide signed w t) = refl
end_room T (Go to) = refl
end_room T (Branch c taken other) = refl
end_room T BadCode = refl

-- ---- families

-- a family with a second operand names one
two_of : (f : Family) (T : Types) (n b : ℕ) → length T ≡ 8 → is_second T (second_bits f n) (Some b) ≡ true → (has_two f ≡ true) × IsTemp b
two_of family.Inc T n b room h = absurd (cc)
two_of family.Dec T n b room h = absurd (cc)
two_of family.Neg T n b room h = absurd (cc)
two_of family.Not T n b room h = absurd (cc)
two_of f T n b room h = (refl, held T b _ room h)

one_of : (f : Family) (T : Types) (n : ℕ) → is_second T (second_bits f n) None ≡ true → has_two f ≡ false
one_of family.Inc T n h = refl
one_of family.Dec T n h = refl
one_of family.Neg T n h = refl
one_of family.Not T n h = refl
one_of f T n h = absurd (cc)

flags_of : (f : Family) (flag : Flag) → puts f flag ≡ true → has_flags f ≡ true
flags_of family.Mul flag h = absurd (cc)
flags_of family.Umulh flag h = absurd (cc)
flags_of family.Smulh flag h = absurd (cc)
flags_of family.Not flag h = absurd (cc)
flags_of f flag h = refl

-- ---- lines

base_has : (base : Option ℕ) → is_base base ≡ true → IsBase base
base_has None h = tt
base_has (Some r) h = below r 16 h

scale_of : (scale : ℕ) → (scale == 1 || scale == 2 || scale == 4 || scale == 8) ≡ true → IsOneOf (1 ∷ 2 ∷ 4 ∷ 8 ∷ []) scale
scale_of scale h =
    ⊎_elim (λ (e : (scale == 1) ≡ true). inl (equal scale 1 e))
    (λ r. inr (⊎_elim (λ (e : (scale == 2) ≡ true). inl (equal scale 2 e))
    (λ r. inr (⊎_elim (λ (e : (scale == 4) ≡ true). inl (equal scale 4 e)) (λ (e : (scale == 8) ≡ true). inr (inl (equal scale 8 e))) r)) r))
    (any_of_four _ _ _ _ h)

index_has : (index : Option ℕ) (scale : ℕ) → is_index index scale ≡ true → IsBase index × IsScale index scale
index_has None scale h = (tt, equal scale 1 h)
index_has (Some r) scale h = let p = both _ _ h in (below r 16 p.0, scale_of scale p.1)

width_of : (n : ℕ) → is_width n ≡ true → (n ≡ 8) ⊎ ((n ≡ 16) ⊎ ((n ≡ 32) ⊎ (n ≡ 64)))
width_of n h =
    ⊎_elim (λ (e : (n == 8) ≡ true). inl (equal n 8 e))
    (λ r. inr (⊎_elim (λ (e : (n == 16) ≡ true). inl (equal n 16 e))
    (λ r. inr (⊎_elim (λ (e : (n == 32) ≡ true). inl (equal n 32 e)) (λ (e : (n == 64) ≡ true). inr (equal n 64 e)) r)) r))
    (any_of_four _ _ _ _ h)

least : (w : Width) → 8 ≤ bits_of w
least W8 = omega arith
least W16 = omega arith
least W32 = omega arith
least W64 = omega arith

most : (w : Width) → bits_of w ≤ 64
most W8 = omega arith
most W16 = omega arith
most W32 = omega arith
most W64 = omega arith

widened : (n : ℕ) (w : Width) → is_width n ≡ true → n < bits_of w → IsOneOf (8 ∷ 16 ∷ 32 ∷ []) n
widened n w h lt =
    ⊎_elim (λ (e : n ≡ 8). inl e) (λ r. inr (⊎_elim (λ (e : n ≡ 16). inl e) (λ r. inr (⊎_elim (λ (e : n ≡ 32). inl e) (λ (e : n ≡ 64). absurd (omega (arith, lt, most w, e))) r)) r)) (width_of n h)

zero_extended : (n : ℕ) (w : Width) → (n == 1 || is_width n) ≡ true → n < bits_of w → IsOneOf (1 ∷ 8 ∷ 16 ∷ 32 ∷ []) n
zero_extended n w h lt = ⊎_elim (λ (e : (n == 1) ≡ true). inl (equal n 1 e)) (λ (e : is_width n ≡ true). inr (widened n w e lt)) (either (n == 1) (is_width n) h)

narrowed : (n : ℕ) (w : Width) → is_width n ≡ true → bits_of w < n → IsOneOf (16 ∷ 32 ∷ 64 ∷ []) n
narrowed n w h lt =
    ⊎_elim (λ (e : n ≡ 8). absurd (omega (arith, lt, least w, e))) (λ r. ⊎_elim (λ (e : n ≡ 16). inl e) (λ r. inr (⊎_elim (λ (e : n ≡ 32). inl e) (λ (e : n ≡ 64). inr (inl e)) r)) r) (width_of n h)

-- a register with a high byte is one of the first four
high_register : (r : ℕ) → nat_lt r 4 ≡ true → r < 16
high_register r h = omega (arith, below r 4 h)

op_has : (T : Types) (o : Op) → length T ≡ 8 → is_typed T o ≡ true → OpNumber o → HasOp o
op_has T (Get w t r) room h n = let p = both _ _ h in (below t 8 p.0, below r 16 p.1)
op_has T (GetHigh t r) room h n = let p = both _ _ h in (below t 8 p.0, high_register r p.1)
op_has T (Put w r t) room h n = let p = both _ _ h in (below r 16 p.0, held T t _ room p.1)
op_has T (PutHigh r t) room h n = let p = both _ _ h in (high_register r p.0, held T t _ room p.1)
op_has T (Const w t x) room h n = let p = both _ _ h in (below t 8 p.0, below x _ p.1)
op_has T (Ea t base index scale x) room h n = let p = three _ _ _ h in let i = index_has index scale p.2 in (below t 8 p.0, base_has base p.1, i.0, i.1, n)
op_has T (Calc f w t a (Some b)) room h n =
    let p = three _ _ _ h in
    let q = three _ _ _ p.2 in
    let two = two_of f T (bits_of w) b room q.2 in
    (p.1, two.0, below t 8 p.0, held T a _ room q.1, two.1)
op_has T (Calc f w t a None) room h n =
    let p = three _ _ _ h in
    let q = three _ _ _ p.2 in
    (p.1, one_of f T (bits_of w) q.2, below t 8 p.0, held T a _ room q.1)
op_has T (FlagOf flag f w a (Some b)) room h n =
    let p = both _ _ h in
    let q = three _ _ _ p.1 in
    let two = two_of f T (bits_of w) b room q.2 in
    (flags_of f flag p.0, two.0, held T a _ room q.1, two.1)
op_has T (FlagOf flag f w a None) room h n =
    let p = both _ _ h in
    let q = three _ _ _ p.1 in
    (flags_of f flag p.0, one_of f T (bits_of w) q.2, held T a _ room q.1)
op_has T (FlagZero flag) room h n = tt
op_has T (Cond t c) room h n = below t 8 h
op_has T (Pick w t c a b) room h n = let p = four _ _ _ _ h in (below t 8 p.0, held T c _ room p.1, held T a _ room p.2, held T b _ room p.3)
op_has T (Zext from w t a) room h n =
    let p = four _ _ _ _ h in
    let lt = below from (bits_of w) p.2 in
    (zero_extended from w p.1 lt, lt, below t 8 p.0, held T a _ room p.3)
op_has T (Sext from w t a) room h n =
    let p = four _ _ _ _ h in
    let lt = below from (bits_of w) p.2 in
    (widened from w p.1 lt, lt, below t 8 p.0, held T a _ room p.3)
op_has T (Cut from w t a) room h n =
    let p = four _ _ _ _ h in
    let lt = below (bits_of w) from p.2 in
    (narrowed from w p.1 lt, lt, below t 8 p.0, held T a _ room p.3)

target_has : (T : Types) (to : Target) → length T ≡ 8 → is_target T to ≡ true → TargetNumber to → IsTarget to
target_has T (Place n) room h number = number
target_has T (Temp t) room h number = held T t 64 room h

end_has : (T : Types) (end : PartEnd) → length T ≡ 8 → is_end_typed T end ≡ true → EndNumber end → HasEnd end
end_has T Tick room h n = tt
end_has T (Load w t a) room h n = let p = both _ _ h in (below t 8 p.0, held T a _ room p.1)
end_has T (Store w a t) room h n = let p = both _ _ h in (held T a _ room p.0, held T t _ room p.1)
end_has T (StoreGo a t to) room h n = let p = three _ _ _ h in (held T a _ room p.0, held T t _ room p.1, target_has T to room p.2 n)
end_has T Fence room h n = tt
end_has T (Locked kind w t a s) room h n = let p = three _ _ _ h in (below t 8 p.0, held T a _ room p.1, held T s _ room p.2)
end_has T (LockedCmpxchg w t a c s) room h n = let p = four _ _ _ _ h in (below t 8 p.0, held T a _ room p.1, held T c _ room p.2, held T s _ room p.3)
end_has T (Divide signed w t) room h n = held T t _ room (both _ _ h).1
end_has T (Go to) room h n = target_has T to room h n
end_has T (Branch c taken other) room h n = n
end_has T BadCode room h n = tt

-- ---- parts

ops_have : (T : Types) (os : List Op) → length T ≡ 8 → are_typed T os ≡ true → OpNumbers os → All HasOp os
ops_have T [] room h n = All-nil HasOp
ops_have T (o ∷ os) room h n = let p = both (is_typed T o) _ h in All-cons HasOp o os (op_has T o room p.0 n.0) (ops_have (types_after T o) os (op_room T o ∙ room) p.1 n.1)

part_has : (last : Bool) (T : Types) (p : Part) → length T ≡ 8 → is_part_typed last T p ≡ true → PartNumbers p → HasPart p
part_has last T p room h n =
    let lines = both (are_typed T p.ops) _ h in
    let end = both (is_end_typed (types_after_all T p.ops) p.end) _ lines.1 in
    record { ops = ops_have T p.ops room lines.0 n.ops; end = end_has (types_after_all T p.ops) p.end (ops_room T p.ops ∙ room) end.0 n.end }

pub parts_have : (T : Types) (ps : List Part) → length T ≡ 8 → are_parts_typed T ps ≡ true → AllNumbers ps → All HasPart ps
parts_have T [] room h n = All-nil HasPart
parts_have T (p ∷ ps) room h n =
    let both_typed = both (is_part_typed (is_empty ps) T p) _ h in
    All-cons HasPart p ps (part_has (is_empty ps) T p room both_typed.0 n.0) (parts_have (types_after_part T p) ps (end_room (types_after_all T p.ops) p.end ∙ ops_room T p.ops ∙ room) both_typed.1 n.1)
