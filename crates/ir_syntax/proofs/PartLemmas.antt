-- Parts one after another.
use Rattle.std.proofs.Common.{◌≡◌, ℕ, ◌<◌, ◌+◌, Bool, true, false, ◌&&◌, ◌==◌, zero, suc, List, [], ◌∷◌, length, refl, zero-add, add-zero, sym, inl, inr, take, drop, get_or, arith}
use Rattle.std.proofs.lemmas.Bool.Decides.{nat_tests}
use Rattle.std.proofs.lemmas.List.{drop_more, length-drop}
use Rattle.ir_syntax.specs.declared.block.Part.{Part}
use Rattle.ir_syntax.specs.declared.line.Op.{Op}
use Rattle.ir_syntax.specs.Typed.{Types, is_empty, unwritten, is_part_typed, types_after_part, are_parts_typed, IsFirstWrong, IsFirstWrongLine, IsFirstWrongOp, are_typed, is_typed, types_after}

not_zero : (n : ℕ) → false ≡ (suc n == 0)
not_zero n = grind (arith, nat_tests)

is_empty-length : (ps : List Part) → is_empty ps ≡ (length ps == 0)
is_empty-length [] = refl
is_empty-length (p ∷ ps) = not_zero (length ps)

-- part i is the last one exactly where nothing is behind it
pub is_empty-drop : (ps : List Part) (i : ℕ) → i < length ps → is_empty (drop (i + 1) ps) ≡ (i + 1 == length ps)
is_empty-drop ps i h = rw (is_empty-length (drop (i + 1) ps), length-drop (i + 1) ps) (grind (arith, nat_tests))

-- one typed part further on, the rest is typed exactly where it was
pub are_parts_typed-drop_more : (types then : Types) (ps : List Part) (i : ℕ) (p : Part) (last : Bool) → i < length ps → p ≡ get_or ps i p → last ≡ is_empty (drop (i + 1) ps) → is_part_typed last types p ≡ true → then ≡ types_after_part types p → are_parts_typed types (drop i ps) ≡ are_parts_typed then (drop (i + 1) ps)
are_parts_typed-drop_more types then ps i p last within at is_last typed after =
    rw (drop_more ps i p within, ← at, ← is_last, typed, ← after) refl

-- a first wrong line behind the first i parts is one of the whole
abbrev pub FaultsFrom : List Part → ℕ → Types → Type 0
FaultsFrom ps i types = (j k : ℕ) → IsFirstWrong types (drop i ps) j k → IsFirstWrong unwritten ps (i + j) k

pub FaultsFrom-start : (ps : List Part) → FaultsFrom ps 0 unwritten
FaultsFrom-start ps j k h = rw (zero-add j) h

pub FaultsFrom-more : (types then : Types) (ps : List Part) (i : ℕ) (p : Part) (last : Bool) → i < length ps → p ≡ get_or ps i p → last ≡ is_empty (drop (i + 1) ps) → is_part_typed last types p ≡ true → then ≡ types_after_part types p → FaultsFrom ps i types → FaultsFrom ps (i + 1) then
FaultsFrom-more types then ps i p last within at is_last typed after from j k h =
    let e : (i + 1) + j ≡ i + suc j = omega arith in
    rw e (from (suc j) k (rw (drop_more ps i p within, ← at, ← is_last, ← after) (typed, h)))

pub FaultsFrom-here : (types : Types) (ps : List Part) (i : ℕ) (p : Part) (last : Bool) (k : ℕ) → i < length ps → p ≡ get_or ps i p → last ≡ is_empty (drop (i + 1) ps) → IsFirstWrongLine last types p k → FaultsFrom ps i types → IsFirstWrong unwritten ps i k
FaultsFrom-here types ps i p last k within at is_last wrong from =
    rw (sym (add-zero i)) (from 0 k (rw (drop_more ps i p within, ← at, ← is_last) wrong))

left_true : (a b : Bool) → a && b ≡ true → a ≡ true
left_true true b h = refl
left_true false b h = h

right_true : (a b : Bool) → a && b ≡ true → b ≡ true
right_true true b h = h
right_true false b h = cc

-- where a line is wrong, the lines are not typed
untyped_ops : (types : Types) (ops : List Op) (k : ℕ) → IsFirstWrongOp types ops k → are_typed types ops ≡ false
untyped_ops types [] k w = absurd w.wrong
untyped_ops types (o ∷ os) zero w = rw (w.wrong) refl
untyped_ops types (o ∷ os) (suc k) w =
    rw (left_true (is_typed types o) (are_typed (types_after types o) (take k os)) w.before)
    (untyped_ops (types_after types o) os k (record { before = right_true (is_typed types o) (are_typed (types_after types o) (take k os)) w.before; wrong = w.wrong }))

untyped_part : (last : Bool) (types : Types) (p : Part) (k : ℕ) → IsFirstWrongLine last types p k → is_part_typed last types p ≡ false
untyped_part last types p k (inl w) = rw (untyped_ops types p.ops k w) refl
untyped_part last types p k (inr w) = rw (w.1, w.2) refl

pub untyped : (types : Types) (ps : List Part) (i k : ℕ) → IsFirstWrong types ps i k → are_parts_typed types ps ≡ false
untyped types [] i k h = absurd h
untyped types (p ∷ ps) zero k h = rw (untyped_part (is_empty ps) types p k h) refl
untyped types (p ∷ ps) (suc i) k h = rw (h.0) (untyped (types_after_part types p) ps i k h.1)
