-- The first line that isn't well typed.
use Rattle.std.proofs.Common.{◌≡◌, ℕ, zero, suc, ◌+◌, ◌<◌, ◌≤◌, Bool, List, [], ◌∷◌, ◌++◌, length, take, drop, get_or, All, IsSomeAnd, slice_get, sym, ap, subst, ◌∙◌, arith, inl, inr}
use Rattle.std.proofs.lemmas.List.{drop_more, length-take-le, take-append-drop, take_more}
use Rattle.std.proofs.lemmas.List.Elements.{All-append}
use Rattle.std.proofs.lemmas.List.Sums.{sum_by_more, sum_by_more_le}
use Rattle.ir_syntax.specs.declared.block.Block.{Block}
use Rattle.ir_syntax.specs.declared.block.Part.{Part}
use Rattle.ir_syntax.specs.declared.line.Op.{Op}
use Rattle.ir_syntax.specs.declared.typing.TypeFault.{TypeFault}
use Rattle.ir_syntax.specs.Typed.{IsFault, IsFirstWrong, IsFirstWrongLine, IsWellTyped, Types, is_empty, types_after_part}
use Rattle.ir_file.specs.Lines.{lines_of_block, lines_of_blocks, lines_of_parts}
use Rattle.ir_file.specs.Untyped.{IsUntyped}
use Rattle.ir_file.proofs.Counting.{IsInside, inside_within, line_at}

op_inside : (P : Op → Type 0) (os : List Op) (k : ℕ) → IsSomeAnd (slice_get os k) P → k < length os
op_inside P [] k h = absurd h
op_inside P (o ∷ os) zero h = omega arith
op_inside P (o ∷ os) (suc k) h = let r = op_inside P os k h in omega (arith, r)

line_inside : (last : Bool) (types : Types) (p : Part) (k : ℕ) → IsFirstWrongLine last types p k → k ≤ length p.ops
line_inside last types p k (inl w) = let r = op_inside _ p.ops k w.wrong in omega (arith, r)
line_inside last types p k (inr w) = omega (arith, w.0)

wrong_inside : (types : Types) (ps : List Part) (i k : ℕ) → IsFirstWrong types ps i k → IsInside ps i k
wrong_inside types [] i k h = absurd h
wrong_inside types (p ∷ ps) zero k h = line_inside (is_empty ps) types p k h
wrong_inside types (p ∷ ps) (suc i) k h = wrong_inside (types_after_part types p) ps i k h.1

pub fault_inside : (ps : List Part) (fault : TypeFault) → IsFault ps fault → IsInside ps fault.part fault.op
fault_inside [] fault h = h
fault_inside (p ∷ ps) fault h = wrong_inside _ (p ∷ ps) fault.part fault.op h

-- the fault of block i of these, where those before it are well typed
pub untyped_at : (bs : List Block) (i : ℕ) (b : Block) (fault : TypeFault) (line lines : ℕ) → i < length bs → b ≡ get_or bs i b → All IsWellTyped (take i bs) → IsFault b.parts fault
    → line ≡ lines_of_blocks (take i bs) + 2 → lines ≡ (lines_of_parts (take fault.part b.parts) + fault.op) + 1 → IsUntyped bs (line + lines)
untyped_at bs i b fault line lines within at typed wrong e f = record {
  before = take i bs;
  block = b;
  after = drop (i + 1) bs;
  are = sym (take-append-drop i bs) ∙ ap (λ (z : List Block). take i bs ++ z) (drop_more bs i b within ∙ ap (λ (z : Block). z ∷ drop (i + 1) bs) (sym at));
  typed = typed;
  fault = fault;
  wrong = wrong;
  stands = ap (λ (z : ℕ). z + lines) e ∙ ap (λ (z : ℕ). (lines_of_blocks (take i bs) + 2) + z) f ∙ line_at (take i bs) b fault.part fault.op (fault_inside b.parts fault wrong);
}

-- one block more is well typed
one : (b : Block) → IsWellTyped b → All IsWellTyped (b ∷ [])
one b h zero d lt = h
one b h (suc j) d lt = absurd (omega (arith, lt))

pub typed_more : (bs : List Block) (i : ℕ) (b : Block) → i < length bs → b ≡ get_or bs i b → All IsWellTyped (take i bs) → IsWellTyped b → All IsWellTyped (take (i + 1) bs)
typed_more bs i b within at typed h =
    subst (All IsWellTyped) (sym (take_more bs i b within)) (All-append IsWellTyped (take i bs) (get_or bs i b ∷ []) typed (one (get_or bs i b) (subst IsWellTyped at h)))

-- the line of a fault is within the lines of its block, and that within those of all
pub block_within : (bs : List Block) (i : ℕ) (b : Block) → i < length bs → b ≡ get_or bs i b → lines_of_blocks (take i bs) + lines_of_block b ≤ lines_of_blocks bs
block_within bs i b within at = subst (λ (z : Block). lines_of_blocks (take i bs) + lines_of_block z ≤ lines_of_blocks bs) (sym at) (sum_by_more_le lines_of_block bs i b within)

pub more_lines : (bs : List Block) (i : ℕ) (b : Block) (line lines : ℕ) → i < length bs → b ≡ get_or bs i b → line ≡ lines_of_blocks (take i bs) + 2 → lines ≡ lines_of_parts b.parts → line + (lines + 2) ≡ lines_of_blocks (take (i + 1) bs) + 2
more_lines bs i b line lines within at e f =
    let step : lines_of_blocks (take (i + 1) bs) ≡ lines_of_blocks (take i bs) + lines_of_block b =
    sum_by_more lines_of_block bs i b within ∙ ap (λ (z : Block). lines_of_blocks (take i bs) + lines_of_block z) (sym at) in
    omega (arith, e, f, step)

pub line_fits : (bs : List Block) (i : ℕ) (b : Block) (fault : TypeFault) (line lines bound : ℕ) → i < length bs → b ≡ get_or bs i b → IsFault b.parts fault
    → line ≡ lines_of_blocks (take i bs) + 2 → lines ≡ (lines_of_parts (take fault.part b.parts) + fault.op) + 1 → lines_of_blocks bs + 2 < bound → line + lines < bound
line_fits bs i b fault line lines bound within at wrong e f few =
    let r = inside_within b.parts fault.part fault.op (fault_inside b.parts fault wrong) in
    omega (arith, e, f, few, r.1, block_within bs i b within at)

-- ---- in one block

pub part_there : (ps qs : List Part) (fault : TypeFault) → qs ≡ ps → IsFault ps fault → fault.part ≡ length (take fault.part qs)
part_there ps qs fault e wrong =
    let r = inside_within ps fault.part fault.op (fault_inside ps fault wrong) in
    sym (length-take-le fault.part qs (omega (arith, r.0, ap length e)))

pub lines_fit : (ps qs : List Part) (fault : TypeFault) (lines bound : ℕ) → qs ≡ ps → IsFault ps fault → lines ≡ lines_of_parts (take fault.part qs) → lines_of_parts ps + 2 < bound → lines + fault.op + 1 < bound
lines_fit ps qs fault lines bound e wrong count few =
    let r = inside_within ps fault.part fault.op (fault_inside ps fault wrong) in
    omega (arith, r.1, few, count ∙ ap (λ (z : List Part). lines_of_parts (take fault.part z)) e)
