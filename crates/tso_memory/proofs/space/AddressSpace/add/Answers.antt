use Rattle.std.proofs.Common.{◌≡◌, ℕ, ◌<◌, List, length, sym, ap, subst, ◌∙◌, arith, vec_len}
use Rattle.std.specs.FinMap.{get}
use Rattle.std.proofs.lemmas.List.{nil_from_length}
use Rattle.std.proofs.lemmas.Bool.{eqb-true, eqb-false}
use Rattle.tso_memory.specs.Piece.{PieceData, IsLaidOut, piece_at}
use Rattle.tso_memory.specs.Memory.{Memory, memory_of, add_cells}
use Rattle.tso_memory.proofs.SpaceLemmas.{laid_add, memory_add, add_nothing}
use Rattle.tso_memory.proofs.space.AddressSpace.add.Goals as goal

positive : (n m : ℕ) → n ≡ m → (n ≡ 0 → ⊥) → 0 < m
positive n m e ne = omega arith

pub returns-then-is_empty : goal.returns-then-is_empty
returns-then-is_empty c =
    let p = c.args.piece in
    let z : vec_len c.piece.inside.bytes ≡ 0 = eqb-true (vec_len c.piece.inside.bytes) 0 (sym c.is_empty.ensures ∙ c.if-is_empty.true) in
    let none : length p.bytes ≡ 0 = omega (arith, z, c.piece.inside.bytes.ok.0, ap (λ (q : PieceData). length q.bytes) c.piece.view_is) in
    sym (add_nothing c.args.self.now p.at p.r p.w p.bytes (nil_from_length p.bytes none))

pub invariant_of-self-2 : goal.invariant_of-self-2
invariant_of-self-2 c =
    let ps = c.self.inside.pieces.items in
    let p = c.args.piece in
    let s = c.starting_by-place.ensures in
    let d = c.deref.ensures.value in
    let at : c.piece.inside.at ≡ p.at = ap (λ (q : PieceData). q.at) c.piece.view_is in
    let filled : 0 < length p.bytes = positive (vec_len c.piece.inside.bytes) (length p.bytes) (omega (arith, c.piece.inside.bytes.ok.0, ap (λ (q : PieceData). length q.bytes) c.piece.view_is)) (eqb-false (vec_len c.piece.inside.bytes) 0 (sym c.is_empty.ensures ∙ c.if-is_empty.false)) in
    subst IsLaidOut (sym c.in_ok-insert.ensures.items) (laid_add ps c.starting_by-place.result p c.self.invariant (omega (arith, s.bound, ap length d)) (omega (arith, filled)) c.requires.low
    (λ j less. omega (arith, s.before j less, ap (λ (qs : List PieceData). (piece_at qs j).at) d, at))
    (λ j from far. omega (arith, s.after j from (omega (arith, ap length d)), ap (λ (qs : List PieceData). (piece_at qs j).at) d, at))
    (λ x h. ap (λ (m : Memory). get m x) c.self.view_is ∙ c.requires.apart x h))

pub returns : goal.returns
returns c =
    let ps = c.self.inside.pieces.items in
    let p = c.args.piece in
    ap memory_of c.in_ok-insert.ensures.items
    ∙ (memory_add ps c.starting_by-place.result p c.self.invariant (omega (arith, c.starting_by-place.ensures.bound, ap length c.deref.ensures.value)) (λ x h. ap (λ (m : Memory). get m x) c.self.view_is ∙ c.requires.apart x h)
    ∙ ap (λ (m : Memory). add_cells m p.at p.r p.w p.bytes) c.self.view_is)
