use Rattle.std.proofs.Common.{◌≡◌, ℕ, List, drop, sym, ap, subst, ◌∙◌}
use Rattle.std.proofs.lemmas.List.{take_rest}
use Rattle.byteorder.specs.Endian.{little_number}
use Rattle.tso_memory.specs.Piece.{PieceData}
use Rattle.tso_memory.specs.Buffer.{size_of}
use Rattle.tso_memory.proofs.RunLemmas.{IsRun, run_is, run_number, run_load}
use Rattle.tso_memory.proofs.space.AddressSpace.read.Goals as goal

pub returns-then-piece-clause-value : goal.returns-then-piece-clause-value
returns-then-piece-clause-value c =
    let ps = c.self.inside.pieces.items in
    let p = c.index-piece.result.now in
    let n = size_of c.args.width in
    let run = run_is c.deref.result.now ps c.args.self.now p c.args.a c.size-size.result c.in-Some.i c.in-Some.place c.deref.ensures.value c.self.view_is c.self.invariant c.index-piece.ensures c.in-Some.ensures in
    let bytes : c.deref-then-piece.result.now ≡ p.bytes = c.deref-then-piece.ensures.value ∙ ap (λ (q : PieceData). q.bytes) c.piece.view_is in
    c.word.ensures.number
    ∙ (ap (little_number n) (take_rest c.deref-then-piece.result.now c.in-Some.place ∙ ap (λ (xs : List ℕ). drop c.in-Some.place xs) bytes)
    ∙ sym (run_number ps c.args.self.now p c.args.a n c.in-Some.i c.in-Some.place (subst (λ (z : ℕ). IsRun ps c.args.self.now p c.args.a z c.in-Some.i c.in-Some.place) c.size-size.ensures run)))

pub returns-then-piece-clause-rights : goal.returns-then-piece-clause-rights
returns-then-piece-clause-rights c =
    let ps = c.self.inside.pieces.items in
    let p = c.index-piece.result.now in
    let run = run_is c.deref.result.now ps c.args.self.now p c.args.a c.size-size.result c.in-Some.i c.in-Some.place c.deref.ensures.value c.self.view_is c.self.invariant c.index-piece.ensures c.in-Some.ensures in
    sym (run_load ps c.args.self.now p c.args.a (size_of c.args.width) c.in-Some.i c.in-Some.place
    (subst (λ (z : ℕ). IsRun ps c.args.self.now p c.args.a z c.in-Some.i c.in-Some.place) c.size-size.ensures run)
    (sym (ap (λ (q : PieceData). q.r) c.piece.view_is) ∙ c.if-piece.true))
