use Rattle.std.proofs.Common.{◌≡◌, ℕ, ◌<◌, List, drop, get_or, sym, ap, subst, ◌∙◌, zero-add}
use Rattle.std.proofs.lemmas.List.{take_rest}
use Rattle.byteorder.specs.Endian.{little_number}
use Rattle.tso_memory.specs.Piece.{PieceData}
use Rattle.tso_memory.specs.Buffer.{size_of}
use Rattle.tso_memory.specs.Memory.{byte_of}
use Rattle.tso_memory.proofs.RunLemmas.{IsRun, run_is, run_number}
use Rattle.tso_memory.proofs.MemoryLemmas.{number_from-little}
use Rattle.tso_memory.proofs.space.AddressSpace.number.Goals as goal

pub returns-in-Some-clause-number : goal.returns-in-Some-clause-number
returns-in-Some-clause-number c =
    let ps = c.self.inside.pieces.items in
    let p = c.index-piece.result.now in
    let n = size_of c.args.width in
    let run = run_is c.deref.result.now ps c.args.self.now p c.args.a c.size-size.result c.in-Some.i c.in-Some.place c.deref.ensures.value c.self.view_is c.self.invariant c.index-piece.ensures c.in-Some.ensures in
    let bytes : c.deref-in-Some.result.now ≡ p.bytes = c.deref-in-Some.ensures.value ∙ ap (λ (q : PieceData). q.bytes) c.piece.view_is in
    c.word.ensures.number
    ∙ (ap (little_number n) (take_rest c.deref-in-Some.result.now c.in-Some.place ∙ ap (λ (xs : List ℕ). drop c.in-Some.place xs) bytes)
    ∙ sym (run_number ps c.args.self.now p c.args.a n c.in-Some.i c.in-Some.place (subst (λ (z : ℕ). IsRun ps c.args.self.now p c.args.a z c.in-Some.i c.in-Some.place) c.size-size.ensures run)))

pub returns-clause-number : goal.returns-clause-number
returns-clause-number c =
    let n = size_of c.args.width in
    c.word-2.ensures.number
    ∙ sym (number_from-little n 0 (byte_of c.args.self.now) c.args.a c.bytes.result (λ j within. sym (c.bytes.ensures j (subst (λ (z : ℕ). j < z) (sym c.size-size.ensures) within)) ∙ ap (λ z. get_or c.bytes.result z 0) (sym (zero-add j))))
