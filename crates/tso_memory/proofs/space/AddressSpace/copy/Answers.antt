use Rattle.std.proofs.Common.{◌≡◌, ℕ, ◌+◌, ◌-◌, List, length, take, drop, ap, ◌∙◌, arith}
use Rattle.tso_memory.specs.Piece.{PieceData}
use Rattle.tso_memory.proofs.RunLemmas.{run_is}
use Rattle.tso_memory.proofs.CopyLemmas.{run_bytes}
use Rattle.tso_memory.proofs.space.AddressSpace.copy.Goals as goal

pub returns-in-Some : goal.returns-in-Some
returns-in-Some c =
    let ps = c.self.inside.pieces.items in
    let p = c.index-piece.result.now in
    let n = length c.args.to.now in
    let k = c.in-Some.place in
    let run = run_is c.deref.result.now ps c.args.self.now p c.args.a n c.in-Some.i k c.deref.ensures.value c.self.view_is c.self.invariant c.index-piece.ensures c.in-Some.ensures in
    let bytes : c.deref-in-Some.result.now ≡ p.bytes = c.deref-in-Some.ensures.value ∙ ap (λ (q : PieceData). q.bytes) c.piece.view_is in
    let size : k + n - k ≡ n = omega arith in
    c.copy_from_slice.ensures.after
    ∙ (ap (λ (z : ℕ). take z (drop k c.deref-in-Some.result.now)) size
    ∙ (ap (λ (xs : List ℕ). take n (drop k xs)) bytes
    ∙ run_bytes ps c.args.self.now p c.args.a n c.in-Some.i k run))
