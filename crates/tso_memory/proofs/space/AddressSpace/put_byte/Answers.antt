use Rattle.std.proofs.Common.{◌≡◌, ◌+◌, ◌-◌, ◌<◌, ◌≤◌, ◌^◌, [], ◌∷◌, length, sym, ap, ◌∙◌, inl, inr, arith}
use Rattle.std.specs.FinMap.{get}
use Rattle.std.proofs.lemmas.Bool.{cases_lt}
use Rattle.tso_memory.specs.Piece.{PieceData}
use Rattle.tso_memory.specs.Memory.{put_byte}
use Rattle.tso_memory.proofs.PieceLemmas.{read_piece}
use Rattle.tso_memory.proofs.SpaceLemmas.{absent_get}
use Rattle.tso_memory.proofs.RunLemmas.{run_one, run_laid, run_put, put_absent, high_absent, put_one}
use Rattle.tso_memory.proofs.space.AddressSpace.put_byte.Goals as goal

pub returns-in_default : goal.returns-in_default
returns-in_default c =
    let past : 2 ^ 64 ≤ c.args.a + c.args.k = elim (cases_lt (c.args.a + c.args.k) (2 ^ 64)) [ inl below ↦ absurd (c.in_default.ensures below) | inr past ↦ past ] in
    put_absent c.args.self.now (c.args.a + c.args.k) c.args.byte (high_absent c.self.inside.pieces.items c.args.self.now (c.args.a + c.args.k) c.self.invariant c.self.view_is (omega arith))

pub returns-in_default-find : goal.returns-in_default-find
returns-in_default-find c =
    let sum : c.in-Some.x ≡ c.args.a + c.args.k = c.in-Some.ensures.1 in
    put_absent c.args.self.now (c.args.a + c.args.k) c.args.byte
    (ap (get c.args.self.now) (sym sum) ∙ absent_get c.deref.result.now c.self.inside.pieces.items c.args.self.now c.in-Some.x c.deref.ensures.value c.self.view_is c.in_default-find.ensures.absent)

pub invariant_of-self : goal.invariant_of-self
invariant_of-self c =
    let ps = c.self.inside.pieces.items in
    let i = c.in-Some-find.i in
    let x = c.in-Some.x in
    let p = c.index_mut.result.now in
    let place = x - c.piece.inside.at in
    let within : i < length ps = omega (arith, c.in-Some-find.ensures.found.0, ap length c.deref.ensures.value) in
    let same : c.index-piece.result.now ≡ p = read_piece ps i c.index-piece.result.now within c.index-piece.ensures ∙ sym (read_piece ps i p within c.index_mut.ensures.value) in
    let run = run_one c.deref.result.now ps c.args.self.now p i x place c.deref.ensures.value c.self.view_is c.self.invariant c.index_mut.ensures.value c.in-Some-find.ensures.found (ap (λ (q : PieceData). x - q.at) (c.piece.view_is ∙ same)) in
    run_laid ps c.args.self.now p c.overwrite.new.self x i place (c.args.byte ∷ []) run c.overwrite.ensures

pub returns : goal.returns
returns c =
    let ps = c.self.inside.pieces.items in
    let i = c.in-Some-find.i in
    let x = c.in-Some.x in
    let p = c.index_mut.result.now in
    let place = x - c.piece.inside.at in
    let within : i < length ps = omega (arith, c.in-Some-find.ensures.found.0, ap length c.deref.ensures.value) in
    let same : c.index-piece.result.now ≡ p = read_piece ps i c.index-piece.result.now within c.index-piece.ensures ∙ sym (read_piece ps i p within c.index_mut.ensures.value) in
    let run = run_one c.deref.result.now ps c.args.self.now p i x place c.deref.ensures.value c.self.view_is c.self.invariant c.index_mut.ensures.value c.in-Some-find.ensures.found (ap (λ (q : PieceData). x - q.at) (c.piece.view_is ∙ same)) in
    run_put ps c.args.self.now p c.overwrite.new.self x i place (c.args.byte ∷ []) run c.overwrite.ensures
    ∙ (put_one c.args.self.now x c.args.byte ∙ ap (λ z. put_byte c.args.self.now z c.args.byte) c.in-Some.ensures.1)
