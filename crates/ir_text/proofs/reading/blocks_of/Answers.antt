use Rattle.std.proofs.Common.{◌≡◌, List, All, refl, sym, ap, subst}
use Rattle.ir_syntax.specs.declared.block.Block.{Block}
use Rattle.ir_text.specs.Text.{HasText, text}
use Rattle.ir_text.specs.Draft.{made_by}
use Rattle.ir_text.proofs.PlaceLemmas.{first_place}
use Rattle.ir_text.proofs.ReadsLemmas.{reads_first, reads_next, reads_stop, reads_done}
use Rattle.ir_text.proofs.reading.blocks_of.Goals as goal

pub returns-in-Err : goal.returns-in-Err
returns-in-Err c = first_place c.args.bytes.now c.in-Err.left (sym c.in-Err.ensures)

pub pieces-init : goal.pieces-init
pieces-init c = reads_first c.args.bytes.now c.in-Ok.rest.now (made_by c.new-draft.result) c.new-draft.result.state (sym c.in-Ok.ensures) c.new-draft.ensures.made c.new-draft.ensures.state

pub returns-in-Err-item : goal.returns-in-Err-item
returns-in-Err-item c =
    reads_stop c.args.bytes.now c.pieces.rest.now (made_by c.pieces.draft) c.pieces.draft.state c.in-Err-item.left c.pieces.invariant (sym c.in-Err-item.ensures) (c.pieces-test.ensures.more refl)

pub pieces-preserved : goal.pieces-preserved
pieces-preserved c =
    (reads_next c.args.bytes.now c.pieces.rest.now c.in-Ok-item.found.1.now (made_by c.pieces.draft) (made_by c.take.new.self) c.pieces.draft.state c.take.new.self.state c.in-Ok-item.found.0
    c.pieces.invariant (sym c.in-Ok-item.ensures) c.in-Ok-take.ensures.made c.in-Ok-take.ensures.state).0

pub pieces-smaller : goal.pieces-smaller
pieces-smaller c =
    (reads_next c.args.bytes.now c.pieces.rest.now c.in-Ok-item.found.1.now (made_by c.pieces.draft) (made_by c.take.new.self) c.pieces.draft.state c.take.new.self.state c.in-Ok-item.found.0
    c.pieces.invariant (sym c.in-Ok-item.ensures) c.in-Ok-take.ensures.made c.in-Ok-take.ensures.state).1

pub returns : goal.returns
returns c =
    let end = c.pieces-test.ensures.done refl in
    let done = reads_done c.args.bytes.now c.pieces.rest.now (made_by c.pieces.draft) c.pieces.draft.state c.pieces.invariant end.0 end.1 in
    let P : List Block → Type 0 = λ bs. All HasText bs × (c.args.bytes.now ≡ text bs) in
    subst P (ap (λ v. v.items) (sym c.into_blocks.ensures)) done
