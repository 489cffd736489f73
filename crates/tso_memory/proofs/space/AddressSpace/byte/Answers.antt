use Rattle.std.proofs.Common.{◌≡◌, ◌-◌, ◌<◌, length, get_or, sym, ap, ◌∙◌, arith}
use Rattle.std.proofs.lemmas.List.{get_or_default}
use Rattle.tso_memory.specs.Piece.{PieceData}
use Rattle.tso_memory.specs.Memory.{cell_byte}
use Rattle.tso_memory.proofs.SpaceLemmas.{absent_get, found_get, found_place}
use Rattle.tso_memory.proofs.space.AddressSpace.byte.Goals as goal

pub returns-in_default : goal.returns-in_default
returns-in_default c = sym (ap cell_byte (absent_get c.deref.result.now c.self.inside.pieces.items c.args.self.now c.args.x c.deref.ensures.value c.self.view_is c.in_default.ensures.absent))

pub returns : goal.returns
returns c =
    let p = c.index-piece.result.now in
    let here = found_get c.deref.result.now c.self.inside.pieces.items c.args.self.now p c.in-Some.i c.args.x c.deref.ensures.value c.self.view_is c.self.invariant c.index-piece.ensures c.in-Some.ensures.found in
    let place = found_place c.deref.result.now c.self.inside.pieces.items p c.in-Some.i c.args.x c.deref.ensures.value c.index-piece.ensures c.in-Some.ensures.found in
    let at : c.piece.inside.at ≡ p.at = ap (λ (q : PieceData). q.at) c.piece.view_is in
    let bytes : c.piece.inside.bytes.items ≡ p.bytes = ap (λ (q : PieceData). q.bytes) c.piece.view_is in
    let within : c.args.x - c.piece.inside.at < length c.piece.inside.bytes.items = omega (arith, place.0, place.1, at, ap length bytes) in
    c.index.ensures ∙ (get_or_default c.piece.inside.bytes.items (c.args.x - c.piece.inside.at) c.index.result.now 0 within
    ∙ (ap (λ (q : PieceData). get_or q.bytes (c.args.x - q.at) 0) c.piece.view_is ∙ sym (ap cell_byte here)))
