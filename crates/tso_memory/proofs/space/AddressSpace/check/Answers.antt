use Rattle.std.proofs.Common.{◌≡◌, ◌+◌, ◌-◌, ◌≤◌, length, get_or, sym, ap, ◌∙◌, arith}
use Rattle.tso_memory.specs.Piece.{PieceData, end_of}
use Rattle.tso_memory.specs.Memory.{may, permits}
use Rattle.tso_memory.proofs.MemoryLemmas.{first_denied-none, first_denied-some}
use Rattle.tso_memory.proofs.SpaceLemmas.{absent_get, found_get, found_place, denied_nothing, permits_none, may_more, run_may}
use Rattle.tso_memory.proofs.space.AddressSpace.check.Goals as goal

pub returns-then-n-eq0-clause-rights : goal.returns-then-n-eq0-clause-rights
returns-then-n-eq0-clause-rights c = denied_nothing (may c.args.self.now c.args.access) c.args.a c.args.n (omega arith)

pub returns-in_default-clause-rights : goal.returns-in_default-clause-rights
returns-in_default-clause-rights c =
    let v = c.loop-i.invariant in
    let none = absent_get c.deref.result.now c.self.inside.pieces.items c.args.self.now c.loop-i.x c.deref.ensures.value c.self.view_is c.in_default.ensures.absent in
    sym (first_denied-some (may c.args.self.now c.args.access) c.args.a c.args.n c.loop-i.x v.from (omega (arith, v.rest, v.more)) v.allowed (ap (permits c.args.access) none ∙ permits_none c.args.access))

pub returns-then-not-permits-clause-rights : goal.returns-then-not-permits-clause-rights
returns-then-not-permits-clause-rights c =
    let v = c.loop-i.invariant in
    let p = c.index-piece.result.now in
    let some = found_get c.deref.result.now c.self.inside.pieces.items c.args.self.now p c.in-Some.i c.loop-i.x c.deref.ensures.value c.self.view_is c.self.invariant c.index-piece.ensures c.in-Some.ensures.found in
    sym (first_denied-some (may c.args.self.now c.args.access) c.args.a c.args.n c.loop-i.x v.from (omega (arith, v.rest, v.more)) v.allowed (ap (permits c.args.access) some ∙ (sym (c.permits.ensures (get_or p.bytes (c.loop-i.x - p.at) 0)) ∙ c.if-not-permits.true)))

pub returns-then-left-rest-clause-rights : goal.returns-then-left-rest-clause-rights
returns-then-left-rest-clause-rights c =
    let v = c.loop-i.invariant in
    let p = c.index-piece.result.now in
    let run = run_may c.deref.result.now c.self.inside.pieces.items c.args.self.now p c.in-Some.i c.loop-i.x c.args.access c.deref.ensures.value c.self.view_is c.self.invariant c.index-piece.ensures c.in-Some.ensures.found (λ b. sym (c.permits.ensures b) ∙ c.if-not-permits.false) in
    let place = found_place c.deref.result.now c.self.inside.pieces.items p c.in-Some.i c.loop-i.x c.deref.ensures.value c.index-piece.ensures c.in-Some.ensures.found in
    let last : c.args.a + c.args.n ≤ end_of p = omega (arith, v.rest, c.if-left-rest.true, c.len.ensures, c.piece.inside.bytes.ok.0, place.0, place.1, ap (λ (q : PieceData). q.at) c.piece.view_is, ap (λ (q : PieceData). length q.bytes) c.piece.view_is) in
    sym (first_denied-none (may c.args.self.now c.args.access) c.args.a c.args.n (λ y from to. may_more c.args.self.now c.args.access c.args.a c.loop-i.x (end_of p) v.allowed run y from (omega (arith, last))))

pub loop-i-preserved : goal.loop-i-preserved
loop-i-preserved c =
    let v = c.loop-i.invariant in
    let p = c.index-piece.result.now in
    let run = run_may c.deref.result.now c.self.inside.pieces.items c.args.self.now p c.in-Some.i c.loop-i.x c.args.access c.deref.ensures.value c.self.view_is c.self.invariant c.index-piece.ensures c.in-Some.ensures.found (λ b. sym (c.permits.ensures b) ∙ c.if-not-permits.false) in
    let place = found_place c.deref.result.now c.self.inside.pieces.items p c.in-Some.i c.loop-i.x c.deref.ensures.value c.index-piece.ensures c.in-Some.ensures.found in
    let rest : c.loop-i.x + (c.len.result - (c.loop-i.x - c.piece.inside.at)) ≡ end_of p = omega (arith, c.len.ensures, c.piece.inside.bytes.ok.0, place.0, place.1, ap (λ (q : PieceData). q.at) c.piece.view_is, ap (λ (q : PieceData). length q.bytes) c.piece.view_is) in
    record {
      rest = omega (arith, v.rest, c.if-left-rest.false);
      more = omega (arith, c.if-left-rest.false);
      from = omega (arith, v.from);
      allowed = λ y from to. may_more c.args.self.now c.args.access c.args.a c.loop-i.x (end_of p) v.allowed run y from (omega (arith, rest));
    }
