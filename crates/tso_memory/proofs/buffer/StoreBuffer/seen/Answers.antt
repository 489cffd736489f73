use Rattle.std.proofs.Common.{◌≡◌, ◌-◌, ◌≤◌, Some, None, List, length, false, slice_get, sym, ap, ◌∙◌, arith}
use Rattle.std.specs.Int.{byte_at}
use Rattle.std.specs.Option.{option_copied}
use Rattle.tso_memory.specs.declared.write.PendingWrite.{PendingWrite}
use Rattle.tso_memory.specs.Buffer.{covers, seen}
use Rattle.tso_memory.proofs.BufferLemmas.{there}
use Rattle.tso_memory.proofs.NumberLemmas.{byte_there, byte_missing, seen_before, seen_here, seen_zero}
use Rattle.tso_memory.proofs.buffer.StoreBuffer.seen.Goals as goal
use Rattle.tso_memory.proofs.buffer.StoreBuffer.seen.Goals.{in-Some+in_default-byte, in_default}

pub returns-in-Some-byte : goal.returns-in-Some-byte
returns-in-Some-byte c =
    let ps = c.self.inside.ring.items in
    let p = c.in-Some.write.now in
    let x = c.args.x in
    let got : slice_get ps (c.reach-reach.result - 1 - c.loop-k.k) ≡ Some p = sym c.get.ensures ∙ ap option_copied c.in-Some.is in
    let own = byte_there (covers p x) (byte_at (x - p.at) p.value) c.in-Some-byte.newest c.byte.result c.byte.ensures c.in-Some-byte.is in
    own.1
    ∙ (sym (seen_here ps c.reach-reach.result c.loop-k.k p x c.args.byte c.loop-k-test.true got own.0 c.loop-k.invariant)
    ∙ (c.reach-reach.ensures.seen ps c.self.invariant.1 x c.args.byte (omega arith) (omega arith)
    ∙ ap (λ (qs : List PendingWrite). seen qs x c.args.byte) c.self.view_is))

pub loop-k-preserved : goal.loop-k-preserved
loop-k-preserved c = elim c.match-get.branch [
  | in-Some+in_default-byte w ↦
      let p = w.in-Some.write.now in
      let got : slice_get c.self.inside.ring.items (c.reach-reach.result - 1 - c.loop-k.k) ≡ Some p = sym c.get.ensures ∙ ap option_copied w.in-Some.is in
      let out : covers p c.args.x ≡ false = byte_missing (covers p c.args.x) (byte_at (c.args.x - p.at) p.value) w.byte.result w.byte.ensures w.in_default-byte.is in
      seen_before c.self.inside.ring.items c.reach-reach.result c.loop-k.k p c.args.x c.args.byte c.loop-k-test.true got out c.loop-k.invariant
  | in_default w ↦
      let none : slice_get c.self.inside.ring.items (c.reach-reach.result - 1 - c.loop-k.k) ≡ None = sym c.get.ensures ∙ ap option_copied w.in_default.is in
      let within : c.reach-reach.result ≤ length c.self.inside.ring.items = c.reach-reach.ensures.within c.self.inside.ring.items c.self.invariant.1 in
      absurd (there c.self.inside.ring.items (c.reach-reach.result - 1 - c.loop-k.k) (omega (arith, within)) none)
]

pub returns : goal.returns
returns c =
    let ps = c.self.inside.ring.items in
    sym (seen_zero ps c.reach-reach.result c.loop-k.k c.args.x c.args.byte c.loop-k-test.false c.loop-k.invariant)
    ∙ (c.reach-reach.ensures.seen ps c.self.invariant.1 c.args.x c.args.byte (omega arith) (omega arith)
    ∙ ap (λ (qs : List PendingWrite). seen qs c.args.x c.args.byte) c.self.view_is)
