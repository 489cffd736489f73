use Rattle.std.proofs.Common.{◌≡◌, ◌-◌, ◌≤◌, List, take, length, subst, Some, None, false, slice_get, sym, ap, ◌∙◌, arith}
use Rattle.std.specs.Option.{option_copied}
use Rattle.std.proofs.lemmas.Bool.{OnFalse_at}
use Rattle.tso_memory.specs.declared.write.PendingWrite.{PendingWrite}
use Rattle.tso_memory.specs.Buffer.{covers, seen}
use Rattle.tso_memory.proofs.BufferLemmas.{there}
use Rattle.tso_memory.proofs.NumberLemmas.{seen_before, seen_here, seen_zero}
use Rattle.tso_memory.proofs.buffer.StoreBuffer.last_meeting.Goals as goal
use Rattle.tso_memory.proofs.buffer.StoreBuffer.last_meeting.Goals.{in-Some+else-meets, in_default}

pub loop-k-preserved : goal.loop-k-preserved
loop-k-preserved c = elim c.match-get.branch [
  | in-Some+else-meets w ↦ λ x b from to.
      let got : slice_get c.self.inside.ring.items (c.args.n - 1 - c.loop-k.k) ≡ Some w.in-Some.write.now = sym c.get.ensures ∙ ap option_copied w.in-Some.is in
      let not_covered : covers w.in-Some.write.now x ≡ false = OnFalse_at w.if-meets.false w.meets.ensures x from to in
      seen_before c.self.inside.ring.items c.args.n c.loop-k.k w.in-Some.write.now x b (omega arith) got not_covered (c.loop-k.invariant x b from to)
  | in_default w ↦
      let none : slice_get c.self.inside.ring.items (c.args.n - 1 - c.loop-k.k) ≡ None = sym c.get.ensures ∙ ap option_copied w.in_default.is in
      absurd (there c.self.inside.ring.items (c.args.n - 1 - c.loop-k.k) (let more : c.args.n ≤ length c.self.inside.ring.items = subst (λ (ps : List PendingWrite). c.args.n ≤ length ps) (sym c.self.view_is) c.requires in omega (arith, more)) none)
]

pub returns-then-meets-clause-some : goal.returns-then-meets-clause-some
returns-then-meets-clause-some c = λ x b from to inside.
    let got : slice_get c.self.inside.ring.items (c.args.n - 1 - c.loop-k.k) ≡ Some c.in-Some.write.now = sym c.get.ensures ∙ ap option_copied c.in-Some.is in
    ap (λ (ps : List PendingWrite). seen (take c.args.n ps) x b) (sym c.self.view_is) ∙ seen_here c.self.inside.ring.items c.args.n c.loop-k.k c.in-Some.write.now x b c.loop-k-test.true got inside (c.loop-k.invariant x b from to)

pub returns-clause-none : goal.returns-clause-none
returns-clause-none c = λ x b from to.
    ap (λ (ps : List PendingWrite). seen (take c.args.n ps) x b) (sym c.self.view_is) ∙ seen_zero c.self.inside.ring.items c.args.n c.loop-k.k x b c.loop-k-test.false (c.loop-k.invariant x b from to)
