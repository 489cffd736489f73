use Rattle.std.proofs.Common.{length, sym, ap, subst, ◌∙◌, List, ℕ, arith}
use Rattle.journal_pack.specs.Growing.{Growing, IsKept, entries_of}
use Rattle.journal_pack.proofs.PackedLemmas.{headed, some_head}
use Rattle.journal_pack.proofs.growing.GrowingJournal.reserve.Goals as goal

pub invariant_of-self-2 : goal.invariant_of-self-2
invariant_of-self-2 c =
    let items = c.in_ok-make_room.ensures.items in
    let kept = headed c.self.inside.bytes.items c.self.inside.count c.self.invariant.0 in (
      subst (λ (t : List ℕ). IsKept t c.self.inside.count) (sym items) kept.0,
      record {
        fits = omega (arith, c.in_ok-make_room.ensures.ok, c.capacity.ensures, c.len.ensures);
        begun = λ _. omega (arith, some_head c.self.inside.bytes.items, ap length items, c.make_room.new.bytes.ok.0);
      },
    )

pub returns-clause-entries : goal.returns-clause-entries
returns-clause-entries c = ap entries_of c.in_ok-make_room.ensures.items ∙ (headed c.self.inside.bytes.items c.self.inside.count c.self.invariant.0).1 ∙ ap (λ (v : Growing). v.entries) c.self.view_is
