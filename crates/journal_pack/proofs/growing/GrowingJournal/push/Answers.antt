use Rattle.std.proofs.Common.{◌-◌, ◌∷◌, [], ◌++◌, ◌<◌, length, ap, ◌∙◌, arith, length-append}
use Rattle.journal_pack.specs.Entry.{spelling}
use Rattle.journal_pack.specs.Growing.{Growing}
use Rattle.journal_pack.proofs.EntryLemmas.{length-spelling}
use Rattle.journal_pack.proofs.PackedLemmas.{few_entries, pushed}
use Rattle.journal_pack.proofs.growing.GrowingJournal.push.Goals as goal

pub put-requires : goal.put-requires
put-requires c = record { room = omega (arith, length-spelling c.args.entry c.requires.spelling, c.self.invariant.1.fits, c.requires.room, ap (λ (v : Growing). v.spare) c.self.view_is) }

pub overflow_add-self : goal.overflow_add-self
overflow_add-self c =
    let room : 0 < c.self.inside.spare = omega (arith, c.requires.room, ap (λ (v : Growing). v.spare) c.self.view_is) in
    let some = c.self.invariant.1.begun room in
    let few = few_entries c.self.inside.bytes.items c.self.inside.count c.self.invariant.0 (omega (arith, some, c.self.inside.bytes.ok.0)) in
    omega (arith, few, c.self.inside.bytes.ok.0, c.self.inside.bytes.small)

pub invariant_of-self : goal.invariant_of-self
invariant_of-self c =
    let room : 0 < c.self.inside.spare = omega (arith, c.requires.room, ap (λ (v : Growing). v.spare) c.self.view_is) in
    let some = c.self.invariant.1.begun room in
    let more = pushed c.self.inside.bytes.items c.put.new.bytes.items c.self.inside.count c.args.entry c.self.invariant.0 (omega (arith, some, c.self.inside.bytes.ok.0)) c.requires.spelling c.put.ensures.items in
    let len = length-append c.self.inside.bytes.items (spelling c.args.entry) in (
      more.0,
      record {
        fits = omega (arith, c.self.invariant.1.fits, length-spelling c.args.entry c.requires.spelling, len, ap length c.put.ensures.items, c.put.ensures.capacity, c.self.inside.bytes.ok.0, c.put.new.bytes.ok.0);
        begun = λ _. omega (arith, some, len, ap length c.put.ensures.items, c.self.inside.bytes.ok.0, c.put.new.bytes.ok.0);
      },
    )

pub returns : goal.returns
returns c =
    let room : 0 < c.self.inside.spare = omega (arith, c.requires.room, ap (λ (v : Growing). v.spare) c.self.view_is) in
    let some = c.self.invariant.1.begun room in
    let more = pushed c.self.inside.bytes.items c.put.new.bytes.items c.self.inside.count c.args.entry c.self.invariant.0 (omega (arith, some, c.self.inside.bytes.ok.0)) c.requires.spelling c.put.ensures.items in
    let same = more.1 ∙ ap (λ (v : Growing). v.entries ++ c.args.entry ∷ []) c.self.view_is in
    λ i. record { entries = same i; spare = (c.self.view_is i).spare - 1 }
