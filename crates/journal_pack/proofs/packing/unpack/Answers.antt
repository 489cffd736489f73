use Rattle.std.proofs.Common.{◌≡◌, ◌∷◌, [], ◌++◌, refl, sym, subst, ◌∙◌, inl, List, arith}
use Rattle.journal_pack.specs.declared.entry.Entry.{Entry}
use Rattle.journal_pack.specs.Packed.{HasNoHead, spelled}
use Rattle.journal_pack.proofs.PackedLemmas.{IsRead, all_read, bad_entry, never_packed, no_body, no_bytes_left, none_read, one_fault, one_more, same_journal, some_bytes_left}
use Rattle.journal_pack.proofs.packing.unpack.Goals as goal

no_head : (c : goal.In_default) → HasNoHead c.args.bytes.now
no_head c = no_body c.args.bytes.now (sym c.in_default.ensures)

pub returns-in_default-clause-only : goal.returns-in_default-clause-only
returns-in_default-clause-only c = λ entries h. no_head c (spelled entries) h.whole

pub returns-in_default-clause-fault : goal.returns-in_default-clause-fault
returns-in_default-clause-fault c = inl (no_head c, refl)

pub returns-in_default-clause-refused : goal.returns-in_default-clause-refused
returns-in_default-clause-refused c = λ offset h. one_fault c.args.bytes.now 0 offset (inl (no_head c, refl)) h

pub loop-rest-init : goal.loop-rest-init
loop-rest-init c = subst (λ (t : List Entry). IsRead c.args.bytes.now t c.in-Some.rest.now) (sym c.new-entries.ensures.items) (none_read c.args.bytes.now c.in-Some.rest.now (sym c.in-Some.ensures))

pub returns-in_default-entry_at-clause-only : goal.returns-in_default-entry_at-clause-only
returns-in_default-entry_at-clause-only c = λ entries h.
    never_packed c.args.bytes.now entries _ h (bad_entry c.args.bytes.now c.loop-rest.entries.items c.loop-rest.rest.now c.loop-rest.invariant (sym c.in_default-entry_at.ensures)
    (some_bytes_left c.loop-rest.rest.now c.is_empty.result c.is_empty.ensures c.loop-rest-test.true))

pub returns-in_default-entry_at-clause-fault : goal.returns-in_default-entry_at-clause-fault
returns-in_default-entry_at-clause-fault c =
    bad_entry c.args.bytes.now c.loop-rest.entries.items c.loop-rest.rest.now c.loop-rest.invariant (sym c.in_default-entry_at.ensures)
    (some_bytes_left c.loop-rest.rest.now c.is_empty.result c.is_empty.ensures c.loop-rest-test.true)

pub returns-in_default-entry_at-clause-refused : goal.returns-in_default-entry_at-clause-refused
returns-in_default-entry_at-clause-refused c = λ offset h.
    one_fault c.args.bytes.now _ offset (bad_entry c.args.bytes.now c.loop-rest.entries.items c.loop-rest.rest.now c.loop-rest.invariant (sym c.in_default-entry_at.ensures)
    (some_bytes_left c.loop-rest.rest.now c.is_empty.result c.is_empty.ensures c.loop-rest-test.true)) h

pub loop-rest-smaller : goal.loop-rest-smaller
loop-rest-smaller c = (one_more c.args.bytes.now c.loop-rest.rest.now c.in-Some-entry_at.tail.now c.loop-rest.entries.items c.in-Some-entry_at.entry c.loop-rest.invariant (sym c.in-Some-entry_at.ensures)).1

pub loop-rest-preserved : goal.loop-rest-preserved
loop-rest-preserved c =
    let pushed : c.push.new.self.items ≡ c.loop-rest.entries.items ++ c.in-Some-entry_at.entry ∷ [] = grind arith in
    let more = one_more c.args.bytes.now c.loop-rest.rest.now c.in-Some-entry_at.tail.now c.loop-rest.entries.items c.in-Some-entry_at.entry c.loop-rest.invariant (sym c.in-Some-entry_at.ensures) in
    subst (λ (t : List Entry). IsRead c.args.bytes.now t c.in-Some-entry_at.tail.now) (sym pushed) more.0

pub returns-clause-only : goal.returns-clause-only
returns-clause-only c = λ entries h.
    let all = all_read c.args.bytes.now c.loop-rest.entries.items c.loop-rest.rest.now c.loop-rest.invariant (no_bytes_left c.loop-rest.rest.now c.is_empty.result c.is_empty.ensures c.loop-rest-test.false) in
    same_journal c.loop-rest.entries.items entries all.fit h.fit (sym all.whole ∙ h.whole)

pub returns-clause-refused : goal.returns-clause-refused
returns-clause-refused c = λ offset h.
    let all = all_read c.args.bytes.now c.loop-rest.entries.items c.loop-rest.rest.now c.loop-rest.invariant (no_bytes_left c.loop-rest.rest.now c.is_empty.result c.is_empty.ensures c.loop-rest-test.false) in
    never_packed c.args.bytes.now c.loop-rest.entries.items offset all h
