use Rattle.std.proofs.Common.{◌≡◌, ◌∷◌, [], ◌++◌, ℕ, List, length, refl, sym, ap, subst, ◌∙◌, inl, arith, length-append}
use Rattle.journal_pack.specs.declared.entry.Entry.{Entry}
use Rattle.journal_pack.specs.Growing.{entries_of}
use Rattle.journal_pack.specs.Packed.{IsPacked}
use Rattle.journal_pack.proofs.PackedLemmas.{all_read, bad_entry, body_takes, no_body, no_bytes_left, none_read, of_packed, one_more, some_bytes_left}
use Rattle.journal_pack.proofs.journal.count_entries.Goals as goal

pub loop-rest-init : goal.loop-rest-init
loop-rest-init c =
    let parts = body_takes c.args.bytes.now c.in-Some.rest.now (sym c.in-Some.ensures) in
    record {
      before = [];
      read = none_read c.args.bytes.now c.in-Some.rest.now (sym c.in-Some.ensures);
      counted = refl;
      few = omega (arith, ap length parts);
    }

pub loop-rest-preserved : goal.loop-rest-preserved
loop-rest-preserved c =
    let e = c.in-Some-entry_at.field-0-0 in
    let before = c.loop-rest.invariant.before in
    let more = one_more c.args.bytes.now c.loop-rest.rest.now c.in-Some-entry_at.tail.now before e c.loop-rest.invariant.read (sym c.in-Some-entry_at.ensures) in
    record {
      before = before ++ e ∷ [];
      read = more.0;
      counted = omega (arith, length-append before (e ∷ []), c.loop-rest.invariant.counted);
      few = omega (arith, more.1, c.loop-rest.invariant.few);
    }

-- the entries that were read are those of the bytes
whole : (bytes : List ℕ) (before : List Entry) (count : ℕ) → IsPacked bytes before → count ≡ length before → IsPacked bytes (entries_of bytes) × (count ≡ length (entries_of bytes))
whole bytes before count h e =
    let same : before ≡ entries_of bytes = sym (ap entries_of h.whole ∙ of_packed before h.fit) in
    (subst (λ (t : List Entry). IsPacked bytes t) same h, e ∙ ap length same)

pub returns-clause-found : goal.returns-clause-found
returns-clause-found c =
    let all = all_read c.args.bytes.now c.loop-rest.invariant.before c.loop-rest.rest.now c.loop-rest.invariant.read (no_bytes_left c.loop-rest.rest.now c.is_empty.result c.is_empty.ensures c.loop-rest-test.false) in
    whole c.args.bytes.now c.loop-rest.invariant.before c.loop-rest.count all c.loop-rest.invariant.counted

pub returns-in_default-clause-fault : goal.returns-in_default-clause-fault
returns-in_default-clause-fault c = inl (no_body c.args.bytes.now (sym c.in_default.ensures), refl)

pub returns-in_default-entry_at-clause-fault : goal.returns-in_default-entry_at-clause-fault
returns-in_default-entry_at-clause-fault c =
    bad_entry c.args.bytes.now c.loop-rest.invariant.before c.loop-rest.rest.now c.loop-rest.invariant.read (sym c.in_default-entry_at.ensures)
    (some_bytes_left c.loop-rest.rest.now c.is_empty.result c.is_empty.ensures c.loop-rest-test.true)

pub loop-rest-smaller : goal.loop-rest-smaller
loop-rest-smaller c =
    (one_more c.args.bytes.now c.loop-rest.rest.now c.in-Some-entry_at.tail.now c.loop-rest.invariant.before c.in-Some-entry_at.field-0-0 c.loop-rest.invariant.read (sym c.in-Some-entry_at.ensures)).1
