use Rattle.std.proofs.Common.{rules, ◌≡◌, List, ℕ, Result, Ok, Err, subst, ap, ◌∙◌}
use Rattle.std.specs.Prelude.{IfErr, IsErr, IsErrAnd}
use Rattle.journal_pack.specs.declared.fault.PackFault.{PackFault}
use Rattle.journal_pack.specs.Growing.{entries_of}
use Rattle.journal_pack.specs.Packed.{IsFaultAt, IsPacked}
use Rattle.journal_pack.proofs.PackedLemmas.{never_packed, of_packed, one_fault}
use Rattle.journal_pack.proofs.journal.Journal.from_bytes.Goals as goal

-- a refusal of the bytes is the only one
refused_at : {T : Type 0} (r : Result T PackFault) (bytes : List ℕ) (offset : ℕ) → IsErr r → IfErr r (λ f. IsFaultAt bytes f.offset) → IsFaultAt bytes offset → IsErrAnd r (λ f. f.offset ≡ offset)
refused_at (Ok j) bytes offset e f h = absurd (cc)
refused_at (Err f) bytes offset e fault h = one_fault bytes f.offset offset fault h

pub returns-in_err-count-clause-only : goal.returns-in_err-count-clause-only
returns-in_err-count-clause-only c = λ entries h. absurd (never_packed c.args.bytes.items entries c.in_err-count.field-0.0.offset h
    (subst (λ (t : List ℕ). IsFaultAt t c.in_err-count.field-0.0.offset) c.deref.ensures.value c.in_err-count.ensures.fault))

pub returns-in_err-count-clause-refused : goal.returns-in_err-count-clause-refused
returns-in_err-count-clause-refused c = λ offset h. refused_at c.from_residual.result c.args.bytes.items offset c.from_residual.ensures.0 (search rules) h

pub returns-clause-only : goal.returns-clause-only
returns-clause-only c = λ entries h. ap entries_of h.whole ∙ of_packed entries h.fit

pub returns-clause-refused : goal.returns-clause-refused
returns-clause-refused c = λ offset h. never_packed c.args.bytes.items (entries_of c.args.bytes.items) offset
    (subst (λ (t : List ℕ). IsPacked t (entries_of t)) c.deref.ensures.value c.in_ok-count.ensures.found.0) h
