use Rattle.std.proofs.Common.{◌≡◌, ℕ, ◌+◌, ◌≤◌, ◌^◌, true, false, List, filter, Some, None, refl, sym, ◌∙◌, ap}
use Rattle.std.specs.Prelude.{All, Bool, Option}
use Rattle.std.specs.List.{position}
use mathlib.Core.Bool.{false≢true}
use Rattle.elf_image.specs.declared.header.ProgramHeader.{ProgramHeader}
use Rattle.elf_image.specs.Elf.{is_segment, program_headers, segment_headers}
use Rattle.elf_image.specs.Loading.{is_bad_load, is_write_exec, is_unlinkable, Overlaps}
use Rattle.elf_image.specs.Spans.{IsFirstOverlap}
use Rattle.elf_image.proofs.Faults.{bad_load_first, write_exec_first, loads_canonical, overlap_first, size_first, loads_are}
use Rattle.elf_image.proofs.segments.segment_headers.Goals as goal

-- what is kept of the headers are those of the segments
kept : (bytes : List ℕ) (headers loads : List ProgramHeader) → headers ≡ program_headers bytes → loads ≡ filter is_segment headers → loads ≡ segment_headers bytes
unfolding segment_headers
kept bytes headers loads all some = rw (some, all) refl

-- a position among the headers that were read
found : (bytes : List ℕ) (headers lent : List ProgramHeader) (test : ProgramHeader → Bool) (o r : Option ℕ) → headers ≡ program_headers bytes → lent ≡ headers → r ≡ position test lent → r ≡ o → position test (program_headers bytes) ≡ o
found bytes headers lent test o r all same is answer = rw (← all, ← same, ← is) answer

pub returns-in-Some-clause-fault : goal.returns-in-Some-clause-fault
returns-in-Some-clause-fault c =
    let bytes = c.args.bytes.now in
    let all = c.in_ok-headers.ensures.same in
    let linked : is_unlinkable c.args.linking (program_headers bytes) ≡ false = rw (← all, ← c.deref.ensures.value, ← c.is_unlinkable.ensures) c.if-is_unlinkable.false in
    bad_load_first c.args.linking bytes c.requires.whole linked c.in-Some.n (found bytes c.in_ok-headers.headers.items c.deref-2.result.now (is_bad_load bytes) (Some c.in-Some.n) c.first_bad_load.result all c.deref-2.ensures.value c.first_bad_load.ensures c.in-Some.is)

pub returns-in-Some-first_write_exec-clause-fault : goal.returns-in-Some-first_write_exec-clause-fault
returns-in-Some-first_write_exec-clause-fault c =
    let bytes = c.args.bytes.now in
    let all = c.in_ok-headers.ensures.same in
    let linked : is_unlinkable c.args.linking (program_headers bytes) ≡ false = rw (← all, ← c.deref.ensures.value, ← c.is_unlinkable.ensures) c.if-is_unlinkable.false in
    let loads : position (is_bad_load bytes) (program_headers bytes) ≡ None = found bytes c.in_ok-headers.headers.items c.deref-2.result.now (is_bad_load bytes) None c.first_bad_load.result all c.deref-2.ensures.value c.first_bad_load.ensures c.in_default.is in
    write_exec_first c.args.linking bytes c.requires.whole linked loads c.in-Some-first_write_exec.n (found bytes c.in_ok-headers.headers.items c.deref-3.result.now is_write_exec (Some c.in-Some-first_write_exec.n) c.first_write_exec.result all c.deref-3.ensures.value c.first_write_exec.ensures c.in-Some-first_write_exec.is)

pub first_overlap-requires-clause-canonical : goal.first_overlap-requires-clause-canonical
first_overlap-requires-clause-canonical c =
    let bytes = c.args.bytes.now in
    let all = c.in_ok-headers.ensures.same in
    let linked : is_unlinkable c.args.linking (program_headers bytes) ≡ false = rw (← all, ← c.deref.ensures.value, ← c.is_unlinkable.ensures) c.if-is_unlinkable.false in
    let loads : position (is_bad_load bytes) (program_headers bytes) ≡ None = found bytes c.in_ok-headers.headers.items c.deref-2.result.now (is_bad_load bytes) None c.first_bad_load.result all c.deref-2.ensures.value c.first_bad_load.ensures c.in_default.is in
    rw (c.deref-4.ensures.value, all) (loads_canonical c.args.linking bytes c.requires.whole linked loads)

pub returns-in-Some-2-clause-fault : goal.returns-in-Some-2-clause-fault
returns-in-Some-2-clause-fault c =
    let bytes = c.args.bytes.now in
    let all = c.in_ok-headers.ensures.same in
    let linked : is_unlinkable c.args.linking (program_headers bytes) ≡ false = rw (← all, ← c.deref.ensures.value, ← c.is_unlinkable.ensures) c.if-is_unlinkable.false in
    let loads : position (is_bad_load bytes) (program_headers bytes) ≡ None = found bytes c.in_ok-headers.headers.items c.deref-2.result.now (is_bad_load bytes) None c.first_bad_load.result all c.deref-2.ensures.value c.first_bad_load.ensures c.in_default.is in
    let protected : position is_write_exec (program_headers bytes) ≡ None = found bytes c.in_ok-headers.headers.items c.deref-3.result.now is_write_exec None c.first_write_exec.result all c.deref-3.ensures.value c.first_write_exec.ensures c.in_default-first_write_exec.is in
    let first : IsFirstOverlap c.deref-4.result.now c.in-Some-2.n c.in-Some-2.m = rw c.in-Some-2.is at c.in_ok-n.ensures in
    overlap_first c.args.linking bytes c.requires.whole linked loads protected c.in-Some-2.n c.in-Some-2.m (rw (← all, ← c.deref-4.ensures.value) first)

pub returns-then-is_too_large-clause-fault : goal.returns-then-is_too_large-clause-fault
returns-then-is_too_large-clause-fault c =
    let bytes = c.args.bytes.now in
    let all = c.in_ok-headers.ensures.same in
    let linked : is_unlinkable c.args.linking (program_headers bytes) ≡ false = rw (← all, ← c.deref.ensures.value, ← c.is_unlinkable.ensures) c.if-is_unlinkable.false in
    let loads : position (is_bad_load bytes) (program_headers bytes) ≡ None = found bytes c.in_ok-headers.headers.items c.deref-2.result.now (is_bad_load bytes) None c.first_bad_load.result all c.deref-2.ensures.value c.first_bad_load.ensures c.in_default.is in
    let protected : position is_write_exec (program_headers bytes) ≡ None = found bytes c.in_ok-headers.headers.items c.deref-3.result.now is_write_exec None c.first_write_exec.result all c.deref-3.ensures.value c.first_write_exec.ensures c.in_default-first_write_exec.is in
    let none : (n m : ℕ) → Overlaps c.deref-4.result.now n m → ⊥ = rw c.in_default-2.is at c.in_ok-n.ensures in
    let apart : (n m : ℕ) → Overlaps (program_headers bytes) n m → ⊥ = rw (← all, ← c.deref-4.ensures.value) none in
    let same = kept bytes c.in_ok-headers.headers.items c.keep_segments-loads.result.items all c.keep_segments-loads.ensures in
    size_first c.args.linking bytes c.requires.whole linked loads protected apart (rw (← same, ← c.deref-5.ensures.value) (c.is_too_large.ensures.0 c.if-is_too_large.true))

pub returns-clause-ok : goal.returns-clause-ok
returns-clause-ok c =
    let bytes = c.args.bytes.now in
    let all = c.in_ok-headers.ensures.same in
    let linked : is_unlinkable c.args.linking (program_headers bytes) ≡ false = rw (← all, ← c.deref.ensures.value, ← c.is_unlinkable.ensures) c.if-is_unlinkable.false in
    let loads : position (is_bad_load bytes) (program_headers bytes) ≡ None = found bytes c.in_ok-headers.headers.items c.deref-2.result.now (is_bad_load bytes) None c.first_bad_load.result all c.deref-2.ensures.value c.first_bad_load.ensures c.in_default.is in
    let protected : position is_write_exec (program_headers bytes) ≡ None = found bytes c.in_ok-headers.headers.items c.deref-3.result.now is_write_exec None c.first_write_exec.result all c.deref-3.ensures.value c.first_write_exec.ensures c.in_default-first_write_exec.is in
    let none : (n m : ℕ) → Overlaps c.deref-4.result.now n m → ⊥ = rw c.in_default-2.is at c.in_ok-n.ensures in
    let apart : (n m : ℕ) → Overlaps (program_headers bytes) n m → ⊥ = rw (← all, ← c.deref-4.ensures.value) none in
    let same = kept bytes c.in_ok-headers.headers.items c.keep_segments-loads.result.items all c.keep_segments-loads.ensures in
    (same, loads_are c.args.linking bytes c.requires.whole linked loads protected apart (λ large. false≢true (sym c.if-is_too_large.false ∙ c.is_too_large.ensures.1 (rw (c.deref-5.ensures.value, same) large))))
