use Rattle.std.proofs.Common.{◌≡◌, ℕ, ◌&&◌, true, false, List, Bool, map, refl, sym, ap, subst}
use Rattle.std.specs.List.{list_any}
use Rattle.elf_image.specs.declared.header.FileHeader.{FileHeader}
use Rattle.elf_image.specs.declared.header.ProgramHeader.{ProgramHeader}
use Rattle.elf_image.specs.Elf.{file_header, segment_headers, is_executable, holds}
use Rattle.elf_image.specs.Library.{library_places}
use Rattle.elf_image.specs.Loading.{AreInOrder, IsImageOf, segment_of}
use Rattle.elf_image.specs.Sound.{IsFirstClash}
use Rattle.elf_image.proofs.Faults.{clash_first, entry_first, not_faulty_as}
use Rattle.elf_image.proofs.Images.{loadable, image_is}
use Rattle.elf_image.proofs.loading.load_as.Goals as goal

pub returns-in-Err-2-clause-fault : goal.returns-in-Err-2-clause-fault
returns-in-Err-2-clause-fault c =
    let first : IsFirstClash c.args.linking c.in_ok-places.places.items c.in-Err-2.address = rw c.in-Err-2.is at c.in_ok-entries.ensures in
    clash_first c.args.linking c.args.bytes.now c.in-Ok.ensures.1 c.in_ok-loads.ensures.ok.1 c.in_ok-places.ensures.ok.1 c.in-Err-2.address (rw (← c.in_ok-places.ensures.ok.0) first)

-- what the test of the entry says of the bytes
runs_is : (bytes : List ℕ) (loads lent : List ProgramHeader) (file : FileHeader) (answer b : Bool) → loads ≡ segment_headers bytes → lent ≡ loads → file ≡ file_header bytes → answer ≡ list_any (λ h. is_executable h && holds file.entry h) lent → answer ≡ b → list_any (λ h. is_executable h && holds (file_header bytes).entry h) (segment_headers bytes) ≡ b
runs_is bytes loads lent file answer b loaded same header is gives = rw (← header, ← loaded, ← same, ← is) gives

pub returns-then-not-can_run-clause-fault : goal.returns-then-not-can_run-clause-fault
returns-then-not-can_run-clause-fault c =
    let bytes = c.args.bytes.now in
    let placed = c.in_ok-places.ensures.ok.0 in
    let order = rw c.in-Ok-2.is at c.in_ok-entries.ensures in
    let runs = runs_is bytes c.in_ok-loads.loads.items c.deref.result.now c.in-Ok.file c.can_run.result false c.in_ok-loads.ensures.ok.0 c.deref.ensures.value c.in-Ok.ensures.0 c.can_run.ensures c.if-not-can_run.true in
    entry_first c.args.linking bytes c.in-Ok.ensures.1 c.in_ok-loads.ensures.ok.1 c.in_ok-places.ensures.ok.1 c.in-Ok-2.entries.items (rw (← placed) order.0) (rw (← placed) order.1) runs

pub load_segments-requires : goal.load_segments-requires
load_segments-requires c = rw (c.deref-2.ensures.value, c.in_ok-loads.ensures.ok.0) (loadable c.args.linking c.args.bytes.now c.in_ok-loads.ensures.ok.1)

pub make-requires : goal.make-requires
make-requires c =
    let runs : list_any (λ (h : ProgramHeader). is_executable h && holds c.in-Ok.file.entry h) c.in_ok-loads.loads.items ≡ true = rw (← c.deref.ensures.value, ← c.can_run.ensures) c.if-not-can_run.false in
    let order = rw c.in-Ok-2.is at c.in_ok-entries.ensures in
    rw (c.in_ok-segments.ensures, c.deref-2.ensures.value) (image_is c.args.linking c.args.bytes.now c.in_ok-loads.loads.items c.in-Ok.file.entry c.in-Ok-2.entries.items c.in_ok-loads.ensures.ok.0 c.in_ok-loads.ensures.ok.1 runs order.0.rising)

pub returns-clause-ok : goal.returns-clause-ok
returns-clause-ok c =
    let bytes = c.args.bytes.now in
    let placed = c.in_ok-places.ensures.ok.0 in
    let order = rw c.in-Ok-2.is at c.in_ok-entries.ensures in
    let runs = runs_is bytes c.in_ok-loads.loads.items c.deref.result.now c.in-Ok.file c.can_run.result true c.in_ok-loads.ensures.ok.0 c.deref.ensures.value c.in-Ok.ensures.0 c.can_run.ensures c.if-not-can_run.false in
    let entries : AreInOrder (library_places bytes) c.in-Ok-2.entries.items = rw (← placed) order.0 in
    let segments : c.in_ok-segments.segments.items ≡ map (segment_of bytes) (segment_headers bytes) = rw (c.in_ok-segments.ensures, c.deref-2.ensures.value, c.in_ok-loads.ensures.ok.0) refl in (
      subst (IsImageOf bytes) (sym c.in_ok-make.ensures) (record { entry = ap (λ (f : FileHeader). f.entry) c.in-Ok.ensures.0; segments = segments; entries = entries }),
      not_faulty_as c.args.linking bytes c.in-Ok.ensures.1 c.in_ok-loads.ensures.ok.1 c.in_ok-places.ensures.ok.1 c.in-Ok-2.entries.items entries (rw (← placed) order.1) runs,
    )
