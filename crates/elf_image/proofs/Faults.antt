-- Bytes of which every fault is ruled out, or every fault up to the first.
use Rattle.std.proofs.Common.{◌≡◌, ℕ, ◌+◌, ◌<◌, ◌≤◌, ◌^◌, ◌&&◌, true, false, List, [], ◌∷◌, length, get_or, count_by, Some, None, sym, refl, ◌∙◌, inl, inr, arith}
use mathlib.Core.Bool.{Bool, false≢true}
use Rattle.std.specs.List.{list_any, position}
use Rattle.std.specs.Prelude.{filter, Contains, All}
use Rattle.std.proofs.lemmas.Bool.{cases_lt}
use Rattle.std.proofs.lemmas.Bool.Decides.{nat_tests}
use Rattle.std.proofs.lemmas.Grind.{common_steps}
use Rattle.std.proofs.lemmas.List.Elements.{Contains-get_or}
use Rattle.std.proofs.lemmas.List.Folds.{list_any_at}
use Rattle.elf_image.specs.declared.fault.ElfFault.TheVariants.{Short, Headers, Segment, WriteExec, Overlap, Size, Symbols, LibClash, Entry}
use Rattle.elf_image.specs.declared.header.ProgramHeader.{ProgramHeader}
use Rattle.elf_image.specs.declared.header.SectionHeader.{SectionHeader}
use Rattle.elf_image.specs.declared.linking.Linking.{Linking}
use Rattle.elf_image.specs.declared.linking.Linking.TheVariants.{Static, Dynamic as Linked}
use Rattle.elf_image.specs.declared.place.LibPlace.{LibPlace}
use Rattle.elf_image.specs.Elf.{file_header, program_headers, segment_headers, is_segment, is_writable, is_executable, holds, symbol_table, symbol_table_number}
use Rattle.elf_image.specs.First.{IsFirstFault}
use Rattle.elf_image.specs.Layout.{ImageData}
use Rattle.elf_image.specs.Library.{library_places}
use Rattle.elf_image.specs.Loading.{IsFaulty, IsFaultyAs, IsImageOf, HasNoneKept, is_kept, is_bad_table, AreInOrder, Clashes, IsKept, HasBadHeaders, HasBadSegment, HasWriteExec, Overlaps, HasOverlap, HasClash, IsTooLarge, is_unlinkable, is_write_exec, is_at, is_bad_load, is_bad_if_there, is_bad_symbol_table}
use Rattle.elf_image.specs.Sound.{HasHeaders, HasSegments, HasLoads, SharesAddress, NoneUpTo, IsFirstClash}
use Rattle.elf_image.specs.Spans.{IsFirstOverlap}
use Rattle.elf_image.proofs.Counts.{count_two}
use Rattle.elf_image.proofs.Merging.{no_clash}
use Rattle.elf_image.proofs.Order.{no_header, by_test, all_fail, any_fails, no_header_passes, passes_first, passes_least, up_to_0, up_to_1, up_to_2, up_to_3, up_to_4, up_to_5, up_to_6, up_to_7, up_to_8, up_to_9, up_to_10, up_to_11, none_fits, first_alone, first_segment, first_write_exec, first_overlap, first_symbols, first_clash}
use Rattle.elf_image.proofs.Sharing.{two_pass, overlap_is}

-- a filter, and a test of what it keeps
any_kept : (s p : ProgramHeader → Bool) (hs : List ProgramHeader) → list_any (λ h. s h && p h) hs ≡ list_any p (filter s hs)
any_kept s p [] = refl
any_kept s p (h ∷ hs) = grind (arith, common_steps, any_kept s p hs)

count_kept : (s p : ProgramHeader → Bool) (hs : List ProgramHeader) → count_by (λ h. s h && p h) hs ≡ count_by p (filter s hs)
count_kept s p [] = refl
count_kept s p (h ∷ hs) = by_test (s h) (λ is. grind (arith, common_steps, is, count_kept s p hs)) (λ is. grind (arith, common_steps, is, count_kept s p hs))

module _ (bytes : List ℕ) where
  -- headers that can't be told apart from bad ones
  headers_good : HasHeaders bytes → (n : ℕ) → HasBadHeaders bytes n → ⊥
  headers_good headers n (inl bad) = false≢true (sym headers.programs ∙ bad.1)
  headers_good headers n (inr bad) = false≢true (sym headers.sections ∙ bad.1)

  pub headers_ruled_out : (linking : Linking) → HasHeaders bytes → NoneUpTo linking bytes 4
  headers_ruled_out linking headers =
      let zero = up_to_0 linking bytes in
      let one = up_to_1 linking bytes zero (λ h. omega (arith, headers.long, h)) in
      let two = up_to_2 linking bytes one (λ h. h headers.elf64) in
      let three = up_to_3 linking bytes two (λ h. false≢true (sym headers.kind ∙ h)) in
      up_to_4 linking bytes three (headers_good headers)

  bad_segment : list_any (is_bad_load bytes) (program_headers bytes) ≡ false → (n : ℕ) → HasBadSegment bytes n → ⊥
  bad_segment good n bad = false≢true (sym good ∙ list_any_at (is_bad_load bytes) (program_headers bytes) n no_header bad.0 (bad.1 no_header))

  write_exec : list_any (λ h. is_writable h && is_executable h) (segment_headers bytes) ≡ false → (n : ℕ) → HasWriteExec bytes n → ⊥
  unfolding segment_headers
  write_exec good n bad = false≢true (sym good ∙ sym (any_kept is_segment (λ h. is_writable h && is_executable h) (program_headers bytes)) ∙ list_any_at is_write_exec (program_headers bytes) n no_header bad.0 (bad.1 no_header))

  overlap : (SharesAddress bytes → ⊥) → (n m : ℕ) → HasOverlap bytes n m → ⊥
  unfolding segment_headers
  overlap apart n m two =
      let a = two.1.0 in
      apart (a, rw (← count_kept is_segment (holds a) (program_headers bytes)) (count_two (is_at a) (program_headers bytes) n m no_header two.0 two.1.2.0 (two.1.1.1 no_header) (two.1.2.1 no_header)))

  pub loads_ruled_out : (linking : Linking) → HasHeaders bytes → HasLoads linking bytes → NoneUpTo linking bytes 9
  loads_ruled_out linking headers loads =
      let four = headers_ruled_out linking headers in
      let five = up_to_5 linking bytes four (λ h. false≢true (sym loads.linked ∙ h)) in
      let six = up_to_6 linking bytes five (bad_segment loads.loads) in
      let seven = up_to_7 linking bytes six (write_exec loads.protected) in
      let eight = up_to_8 linking bytes seven (overlap loads.apart) in
      up_to_9 linking bytes eight loads.small

-- ---- while the headers are checked

module _ (linking : Linking) (bytes : List ℕ) (headers : HasHeaders bytes) (linked : is_unlinkable linking (program_headers bytes) ≡ false) where
  five : NoneUpTo linking bytes 5
  five = up_to_5 linking bytes (headers_ruled_out bytes linking headers) (λ h. false≢true (sym linked ∙ h))

  pub bad_load_first : (n : ℕ) → position (is_bad_load bytes) (program_headers bytes) ≡ Some n → IsFirstFault linking bytes (Segment n)
  bad_load_first n some = first_segment linking bytes n five (passes_first (is_bad_load bytes) (program_headers bytes) n some) (λ m bad. passes_least (is_bad_load bytes) (program_headers bytes) n m some bad)

  module _ (loads : position (is_bad_load bytes) (program_headers bytes) ≡ None) where
    six : NoneUpTo linking bytes 6
    six = up_to_6 linking bytes five (no_header_passes (is_bad_load bytes) (program_headers bytes) loads)

    pub write_exec_first : (n : ℕ) → position is_write_exec (program_headers bytes) ≡ Some n → IsFirstFault linking bytes (WriteExec n)
    write_exec_first n some = first_write_exec linking bytes n six (passes_first is_write_exec (program_headers bytes) n some) (λ m bad. passes_least is_write_exec (program_headers bytes) n m some bad)

    -- each segment ends in the user's half
    pub loads_canonical : All (λ h. is_segment h ≡ true → h.vaddr + h.memsz ≤ 2 ^ 47) (program_headers bytes)
    loads_canonical k d lt segment =
        let good = all_fail (is_bad_load bytes) (program_headers bytes) loads k d lt in
        grind (arith, nat_tests, good, segment)

    module _ (protected : position is_write_exec (program_headers bytes) ≡ None) where
      seven : NoneUpTo linking bytes 7
      seven = up_to_7 linking bytes six (no_header_passes is_write_exec (program_headers bytes) protected)

      pub overlap_first : (n m : ℕ) → IsFirstOverlap (program_headers bytes) n m → IsFirstFault linking bytes (Overlap n m)
      overlap_first n m is = first_overlap linking bytes n m seven is

      module _ (apart : (n m : ℕ) → Overlaps (program_headers bytes) n m → ⊥) where
        eight : NoneUpTo linking bytes 8
        eight = up_to_8 linking bytes seven apart

        pub size_first : IsTooLarge bytes → IsFirstFault linking bytes Size
        size_first large = first_alone linking bytes Size 8 refl refl refl eight large

        pub loads_are : (IsTooLarge bytes → ⊥) → HasLoads linking bytes
        unfolding segment_headers
        loads_are small = record {
          linked = linked;
          loads = any_fails (is_bad_load bytes) (program_headers bytes) loads;
          protected = sym (any_kept is_segment (λ h. is_writable h && is_executable h) (program_headers bytes)) ∙ any_fails is_write_exec (program_headers bytes) protected;
          small = small;
          apart = λ shared.
              let hs = program_headers bytes in
              let pair = two_pass (is_at shared.0) no_header hs (rw (count_kept is_segment (holds shared.0) hs) shared.1) in
              apart pair.0 pair.1 (overlap_is hs pair.0 pair.1 pair.2 pair.3 (shared.0, pair.4, pair.5));
        }

-- a static program has no address that is kept
static_clash : (bytes : List ℕ) → (Clashes (library_places bytes) → ⊥) → (a : ℕ) → HasClash Static bytes a → ⊥
static_clash bytes clash a (inl two) = clash (two.0, two.1, two.2, two.3, two.4 ∙ sym two.5, two.6)
static_clash bytes clash a (inr kept) = false≢true kept.0

pub not_faulty : (bytes : List ℕ) → HasHeaders bytes → HasSegments bytes → is_bad_if_there bytes (symbol_table bytes) ≡ false → (Clashes (library_places bytes) → ⊥) → list_any (λ h. is_executable h && holds (file_header bytes).entry h) (segment_headers bytes) ≡ true → IsFaulty bytes → ⊥
not_faulty bytes headers segments symbols clash entry =
    let loads : HasLoads Static bytes = record { linked = segments.static; loads = segments.loads; protected = segments.protected; small = segments.small; apart = segments.apart } in
    let nine = loads_ruled_out bytes Static headers loads in
    let ten = up_to_10 Static bytes nine symbols in
    let eleven = up_to_11 Static bytes ten (static_clash bytes clash) in
    none_fits Static bytes eleven (λ h. false≢true (rw entry at h))

-- ---- after the headers

module _ (linking : Linking) (bytes : List ℕ) (headers : HasHeaders bytes) (loads : HasLoads linking bytes) where
  nine : NoneUpTo linking bytes 9
  nine = loads_ruled_out bytes linking headers loads

  pub symbols_first : (n : ℕ) (table : SectionHeader) → Some table ≡ symbol_table bytes → n ≡ symbol_table_number bytes → is_bad_symbol_table bytes table ≡ true → IsFirstFault linking bytes (Symbols n)
  symbols_first n table there number bad = first_symbols linking bytes n nine (number, rw (← there) bad)

  module _ (symbols : is_bad_if_there bytes (symbol_table bytes) ≡ false) where
    ten : NoneUpTo linking bytes 10
    ten = up_to_10 linking bytes nine symbols

    pub clash_first : (a : ℕ) → IsFirstClash linking (library_places bytes) a → IsFirstFault linking bytes (LibClash a)
    clash_first a is = first_clash linking bytes a ten is.0 is.1

    module _ (entries : List LibPlace) (order : AreInOrder (library_places bytes) entries) (free : (a : ℕ) → IsKept linking (library_places bytes) a → ⊥) where
      eleven : NoneUpTo linking bytes 11
      eleven = up_to_11 linking bytes ten none
        where
          none : (a : ℕ) → HasClash linking bytes a → ⊥
          none a (inl two) = no_clash (library_places bytes) entries order (two.0, two.1, two.2, two.3, two.4 ∙ sym two.5, two.6)
          none a (inr kept) = free a kept

      pub entry_first : list_any (λ h. is_executable h && holds (file_header bytes).entry h) (segment_headers bytes) ≡ false → IsFirstFault linking bytes Entry
      entry_first runs = first_alone linking bytes Entry 11 refl refl refl eleven (rw runs refl)

      pub not_faulty_as : list_any (λ h. is_executable h && holds (file_header bytes).entry h) (segment_headers bytes) ≡ true → IsFaultyAs linking bytes → ⊥
      not_faulty_as runs = none_fits linking bytes eleven (λ h. false≢true (rw runs at h))

-- ---- what stands where no fault fits

module _ (linking : Linking) (bytes : List ℕ) (sound : IsFaultyAs linking bytes → ⊥) where
  pub is_long : 64 ≤ length bytes
  is_long = elim (cases_lt (length bytes) 64) [
    | inl short ↦ absurd (sound (Short, short))
    | inr long ↦ long
  ]

  pub programs_whole : is_bad_table (file_header bytes).phnum (file_header bytes).phentsize 56 (file_header bytes).phoff bytes ≡ false
  programs_whole = by_test (is_bad_table (file_header bytes).phnum (file_header bytes).phentsize 56 (file_header bytes).phoff bytes) (λ bad. absurd (sound (Headers 0, inl (refl, bad)))) (λ good. good)

-- no entry is at an address that is kept
pub none_kept_there : (bytes : List ℕ) (m : ImageData) → IsImageOf bytes m → (IsFaultyAs Linked bytes → ⊥) → HasNoneKept m.entries
none_kept_there bytes m is sound k d lt =
    let p = get_or m.entries k d in
    let there : Contains (library_places bytes) p = (is.entries.same p).0 (Contains-get_or m.entries k d lt) in
    by_test (is_kept Linked p.at) (λ kept. absurd (sound (LibClash p.at, inr (kept, (p, there, refl))))) (λ free. free)
