-- The written file is one of its image, and has no fault.
use Rattle.std.proofs.Common.{◌≡◌, ℕ, ◌+◌, ◌*◌, ◌/◌, ◌%◌, ◌^◌, ◌<◌, ◌≤◌, false, List, [], ◌∷◌, ◌++◌, length, map, get_or, Some, sym, refl, ap, ◌∙◌, arith, length-append, append_assoc, inl, inr}
use Rattle.std.specs.Prelude.{All, AllPairs, Result, Ok, Err, IfOk, OnOk}
use Rattle.std.specs.List.{flat_map}
use Rattle.std.proofs.lemmas.Bool.{cases_lt}
use Rattle.std.proofs.lemmas.Bool.Decides.{nat_tests}
use Rattle.std.proofs.lemmas.List.{get_or_default}
use Rattle.elf_image.specs.Layout.{SegmentData, ImageData, IsImage, IsBelow}
use Rattle.elf_image.specs.Library.{library_places}
use Rattle.elf_image.specs.Elf as elf
use Rattle.elf_image.specs.Elf.{part, passes_end}
use Rattle.elf_image.specs.Loading.{IsFaulty, IsImageOf, Clashes, is_bad_if_there}
use Rattle.elf_image.specs.Sound.{HasHeaders}
use Rattle.elf_image.specs.declared.place.LibPlace.{LibPlace}
use Rattle.elf_image.proofs.Faults.{not_faulty}
use Rattle.elf_writer.specs.PageAligned.{IsPageAligned}
use Rattle.elf_writer.specs.ElfFile.{placed, gap, section_bytes, symbol_bytes, strings, section_names, sections, file_fields, section_fields, no_section, symbol_section, string_section, segment_section, symbols, symbols_at, strings_at, names_at, contents_at, file, CanWrite}
use Rattle.elf_writer.proofs.ElfReading.{part_found, section_found, symbol_found, section_reads, length-section, length-symbol, table_found}
use Rattle.elf_writer.proofs.ElfParts.{head, section_list, section_table, symbol_table, rest, parts_of, before_sections, before_symbols, before_strings, before_rest, at_sections, at_symbols, at_strings, at_rest, file_is, header_reads, programs_read, sections_read, length-before_sections, length-before_symbols, length-before_strings, length-before_rest, length-file_is, length-symbols, length-strings}
use Rattle.elf_writer.proofs.ElfSegments.{IsPlaced, all_placed, segments_are, segments_sound, entry_found, all_aligned}
use Rattle.elf_writer.proofs.ElfSymbols.{places_back}

-- ---- the symbol table and its strings

-- what is read of the header of a symbol table
record ReadsSymbols (offset count : ℕ) : Type 0 where
  at : (elf.section_header (section_bytes (symbol_section offset count)) 0).offset ≡ offset
  size : (elf.section_header (section_bytes (symbol_section offset count)) 0).size ≡ 24 * count
  link : (elf.section_header (section_bytes (symbol_section offset count)) 0).link ≡ 2
  entsize : (elf.section_header (section_bytes (symbol_section offset count)) 0).entsize ≡ 24

reads_symbols : (offset count : ℕ) → offset < 2 ^ 64 → 24 * count < 2 ^ 64 → ReadsSymbols offset count
unfolding symbol_section
reads_symbols offset count at fits =
    let reads = section_reads (symbol_section offset count) (omega arith) at fits (omega arith) (omega arith) in
    record { at = reads.offset; size = reads.size; link = reads.link; entsize = reads.entsize }

reads_strings : (name offset size : ℕ) → offset < 2 ^ 64 → size < 2 ^ 64 → ((elf.section_header (section_bytes (string_section name offset size)) 0).offset ≡ offset) × ((elf.section_header (section_bytes (string_section name offset size)) 0).size ≡ size)
unfolding string_section
reads_strings name offset size at fits =
    let reads = section_reads (string_section name offset size) (omega arith) at fits (omega arith) (omega arith) in
    (reads.offset, reads.size)

regroup : (b x y t more tail : List ℕ) → b ++ ((x ++ (y ++ (t ++ more))) ++ tail) ≡ (b ++ (x ++ y)) ++ (t ++ (more ++ tail))
regroup b x y t more tail = simp append_assoc

-- two places with one address are one place
no_clash : (ps : List LibPlace) → AllPairs IsBelow ps → Clashes ps → ⊥
no_clash ps rising (p, q, (i, i_lt, at_i), (j, j_lt, at_j), same, other) =
    let p_below : i < j → p.at < q.at = λ lt. let r = rising i j p lt j_lt in let e : get_or ps j p ≡ q = get_or_default ps j p q j_lt ∙ at_j in rw (← at_i, ← e) r in
    let q_below : j < i → q.at < p.at = λ lt. let r = rising j i q lt i_lt in let e : get_or ps i q ≡ p = get_or_default ps i q p i_lt ∙ at_i in rw (← at_j, ← e) r in
    let same_index : i ≡ j = elim (cases_lt i j) [
      | inl lt ↦ absurd (omega (arith, p_below lt, same))
      | inr le ↦ elim (cases_lt j i) [
        | inl gt ↦ absurd (omega (arith, q_below gt, same))
        | inr ge ↦ omega arith
      ]
    ] in
    let e : p ≡ q = sym at_i ∙ ap (λ (x : ℕ). get_or ps x p) same_index ∙ get_or_default ps j p q j_lt ∙ at_j in
    other (ap (λ (x : LibPlace). x.function) e)

module _ (m : ImageData) (can : CanWrite m) where
  table_is : elf.symbol_table (file m) ≡ Some (elf.section_header (section_bytes (symbol_section (symbols_at (length m.segments)) (length m.entries + 1))) 0)
  unfolding elf.symbol_table elf.section_header elf.number_at section_list sections section_fields no_section symbol_section
  table_is = rw (sections_read m can) refl

  table_reads : ReadsSymbols (symbols_at (length m.segments)) (length m.entries + 1)
  table_reads = let few = can.few in let room = can.room in reads_symbols (symbols_at (length m.segments)) (length m.entries + 1) (omega arith) (omega arith)

  strings_are : elf.string_table (file m) (elf.section_header (section_bytes (symbol_section (symbols_at (length m.segments)) (length m.entries + 1))) 0) ≡ elf.section_header (section_bytes (string_section 9 (strings_at (length m.segments) (length m.entries)) 348)) 0
  unfolding elf.string_table section_table section_list sections
  strings_are =
      let header = header_reads m can in
      let reads = table_reads in
      let none = section_bytes no_section in
      let these = section_bytes (symbol_section (symbols_at (length m.segments)) (length m.entries + 1)) in
      let found = section_bytes (string_section 9 (strings_at (length m.segments) (length m.entries)) 348) in
      let more = section_bytes (string_section 17 (names_at (length m.segments) (length m.entries)) 47) ++ flat_map section_bytes (map segment_section (parts_of m)) in
      let tail = symbol_table m ++ (strings ++ (section_names ++ rest m)) in
      let split : file m ≡ (before_sections m ++ (none ++ these)) ++ (found ++ (more ++ tail)) = at_sections m ∙ regroup (before_sections m) none these found more tail in
      let front : length (before_sections m ++ (none ++ these)) ≡ 64 + 56 * length m.segments + 128 = omega (arith, length-append (before_sections m) (none ++ these), length-append none these, length-before_sections m, length-section no_section, length-section (symbol_section (symbols_at (length m.segments)) (length m.entries + 1))) in
      rw (header.shoff, reads.link, split, ← front) (section_found (string_section 9 (strings_at (length m.segments) (length m.entries)) 348) (before_sections m ++ (none ++ these)) (more ++ tail))

  strings_read : ((elf.section_header (section_bytes (string_section 9 (strings_at (length m.segments) (length m.entries)) 348)) 0).offset ≡ strings_at (length m.segments) (length m.entries)) × ((elf.section_header (section_bytes (string_section 9 (strings_at (length m.segments) (length m.entries)) 348)) 0).size ≡ 348)
  strings_read = let few = can.few in let room = can.room in reads_strings 9 (strings_at (length m.segments) (length m.entries)) 348 (omega arith) (omega arith)

  strings_found : part (strings_at (length m.segments) (length m.entries)) 348 (file m) ≡ strings
  strings_found = ap (part (strings_at (length m.segments) (length m.entries)) 348) (at_strings m) ∙ part_found (before_strings m) strings (section_names ++ rest m) (strings_at (length m.segments) (length m.entries)) 348 (length-before_strings m) length-strings

  symbols_read : elf.symbols_of (file m) (elf.section_header (section_bytes (symbol_section (symbols_at (length m.segments)) (length m.entries + 1))) 0) ≡ map (λ s. elf.symbol (symbol_bytes s) 0) (symbols m.segments m.entries)
  unfolding elf.symbols_of symbol_table
  symbols_read =
      let reads = table_reads in
      let count : length (symbols m.segments m.entries) ≡ 24 * (length m.entries + 1) / 24 = omega (arith, length-symbols m) in
      rw (reads.at, reads.size, at_symbols m) (table_found elf.symbol symbol_bytes 24 symbol_found length-symbol (symbols m.segments m.entries) (before_symbols m) (strings ++ (section_names ++ rest m)) (symbols_at (length m.segments)) (24 * (length m.entries + 1) / 24) (length-before_symbols m) count)

  places_are : library_places (file m) ≡ m.entries
  unfolding library_places
  places_are = rw (table_is, strings_are, strings_read.0, strings_read.1, strings_found, symbols_read) (places_back m can)

  symbols_good : is_bad_if_there (file m) (elf.symbol_table (file m)) ≡ false
  symbols_good =
      let header = header_reads m can in
      let reads = table_reads in
      let long = length-file_is m in
      let whole : 24 * (length m.entries + 1) % 24 ≡ 0 = omega arith in
      rw (table_is, strings_are, reads.entsize, reads.size, reads.at, reads.link, header.shnum, strings_read.0, strings_read.1, whole) (grind (arith, nat_tests, long))

  headers_good : HasHeaders (file m)
  unfolding head file_fields
  headers_good =
      let header = header_reads m can in
      let long = length-file_is m in
      record {
        long = omega (arith, long);
        elf64 = rw (file_is m) refl;
        kind = rw (header.kind, header.machine) refl;
        programs = rw (header.phnum, header.phentsize, header.phoff) (grind (arith, nat_tests, long));
        sections = rw (header.shnum, header.shentsize, header.shoff) (grind (arith, nat_tests, long));
      }

  parts_placed : All (IsPlaced (file m)) (parts_of m)
  unfolding parts_of rest
  parts_placed = let few = can.few in let room = can.room in all_placed m.segments (before_rest m) (file m) (contents_at (length m.segments) (length m.entries)) (at_rest m) (length-before_rest m) can.image.segments (omega arith)

  segments_of_parts : map (λ p. p.segment) (parts_of m) ≡ m.segments
  unfolding parts_of
  segments_of_parts = segments_of (contents_at (length m.segments) (length m.entries)) m.segments
    where
      segments_of : (end : ℕ) (ss : List SegmentData) → map (λ p. p.segment) (placed end ss) ≡ ss
      segments_of end [] = refl
      segments_of end (s ∷ ss) = ap (λ (more : List SegmentData). s ∷ more) (segments_of (end + gap end s.at + s.size) ss)

  pub file_sound : IsFaulty (file m) → ⊥
  file_sound =
      let good = can.image in
      not_faulty (file m) headers_good
      (segments_sound (file m) (parts_of m) m.segments (programs_read m can) parts_placed segments_of_parts good.apart good.size)
      symbols_good
      (λ clash. no_clash m.entries good.rising (rw places_are at clash))
      (rw (header_reads m can).entry (entry_found (file m) (parts_of m) m.segments (programs_read m can) parts_placed segments_of_parts m.entry good.entry))

  pub file_image : IsImageOf (file m) m
  file_image = record {
    entry = sym (header_reads m can).entry;
    segments = sym (segments_are (file m) (parts_of m) m.segments (programs_read m can) parts_placed segments_of_parts);
    entries = rw places_are (record { rising = can.image.rising; same = λ p. (λ h. h, λ h. h) });
  }

  pub file_aligned : IsPageAligned (file m)
  file_aligned = all_aligned (file m) (parts_of m) m.segments (programs_read m can) parts_placed segments_of_parts

-- ---- by the writer's answer

module _ (m written : ImageData) (same : written ≡ m) (good : IsImage m) (few : length m.segments ≤ 16) (room : 24 * (length written.entries + 1) ≤ 3 * 2 ^ 62) where
  can_write : All (λ p. p.at < 2 ^ 64) written.entries → CanWrite written
  can_write values = record { image = rw same good; few = rw same few; values = values; room = room }

  pub image_written : {V E : Type 0} (items : V → List ℕ) (r : Result V E) → IfOk r (λ v. items v ≡ file written) → OnOk r (All (λ p. p.at < 2 ^ 64) written.entries) → IfOk r (λ v. IsImageOf (items v) m)
  image_written items (Ok v) bytes values = rw (bytes, ← same) (file_image written (can_write values))
  image_written items (Err e) bytes values = tt

  pub sound_written : {V E : Type 0} (items : V → List ℕ) (r : Result V E) → IfOk r (λ v. items v ≡ file written) → OnOk r (All (λ p. p.at < 2 ^ 64) written.entries) → IfOk r (λ v. ¬ IsFaulty (items v))
  sound_written items (Ok v) bytes values = rw bytes (file_sound written (can_write values))
  sound_written items (Err e) bytes values = tt

  pub aligned_written : {V E : Type 0} (items : V → List ℕ) (r : Result V E) → IfOk r (λ v. items v ≡ file written) → OnOk r (All (λ p. p.at < 2 ^ 64) written.entries) → IfOk r (λ v. IsPageAligned (items v))
  aligned_written items (Ok v) bytes values = rw bytes (file_aligned written (can_write values))
  aligned_written items (Err e) bytes values = tt
