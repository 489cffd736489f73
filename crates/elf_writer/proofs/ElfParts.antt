-- Where the parts of the written file stand.
use Rattle.std.proofs.Common.{◌≡◌, ℕ, ◌+◌, ◌*◌, ◌^◌, ◌<◌, List, [], ◌∷◌, ◌++◌, length, map, sym, refl, ap, ◌∙◌, suc, arith, length-append, append_assoc}
use Rattle.std.specs.List.{flat_map}
use Rattle.std.proofs.lemmas.List.{length-map}
use Rattle.elf_image.specs.Layout.{SegmentData, ImageData, IsSegment, IsImage}
use Rattle.elf_image.specs.Elf as elf
use Rattle.elf_image.specs.Elf.{program_headers, section_headers, symbols_of, part}
use Rattle.elf_writer.specs.declared.elf.header.Section.{Section}
use Rattle.elf_writer.specs.declared.elf.field.Field.{Field}
use Rattle.elf_writer.specs.ElfField.{fields_bytes}
use Rattle.elf_writer.specs.ElfFile.{Placed, placed, contents, gap, flags_of, file_fields, program_bytes, section_bytes, symbol_bytes, strings, section_names, sections, symbols, symbols_at, strings_at, names_at, contents_at, file, CanWrite}
use Rattle.elf_writer.proofs.ElfReading.{file_reads, FileReads, program_found, section_found, length-file, length-program, length-section, length-symbol, length-table, table_found}

-- the parts in their order
unfoldable pub parts_of : ImageData → List Placed
parts_of m = placed (contents_at (length m.segments) (length m.entries)) m.segments

unfoldable pub head : ImageData → List ℕ
head m = fields_bytes (file_fields m.entry (length m.segments))

unfoldable pub programs : ImageData → List ℕ
programs m = flat_map program_bytes (parts_of m)

unfoldable pub section_list : ImageData → List Section
section_list m = sections (length m.segments) (length m.entries) (parts_of m)

unfoldable pub section_table : ImageData → List ℕ
section_table m = flat_map section_bytes (section_list m)

unfoldable pub symbol_table : ImageData → List ℕ
symbol_table m = flat_map symbol_bytes (symbols m.segments m.entries)

unfoldable pub rest : ImageData → List ℕ
rest m = contents (contents_at (length m.segments) (length m.entries)) m.segments

pub file_is : (m : ImageData) → file m ≡ head m ++ (programs m ++ (section_table m ++ (symbol_table m ++ (strings ++ (section_names ++ rest m)))))
unfolding file head programs section_table section_list symbol_table rest parts_of
file_is m = refl

length-placed : (end : ℕ) (ss : List SegmentData) → length (placed end ss) ≡ length ss
length-placed end [] = refl
length-placed end (s ∷ ss) = ap suc (length-placed (end + gap end s.at + s.size) ss)

pub length-parts_of : (m : ImageData) → length (parts_of m) ≡ length m.segments
unfolding parts_of
length-parts_of m = length-placed (contents_at (length m.segments) (length m.entries)) m.segments

pub length-section_list : (m : ImageData) → length (section_list m) ≡ length m.segments + 4
unfolding section_list sections
length-section_list m = let e = length-map (parts_of m) Rattle.elf_writer.specs.ElfFile.segment_section in omega (arith, e, length-parts_of m)

pub length-symbols : (m : ImageData) → length (symbols m.segments m.entries) ≡ length m.entries + 1
length-symbols m = omega (arith, length-map m.entries (Rattle.elf_writer.specs.ElfFile.symbol_of m.segments))

pub length-head : (m : ImageData) → length (head m) ≡ 64
unfolding head
length-head m = length-file m.entry (length m.segments)

pub length-programs : (m : ImageData) → length (programs m) ≡ 56 * length m.segments
unfolding programs
length-programs m = length-table program_bytes 56 length-program (parts_of m) ∙ ap (λ n. 56 * n) (length-parts_of m)

pub length-section_table : (m : ImageData) → length (section_table m) ≡ 64 * (length m.segments + 4)
unfolding section_table
length-section_table m = length-table section_bytes 64 length-section (section_list m) ∙ ap (λ n. 64 * n) (length-section_list m)

pub length-symbol_table : (m : ImageData) → length (symbol_table m) ≡ 24 * (length m.entries + 1)
unfolding symbol_table
length-symbol_table m = length-table symbol_bytes 24 length-symbol (symbols m.segments m.entries) ∙ ap (λ n. 24 * n) (length-symbols m)

pub length-strings : length strings ≡ 348
unfolding strings
length-strings = refl

pub length-section_names : length section_names ≡ 47
unfolding section_names
length-section_names = refl

-- ---- the file, parted in front of each part

unfoldable pub before_sections : ImageData → List ℕ
before_sections m = head m ++ programs m

unfoldable pub before_symbols : ImageData → List ℕ
before_symbols m = before_sections m ++ section_table m

unfoldable pub before_strings : ImageData → List ℕ
before_strings m = before_symbols m ++ symbol_table m

unfoldable pub before_names : ImageData → List ℕ
before_names m = before_strings m ++ strings

unfoldable pub before_rest : ImageData → List ℕ
before_rest m = before_names m ++ section_names

pub at_sections : (m : ImageData) → file m ≡ before_sections m ++ (section_table m ++ (symbol_table m ++ (strings ++ (section_names ++ rest m))))
unfolding before_sections
at_sections m = file_is m ∙ sym (append_assoc (head m) (programs m) (section_table m ++ (symbol_table m ++ (strings ++ (section_names ++ rest m)))))

pub at_symbols : (m : ImageData) → file m ≡ before_symbols m ++ (symbol_table m ++ (strings ++ (section_names ++ rest m)))
unfolding before_symbols
at_symbols m = at_sections m ∙ sym (append_assoc (before_sections m) (section_table m) (symbol_table m ++ (strings ++ (section_names ++ rest m))))

pub at_strings : (m : ImageData) → file m ≡ before_strings m ++ (strings ++ (section_names ++ rest m))
unfolding before_strings
at_strings m = at_symbols m ∙ sym (append_assoc (before_symbols m) (symbol_table m) (strings ++ (section_names ++ rest m)))

at_names : (m : ImageData) → file m ≡ before_names m ++ (section_names ++ rest m)
unfolding before_names
at_names m = at_strings m ∙ sym (append_assoc (before_strings m) strings (section_names ++ rest m))

pub at_rest : (m : ImageData) → file m ≡ before_rest m ++ rest m
unfolding before_rest
at_rest m = at_names m ∙ sym (append_assoc (before_names m) section_names (rest m))

pub length-before_sections : (m : ImageData) → length (before_sections m) ≡ 64 + 56 * length m.segments
unfolding before_sections
length-before_sections m = omega (arith, length-append (head m) (programs m), length-head m, length-programs m)

pub length-before_symbols : (m : ImageData) → length (before_symbols m) ≡ symbols_at (length m.segments)
unfolding before_symbols
length-before_symbols m = omega (arith, length-append (before_sections m) (section_table m), length-before_sections m, length-section_table m)

pub length-before_strings : (m : ImageData) → length (before_strings m) ≡ strings_at (length m.segments) (length m.entries)
unfolding before_strings
length-before_strings m = omega (arith, length-append (before_symbols m) (symbol_table m), length-before_symbols m, length-symbol_table m)

pub length-before_names : (m : ImageData) → length (before_names m) ≡ names_at (length m.segments) (length m.entries)
unfolding before_names
length-before_names m = omega (arith, length-append (before_strings m) strings, length-before_strings m, length-strings)

pub length-before_rest : (m : ImageData) → length (before_rest m) ≡ contents_at (length m.segments) (length m.entries)
unfolding before_rest
length-before_rest m = omega (arith, length-append (before_names m) section_names, length-before_names m, length-section_names)

pub length-file_is : (m : ImageData) → length (file m) ≡ contents_at (length m.segments) (length m.entries) + length (rest m)
length-file_is m = omega (arith, ap length (at_rest m), length-append (before_rest m) (rest m), length-before_rest m)

-- ---- the header of the file

pub entry_small : (m : ImageData) → IsImage m → m.entry < 2 ^ 47
entry_small m good =
    let some = good.entry in
    let s : IsSegment some.1 = rw (← some.3) (good.segments some.0 some.1 some.2) in
    omega (arith, s.canonical, some.4.1.1)

pub header_reads : (m : ImageData) → CanWrite m → FileReads (file m) m.entry (length m.segments)
unfolding head
header_reads m can =
    let reads = file_reads m.entry (length m.segments) (programs m ++ (section_table m ++ (symbol_table m ++ (strings ++ (section_names ++ rest m))))) (omega (arith, entry_small m can.image)) can.few in
    rw (file_is m) reads

-- ---- the tables

pub programs_read : (m : ImageData) → CanWrite m → program_headers (file m) ≡ map (λ p. elf.program_header (program_bytes p) 0) (parts_of m)
unfolding program_headers programs
programs_read m can =
    let header = header_reads m can in
    rw (header.phoff, header.phnum, file_is m) (table_found elf.program_header program_bytes 56 program_found length-program (parts_of m) (head m) (section_table m ++ (symbol_table m ++ (strings ++ (section_names ++ rest m)))) 64 (length m.segments) (length-head m) (length-parts_of m))

pub sections_read : (m : ImageData) → CanWrite m → section_headers (file m) ≡ map (λ s. elf.section_header (section_bytes s) 0) (section_list m)
unfolding section_headers section_table
sections_read m can =
    let header = header_reads m can in
    rw (header.shoff, header.shnum, at_sections m) (table_found elf.section_header section_bytes 64 section_found length-section (section_list m) (before_sections m) (symbol_table m ++ (strings ++ (section_names ++ rest m))) (64 + 56 * length m.segments) (length m.segments + 4) (length-before_sections m) (length-section_list m))

-- ---- the parts, appended one after another

pub assembled : (m : ImageData) (fs : List Field) (ss ns : List ℕ) (n k offset : ℕ) (start a b c d e f g : List ℕ)
    → n ≡ length m.segments → k ≡ length m.entries → offset ≡ contents_at n k → fs ≡ file_fields m.entry n → ss ≡ strings → ns ≡ section_names
    → start ≡ [] → a ≡ start ++ fields_bytes fs
    → b ≡ a ++ flat_map program_bytes (placed offset m.segments)
    → c ≡ b ++ flat_map section_bytes (sections (length m.segments) k (placed (contents_at (length m.segments) k) m.segments))
    → d ≡ c ++ flat_map symbol_bytes (symbols m.segments m.entries) → e ≡ d ++ ss → f ≡ e ++ ns → g ≡ f ++ contents (length f) m.segments → g ≡ file m
unfolding head programs section_table section_list symbol_table rest parts_of before_sections before_symbols before_strings before_names before_rest
assembled m fs ss ns n k offset start a b c d e f g n_is k_is offset_is fs_is ss_is ns_is start_is a_is b_is c_is d_is e_is f_is g_is =
    let front : f ≡ before_rest m = rw (f_is, e_is, d_is, c_is, b_is, a_is, start_is, ns_is, ss_is, fs_is, offset_is, k_is, n_is) refl in
    g_is ∙ ap (λ (xs : List ℕ). xs ++ contents (length xs) m.segments) front ∙ ap (λ (n : ℕ). before_rest m ++ contents n m.segments) (length-before_rest m) ∙ sym (at_rest m)
