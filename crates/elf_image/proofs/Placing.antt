-- The symbol table and what its symbols place, entry by entry.
use Rattle.std.proofs.Common.{◌≡◌, ◌≢◌, ℕ, suc, ◌+◌, ◌-◌, ◌*◌, ◌/◌, ◌<◌, ◌≤◌, true, false, eqb, List, [], ◌∷◌, ◌++◌, map, Option, Some, None, sym, refl, ◌∙◌, arith}
use Rattle.std.specs.List.{range_with_len, position_or_len, find, cons_option, filter_map}
use Rattle.std.proofs.lemmas.Bool.Decides.{nat_tests}
use Rattle.std.proofs.lemmas.List.Elements.{filter_map-append}
use Rattle.elf_image.specs.declared.header.FileHeader.{FileHeader}
use Rattle.elf_image.specs.declared.header.SectionHeader.{SectionHeader}
use Rattle.elf_image.specs.declared.header.Symbol.{Symbol}
use Rattle.elf_image.specs.declared.place.LibPlace.{LibPlace}
use Rattle.elf_image.specs.Elf.{part, table, file_header, section_header, section_headers, symbol, is_symbol_table, symbol_table, symbol_table_number, string_table, symbols_of}
use Rattle.elf_image.specs.Library.{place_of, library_places}
use Rattle.elf_image.proofs.Tables.{table_more}

-- the sections from n on
abbrev pub sections_from : List ℕ → ℕ → ℕ → ℕ → List SectionHeader
sections_from bytes shoff n count = map (λ k. section_header bytes (shoff + 64 * k)) (range_with_len n (count - n))

-- the first symbol table is the first among the sections from n on, and its number is counted from there
pub record IsFirstFrom (bytes : List ℕ) (shoff n count : ℕ) : Type 0 where
  pub table : find is_symbol_table (sections_from bytes shoff n count) ≡ symbol_table bytes
  pub number : n + position_or_len is_symbol_table (sections_from bytes shoff n count) ≡ symbol_table_number bytes

pub first_of_all : (bytes : List ℕ) (file : FileHeader) → file ≡ file_header bytes → IsFirstFrom bytes file.shoff 0 file.shnum
unfolding symbol_table symbol_table_number section_headers
first_of_all bytes file is =
    let e : file.shnum - 0 ≡ file.shnum = omega arith in
    record { table = rw (e, is) refl; number = rw (e, is) (omega arith) }

sections_split : (bytes : List ℕ) (shoff n count : ℕ) (section : SectionHeader) → n < count → section ≡ section_header bytes (shoff + 64 * n) → sections_from bytes shoff n count ≡ section ∷ sections_from bytes shoff (n + 1) count
sections_split bytes shoff n count section lt is =
    let e : count - n ≡ suc (count - (n + 1)) = omega arith in
    rw (e, ← is) refl

pub first_skips : (bytes : List ℕ) (shoff n count : ℕ) (section : SectionHeader) → n < count → section ≡ section_header bytes (shoff + 64 * n) → section.kind ≢ 2 → IsFirstFrom bytes shoff n count → IsFirstFrom bytes shoff (n + 1) count
first_skips bytes shoff n count section lt is other so_far =
    let test : eqb section.kind 2 ≡ false = grind (arith, nat_tests, other) in
    let split = sections_split bytes shoff n count section lt is in
    let table = rw (split, test) at so_far.table in
    let number = rw (split, test) at so_far.number in
    record { table = table; number = omega (arith, number) }

pub first_found : (bytes : List ℕ) (shoff n count : ℕ) (section : SectionHeader) → n < count → section ≡ section_header bytes (shoff + 64 * n) → section.kind ≡ 2 → IsFirstFrom bytes shoff n count → (Some section ≡ symbol_table bytes) × (n ≡ symbol_table_number bytes)
first_found bytes shoff n count section lt is this so_far =
    let test : eqb section.kind 2 ≡ true = grind (arith, nat_tests, this) in
    let split = sections_split bytes shoff n count section lt is in
    let table = rw (split, test) at so_far.table in
    let number = rw (split, test) at so_far.number in
    (table, omega (arith, number))

pub none_left : (bytes : List ℕ) (shoff n count : ℕ) → count ≤ n → IsFirstFrom bytes shoff n count → None ≡ symbol_table bytes
none_left bytes shoff n count past so_far =
    let e : count - n ≡ 0 = omega arith in
    rw e at so_far.table

-- the strings that a symbol table is linked to
pub strings_are : (bytes : List ℕ) (file : FileHeader) (symbols strings : SectionHeader) → file ≡ file_header bytes → strings ≡ section_header bytes (file.shoff + 64 * symbols.link) → strings ≡ string_table bytes symbols
unfolding string_table
strings_are bytes file symbols strings is at = rw (at, is) refl

-- one more symbol
pub places_more : (strings bytes : List ℕ) (offset n : ℕ) (s : Symbol) (places new : List LibPlace) → places ≡ filter_map (place_of strings) (table symbol offset 24 n bytes) → s ≡ symbol bytes (offset + 24 * n) → new ≡ places ++ cons_option (place_of strings s) [] → new ≡ filter_map (place_of strings) (table symbol offset 24 (n + 1) bytes)
places_more strings bytes offset n s places new so_far is pushed = rw (pushed, so_far, is, table_more symbol offset 24 n bytes, filter_map-append (place_of strings) (table symbol offset 24 n bytes) (symbol bytes (offset + 24 * n) ∷ [])) refl

pub all_symbols : (bytes : List ℕ) (symbols : SectionHeader) (n : ℕ) → n ≡ symbols.size / 24 → table symbol symbols.offset 24 n bytes ≡ symbols_of bytes symbols
unfolding symbols_of
all_symbols bytes symbols n is = rw is refl

pub none_placed : (bytes : List ℕ) → symbol_table bytes ≡ None → library_places bytes ≡ []
unfolding library_places
none_placed bytes none = rw none refl

pub placed : (bytes : List ℕ) (symbols : SectionHeader) → symbol_table bytes ≡ Some symbols → library_places bytes ≡ filter_map (place_of (part (string_table bytes symbols).offset (string_table bytes symbols).size bytes)) (symbols_of bytes symbols)
unfolding library_places
placed bytes symbols some = rw some refl
