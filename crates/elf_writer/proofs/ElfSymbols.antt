-- The library's places, from the written symbols.
use Rattle.std.proofs.Common.{◌≡◌, ℕ, ◌+◌, ◌^◌, ◌<◌, ◌≤◌, Bool, false, ◌&&◌, nat_lt, nat_le, ◌==◌, List, [], ◌∷◌, length, map, Option, Some, None, refl, ap, arith}
use Rattle.std.specs.Prelude.{All, unwrap_or}
use Rattle.std.specs.List.{filter_map, position}
use Rattle.std.specs.Option.{option_map}
use Rattle.std.proofs.lemmas.Bool.Decides.{nat_tests}
use Rattle.std.proofs.lemmas.List.Elements.{All-head, All-tail}
use Rattle.std.proofs.lemmas.List.Quantifiers.{position-Some}
use Rattle.elf_image.specs.Layout.{SegmentData, ImageData}
use Rattle.elf_image.specs.Library.{function_named, place_of}
use Rattle.elf_image.specs.Elf as elf
use Rattle.elf_image.specs.Elf.{part, passes_end, symbols_of, string_table, section_headers}
use Rattle.elf_image.specs.declared.place.Function.{Function}
use Rattle.elf_image.specs.declared.place.Function.TheVariants.{PthreadCreate, PthreadJoin, PthreadSelf, MutexInit, MutexLock, MutexTrylock, MutexUnlock, MutexDestroy, Bsearch, Read, Write, Exit, CondInit, CondDestroy, CondWait, CondSignal, CondBroadcast, BarrierInit, BarrierWait, BarrierDestroy, Once}
use Rattle.elf_image.specs.declared.place.LibPlace.{LibPlace}
use Rattle.elf_writer.specs.ElfFile.{name_at, symbol_bytes, symbol_fields, strings, symbol_of, section_of, symbols, no_symbol, CanWrite}
use Rattle.elf_writer.proofs.ElfReading.{SymbolReads, symbol_reads}

-- ---- one symbol

-- each function is found by its name
named : (f : Function) → function_named strings (name_at f) ≡ Some f
unfolding function_named strings
named PthreadCreate = refl
named PthreadJoin = refl
named PthreadSelf = refl
named MutexInit = refl
named MutexLock = refl
named MutexTrylock = refl
named MutexUnlock = refl
named MutexDestroy = refl
named Bsearch = refl
named Read = refl
named Write = refl
named Exit = refl
named CondInit = refl
named CondDestroy = refl
named CondWait = refl
named CondSignal = refl
named CondBroadcast = refl
named BarrierInit = refl
named BarrierWait = refl
named BarrierDestroy = refl
named Once = refl

name_small : (f : Function) → name_at f < 512
name_small PthreadCreate = omega arith
name_small PthreadJoin = omega arith
name_small PthreadSelf = omega arith
name_small MutexInit = omega arith
name_small MutexLock = omega arith
name_small MutexTrylock = omega arith
name_small MutexUnlock = omega arith
name_small MutexDestroy = omega arith
name_small Bsearch = omega arith
name_small Read = omega arith
name_small Write = omega arith
name_small Exit = omega arith
name_small CondInit = omega arith
name_small CondDestroy = omega arith
name_small CondWait = omega arith
name_small CondSignal = omega arith
name_small CondBroadcast = omega arith
name_small BarrierInit = omega arith
name_small BarrierWait = omega arith
name_small BarrierDestroy = omega arith
name_small Once = omega arith

-- a section's number by what a search for the segment gives
section_from : Option ℕ → ℕ
section_from o = unwrap_or (option_map (λ i. i + 4) o) 0xfff1

section_some : (n : ℕ) (o : Option ℕ) → n ≤ 16 → ((i : ℕ) → o ≡ Some i → i < n) → (0 < section_from o) × (section_from o < 2 ^ 16)
unfolding section_from
section_some n None few below = (omega arith, omega arith)
section_some n (Some i) few below = let lt = below i refl in (omega arith, omega arith)

section_fits : (a : ℕ) (ss : List SegmentData) → length ss ≤ 16 → (0 < section_of a ss) × (section_of a ss < 2 ^ 16)
unfolding section_of section_from
section_fits a ss few =
    let test : SegmentData → Bool = λ s. nat_le s.at a && nat_lt a (s.at + s.size) in
    section_some (length ss) (position test ss) few (λ i is. (position-Some test ss i none is).0)
  where
    none : SegmentData
    none = record { at = 0; size = 0; r = false; w = false; x = false; bytes = [] }

symbol_read : (ss : List SegmentData) (p : LibPlace) → length ss ≤ 16 → p.at < 2 ^ 64 → SymbolReads (symbol_of ss p)
unfolding symbol_of
symbol_read ss p few fits = symbol_reads (symbol_of ss p) (omega (arith, name_small p.function)) (omega arith) (section_fits p.at ss few).1 fits

placed_one : (ss : List SegmentData) (p : LibPlace) → length ss ≤ 16 → p.at < 2 ^ 64 → place_of strings (elf.symbol (symbol_bytes (symbol_of ss p)) 0) ≡ Some p
unfolding symbol_of
placed_one ss p few fits =
    let reads = symbol_read ss p few fits in
    let there = (section_fits p.at ss few).0 in
    let known : (section_of p.at ss == 0) ≡ false = grind (arith, nat_tests, there) in
    rw (reads.section, reads.info, reads.name, reads.value, known, named p.function) refl

-- ---- all symbols

all_placed : (ss : List SegmentData) (ps : List LibPlace) → length ss ≤ 16 → All (λ p. p.at < 2 ^ 64) ps → filter_map (place_of strings) (map (λ s. elf.symbol (symbol_bytes s) 0) (map (symbol_of ss) ps)) ≡ ps
all_placed ss [] few fits = refl
all_placed ss (p ∷ ps) few fits = rw (placed_one ss p few (All-head (λ p. p.at < 2 ^ 64) p ps fits)) (ap (λ (more : List LibPlace). p ∷ more) (all_placed ss ps few (All-tail (λ p. p.at < 2 ^ 64) p ps fits)))

none_placed : place_of strings (elf.symbol (symbol_bytes no_symbol) 0) ≡ None
unfolding elf.symbol elf.number_at symbol_fields no_symbol
none_placed = refl

pub places_back : (m : ImageData) → CanWrite m → filter_map (place_of strings) (map (λ s. elf.symbol (symbol_bytes s) 0) (symbols m.segments m.entries)) ≡ m.entries
places_back m can = rw none_placed (all_placed m.segments m.entries can.few can.values)
