-- The parts of the file that is written of an image: headers, symbols, strings, and the bytes of the segments.
use Rattle.std.specs.Prelude.{ℕ, ◌+◌, ◌-◌, ◌*◌, ◌%◌, ◌^◌, ◌<◌, ◌≤◌, All, nat_lt, nat_le, ◌&&◌, if◌then◌else◌, List, [], ◌∷◌, ◌++◌, length, map, replicate, codes, unwrap_or}
use Rattle.std.specs.List.{flat_map, position}
use Rattle.std.specs.Option.{option_map}
use Rattle.elf_image.specs.Layout.{SegmentData, ImageData, IsImage}
use Rattle.elf_image.specs.Library.{name_of, functions}
use Rattle.elf_image.specs.declared.place.Function.{Function}
use Rattle.elf_image.specs.declared.place.Function.TheVariants.{PthreadCreate, PthreadJoin, PthreadSelf, MutexInit, MutexLock, MutexTrylock, MutexUnlock, MutexDestroy, Bsearch, Read, Write, Exit, CondInit, CondDestroy, CondWait, CondSignal, CondBroadcast, BarrierInit, BarrierWait, BarrierDestroy, Once}
use Rattle.elf_image.specs.declared.place.LibPlace.{LibPlace}
use Rattle.elf_writer.specs.declared.elf.field.Field.{Field}
use Rattle.elf_writer.specs.declared.elf.field.Field.TheVariants.{Byte, Half, Word, Xword}
use Rattle.elf_writer.specs.declared.elf.header.Section.{Section}
use Rattle.elf_writer.specs.declared.elf.header.Symbol.{Symbol}
use Rattle.elf_writer.specs.ElfField.{fields_bytes}

-- ---- where the segments' bytes stand

-- how many zeros bring an offset in step with an address, modulo a page
unfoldable pub gap : ℕ → ℕ → ℕ
gap end at = (at % 4096 + 4096 - end % 4096) % 4096

-- a segment, and the offset of its bytes
pub record Placed : Type 0 where
  pub offset : ℕ
  pub segment : SegmentData

-- each segment behind the one before it, the first from the offset on
abbrev pub placed : ℕ → List SegmentData → List Placed
placed end [] = []
placed end (s ∷ rest) = record { offset = end + gap end s.at; segment = s } ∷ placed (end + gap end s.at + s.size) rest

-- their bytes, from the offset on
abbrev pub contents : ℕ → List SegmentData → List ℕ
contents end [] = []
contents end (s ∷ rest) = replicate (gap end s.at) 0 ++ (s.bytes ++ contents (end + gap end s.at + s.size) rest)

-- ---- headers

-- ELF, 64-bit, little-endian, version 1; ET_EXEC, EM_X86_64, version 1; the entry, the tables' offsets, no flags; sizes and counts, and the section of the sections' names
unfoldable pub file_fields : ℕ → ℕ → List Field
file_fields entry n =
    Word 0x464c_457f ∷ Byte 2 ∷ Byte 1 ∷ Byte 1 ∷ Byte 0 ∷ Xword 0
    ∷ Half 2 ∷ Half 62 ∷ Word 1 ∷ Xword entry ∷ Xword 64 ∷ Xword (64 + 56 * n) ∷ Word 0
    ∷ Half 64 ∷ Half 56 ∷ Half n ∷ Half 64 ∷ Half (n + 4) ∷ Half 3 ∷ []

-- PF_R, PF_W, PF_X
unfoldable pub flags_of : SegmentData → ℕ
flags_of s = (if s.r then 4 else 0) + (if s.w then 2 else 0) + (if s.x then 1 else 0)

-- PT_LOAD, rights, offset, addresses, sizes, a page
unfoldable pub program_fields : Placed → List Field
program_fields p =
    Word 1 ∷ Word (flags_of p.segment) ∷ Xword p.offset ∷ Xword p.segment.at ∷ Xword p.segment.at
    ∷ Xword p.segment.size ∷ Xword p.segment.size ∷ Xword 4096 ∷ []

unfoldable pub section_fields : Section → List Field
section_fields s =
    Word s.name ∷ Word s.kind ∷ Xword s.flags ∷ Xword s.at ∷ Xword s.offset
    ∷ Xword s.size ∷ Word s.link ∷ Word s.info ∷ Xword s.align ∷ Xword s.entsize ∷ []

-- st_other and st_size are 0
unfoldable pub symbol_fields : Symbol → List Field
symbol_fields s = Word s.name ∷ Byte s.info ∷ Byte 0 ∷ Half s.section ∷ Xword s.value ∷ Xword 0 ∷ []

abbrev pub program_bytes : Placed → List ℕ
program_bytes p = fields_bytes (program_fields p)

abbrev pub section_bytes : Section → List ℕ
section_bytes s = fields_bytes (section_fields s)

abbrev pub symbol_bytes : Symbol → List ℕ
symbol_bytes s = fields_bytes (symbol_fields s)

-- ---- strings

-- the names of the functions, each behind a zero
unfoldable pub strings : List ℕ
strings = 0 ∷ flat_map (λ f. name_of f ++ 0 ∷ []) functions

-- where a function's name stands in them
abbrev pub name_at : Function → ℕ
name_at PthreadCreate = 1
name_at PthreadJoin = 16
name_at PthreadSelf = 29
name_at MutexInit = 42
name_at MutexLock = 61
name_at MutexTrylock = 80
name_at MutexUnlock = 102
name_at MutexDestroy = 123
name_at Bsearch = 145
name_at Read = 153
name_at Write = 158
name_at Exit = 164
name_at CondInit = 169
name_at CondDestroy = 187
name_at CondWait = 208
name_at CondSignal = 226
name_at CondBroadcast = 246
name_at BarrierInit = 269
name_at BarrierWait = 290
name_at BarrierDestroy = 311
name_at Once = 335

-- the names of the sections: at 1, 9, 17, 27, 33 and 39
unfoldable pub section_names : List ℕ
section_names = 0 ∷ flat_map (λ name. name ++ 0 ∷ []) (codes ".symtab" ∷ codes ".strtab" ∷ codes ".shstrtab" ∷ codes ".text" ∷ codes ".data" ∷ codes ".rodata" ∷ [])

-- ---- sections

abbrev pub symbols_at : ℕ → ℕ
symbols_at n = 320 + 120 * n

abbrev pub strings_at : ℕ → ℕ → ℕ
strings_at n k = symbols_at n + 24 * (k + 1)

abbrev pub names_at : ℕ → ℕ → ℕ
names_at n k = strings_at n k + 348

abbrev pub contents_at : ℕ → ℕ → ℕ
contents_at n k = names_at n k + 47

-- the section that isn't one
unfoldable pub no_section : Section
no_section = record { name = 0; kind = 0; flags = 0; at = 0; offset = 0; size = 0; link = 0; info = 0; align = 0; entsize = 0 }

-- SHT_SYMTAB: so many symbols, the first of them local, with the strings of section 2
unfoldable pub symbol_section : ℕ → ℕ → Section
symbol_section offset count = record { name = 1; kind = 2; flags = 0; at = 0; offset = offset; size = 24 * count; link = 2; info = 1; align = 8; entsize = 24 }

-- SHT_STRTAB
unfoldable pub string_section : ℕ → ℕ → ℕ → Section
string_section name offset size = record { name = name; kind = 3; flags = 0; at = 0; offset = offset; size = size; link = 0; info = 0; align = 1; entsize = 0 }

-- SHT_PROGBITS with SHF_ALLOC, and SHF_WRITE and SHF_EXECINSTR by the segment's rights
unfoldable pub segment_section : Placed → Section
segment_section p =
    let s = p.segment in
    record {
      name = if s.x then 27 else (if s.w then 33 else 39);
      kind = 1;
      flags = 2 + (if s.w then 1 else 0) + (if s.x then 4 else 0);
      at = s.at;
      offset = p.offset;
      size = s.size;
      link = 0;
      info = 0;
      align = 1;
      entsize = 0;
    }

unfoldable pub sections : ℕ → ℕ → List Placed → List Section
sections n k parts =
    no_section
    ∷ symbol_section (symbols_at n) (k + 1)
    ∷ string_section 9 (strings_at n k) 348
    ∷ string_section 17 (names_at n k) 47
    ∷ map segment_section parts

-- ---- symbols

unfoldable pub no_symbol : Symbol
no_symbol = record { name = 0; info = 0; section = 0; value = 0 }

-- the section of the segment that has the address, else SHN_ABS
unfoldable pub section_of : ℕ → List SegmentData → ℕ
section_of a segments = unwrap_or (option_map (λ i. i + 4) (position (λ s. nat_le s.at a && nat_lt a (s.at + s.size)) segments)) 0xfff1

-- STB_GLOBAL and STT_FUNC
unfoldable pub symbol_of : List SegmentData → LibPlace → Symbol
symbol_of segments p = record { name = name_at p.function; info = 0x12; section = section_of p.at segments; value = p.at }

abbrev pub symbols : List SegmentData → List LibPlace → List Symbol
symbols segments places = no_symbol ∷ map (symbol_of segments) places

-- ---- the file

unfoldable pub file : ImageData → List ℕ
file m =
    let n = length m.segments in
    let k = length m.entries in
    let parts = placed (contents_at n k) m.segments in
    fields_bytes (file_fields m.entry n)
    ++ (flat_map program_bytes parts
    ++ (flat_map section_bytes (sections n k parts)
    ++ (flat_map symbol_bytes (symbols m.segments m.entries)
    ++ (strings
    ++ (section_names
    ++ contents (contents_at n k) m.segments)))))

-- the image has at most 16 segments, and its numbers fit the file's fields
pub record CanWrite (m : ImageData) : Type 0 where
  pub image : IsImage m
  pub few : length m.segments ≤ 16
  pub values : All (λ p. p.at < 2 ^ 64) m.entries
  pub room : 24 * (length m.entries + 1) ≤ 3 * 2 ^ 62
