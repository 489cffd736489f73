-- Which bytes are at fault, and which image all other bytes are.
use Rattle.std.specs.Prelude.{◌≡◌, ◌≢◌, ◌↔◌, ◌⊎◌, ℕ, ◌+◌, ◌-◌, ◌*◌, ◌%◌, ◌^◌, ◌<◌, nat_lt, nat_le, ◌==◌, Bool, false, not, ◌&&◌, ◌||◌, IsTrue, List, [], ◌∷◌, ◌++◌, length, map, take, replicate, count_by, sum_by, All, AllPairs, Contains, Option, Some, None}
use Rattle.std.specs.List.{list_any, HoldsAt}
use Rattle.elf_image.specs.declared.fault.ElfFault.{ElfFault}
use Rattle.elf_image.specs.declared.fault.ElfFault.TheVariants.{Short, NotElf64, Kind, Headers, Dynamic, Segment, WriteExec, Overlap, Size, Symbols, LibClash, Entry}
use Rattle.elf_image.specs.declared.linking.Linking.{Linking}
use Rattle.elf_image.specs.declared.linking.Linking.TheVariants.{Static, Dynamic as Linked}
use Rattle.elf_image.specs.declared.header.ProgramHeader.{ProgramHeader}
use Rattle.elf_image.specs.declared.header.SectionHeader.{SectionHeader}
use Rattle.elf_image.specs.declared.place.LibPlace.{LibPlace}
use Rattle.elf_image.specs.Elf.{passes_end, part, file_header, program_headers, segment_headers, symbol_table_number, is_load, is_segment, is_dynamic, is_dynamic_segment, is_interpreter, is_readable, is_writable, is_executable, holds, symbol_table, string_table}
use Rattle.elf_image.specs.Layout.{SegmentData, ImageData, IsBelow}
use Rattle.elf_image.specs.Library.{library_places}

-- ---- the faults

-- there is no whole file header
abbrev pub IsShort : List ℕ → Type 0
IsShort bytes = length bytes < 64

-- the identification isn't that of ELF, 64-bit, little-endian, version 1
abbrev pub IsNotElf64 : List ℕ → Type 0
IsNotElf64 bytes = take 7 bytes ≢ 0x7f ∷ 69 ∷ 76 ∷ 70 ∷ 2 ∷ 1 ∷ 1 ∷ []

-- not ET_EXEC, or not EM_X86_64
abbrev pub HasWrongKind : List ℕ → Type 0
HasWrongKind bytes = let file = file_header bytes in IsTrue (not (file.kind == 2) || not (file.machine == 62))

-- a table of headers that isn't empty has headers of another size, or passes the file's end
abbrev pub is_bad_table : ℕ → ℕ → ℕ → ℕ → List ℕ → Bool
is_bad_table count entsize size offset bytes = not (count == 0) && (not (entsize == size) || passes_end offset (size * count) bytes)

-- table 0 is that of the program headers, table 1 that of the sections
abbrev pub HasBadHeaders : List ℕ → ℕ → Type 0
HasBadHeaders bytes n =
    let file = file_header bytes in
    ((n ≡ 0) × IsTrue (is_bad_table file.phnum file.phentsize 56 file.phoff bytes))
    ⊎ ((n ≡ 1) × IsTrue (is_bad_table file.shnum file.shentsize 64 file.shoff bytes))

-- it asks for a dynamic linker: by any dynamic segment or interpreter, or by two dynamic segments or an interpreter alone
abbrev pub is_unlinkable : Linking → List ProgramHeader → Bool
is_unlinkable Static headers = list_any is_dynamic headers
is_unlinkable Linked headers =
    let count = count_by is_dynamic_segment headers in
    nat_lt 1 count || (count == 0 && list_any is_interpreter headers)

abbrev pub IsUnlinkable : Linking → List ℕ → Type 0
IsUnlinkable linking bytes = IsTrue (is_unlinkable linking (program_headers bytes))

-- the header of this number passes the test
abbrev pub IsHeader : (ProgramHeader → Bool) → List ProgramHeader → ℕ → Type 0
IsHeader test headers n = (n < length headers) × HoldsAt (λ h. IsTrue (test h)) headers n

-- more bytes in the file than in memory, bytes behind the file's end, or addresses above the user's half
abbrev pub is_bad_load : List ℕ → ProgramHeader → Bool
is_bad_load bytes h = is_load h && (nat_lt h.memsz h.filesz || passes_end h.offset h.filesz bytes || nat_lt (2 ^ 47) (h.vaddr + h.memsz))

abbrev pub HasBadSegment : List ℕ → ℕ → Type 0
HasBadSegment bytes n = IsHeader (is_bad_load bytes) (program_headers bytes) n

-- a segment can be both written and run
abbrev pub is_write_exec : ProgramHeader → Bool
is_write_exec h = is_segment h && (is_writable h && is_executable h)

abbrev pub HasWriteExec : List ℕ → ℕ → Type 0
HasWriteExec bytes n = IsHeader is_write_exec (program_headers bytes) n

-- the address is in the segment that the header loads
abbrev pub is_at : ℕ → ProgramHeader → Bool
is_at a h = is_segment h && holds a h

-- the segments of two headers share an address
abbrev pub Overlaps : List ProgramHeader → ℕ → ℕ → Type 0
Overlaps headers n m = (n < m) × ((a : ℕ) × IsHeader (is_at a) headers n × IsHeader (is_at a) headers m)

abbrev pub HasOverlap : List ℕ → ℕ → ℕ → Type 0
HasOverlap bytes n m = Overlaps (program_headers bytes) n m

-- the segments have more than 64 MiB
abbrev pub IsTooLarge : List ℕ → Type 0
IsTooLarge bytes = 67108864 < sum_by (λ h. h.memsz) (segment_headers bytes)

-- a symbol table that has symbols of another size, or a part of one, or passes the file's end, or has no strings in the file
abbrev pub is_bad_symbol_table : List ℕ → SectionHeader → Bool
is_bad_symbol_table bytes symbols =
    let file = file_header bytes in
    let strings = string_table bytes symbols in
    not (symbols.entsize == 24) || not (symbols.size % 24 == 0) || passes_end symbols.offset symbols.size bytes
    || nat_le file.shnum symbols.link || passes_end strings.offset strings.size bytes

abbrev pub is_bad_if_there : List ℕ → Option SectionHeader → Bool
is_bad_if_there bytes None = false
is_bad_if_there bytes (Some symbols) = is_bad_symbol_table bytes symbols

-- the symbol table is the section of this number
abbrev pub HasBadSymbols : List ℕ → ℕ → Type 0
HasBadSymbols bytes n = (n ≡ symbol_table_number bytes) × IsTrue (is_bad_if_there bytes (symbol_table bytes))

-- two different functions have one address
abbrev pub Clashes : List LibPlace → Type 0
Clashes places = (p q : LibPlace) × Contains places p × Contains places q × (p.at ≡ q.at) × (p.function ≢ q.function)

-- two different functions have this address
abbrev pub ClashesAt : List LibPlace → ℕ → Type 0
ClashesAt places a = (p q : LibPlace) × Contains places p × Contains places q × (p.at ≡ a) × (q.at ≡ a) × (p.function ≢ q.function)

-- the addresses of the functions that a dynamic linker places
abbrev pub is_kept : Linking → ℕ → Bool
is_kept Static a = false
is_kept Linked a = nat_le 0x700000fe0000 a && nat_lt a 0x700000fe0150

-- no place is at an address that is kept for a dynamic linker
abbrev pub HasNoneKept : List LibPlace → Type 0
HasNoneKept places = All (λ p. is_kept Linked p.at ≡ false) places

-- a symbol places a function at an address that is kept
abbrev pub IsKept : Linking → List LibPlace → ℕ → Type 0
IsKept linking places a = IsTrue (is_kept linking a) × ((p : LibPlace) × Contains places p × (p.at ≡ a))

-- the address is one at fault
abbrev pub IsClash : Linking → List LibPlace → ℕ → Type 0
IsClash linking places a = ClashesAt places a ⊎ IsKept linking places a

abbrev pub HasClash : Linking → List ℕ → ℕ → Type 0
HasClash linking bytes a = IsClash linking (library_places bytes) a

-- the entry is in no segment that can be run
abbrev pub HasNoEntry : List ℕ → Type 0
HasNoEntry bytes =
    let file = file_header bytes in
    IsTrue (not (list_any (λ h. is_executable h && holds file.entry h) (segment_headers bytes)))

-- exactly where each fault fits
abbrev pub Fits : Linking → List ℕ → ElfFault → Type 0
Fits linking bytes Short = IsShort bytes
Fits linking bytes NotElf64 = IsNotElf64 bytes
Fits linking bytes Kind = HasWrongKind bytes
Fits linking bytes (Headers n) = HasBadHeaders bytes n
Fits linking bytes Dynamic = IsUnlinkable linking bytes
Fits linking bytes (Segment n) = HasBadSegment bytes n
Fits linking bytes (WriteExec n) = HasWriteExec bytes n
Fits linking bytes (Overlap n m) = HasOverlap bytes n m
Fits linking bytes Size = IsTooLarge bytes
Fits linking bytes (Symbols n) = HasBadSymbols bytes n
Fits linking bytes (LibClash a) = HasClash linking bytes a
Fits linking bytes Entry = HasNoEntry bytes

-- some fault fits
abbrev pub IsFaultyAs : Linking → List ℕ → Type 0
IsFaultyAs linking bytes = (f : ElfFault) × Fits linking bytes f

-- some fault fits the bytes as those of a static program
abbrev pub IsFaulty : List ℕ → Type 0
IsFaulty bytes = IsFaultyAs Static bytes

-- ---- the image

-- the bytes that the file has, and zeros up to the size in memory
abbrev pub segment_of : List ℕ → ProgramHeader → SegmentData
segment_of bytes h = record {
  at = h.vaddr;
  size = h.memsz;
  r = is_readable h;
  w = is_writable h;
  x = is_executable h;
  bytes = part h.offset h.filesz bytes ++ replicate (h.memsz - h.filesz) 0;
}

-- the places, each once, rising by address
pub record AreInOrder (places entries : List LibPlace) : Type 0 where
  pub rising : AllPairs IsBelow entries
  pub same : (p : LibPlace) → Contains entries p ↔ Contains places p

-- the image has the file's entry, its segments in the order of their headers, and what its symbols place
pub record IsImageOf (bytes : List ℕ) (m : ImageData) : Type 0 where
  pub entry : m.entry ≡ (file_header bytes).entry
  pub segments : m.segments ≡ map (segment_of bytes) (segment_headers bytes)
  pub entries : AreInOrder (library_places bytes) m.entries
