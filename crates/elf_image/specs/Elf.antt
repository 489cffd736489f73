-- The parts of an ELF64 file, as the ELF specification lays them out. Every number is little-endian.
use Rattle.std.specs.Prelude.{ℕ, ◌+◌, ◌*◌, ◌/◌, nat_lt, nat_le, ◌==◌, Bool, not, ◌&&◌, ◌||◌, List, length, map, filter, take, drop, find, Option, bit_and}
use Rattle.std.specs.List.{range_with_len, position_or_len}
use Rattle.std.specs.Option.{option_map}
use Rattle.byteorder.specs.Endian.{little_number}
use Rattle.elf_image.specs.declared.header.FileHeader.{FileHeader}
use Rattle.elf_image.specs.declared.header.ProgramHeader.{ProgramHeader}
use Rattle.elf_image.specs.declared.header.SectionHeader.{SectionHeader}
use Rattle.elf_image.specs.declared.header.Symbol.{Symbol}
use Rattle.elf_image.specs.declared.range.Range.{Range}

-- the number in the n bytes at the offset
unfoldable pub number_at : ℕ → ℕ → List ℕ → ℕ
number_at n offset bytes = little_number n (drop offset bytes)

-- a range of the file that isn't empty and ends behind the file's end
abbrev pub passes_end : ℕ → ℕ → List ℕ → Bool
passes_end offset size bytes = nat_lt 0 size && nat_lt (length bytes) (offset + size)

-- the bytes of a range of the file
abbrev pub part : ℕ → ℕ → List ℕ → List ℕ
part offset size bytes = take size (drop offset bytes)

-- the file header: e_type, e_machine, e_entry, e_phoff, e_shoff, e_phentsize, e_phnum, e_shentsize, e_shnum
unfoldable pub file_header : List ℕ → FileHeader
file_header bytes = record {
  kind = number_at 2 16 bytes;
  machine = number_at 2 18 bytes;
  entry = number_at 8 24 bytes;
  phoff = number_at 8 32 bytes;
  shoff = number_at 8 40 bytes;
  phentsize = number_at 2 54 bytes;
  phnum = number_at 2 56 bytes;
  shentsize = number_at 2 58 bytes;
  shnum = number_at 2 60 bytes;
}

-- the program header at the offset: p_type, p_flags, p_offset, p_vaddr, p_filesz, p_memsz
unfoldable pub program_header : List ℕ → ℕ → ProgramHeader
program_header bytes at = record {
  kind = number_at 4 at bytes;
  flags = number_at 4 (at + 4) bytes;
  offset = number_at 8 (at + 8) bytes;
  vaddr = number_at 8 (at + 16) bytes;
  filesz = number_at 8 (at + 32) bytes;
  memsz = number_at 8 (at + 40) bytes;
}

-- the section header at the offset: sh_type, sh_offset, sh_size, sh_link, sh_entsize
unfoldable pub section_header : List ℕ → ℕ → SectionHeader
section_header bytes at = record {
  kind = number_at 4 (at + 4) bytes;
  offset = number_at 8 (at + 24) bytes;
  size = number_at 8 (at + 32) bytes;
  link = number_at 4 (at + 40) bytes;
  entsize = number_at 8 (at + 56) bytes;
}

-- the symbol at the offset: st_name, st_info, st_shndx, st_value
unfoldable pub symbol : List ℕ → ℕ → Symbol
symbol bytes at = record {
  name = number_at 4 at bytes;
  info = number_at 1 (at + 4) bytes;
  section = number_at 2 (at + 6) bytes;
  value = number_at 8 (at + 8) bytes;
}

-- the entries of a table, so many of so many bytes each from the offset on
abbrev pub table : {X : Type 0} → (List ℕ → ℕ → X) → ℕ → ℕ → ℕ → List ℕ → List X
table entry offset size count bytes = map (λ n. entry bytes (offset + size * n)) (range_with_len 0 count)

unfoldable pub program_headers : List ℕ → List ProgramHeader
program_headers bytes = let file = file_header bytes in table program_header file.phoff 56 file.phnum bytes

unfoldable pub section_headers : List ℕ → List SectionHeader
section_headers bytes = let file = file_header bytes in table section_header file.shoff 64 file.shnum bytes

-- PT_LOAD; PT_DYNAMIC; PT_INTERP; one of the last two
abbrev pub is_load : ProgramHeader → Bool
is_load h = h.kind == 1

abbrev pub is_dynamic_segment : ProgramHeader → Bool
is_dynamic_segment h = h.kind == 2

abbrev pub is_interpreter : ProgramHeader → Bool
is_interpreter h = h.kind == 3

abbrev pub is_dynamic : ProgramHeader → Bool
is_dynamic h = h.kind == 2 || h.kind == 3

-- PF_R, PF_W, PF_X
abbrev pub is_readable : ProgramHeader → Bool
is_readable h = not (bit_and h.flags 4 == 0)

abbrev pub is_writable : ProgramHeader → Bool
is_writable h = not (bit_and h.flags 2 == 0)

abbrev pub is_executable : ProgramHeader → Bool
is_executable h = not (bit_and h.flags 1 == 0)

-- the address is in what the header loads
abbrev pub holds : ℕ → ProgramHeader → Bool
holds a h = nat_le h.vaddr a && nat_lt a (h.vaddr + h.memsz)

-- a segment is what a PT_LOAD header loads, if that is any byte
abbrev pub is_segment : ProgramHeader → Bool
is_segment h = is_load h && nat_lt 0 h.memsz

unfoldable pub segment_headers : List ℕ → List ProgramHeader
segment_headers bytes = filter is_segment (program_headers bytes)

-- the range of the first dynamic segment
unfoldable pub dynamic_range : List ℕ → Option Range
dynamic_range bytes = option_map (λ h. record { offset = h.offset; size = h.filesz }) (find is_dynamic_segment (program_headers bytes))

-- the first section of type SHT_SYMTAB, and its number
abbrev pub is_symbol_table : SectionHeader → Bool
is_symbol_table s = s.kind == 2

unfoldable pub symbol_table : List ℕ → Option SectionHeader
symbol_table bytes = find is_symbol_table (section_headers bytes)

unfoldable pub symbol_table_number : List ℕ → ℕ
symbol_table_number bytes = position_or_len is_symbol_table (section_headers bytes)

-- the section of the strings to which a symbol table is linked
unfoldable pub string_table : List ℕ → SectionHeader → SectionHeader
string_table bytes symbols = let file = file_header bytes in section_header bytes (file.shoff + 64 * symbols.link)

-- the symbols of a symbol table
unfoldable pub symbols_of : List ℕ → SectionHeader → List Symbol
symbols_of bytes symbols = table symbol symbols.offset 24 (symbols.size / 24) bytes
