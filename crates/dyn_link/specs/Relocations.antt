-- The relocations of a file, and the names of their symbols (ELF specification, "Relocation" and "Symbol Table"; System V x86-64 psABI, 4.4.1).
use Rattle.std.specs.Prelude.{ℕ, ◌+◌, ◌*◌, ◌/◌, nat_le, ◌==◌, Bool, false, not, ◌&&◌, ◌||◌, List, [], ◌++◌, length, drop, Option, Some, None, is_some, unwrap_or}
use Rattle.std.specs.List.{list_any}
use Rattle.elf_image.specs.declared.place.Function.{Function}
use Rattle.elf_image.specs.Elf.{number_at, table}
use Rattle.elf_image.specs.Layout.{SegmentData, segment_at}
use Rattle.elf_image.specs.Library.{function_named}
use Rattle.dyn_link.specs.declared.dynamic.Dynamic.{Dynamic}
use Rattle.dyn_link.specs.declared.relocation.Relocation.{Relocation}
use Rattle.dyn_link.specs.Dynamic.{run_at, table_at}

-- the relocation at the offset: r_offset, and of r_info the type (lower half) and the symbol (upper half)
unfoldable pub relocation : List ℕ → ℕ → Relocation
relocation bytes at = record { slot = number_at 8 at bytes; kind = number_at 4 (at + 8) bytes; symbol = number_at 4 (at + 12) bytes }

-- all whole relocations of a table
unfoldable pub relocations_in : List ℕ → List Relocation
relocations_in bytes = table relocation 0 24 (length bytes / 24) bytes

-- those of DT_RELA, then those of DT_JMPREL
unfoldable pub relocations : List SegmentData → Dynamic → List Relocation
relocations segments d =
    relocations_in (unwrap_or (table_at d.rela d.relasz segments) [])
    ++ relocations_in (unwrap_or (table_at d.jmprel d.pltrelsz segments) [])

-- the strings of names
unfoldable pub strings : List SegmentData → Dynamic → List ℕ
strings segments d = unwrap_or (table_at d.strtab d.strsz segments) []

-- where the symbols begin
abbrev pub symbols_of : Dynamic → ℕ
symbols_of d = unwrap_or d.symtab 0

-- the record of a relocation's symbol, among those that begin at the address
unfoldable pub symbol_record : List SegmentData → ℕ → Relocation → Option (List ℕ)
symbol_record segments symbols r = run_at (symbols + 24 * r.symbol) 24 segments

-- the eight bytes of the slot are in one segment that can be written
abbrev pub is_slot_in : ℕ → Option SegmentData → Bool
is_slot_in a None = false
is_slot_in a (Some s) = s.w && nat_le (a + 8) (s.at + s.size)

unfoldable pub is_slot : List SegmentData → ℕ → Bool
is_slot segments a = is_slot_in a (segment_at a segments)

-- st_name, and the binding of st_info, which is STB_WEAK
unfoldable pub name_offset : List ℕ → ℕ
name_offset symbol = number_at 4 0 symbol

unfoldable pub is_weak : List ℕ → Bool
is_weak symbol = number_at 1 4 symbol / 16 == 2

-- a zero byte ends the name that stands at the offset
unfoldable pub is_ended : List ℕ → ℕ → Bool
is_ended text offset = list_any (λ b. b == 0) (drop offset text)

abbrev pub has_name : List ℕ → Option (List ℕ) → Bool
has_name text None = false
has_name text (Some symbol) = is_ended text (name_offset symbol)

-- R_X86_64_GLOB_DAT or R_X86_64_JUMP_SLOT
abbrev pub is_bound_kind : Relocation → Bool
is_bound_kind r = r.kind == 6 || r.kind == 7

-- number 16: the relocation can't be carried out
unfoldable pub is_bad_relocation : List SegmentData → List ℕ → ℕ → Relocation → Bool
is_bad_relocation segments text symbols r = not (is_bound_kind r) || not (is_slot segments r.slot) || not (has_name text (symbol_record segments symbols r))

-- the function that a relocation names
abbrev pub function_in : List ℕ → Option (List ℕ) → Option Function
function_in text None = None
function_in text (Some symbol) = function_named text (name_offset symbol)

unfoldable pub function_of : List SegmentData → List ℕ → ℕ → Relocation → Option Function
function_of segments text symbols r = function_in text (symbol_record segments symbols r)

abbrev pub is_weak_if_there : Option (List ℕ) → Bool
is_weak_if_there None = false
is_weak_if_there (Some symbol) = is_weak symbol

-- number 17: the relocation needs a name that is no function of the library, and its symbol isn't weak
unfoldable pub is_unknown : List SegmentData → List ℕ → ℕ → Relocation → Bool
is_unknown segments text symbols r = not (is_some (function_of segments text symbols r)) && not (is_weak_if_there (symbol_record segments symbols r))
