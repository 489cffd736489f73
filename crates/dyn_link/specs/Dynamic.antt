-- The dynamic segment of a file, and the tables that it names (ELF specification, "Dynamic Section").
use Rattle.std.specs.Prelude.{ℕ, ◌+◌, ◌-◌, ◌/◌, ◌%◌, nat_lt, nat_le, ◌==◌, Bool, false, not, ◌&&◌, ◌||◌, if◌then◌else◌, List, [], ◌∷◌, take, drop, find, count_by, Option, Some, None, is_some, IsTrue}
use Rattle.std.specs.List.{list_any, position_or_len}
use Rattle.std.specs.Option.{option_map}
use Rattle.elf_image.specs.declared.range.Range.{Range}
use Rattle.elf_image.specs.Elf.{number_at, table, passes_end}
use Rattle.elf_image.specs.Layout.{SegmentData, segment_at}
use Rattle.dyn_link.specs.declared.dynamic.Tagged.{Tagged}
use Rattle.dyn_link.specs.declared.dynamic.Dynamic.{Dynamic}

-- ---- the entries

-- the entry at the offset: d_tag, d_val
unfoldable pub tagged : List ℕ → ℕ → Tagged
tagged bytes at = record { tag = number_at 8 at bytes; value = number_at 8 (at + 8) bytes }

-- all whole entries of the segment
unfoldable pub entries_of : List ℕ → Range → List Tagged
entries_of bytes range = table tagged range.offset 16 (range.size / 16) bytes

-- DT_NULL
abbrev pub is_end : Tagged → Bool
is_end e = e.tag == 0

-- those before the first DT_NULL
abbrev pub before_end : List Tagged → List Tagged
before_end entries = take (position_or_len is_end entries) entries

abbrev pub has_tag : ℕ → Tagged → Bool
has_tag t e = e.tag == t

-- what the first entry with the tag says
abbrev pub value_of : ℕ → List Tagged → Option ℕ
value_of t entries = option_map (λ e. e.value) (find (has_tag t) entries)

-- DT_PLTRELSZ, DT_STRTAB, DT_SYMTAB, DT_RELA, DT_RELASZ, DT_RELAENT, DT_STRSZ, DT_SYMENT, DT_PLTREL, DT_JMPREL
abbrev pub tags : List ℕ
tags = 2 ∷ 5 ∷ 6 ∷ 7 ∷ 8 ∷ 9 ∷ 10 ∷ 11 ∷ 20 ∷ 23 ∷ []

abbrev pub occurs_twice : List Tagged → ℕ → Bool
occurs_twice entries t = nat_lt 1 (count_by (has_tag t) entries)

unfoldable pub dynamic_of : List Tagged → Dynamic
dynamic_of entries = record {
  pltrelsz = value_of 2 entries;
  strtab = value_of 5 entries;
  symtab = value_of 6 entries;
  rela = value_of 7 entries;
  relasz = value_of 8 entries;
  relaent = value_of 9 entries;
  strsz = value_of 10 entries;
  syment = value_of 11 entries;
  pltrel = value_of 20 entries;
  jmprel = value_of 23 entries;
}

-- ---- the tables

abbrev pub is_value : ℕ → Option ℕ → Bool
is_value n None = false
is_value n (Some m) = m == n

-- the number that is there is no multiple of a relocation's 24 bytes
abbrev pub is_uneven : Option ℕ → Bool
is_uneven None = false
is_uneven (Some size) = not (size % 24 == 0)

-- the size of a table that is there
abbrev pub size_of : Option ℕ → Option ℕ → ℕ
size_of None size = 0
size_of (Some at) None = 0
size_of (Some at) (Some size) = size

-- a table is without its size or has entries of another kind, or a size is no multiple of an entry's
abbrev pub has_bad_sizes : Dynamic → Bool
has_bad_sizes d =
    (is_some d.rela && (not (is_some d.relasz) || not (is_value 24 d.relaent)))
    || (is_some d.jmprel && (not (is_some d.pltrelsz) || not (is_value 7 d.pltrel)))
    || is_uneven d.relasz || is_uneven d.pltrelsz

-- some relocation is there
abbrev pub has_relocations : Dynamic → Bool
has_relocations d = nat_lt 0 (size_of d.rela d.relasz) || nat_lt 0 (size_of d.jmprel d.pltrelsz)

-- names or symbols that relocations need aren't there
abbrev pub lacks_names : Dynamic → Bool
lacks_names d = not (is_some d.strtab) || not (is_some d.strsz) || not (is_some d.symtab) || not (is_value 24 d.syment)

-- the n bytes from an address on, where one segment has all of them
abbrev pub run_in : ℕ → ℕ → Option SegmentData → Option (List ℕ)
run_in a n None = None
run_in a n (Some s) = if nat_le (a + n) (s.at + s.size) then Some (take n (drop (a - s.at) s.bytes)) else None

unfoldable pub run_at : ℕ → ℕ → List SegmentData → Option (List ℕ)
run_at a n segments = run_in a n (segment_at a segments)

-- the bytes of a table, of which there are none where it isn't there or is empty; None where one segment hasn't all of them
abbrev pub table_at : Option ℕ → Option ℕ → List SegmentData → Option (List ℕ)
table_at None size segments = Some []
table_at (Some at) None segments = Some []
table_at (Some at) (Some size) segments = if size == 0 then Some [] else run_at at size segments

unfoldable pub lacks_table : List SegmentData → Dynamic → Bool
lacks_table segments d =
    not (is_some (table_at d.rela d.relasz segments)) || not (is_some (table_at d.jmprel d.pltrelsz segments))
    || not (is_some (table_at d.strtab d.strsz segments))

-- ---- number 15

-- the tables of a file's dynamic segment
unfoldable pub tables : List ℕ → Range → Dynamic
tables bytes range = dynamic_of (before_end (entries_of bytes range))

-- the entries can't be read, or say what can't be
unfoldable pub is_bad_segment : List ℕ → Range → Bool
is_bad_segment bytes range =
    passes_end range.offset range.size bytes || not (list_any is_end (entries_of bytes range))
    || list_any (occurs_twice (before_end (entries_of bytes range))) tags

unfoldable pub is_bad_dynamic : Dynamic → Bool
is_bad_dynamic d = has_bad_sizes d || (has_relocations d && lacks_names d)

-- the tables can't be read
abbrev pub HasBadTable : List ℕ → Range → List SegmentData → Type 0
HasBadTable bytes range segments =
    IsTrue (is_bad_segment bytes range || is_bad_dynamic (tables bytes range) || lacks_table segments (tables bytes range))
