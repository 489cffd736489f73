-- The bytes of the numbers of headers and symbols.
use Rattle.std.specs.Prelude.{ℕ, List}
use Rattle.std.specs.List.{flat_map}
use Rattle.byteorder.specs.Endian.{little_bytes}
use Rattle.elf_writer.specs.declared.elf.field.Field.{Field}
use Rattle.elf_writer.specs.declared.elf.field.Field.TheVariants.{Byte, Half, Word, Xword}

-- the bytes of a number, the lowest first
abbrev pub field_bytes : Field → List ℕ
field_bytes (Byte x) = little_bytes 1 x
field_bytes (Half x) = little_bytes 2 x
field_bytes (Word x) = little_bytes 4 x
field_bytes (Xword x) = little_bytes 8 x

-- the bytes of numbers one after another
abbrev pub fields_bytes : List Field → List ℕ
fields_bytes fields = flat_map field_bytes fields
