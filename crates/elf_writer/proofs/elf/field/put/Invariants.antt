use Rattle.std.proofs.Common.{◌≡◌, ◌++◌, take}
use Rattle.elf_writer.specs.ElfField.{fields_bytes}
use Rattle.elf_writer.proofs.elf.field.put.Given as goal

abbrev pub invariant-loop-field : goal.invariant-loop-field
invariant-loop-field l = l.out.items ≡ l.initial.out.items ++ fields_bytes (take l.field-index l.fields)
