use Rattle.std.proofs.Common.{◌≡◌, ◌++◌}
use Rattle.elf_image.specs.Elf.{table}
use Rattle.dyn_link.specs.Relocations.{relocation}
use Rattle.dyn_link.proofs.relocation.add_relocations.Given as goal

abbrev pub invariant-loop-n : goal.invariant-loop-n
invariant-loop-n l = l.relocations.items ≡ l.initial.relocations.items ++ table relocation 0 24 l.n l.table
