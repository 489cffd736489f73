use Rattle.std.proofs.Common.{◌≡◌}
use Rattle.elf_image.specs.Elf.{table}
use Rattle.dyn_link.specs.Dynamic.{tagged}
use Rattle.dyn_link.proofs.dynamic.entries_of.Given as goal

abbrev pub invariant-loop-n : goal.invariant-loop-n
invariant-loop-n l = l.entries.items ≡ table tagged l.range.offset 16 l.n l.bytes
