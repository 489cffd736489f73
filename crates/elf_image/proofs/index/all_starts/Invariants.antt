use Rattle.elf_image.proofs.Indexing.{StartsBefore}
use Rattle.elf_image.proofs.index.all_starts.Given as goal

abbrev pub invariant-loop-number : goal.invariant-loop-number
invariant-loop-number l = StartsBefore l.starts.items l.segments l.number
