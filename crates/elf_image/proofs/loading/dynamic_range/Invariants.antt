use Rattle.elf_image.proofs.Tables.{IsFirstDynamic}
use Rattle.elf_image.proofs.loading.dynamic_range.Given as goal

abbrev pub invariant-loop-n : goal.invariant-loop-n
invariant-loop-n l = IsFirstDynamic l.bytes l.file l.n
