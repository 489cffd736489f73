use Rattle.elf_image.proofs.Placing.{IsFirstFrom}
use Rattle.elf_image.proofs.symbols.symbol_table.Given as goal

-- the first among the sections that are left is the first of all
abbrev pub invariant-loop-number : goal.invariant-loop-number
invariant-loop-number l = IsFirstFrom l.bytes l.file.shoff l.number l.file.shnum
