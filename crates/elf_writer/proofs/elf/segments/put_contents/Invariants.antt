-- What is appended and what the rest gives is what all segments give.
use Rattle.std.proofs.Common.{◌≡◌, ◌++◌, drop, length}
use Rattle.elf_writer.specs.ElfFile.{contents}
use Rattle.elf_writer.proofs.elf.segments.put_contents.Given as goal

abbrev pub invariant-loop-s : goal.invariant-loop-s
invariant-loop-s l = l.out.items ++ contents (length l.out.items) (drop l.s-index l.segments) ≡ l.initial.out.items ++ contents (length l.initial.out.items) l.segments
