use Rattle.std.proofs.Common.{◌≡◌}
use Rattle.elf_image.specs.Elf.{program_header, table}
use Rattle.elf_image.proofs.segments.read_program_headers.Given as goal

abbrev pub invariant-loop-n : goal.invariant-loop-n
invariant-loop-n l = l.headers.items ≡ table program_header l.file.phoff 56 l.n l.bytes
