-- What is appended and what the rest gives is what all segments give, and the offset has room.
use Rattle.std.proofs.Common.{◌≡◌, ◌+◌, ◌*◌, ◌^◌, ◌≤◌, ◌++◌, drop}
use Rattle.std.specs.List.{flat_map}
use Rattle.elf_writer.specs.ElfFile.{placed, program_bytes}
use Rattle.elf_writer.proofs.elf.segments.put_programs.Given as goal

abbrev pub invariant-loop-s : goal.invariant-loop-s
invariant-loop-s l =
    (l.out.items ++ flat_map program_bytes (placed l.end (drop l.s-index l.segments)) ≡ l.initial.out.items ++ flat_map program_bytes (placed l.start l.segments))
    × (l.end ≤ l.start + (2 ^ 47 + 4096) * l.s-index)
