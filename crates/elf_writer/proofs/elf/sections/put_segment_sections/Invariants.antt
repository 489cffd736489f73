-- What is appended and what the rest gives is what all segments give, and the offset has room.
use Rattle.std.proofs.Common.{◌≡◌, ◌+◌, ◌*◌, ◌^◌, ◌≤◌, ◌++◌, map, drop}
use Rattle.std.specs.List.{flat_map}
use Rattle.elf_writer.specs.ElfFile.{placed, section_bytes, segment_section}
use Rattle.elf_writer.proofs.elf.sections.put_segment_sections.Given as goal

abbrev pub invariant-loop-s : goal.invariant-loop-s
invariant-loop-s l =
    (l.out.items ++ flat_map section_bytes (map segment_section (placed l.end (drop l.s-index l.segments))) ≡ l.initial.out.items ++ flat_map section_bytes (map segment_section (placed l.start l.segments)))
    × (l.end ≤ l.start + (2 ^ 47 + 4096) * l.s-index)
