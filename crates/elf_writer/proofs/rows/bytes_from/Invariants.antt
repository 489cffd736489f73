-- The bytes so far are those of the first addresses.
use Rattle.std.proofs.Common.{◌≡◌, map}
use Rattle.std.specs.List.{range_with_len}
use Rattle.elf_writer.specs.RowImage.{byte_at}
use Rattle.elf_writer.proofs.rows.bytes_from.Given as goal

abbrev pub invariant-loop-i : goal.invariant-loop-i
invariant-loop-i l = l.bytes.items ≡ map (byte_at l.pieces l.filling) (range_with_len l.start l.i)
