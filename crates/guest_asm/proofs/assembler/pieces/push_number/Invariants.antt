use Rattle.std.proofs.Common.{◌≡◌, ◌-◌, ◌++◌}
use Rattle.guest_asm.specs.Places.{low_bytes}
use Rattle.guest_asm.specs.Pieces.{number_bytes}
use Rattle.guest_asm.proofs.assembler.pieces.push_number.Given as goal

abbrev pub invariant-loop : goal.invariant-loop
invariant-loop l = l.bytes.items ++ low_bytes (l.end - l.counter) l.rest ≡ l.initial.bytes.items ++ number_bytes l.fn.number
