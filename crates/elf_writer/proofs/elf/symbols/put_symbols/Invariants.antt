-- The symbols of the places so far stand behind the first symbol, and their addresses fit.
use Rattle.std.proofs.Common.{◌≡◌, ◌^◌, ◌<◌, ◌++◌, take, All}
use Rattle.std.specs.List.{flat_map}
use Rattle.elf_writer.specs.ElfFile.{symbols, symbol_bytes}
use Rattle.elf_writer.proofs.elf.symbols.put_symbols.Given as goal

abbrev pub invariant-loop-p : goal.invariant-loop-p
invariant-loop-p l =
    (l.out.items ≡ l.fn.out.items ++ flat_map symbol_bytes (symbols l.segments (take l.p-index l.places)))
    × All (λ p. p.at < 2 ^ 64) (take l.p-index l.places)
