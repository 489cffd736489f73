use Rattle.std.proofs.Common.{◌≡◌}
use Rattle.std.specs.List.{filter_map}
use Rattle.elf_image.specs.Elf.{symbol, table}
use Rattle.elf_image.specs.Library.{place_of}
use Rattle.elf_image.proofs.symbols.places_of.Given as goal

abbrev pub invariant-loop-n : goal.invariant-loop-n
invariant-loop-n l = l.places.items ≡ filter_map (place_of l.strings) (table symbol l.symbols.offset 24 l.n l.bytes)
