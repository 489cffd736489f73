use Rattle.std.proofs.Common.{◌≡◌, Some, None, sym, refl, ap, ◌∙◌}
use Rattle.std.specs.Option.{option_map}
use Rattle.elf_image.specs.declared.symbols.Numbered.{Numbered}
use Rattle.elf_image.specs.Elf.{symbol_table}
use Rattle.elf_image.proofs.Faults.{symbols_first}
use Rattle.elf_image.proofs.Placing.{none_placed, placed}
use Rattle.elf_image.proofs.symbols.library_places.Goals as goal

pub returns-in-None-clause-ok : goal.returns-in-None-clause-ok
returns-in-None-clause-ok c =
    let none : symbol_table c.args.bytes.now ≡ None = sym c.in-None.ensures.table in
    (rw (c.new.ensures.items, none_placed c.args.bytes.now none) refl, rw none refl)

pub returns-in-None-strings_of-clause-fault : goal.returns-in-None-strings_of-clause-fault
returns-in-None-strings_of-clause-fault c = symbols_first c.args.linking c.args.bytes.now c.requires.whole c.requires.loads c.in-Some.table.number c.in-Some.table.section c.in-Some.ensures.table c.in-Some.ensures.number c.in-None-strings_of.ensures

pub returns-clause-ok : goal.returns-clause-ok
returns-clause-ok c =
    let some : symbol_table c.args.bytes.now ≡ Some c.in-Some.table.section = sym c.in-Some.ensures.table in
    (rw (c.in_ok-places_of.ensures, c.part-text.ensures, c.in-Some-strings_of.ensures.0, placed c.args.bytes.now c.in-Some.table.section some) refl, rw some c.in-Some-strings_of.ensures.1)
