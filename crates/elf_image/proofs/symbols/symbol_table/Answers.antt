use Rattle.elf_image.proofs.Placing.{first_of_all, first_skips, first_found, none_left}
use Rattle.elf_image.proofs.symbols.symbol_table.Goals as goal

pub loop-number-init : goal.loop-number-init
loop-number-init c = first_of_all c.args.bytes.now c.args.file c.requires.header

pub loop-number-preserved : goal.loop-number-preserved
loop-number-preserved c = first_skips c.args.bytes.now c.args.file.shoff c.loop-number.number c.args.file.shnum c.section_at-section.result c.loop-number-test.true c.section_at-section.ensures c.if-section-eq-SHT_SYMTAB.false c.loop-number.invariant

pub returns-then-section-eq-SHT_SYMTAB-clause-table : goal.returns-then-section-eq-SHT_SYMTAB-clause-table
returns-then-section-eq-SHT_SYMTAB-clause-table c = (first_found c.args.bytes.now c.args.file.shoff c.loop-number.number c.args.file.shnum c.section_at-section.result c.loop-number-test.true c.section_at-section.ensures c.if-section-eq-SHT_SYMTAB.true c.loop-number.invariant).0

pub returns-then-section-eq-SHT_SYMTAB-clause-number : goal.returns-then-section-eq-SHT_SYMTAB-clause-number
returns-then-section-eq-SHT_SYMTAB-clause-number c = (first_found c.args.bytes.now c.args.file.shoff c.loop-number.number c.args.file.shnum c.section_at-section.result c.loop-number-test.true c.section_at-section.ensures c.if-section-eq-SHT_SYMTAB.true c.loop-number.invariant).1

pub returns-clause-table : goal.returns-clause-table
returns-clause-table c = none_left c.args.bytes.now c.args.file.shoff c.loop-number.number c.args.file.shnum c.loop-number-test.false c.loop-number.invariant
