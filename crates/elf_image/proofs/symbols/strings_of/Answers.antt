use Rattle.std.proofs.Common.{arith}
use Rattle.std.proofs.lemmas.Bool.Decides.{nat_tests}
use Rattle.elf_image.proofs.Placing.{strings_are}
use Rattle.elf_image.proofs.symbols.strings_of.Goals as goal

pub returns-then-passes_end-2 : goal.returns-then-passes_end-2
returns-then-passes_end-2 c =
    let is = strings_are c.args.bytes.now c.args.file c.args.symbols _ c.requires.header c.section_at-strings.ensures in
    rw (← is) (grind (arith, nat_tests, c.passes_end-2.ensures, c.if-passes_end-2.true))

pub returns : goal.returns
returns c =
    let is = strings_are c.args.bytes.now c.args.file c.args.symbols _ c.requires.header c.section_at-strings.ensures in
    (is, rw (← is, ← c.requires.header) (grind (arith, nat_tests, c.if-symbols-ne24.false, c.if-symbols-ne0.false, c.passes_end.ensures, c.if-passes_end.false, c.if-symbols-file.false, c.passes_end-2.ensures, c.if-passes_end-2.false)))
