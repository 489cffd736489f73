use Rattle.std.proofs.Common.{◌≡◌, true, false, ◌||◌, sym, ap, ◌∙◌}
use Rattle.std.proofs.lemmas.Bool.{both_ways}
use Rattle.guest_asm.specs.Encodable.{can}
use Rattle.guest_asm.proofs.Needed.{no_spelling}
use Rattle.guest_asm.proofs.assembler.without_rex.Goals as goal

pub returns-else-can-2-clause-none : goal.returns-else-can-2-clause-none
returns-else-can-2-clause-none c = no_spelling c.args.instr (sym c.can.ensures ∙ c.if-can.false) (sym c.can-else-can.ensures ∙ c.if-can-2.false)

pub returns-else-can-2-clause-refused : goal.returns-else-can-2-clause-refused
returns-else-can-2-clause-refused c h =
    let plain : can true c.args.instr ≡ false = sym c.can.ensures ∙ c.if-can.false in
    let rex : can false c.args.instr ≡ false = sym c.can-else-can.ensures ∙ c.if-can-2.false in
    both_ways (can true c.args.instr || can false c.args.instr) (ap (λ b. b || can false c.args.instr) plain ∙ rex) h
