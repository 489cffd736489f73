use Rattle.std.proofs.Common.{◌/◌, ap, sym, ◌∙◌, arith}
use Rattle.lib_table.specs.Library.{is_kept}
use Rattle.lib_table.proofs.SlotLemmas.{kept-own}
use Rattle.lib_table.proofs.library.Library.life_of.Goals as goal

pub returns-clause-number : goal.returns-clause-number
returns-clause-number c = λ h.
    let own = kept-own c.slot.result (c.args.u / 64) (ap is_kept (sym c.life_in.ensures) ∙ h) in
    let few = c.slot.ensures.number own.1 in
    omega (arith, own.0, few)
