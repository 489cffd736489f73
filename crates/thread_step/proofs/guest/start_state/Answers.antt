use Rattle.std.proofs.Common.{sym, ap, arith, ◌∙◌, ◌-◌}
use Rattle.thread_step.proofs.Starting.{born_agrees, first_agrees}
use Rattle.thread_step.proofs.guest.start_state.Goals as goal

pub returns-in-None : goal.returns-in-None
returns-in-None c = first_agrees c.make-state.result c.args.hall.now.case c.args.slot c.start_rsp.result _ c.make-state.ensures (sym c.birth.ensures ∙ c.in-None.is) c.start_rsp.ensures (omega (arith, c.start_rsp.type_inv))

pub returns-in-Some : goal.returns-in-Some
returns-in-Some c = born_agrees c.make-state.result c.args.hall.now.case c.args.slot (c.stack_top.result - 8) c.argument_of.result _ c.in-Some.birth c.make-state.ensures (sym c.birth.ensures ∙ c.in-Some.is) (ap (λ z. z - 8) c.stack_top.ensures) (omega (arith, c.stack_top.type_inv)) c.argument_of.ensures (omega (arith, c.argument_of.type_inv))
