use Rattle.std.proofs.Common.{sym, subst}
use Rattle.lib_table.specs.Steps.{CanAsk}
use Rattle.machine_model.specs.State.{Machine}
use Rattle.machine_model.specs.Step.{ask_of, core_with}
use Rattle.machine_plain.proofs.machine.PlainMachine.event.Goals as goal

pub carry_out-requires-clause-serves : goal.carry_out-requires-clause-serves
carry_out-requires-clause-serves c = λ cpu what.
    subst (λ (m : Machine). CanAsk m.library c.args.t (ask_of (core_with m c.args.t cpu) what)) (sym c.add_steps.ensures) (c.requires.serves cpu what)
