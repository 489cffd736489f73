use Rattle.std.proofs.Common.{sym, subst}
use Rattle.lib_table.specs.Steps.{CanAsk}
use Rattle.machine_model.specs.State.{Machine}
use Rattle.machine_model.specs.Step.{ask_of, core_with}
use Rattle.replay_machine.proofs.machine.Machine.serve.Goals as goal

pub request-requires-clause-asks : goal.request-requires-clause-asks
request-requires-clause-asks c =
    subst (λ a. CanAsk c.self.inside.library c.args.t a) (sym c.ask-ask.ensures)
    (subst (λ (m : Machine). CanAsk m.library c.args.t (ask_of (core_with c.args.self.now c.args.t c.args.cpu) c.args.what)) (sym c.self.view_is) (c.requires.serves c.args.cpu c.args.what))
