use Rattle.std.proofs.Common.{◌≡◌, Option, None, true, sym, ap, ◌∙◌}
use Rattle.machine_model.specs.State.{is_live, Machine}
use Rattle.machine_model.specs.Step.{lives}
use Rattle.machine_plain.proofs.PlainLemmas.{nothing_there}
use Rattle.machine_plain.proofs.machine.PlainMachine.step.Goals as goal

pub step_from-requires-clause-serves : goal.step_from-requires-clause-serves
step_from-requires-clause-serves c =
    let going : c.args.self.now.ending ≡ None = ap (λ (m : Machine). m.ending) (sym c.self.view_is) ∙ nothing_there c.self.inside.ending (sym c.is_some.ensures ∙ c.if-is_some.false) in
    λ t e.
    let live : is_live c.args.self.now t ≡ true = sym (ap (lives c.args.self.now) e) ∙ sym c.names_live.ensures ∙ c.if-not-names_live.false in
    c.requires.serves going t live
