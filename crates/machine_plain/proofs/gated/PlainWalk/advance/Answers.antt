use Rattle.std.proofs.Common.{◌∙◌, ◌≡◌, ℕ, None, true, ap, subst, sym}
use Rattle.machine_model.specs.Gated.{Both, pass}
use Rattle.machine_plain.specs.Plain.{CanServe, stepped_to}
use Rattle.machine_model.specs.State.{is_live}
use Rattle.machine_model.specs.Step.{cpu_at}
use Rattle.machine_plain.proofs.GatedPlain.{advanced}
use Rattle.machine_plain.proofs.gated.PlainWalk.advance.Goals as goal

pub returns-clause-advanced : goal.returns-clause-advanced
returns-clause-advanced c =
    let inside : Both = record { machine = c.self.inside.machine; gate = c.self.inside.gate } in
    rw (← c.self.view_is) (advanced c.args.case.now inside c.args.entry c.step.new.self c.pass.new.self c.cpu-before.result c.cpu-after.result c.in_ok-pass.field-0
    (sym (ap (λ b. stepped_to b c.step.new.self) c.if-not-branch.false) ∙ c.in_ok-step.ensures.step)
    (c.cpu-before.ensures ∙ ap (cpu_at c.self.inside.machine) c.slot_in.ensures)
    (c.cpu-after.ensures ∙ ap (cpu_at c.step.new.self) c.slot_in-2.ensures)
    (c.in_ok-pass.ensures ∙ ap (λ x. pass x c.args.entry c.cpu-before.result c.cpu-after.result c.self.inside.gate) c.image.ensures))

pub step-requires-clause-serves : goal.step-requires-clause-serves
step-requires-clause-serves c =
    subst (λ (b : Both). b.machine.ending ≡ None → (t : ℕ) → is_live b.machine t ≡ true → CanServe b.machine t) (sym c.self.view_is) c.requires.serves
