use Rattle.std.proofs.Common.{◌≡◌, Some, sym, subst, ◌∙◌}
use Rattle.turn_lock.specs.Journal as story
use Rattle.turn_lock.specs.Words.{pass_case, pass_number, pass_seen}
use Rattle.machine_model.specs.Step.{slot_in}
use Rattle.thread_step.specs.Context.{HallOf, case_in, journal_in}
use Rattle.thread_step.proofs.Staying.{goes_on}
use Rattle.worker_runner.proofs.state.take.Goals as goal

pub returns-clause-goes : goal.returns-clause-goes
returns-clause-goes g c = λ h saw.
    let p = c.args.pass in
    let q = c.take-held.ensures in
    let is = sym (c.hall.ensures.now ∙ c.value.ensures.value) in
    goes_on p h c.hall.result.now saw
    (subst (λ (z : HallOf). pass_case case_in p ≡ Some z.case) is q.same_case.0)
    (subst (λ (z : HallOf). story.StartsWith z.journal (pass_seen journal_in p)) is q.begins)
    (subst (λ (z : HallOf). story.own slot_in (pass_number p) z.journal ≡ story.own slot_in (pass_number p) (pass_seen journal_in p)) is q.own)
    c.facts.ensures.gated
