use Rattle.std.proofs.Common.{◌≡◌, ◌+◌, ◌<◌, inr, sym, subst, arith, ◌∙◌}
use Rattle.thread_step.specs.declared.worker.Stepped.TheVariants as stepped
use Rattle.turn_lock.specs.Lock.{lock_id}
use Rattle.thread_step.specs.Context.{BudgetIs, Further, SteppedIn, WorksIn, wait_in}
use Rattle.thread_step.specs.Costs.{slot_costs}
use Rattle.thread_step.proofs.Causes.{lived_by, turned_then}
use Rattle.thread_step.proofs.Furthering.{further_more}
use Rattle.thread_step.proofs.Rising.{rises_after}
use Rattle.thread_step.proofs.Staying.{ended_ready, runs_ready}
use Rattle.thread_step.proofs.worker.run.Goals as goal

pub finish-requires-clause-works : goal.finish-requires-clause-works
finish-requires-clause-works g c =
    let w = c.requires.works in
    let q : SteppedIn stepped.On c.steps-pass.result.0 c.args.t c.args.rules.turn 0 c.steps-pass.new.guest w.0 = subst (λ a. SteppedIn a c.steps-pass.result.0 c.args.t c.args.rules.turn (wait_in a) c.steps-pass.new.guest w.0) c.in-On.is (c.steps-pass.ensures.stepped w.0 w.1) in
    (q.hall, record { lock = c.steps-pass.ensures.lock; number = c.steps-pass.ensures.number ∙ w.1.number ∙ sym c.steps-pass.ensures.slot; saw = q.saw; runs = q.stepped })

pub returns-in-On-clause-left : goal.returns-in-On-clause-left
returns-in-On-clause-left g c = λ h w.
    let q : SteppedIn stepped.On c.steps-pass.result.0 c.args.t c.args.rules.turn 0 c.steps-pass.new.guest h = subst (λ a. SteppedIn a c.steps-pass.result.0 c.args.t c.args.rules.turn (wait_in a) c.steps-pass.new.guest h) c.in-On.is (c.steps-pass.ensures.stepped h w) in
    let works : WorksIn (lock_id c.args.lock.now) c.steps-pass.result.0 c.args.t c.steps-pass.new.guest q.hall = record { lock = c.steps-pass.ensures.lock; number = c.steps-pass.ensures.number ∙ w.number ∙ sym c.steps-pass.ensures.slot; saw = q.saw; runs = q.stepped } in
    let slot = c.finish.ensures.slot ∙ c.steps-pass.ensures.slot in
    let spent : BudgetIs stepped.On c.args.rules.turn (slot_costs c.args.guest.now.slot h.journal) (slot_costs c.args.guest.now.slot q.hall.journal) = subst (λ a. BudgetIs a c.args.rules.turn (slot_costs c.args.guest.now.slot h.journal) (slot_costs c.args.guest.now.slot q.hall.journal)) c.in-On.is (c.steps-pass.ensures.budget h q.hall w q.saw) in
    turned_then c.finish.result.1 c.finish.result.0 c.args.pass c.args.t c.args.rules.turn c.finish.new.guest c.args.guest.now h q.hall c.finish.ensures.lives (sym slot) w.saw w.runs (subst (λ z. Further z c.args.t c.args.rules.turn 0 h q.hall) (sym c.finish.ensures.slot) q.further) (subst (λ z. slot_costs z q.hall.journal ≡ slot_costs z h.journal + c.args.rules.turn) (sym slot) spent) (c.finish.ensures.left q.hall works)

pub returns-in-Waits-clause-left : goal.returns-in-Waits-clause-left
returns-in-Waits-clause-left g c = λ h w.
    let q : SteppedIn stepped.Waits c.steps-pass.result.0 c.args.t c.args.rules.turn 1 c.steps-pass.new.guest h = subst (λ a. SteppedIn a c.steps-pass.result.0 c.args.t c.args.rules.turn (wait_in a) c.steps-pass.new.guest h) c.in-Waits.is (c.steps-pass.ensures.stepped h w) in
    record {
      hall = q.hall;
      saw = q.saw;
      left = runs_ready q.hall c.args.t c.steps-pass.new.guest q.stepped.0;
      slot = q.stepped.0.slot;
      further = q.further;
      cause = record {
        going = q.stepped.0.going;
        lived = lived_by c.steps-pass.new.guest.slot c.args.t c.args.rules.turn 1 c.args.pass h q.hall c.args.guest.now (sym c.steps-pass.ensures.slot) w.saw w.runs q.further;
        lives = q.stepped.0.lives;
        stuck = q.stepped.2;
        empty = q.stepped.3;
        told = q.stepped.1;
        left = subst (λ z. slot_costs z q.hall.journal < slot_costs z h.journal + c.args.rules.turn) (sym c.steps-pass.ensures.slot) (subst (λ a. BudgetIs a c.args.rules.turn (slot_costs c.args.guest.now.slot h.journal) (slot_costs c.args.guest.now.slot q.hall.journal)) c.in-Waits.is (c.steps-pass.ensures.budget h q.hall w q.saw));
      };
    }

pub returns-in-Gone-clause-left : goal.returns-in-Gone-clause-left
returns-in-Gone-clause-left g c = λ h w.
    let q : SteppedIn stepped.Gone c.steps-pass.result.0 c.args.t c.args.rules.turn 0 c.steps-pass.new.guest h = subst (λ a. SteppedIn a c.steps-pass.result.0 c.args.t c.args.rules.turn (wait_in a) c.steps-pass.new.guest h) c.in-Gone.is (c.steps-pass.ensures.stepped h w) in
    let further = further_more _ c.args.t c.args.rules.turn c.args.rules.turn 0 1 h q.hall (omega arith) (omega arith) q.further in
    record {
      hall = q.hall;
      saw = q.saw;
      left = q.stepped.2;
      slot = w.runs.slot ∙ sym c.steps-pass.ensures.slot;
      further = further;
      cause = record {
        going = q.stepped.0;
        lived = lived_by c.steps-pass.new.guest.slot c.args.t c.args.rules.turn 1 c.args.pass h q.hall c.args.guest.now (sym c.steps-pass.ensures.slot) w.saw w.runs further;
        why = inr q.stepped.1;
      };
    }

pub returns-in-Ended-clause-left : goal.returns-in-Ended-clause-left
returns-in-Ended-clause-left g c = λ h w.
    let q : SteppedIn stepped.Ended c.steps-pass.result.0 c.args.t c.args.rules.turn 0 c.steps-pass.new.guest h = subst (λ a. SteppedIn a c.steps-pass.result.0 c.args.t c.args.rules.turn (wait_in a) c.steps-pass.new.guest h) c.in-Ended.is (c.steps-pass.ensures.stepped h w) in
    record {
      hall = q.hall;
      saw = q.saw;
      left = ended_ready q.hall c.steps-pass.new.guest q.stepped.1 q.stepped.0;
      slot = w.runs.slot ∙ sym c.steps-pass.ensures.slot;
      further = further_more _ c.args.t c.args.rules.turn c.args.rules.turn 0 1 h q.hall (omega arith) (omega arith) q.further;
      cause = q.stepped.0;
    }

pub returns-in-Memory-clause-left : goal.returns-in-Memory-clause-left
returns-in-Memory-clause-left g c = λ h w.
    let q : SteppedIn (stepped.Memory c.in-Memory.e) c.steps-pass.result.0 c.args.t c.args.rules.turn 0 c.steps-pass.new.guest h = subst (λ a. SteppedIn a c.steps-pass.result.0 c.args.t c.args.rules.turn (wait_in a) c.steps-pass.new.guest h) c.in-Memory.is (c.steps-pass.ensures.stepped h w) in
    record {
      hall = q.hall;
      saw = q.saw;
      left = q.stepped;
      slot = w.runs.slot ∙ sym c.steps-pass.ensures.slot;
      further = further_more _ c.args.t c.args.rules.turn c.args.rules.turn 0 1 h q.hall (omega arith) (omega arith) q.further;
      cause = tt;
    }

pub returns-in-On-clause-count : goal.returns-in-On-clause-count
returns-in-On-clause-count g c = λ h n w saw.
    let q : SteppedIn stepped.On c.steps-pass.result.0 c.args.t c.args.rules.turn 0 c.steps-pass.new.guest h = subst (λ a. SteppedIn a c.steps-pass.result.0 c.args.t c.args.rules.turn (wait_in a) c.steps-pass.new.guest h) c.in-On.is (c.steps-pass.ensures.stepped h w) in
    let works : WorksIn (lock_id c.args.lock.now) c.steps-pass.result.0 c.args.t c.steps-pass.new.guest q.hall = record { lock = c.steps-pass.ensures.lock; number = c.steps-pass.ensures.number ∙ w.number ∙ sym c.steps-pass.ensures.slot; saw = q.saw; runs = q.stepped } in
    rises_after c.args.guest.now.slot c.steps-pass.new.guest.slot _ _ c.args.guest.now.own.k c.steps-pass.new.guest.own.k c.finish.new.guest.own.k h q.hall n c.steps-pass.ensures.slot c.finish.ensures.told (c.finish.ensures.steps q.hall n works saw) (c.steps-pass.ensures.count h q.hall w q.saw)
