use Rattle.std.proofs.Common.{◌≡◌, sym, subst, ap, arith, ◌∙◌}
use Rattle.machine_model.specs.Play.{own}
use Rattle.machine_model.specs.State.{thread_in}
use Rattle.hall_core.specs.Hall.{machine}
use Rattle.turn_lock.specs.Lock.{lock_id}
use Rattle.thread_step.specs.Context.{GoesOn, LookedIs, WorksIn}
use Rattle.thread_step.specs.Guest.{IsReady}
use Rattle.thread_step.proofs.Causes.{turned_since}
use Rattle.thread_step.proofs.Furthering.{further_more, further_none, none_added, thread_of_slot}
use Rattle.thread_step.proofs.Rising.{goes_steps, looked_rises, rises_before}
use Rattle.thread_step.proofs.worker.turn_with.Goals as goal

pub run-requires-clause-works : goal.run-requires-clause-works
run-requires-clause-works g c κs within =
    let w = c.requires.holds in
    let q = c.look-pass.ensures.looked w.0 w.1 in
    (q.hall, record { lock = c.look-pass.ensures.lock; number = c.look-pass.ensures.number ∙ w.1.number ∙ sym c.look-pass.ensures.slot; saw = q.saw; runs = subst (λ a. LookedIs a q.hall c.args.guest.now c.look-pass.new.guest) c.in-Lives.is q.looked })

pub returns-in-Ended-clause-left : goal.returns-in-Ended-clause-left
returns-in-Ended-clause-left g c = λ h w.
    let q = c.look-pass.ensures.looked h w in
    let e = subst (λ a. LookedIs a q.hall c.args.guest.now c.look-pass.new.guest) c.in-Ended.is q.looked in
    let low = w.ready.stands.low in (
      c.look-pass.new.guest.slot,
      record {
        hall = q.hall;
        saw = q.saw;
        left = subst (IsReady q.hall) (sym e.1) q.ready;
        slot = thread_of_slot _ (let s = c.look-pass.ensures.slot in omega (arith, low, s));
        further = further_more _ _ 0 c.args.rules.turn 0 1 h q.hall (omega arith) (omega arith) (further_none _ _ h q.hall (subst (λ z. GoesOn z h q.hall) (sym c.look-pass.ensures.slot) q.goes));
        cause = e.0;
      },
    )

pub returns-in-Idle-clause-left : goal.returns-in-Idle-clause-left
returns-in-Idle-clause-left g c = λ h w.
    let q = c.look-pass.ensures.looked h w in
    let e = subst (λ a. LookedIs a q.hall c.args.guest.now c.look-pass.new.guest) c.in-Idle.is q.looked in
    let low = w.ready.stands.low in
    let none = subst (λ z. own z q.hall.journal ≡ own z h.journal) (sym c.look-pass.ensures.slot) (none_added c.args.guest.now.slot h q.hall q.goes) in (
      c.look-pass.new.guest.slot,
      record {
        hall = q.hall;
        saw = q.saw;
        left = subst (IsReady q.hall) (sym e.2) q.ready;
        slot = thread_of_slot _ (let s = c.look-pass.ensures.slot in omega (arith, low, s));
        further = further_more _ _ 0 c.args.rules.turn 0 1 h q.hall (omega arith) (omega arith) (further_none _ _ h q.hall (subst (λ z. GoesOn z h q.hall) (sym c.look-pass.ensures.slot) q.goes));
        cause = (e.0, ap (λ s. thread_in (machine q.hall) s) c.look-pass.ensures.slot ∙ e.1, none);
      },
    )

pub returns-in-Lives-clause-left : goal.returns-in-Lives-clause-left
returns-in-Lives-clause-left g c = λ h w.
    let q = c.look-pass.ensures.looked h w in
    let works : WorksIn (lock_id c.args.lock.now) c.look-pass.result.0 c.in-Lives.t c.look-pass.new.guest q.hall = record { lock = c.look-pass.ensures.lock; number = c.look-pass.ensures.number ∙ w.number ∙ sym c.look-pass.ensures.slot; saw = q.saw; runs = subst (λ a. LookedIs a q.hall c.args.guest.now c.look-pass.new.guest) c.in-Lives.is q.looked } in
    (c.in-Lives.t, turned_since c.run.result.1 c.run.result.0 c.in-Lives.t c.args.rules.turn c.run.new.guest h q.hall (subst (λ z. GoesOn z h q.hall) (sym (c.run.ensures.slot ∙ c.look-pass.ensures.slot)) q.goes) (c.run.ensures.left q.hall works))

pub returns-in-Ended-clause-count : goal.returns-in-Ended-clause-count
returns-in-Ended-clause-count g c = λ h n w saw.
    let q = c.look-pass.ensures.looked h w in
    looked_rises c.look-pass.result.0 c.args.guest.now.slot _ c.args.guest.now.own.k c.look-pass.new.guest.own.k h q.hall n c.look-pass.ensures.told q.goes q.saw saw

pub returns-in-Idle-clause-count : goal.returns-in-Idle-clause-count
returns-in-Idle-clause-count g c = λ h n w saw.
    let q = c.look-pass.ensures.looked h w in
    looked_rises c.look-pass.result.0 c.args.guest.now.slot _ c.args.guest.now.own.k c.look-pass.new.guest.own.k h q.hall n c.look-pass.ensures.told q.goes q.saw saw

pub returns-in-Lives-clause-count : goal.returns-in-Lives-clause-count
returns-in-Lives-clause-count g c = λ h n w saw.
    let q = c.look-pass.ensures.looked h w in
    let works : WorksIn (lock_id c.args.lock.now) c.look-pass.result.0 c.in-Lives.t c.look-pass.new.guest q.hall = record { lock = c.look-pass.ensures.lock; number = c.look-pass.ensures.number ∙ w.number ∙ sym c.look-pass.ensures.slot; saw = q.saw; runs = subst (λ a. LookedIs a q.hall c.args.guest.now c.look-pass.new.guest) c.in-Lives.is q.looked } in
    rises_before c.args.guest.now.slot c.look-pass.new.guest.slot _ _ c.args.guest.now.own.k c.look-pass.new.guest.own.k c.run.new.guest.own.k h q.hall n c.look-pass.ensures.slot c.look-pass.ensures.told (goes_steps c.args.guest.now.slot h q.hall q.goes) (c.run.ensures.count q.hall n works saw)
