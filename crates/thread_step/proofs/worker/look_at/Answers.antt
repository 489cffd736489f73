use Rattle.std.proofs.Common.{◌<◌, sym, subst, ap, ◌∙◌}
use Rattle.machine_model.specs.State.{thread_in}
use Rattle.hall_core.specs.Hall.{machine}
use Rattle.thread_step.proofs.SlotTurn.{its_slot}
use Rattle.thread_step.proofs.Whole.{none_end}
use Rattle.thread_step.proofs.worker.look_at.Goals as goal

pub returns-clause-looked : goal.returns-clause-looked
returns-clause-looked c =
    let h = c.args.hall.now in
    let g = c.args.guest.now in
    let going = none_end _ (sym c.has_ended.ensures ∙ c.if-has_ended.false) in
    let lives = sym c.thread_in.ensures ∙ c.in-Some.is in
    let r = c.enter.ensures.ready in
    record {
      low = subst (λ z. z < 64) (sym c.enter.ensures.slot) c.requires.ready.stands.low;
      slot = its_slot h g c.in-Some.t c.requires.ready going lives ∙ sym c.enter.ensures.slot;
      begun = c.enter.ensures.thread;
      lives = ap (thread_in (machine h)) c.enter.ensures.slot ∙ lives;
      going = going;
      stand = r.0;
      ready = r.1;
    }
