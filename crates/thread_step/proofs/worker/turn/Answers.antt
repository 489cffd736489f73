use Rattle.std.proofs.Common.{refl, sym, subst, ◌∙◌}
use Rattle.std.proofs.lemmas.Option.{same_Some}
use Rattle.turn_lock.specs.Lock.{lock_id}
use Rattle.thread_step.specs.Context.{HoldsIn, Saw}
use Rattle.thread_step.proofs.worker.turn.Goals as goal

pub turn_with-pass-requires-clause-holds : goal.turn_with-pass-requires-clause-holds
turn_with-pass-requires-clause-holds g c κs within =
    let x = c.requires.context in
    let same = same_Some x.1.pass c.in-Some.pass (sym x.1.there ∙ sym c.take.ensures.value ∙ c.in-Some.is) in
    (x.0, subst (λ p. HoldsIn (lock_id c.args.lock.now) p c.args.ctx.now.guest x.0) same x.1.holds)

pub returns-clause-took : goal.returns-clause-took
returns-clause-took g c = λ h x.
    let same = same_Some x.pass c.in-Some.pass (sym x.there ∙ sym c.take.ensures.value ∙ c.in-Some.is) in
    let holds = subst (λ p. HoldsIn (lock_id c.args.lock.now) p c.args.ctx.now.guest h) same x.holds in
    record {
      pass = c.turn_with-pass.result.0;
      there = refl;
      lock = c.turn_with-pass.ensures.lock;
      number = c.turn_with-pass.ensures.number ∙ holds.number ∙ sym c.turn_with-pass.ensures.slot;
      slot = c.turn_with-pass.ensures.slot;
      turned = c.turn_with-pass.ensures.left h holds;
    }

pub returns-clause-count : goal.returns-clause-count
returns-clause-count g c = λ h n p x is saw.
    let same = same_Some x.pass c.in-Some.pass (sym x.there ∙ sym c.take.ensures.value ∙ c.in-Some.is) in
    let holds = subst (λ z. HoldsIn (lock_id c.args.lock.now) z c.args.ctx.now.guest h) same x.holds in
    c.turn_with-pass.ensures.count h n holds (subst (λ z. Saw z n) (sym (same_Some c.turn_with-pass.result.0 p is)) saw)
