use Rattle.std.proofs.Common.{refl, sym, subst, ap, arith, ◌∙◌}
use Rattle.thread_step.specs.declared.worker.Stepped.TheVariants as stepped
use Rattle.thread_step.specs.Context.{BudgetIs, Further, SteppedIn, cost_in, wait_in}
use Rattle.thread_step.specs.Costs.{slot_costs}
use Rattle.thread_step.proofs.Causes.{budget_then, stepped_then}
use Rattle.thread_step.proofs.Furthering.{further_more, further_none, further_then, goes_nowhere}
use Rattle.thread_step.proofs.Rising.{rises_on, seen_rises}
use Rattle.thread_step.proofs.worker.steps.Goals as goal

pub loop-i-init : goal.loop-i-init
loop-i-init g c = let w = c.requires.works in record {
  lock = w.1.lock;
  number = refl;
  slot = refl;
  works = λ h x. (h, x, further_none c.args.guest.now.slot c.args.t h h (goes_nowhere c.args.guest.now.slot h x.saw.leads));
  budget = λ h n x saw. let same = ap (slot_costs c.args.guest.now.slot) (sym saw.journal ∙ x.saw.journal) in omega (arith, same);
  count = λ h n x saw. seen_rises c.args.pass c.args.guest.now.slot _ c.args.guest.now.own.k h n x.saw saw;
}

pub step-back-requires-clause-works : goal.step-back-requires-clause-works
step-back-requires-clause-works g c κs within = let w = c.requires.works in let n = c.loop-i.invariant.works w.0 w.1 in (n.0, n.1)

pub returns-in_default : goal.returns-in_default
returns-in_default g c = record {
  lock = c.step-back.ensures.lock;
  number = c.step-back.ensures.number ∙ c.loop-i.invariant.number;
  slot = c.step-back.ensures.slot ∙ c.loop-i.invariant.slot;
  stepped = λ h w.
      let n = c.loop-i.invariant.works h w in
      stepped_then c.step-back.result.1 c.step-back.result.0 c.args.guest.now.slot c.args.t c.loop-i._i c.args.budget c.step-back.new.guest h n.0 c.loop-i-test.true (c.step-back.ensures.slot ∙ c.loop-i.invariant.slot) n.2 (c.step-back.ensures.stepped n.0 n.1);
  count = λ h n w saw.
      let m = c.loop-i.invariant.works h w in
      rises_on c.args.guest.now.slot c.loop-i.guest.slot _ _ _ c.args.guest.now.own.k c.loop-i.guest.own.k c.step-back.new.guest.own.k h m.0 n c.loop-i.invariant.slot (c.loop-i.invariant.count h m.0 w m.1.saw) (c.step-back.ensures.count m.0 n m.1 saw);
  budget = λ h n w saw.
      let m = c.loop-i.invariant.works h w in
      budget_then c.step-back.result.1 c.loop-i._i c.args.budget (slot_costs c.args.guest.now.slot h.journal) (slot_costs c.args.guest.now.slot m.0.journal) (slot_costs c.args.guest.now.slot n.journal) c.loop-i-test.true c.in_default.not-On (c.loop-i.invariant.budget h m.0 w m.1.saw) (subst (λ s. BudgetIs c.step-back.result.1 1 (slot_costs s m.0.journal) (slot_costs s n.journal)) c.loop-i.invariant.slot (c.step-back.ensures.budget m.0 n m.1 saw));
}

pub loop-i-preserved : goal.loop-i-preserved
loop-i-preserved g c = record {
  lock = c.step-back.ensures.lock;
  number = c.step-back.ensures.number ∙ c.loop-i.invariant.number;
  slot = c.step-back.ensures.slot ∙ c.loop-i.invariant.slot;
  works = λ h w.
      let n = c.loop-i.invariant.works h w in
      let q : SteppedIn stepped.On c.step-back.result.0 c.args.t 1 0 c.step-back.new.guest n.0 = subst (λ a. SteppedIn a c.step-back.result.0 c.args.t (cost_in a) (wait_in a) c.step-back.new.guest n.0) c.in-On.is (c.step-back.ensures.stepped n.0 n.1) in
      (q.hall, record { lock = c.step-back.ensures.lock; number = c.step-back.ensures.number ∙ n.1.number ∙ sym c.step-back.ensures.slot; saw = q.saw; runs = q.stepped }, further_then c.args.guest.now.slot c.args.t c.loop-i._i 1 0 0 h n.0 q.hall n.2 (subst (λ z. Further z c.args.t 1 0 n.0 q.hall) (c.step-back.ensures.slot ∙ c.loop-i.invariant.slot) q.further));
  count = λ h n w saw.
      let m = c.loop-i.invariant.works h w in
      rises_on c.args.guest.now.slot c.loop-i.guest.slot _ _ _ c.args.guest.now.own.k c.loop-i.guest.own.k c.step-back.new.guest.own.k h m.0 n c.loop-i.invariant.slot (c.loop-i.invariant.count h m.0 w m.1.saw) (c.step-back.ensures.count m.0 n m.1 saw);
  budget = λ h n w saw.
      let m = c.loop-i.invariant.works h w in
      let one : BudgetIs stepped.On 1 (slot_costs c.args.guest.now.slot m.0.journal) (slot_costs c.args.guest.now.slot n.journal) = subst (λ a. BudgetIs a 1 (slot_costs c.args.guest.now.slot m.0.journal) (slot_costs c.args.guest.now.slot n.journal)) c.in-On.is (subst (λ s. BudgetIs c.step-back.result.1 1 (slot_costs s m.0.journal) (slot_costs s n.journal)) c.loop-i.invariant.slot (c.step-back.ensures.budget m.0 n m.1 saw)) in
      let before = c.loop-i.invariant.budget h m.0 w m.1.saw in
      omega (arith, one, before);
}

pub returns-clause-stepped : goal.returns-clause-stepped
returns-clause-stepped g c = λ h w.
    let n = c.loop-i.invariant.works h w in
    record {
      hall = n.0;
      saw = n.1.saw;
      stepped = n.1.runs;
      further = further_more _ c.args.t c.loop-i._i c.args.budget 0 0 h n.0 (omega (arith, c.loop-i.auto._i-end)) (omega arith) (subst (λ z. Further z c.args.t c.loop-i._i 0 h n.0) (sym c.loop-i.invariant.slot) n.2);
    }

pub returns-clause-budget : goal.returns-clause-budget
returns-clause-budget g c = λ h n w saw. let all = c.loop-i.invariant.budget h n w saw in let few = c.loop-i.auto._i-end in let end = c.loop-i-test.false in omega (arith, all, few, end)
