use Rattle.std.proofs.Common.{Some, ap, ◌∙◌, arith}
use Rattle.thread_step.specs.Context.{HallOf}
use Rattle.worker_runner.proofs.run.lock_up.Goals as goal

pub returns-in-Ok-clause-passes : goal.returns-in-Ok-clause-passes
returns-in-Ok-clause-passes g c = λ k d less.
    let is = c.in_ok-shared.ensures.ok in
    record {
      lock = c.in-Ok.ensures.lock k d less;
      number = (let n = c.in-Ok.ensures.in_order k d less in omega (arith, n));
      saw = record { case = c.in-Ok.ensures.same_case k d less ∙ ap (λ (h : HallOf). Some h.case) is; journal = c.in-Ok.ensures.seen k d less ∙ ap (λ (h : HallOf). h.journal) is; leads = c.facts.ensures.gated };
    }
