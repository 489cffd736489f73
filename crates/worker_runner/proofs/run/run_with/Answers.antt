use Rattle.std.proofs.Common.{ap, ◌∙◌}
use Rattle.thread_step.specs.Context.{HallOf}
use Rattle.worker_runner.proofs.Ending.{none_ran}
use Rattle.worker_runner.proofs.run.run_with.Goals as goal

pub run_locked-requires-clause-begins : goal.run_locked-requires-clause-begins
run_locked-requires-clause-begins g c κs within = (
  c.args.hall,
  record {
    none = c.requires.first;
    rules = c.requires.rules;
    few = c.requires.guests.0;
    guests_are = c.requires.guests.1;
    many = c.in-Ok-lock_up.ensures.count.1;
    passes_are = c.in-Ok-lock_up.ensures.passes;
  },
)

pub returns-in-Ok-lock_up-clause-case : goal.returns-in-Ok-lock_up-clause-case
returns-in-Ok-lock_up-clause-case g c = c.run_locked.ensures.case c.args.hall (record {
  none = c.requires.first;
  rules = c.requires.rules;
  few = c.requires.guests.0;
  guests_are = c.requires.guests.1;
  many = c.in-Ok-lock_up.ensures.count.1;
  passes_are = c.in-Ok-lock_up.ensures.passes;
})

pub returns-in_default-clause-count : goal.returns-in_default-clause-count
returns-in_default-clause-count g c = none_ran (g.N.Engine.count c.args.engine.now) c.args.hall c.requires.first

pub returns-in_default-with_capacity-clause-count : goal.returns-in_default-with_capacity-clause-count
returns-in_default-with_capacity-clause-count g c = none_ran (g.N.Engine.count c.args.engine.now) c.args.hall c.requires.first

pub returns-in-Err-clause-count : goal.returns-in-Err-clause-count
returns-in-Err-clause-count g c = none_ran (g.N.Engine.count c.args.engine.now) c.in-Err.hall (ap (λ (h : HallOf). h.journal) c.in-Err.ensures.refused ∙ c.requires.first)
