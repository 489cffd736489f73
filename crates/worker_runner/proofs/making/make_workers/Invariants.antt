use Rattle.std.proofs.Common.{◌≤◌, vec_capacity}
use Rattle.atomic_table.specs.Seated.{TableId}
use Rattle.thread_step.specs.Context.{HallOf}
use Rattle.worker_runner.specs.Workers.{AreFirstGuests, AreFirstPasses}
use Rattle.worker_runner.proofs.Pairing.{InStep, Mid}
use Rattle.worker_runner.proofs.making.make_workers.Given as goal

abbrev pub invariant-loop-pass : goal.invariant-loop-pass
invariant-loop-pass g l = ((key : TableId) (h : HallOf) → AreFirstGuests h l.fn.guests.items → AreFirstPasses key h 0 l.fn.passes.items → Mid key h l.guests.items l.pass-iterator.rest.items l.workers.items) × InStep l.guests.items l.pass-iterator.rest.items l.workers.items × (64 ≤ vec_capacity l.workers)
