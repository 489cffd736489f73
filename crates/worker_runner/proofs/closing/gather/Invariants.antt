use Rattle.std.proofs.Common.{◌≤◌, List, vec_capacity}
use Rattle.atomic_table.specs.Seated.{TableId}
use Rattle.journal_pack.specs.declared.entry.Entry.{Entry}
use Rattle.machine_model.specs.CaseData.{CaseData}
use Rattle.worker_runner.specs.Counts.{AreCounted}
use Rattle.worker_runner.specs.Rounds.{AreHeld}
use Rattle.worker_runner.proofs.Gathering.{InStep, MidBack, MidCount}
use Rattle.worker_runner.proofs.closing.gather.Given as goal

abbrev pub invariant-loop-worker : goal.invariant-loop-worker
invariant-loop-worker g l = ((key : TableId) (c : CaseData) → AreHeld key c l.fn.workers.items → MidBack key c l.worker-iterator.rest.items l.passes.items) × InStep l.worker-iterator.rest.items l.passes.items × (65 ≤ vec_capacity l.passes) × ((key : TableId) (c : CaseData) (j : List Entry) → AreHeld key c l.fn.workers.items → AreCounted g.N.Engine.count l.fn.workers.items → MidCount g.N.Engine.count key c (g.N.Engine.count l.fn.engine) (g.N.Engine.count l.engine) l.worker-iterator.rest.items l.passes.items j)
