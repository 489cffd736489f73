use Rattle.turn_lock.specs.Lock.{lock_id}
use Rattle.worker_runner.specs.Counts.{CountsIts}
use Rattle.worker_runner.specs.Workers.{TookIts}
use Rattle.worker_runner.proofs.round.turns.Given as goal

abbrev pub invariant-loop-i : goal.invariant-loop-i
invariant-loop-i g l = TookIts (lock_id l.lock) l.fn.w.ctx l.w.ctx l.w.turned × CountsIts (lock_id l.lock) (g.N.Engine.count l.fn.w.engine) (g.N.Engine.count l.w.engine) l.fn.w.ctx l.w.ctx
