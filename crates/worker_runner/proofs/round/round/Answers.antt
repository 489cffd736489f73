use Rattle.turn_lock.specs.Lock.{lock_id}
use Rattle.worker_runner.specs.Counts.{CountsIts}
use Rattle.worker_runner.specs.Workers.{TookIts}
use Rattle.worker_runner.proofs.Coupling.{first_or_same}
use Rattle.worker_runner.proofs.round.round.Goals as goal

pub returns-clause-took : goal.returns-clause-took
returns-clause-took g c = first_or_same (λ old new. TookIts (lock_id c.args.lock.now) old.ctx new.ctx new.turned × CountsIts (lock_id c.args.lock.now) (g.N.Engine.count old.engine) (g.N.Engine.count new.engine) old.ctx new.ctx) c.args.workers.now c.split_at_mut-busy.result.0.now c.split_at_mut-busy.result.1.now c.turns_of_each.new.workers c.split_at_mut-busy.ensures.value c.turns_of_each.ensures.count c.turns_of_each.ensures.took
