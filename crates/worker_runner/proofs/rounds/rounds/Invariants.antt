use Rattle.std.proofs.Common.{◌≡◌}
use Rattle.turn_lock.specs.Lock.{lock_id}
use Rattle.turn_lock.specs.Words.{lock_of, pass_number}
use Rattle.machine_model.specs.CaseData.{CaseData}
use Rattle.ir_runner.specs.Outputs.{written}
use Rattle.worker_runner.specs.Counts.{AreCounted}
use Rattle.worker_runner.specs.Rounds.{Starts}
use Rattle.worker_runner.proofs.Rounding.{Mid}
use Rattle.worker_runner.proofs.rounds.rounds.Given as goal

pub record Under (Lock Number Counted Way : Type 0) : Type 0 where
  pub lock : Lock
  pub number : Number
  pub counted : Counted
  pub way : Way

abbrev pub invariant-loop : goal.invariant-loop
invariant-loop g l = Under
    (lock_of l.pass ≡ lock_id l.lock)
    (pass_number l.pass ≡ 64)
    (AreCounted g.N.Engine.count l.workers.items)
    ((c : CaseData) → Starts (lock_id l.lock) c l.rules l.initial.pass l.initial.place l.initial.workers.items → Mid (lock_id l.lock) c l.workers.items l.pass l.place (written g.O.Sink.faults g.O.Sink.held l.initial.out l.out) (written g.E.Sink.faults g.E.Sink.held l.initial.err l.err))
