use Rattle.std.proofs.Common.{subst}
use Rattle.turn_lock.specs.Lock.{lock_id}
use Rattle.worker_runner.specs.Workers.{TookIts}
use Rattle.worker_runner.proofs.Rounding.{counts_then, may_go_on, one_turn, took_then}
use Rattle.worker_runner.proofs.round.turns.Goals as goal

pub loop-i-init : goal.loop-i-init
loop-i-init g c = (one_turn (lock_id c.args.lock.now) c.args.rules.turn c.args.w.now.ctx c.turn-w.new.ctx c.turn-w.result c.turn-w.ensures.took, c.turn-w.ensures.count)

pub turn-w-requires-in-loop-i-clause-context : goal.turn-w-requires-in-loop-i-clause-context
turn-w-requires-in-loop-i-clause-context g c κs within =
    let ran = subst (λ a. TookIts (lock_id c.args.lock.now) c.args.w.now.ctx c.loop-i.w.ctx a) (c.has_run.ensures c.if-not-has_run.false) c.loop-i.invariant.0 in
    may_go_on (lock_id c.args.lock.now) c.args.rules c.args.w.now.ctx c.loop-i.w.ctx ran c.requires.go

pub loop-i-preserved : goal.loop-i-preserved
loop-i-preserved g c =
    let key = lock_id c.args.lock.now in
    let ran = subst (λ a. TookIts key c.args.w.now.ctx c.loop-i.w.ctx a) (c.has_run.ensures c.if-not-has_run.false) c.loop-i.invariant.0 in
    (took_then key c.args.w.now.ctx c.loop-i.w.ctx c.turn-w-in-loop-i.new.ctx c.turn-w-in-loop-i.result ran (one_turn key c.args.rules.turn c.loop-i.w.ctx c.turn-w-in-loop-i.new.ctx c.turn-w-in-loop-i.result c.turn-w-in-loop-i.ensures.took), counts_then key (g.N.Engine.count c.args.w.now.engine) (g.N.Engine.count c.loop-i.w.engine) (g.N.Engine.count c.turn-w-in-loop-i.new.engine) c.args.w.now.ctx c.loop-i.w.ctx c.turn-w-in-loop-i.new.ctx ran c.loop-i.invariant.1 c.turn-w-in-loop-i.ensures.count)
