use Rattle.std.proofs.Common.{rules, slice_index_or, sym, subst}
use Rattle.turn_lock.specs.Lock.{lock_id}
use Rattle.worker_runner.specs.declared.round.Worker.{Worker}
use Rattle.worker_runner.specs.Counts.{CountsIts}
use Rattle.worker_runner.specs.Workers.{MayGo, TookIts}
use Rattle.worker_runner.proofs.round.turns_of_each.Goals as goal

pub for_each_mut-requires-clause-accepts : goal.for_each_mut-requires-clause-accepts
for_each_mut-requires-clause-accepts g c κs within = λ i p less same. (subst (λ w. MayGo (lock_id c.args.lock.now) c.args.rules w.ctx) (sym same) (c.requires.go i p.now less), search rules)

pub returns-clause-took : goal.returns-clause-took
returns-clause-took g c = λ k d less.
    let q = (c.for_each_mut.ensures k d less).1 in
    let Did : Worker g.row.N.Denot → Worker g.row.N.Denot → Type 0 = λ x y. TookIts (lock_id c.args.lock.now) x.ctx y.ctx y.turned × CountsIts (lock_id c.args.lock.now) (g.N.Engine.count x.engine) (g.N.Engine.count y.engine) x.ctx y.ctx in
    let e : Did q.argument.now q.after_call.now = q.call in
    subst (λ x. Did x (slice_index_or c.for_each_mut.new.s k d)) q.argument_is (subst (Did q.argument.now) q.left e)
