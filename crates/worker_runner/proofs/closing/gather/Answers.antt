use Rattle.std.proofs.Common.{List, sym, subst, ◌∙◌, arith}
use Rattle.worker_runner.specs.declared.round.Worker.{Worker}
use Rattle.worker_runner.specs.Counts.{AreCounted}
use Rattle.worker_runner.specs.Rounds.{AreHeld}
use Rattle.worker_runner.proofs.Gathering.{back_all, back_last, back_next, back_none, count_all, count_next, count_none, its_held}
use Rattle.worker_runner.proofs.closing.gather.Goals as goal

pub loop-worker-init : goal.loop-worker-init
loop-worker-init g c =
    let same = c.into_iter-worker-iterator.ensures.into_iter_gives.0 in
    let f = c.requires.held in
    let m = back_none f.0 f.1 c.into_iter-worker-iterator.result.rest.items c.args.room.items c.requires.room.0 (subst (λ (ws : List (Worker g.row.N.Denot)). AreHeld f.0 f.1 ws) (sym same) f.2) in
    (λ key k held. back_none key k c.into_iter-worker-iterator.result.rest.items c.args.room.items c.requires.room.0 (subst (λ (ws : List (Worker g.row.N.Denot)). AreHeld key k ws) (sym same) held), record { made = m.made }, c.requires.room.1, λ key k j held counted. count_none g.N.Engine.count key k (g.N.Engine.count c.args.engine.now) c.into_iter-worker-iterator.result.rest.items c.args.room.items j c.requires.room.0 (subst (λ (ws : List (Worker g.row.N.Denot)). AreCounted g.N.Engine.count ws) (sym same) counted))

pub into_pass-requires : goal.into_pass-requires
into_pass-requires g c =
    let f = c.requires.held in
    let h = its_held f.0 f.1 c.loop-worker.worker-iterator.rest.items c.next.new.self.rest.items c.loop-worker.passes.items c.loop-worker.passes.items c.in-Some.worker (c.loop-worker.invariant.0 f.0 f.1 f.2) c.in-Some.ensures.steps.0 in
    record { there = (h.pass, h.there) }

pub loop-worker-preserved : goal.loop-worker-preserved
loop-worker-preserved g c =
    let f = c.requires.held in
    let m = back_next f.0 f.1 c.loop-worker.worker-iterator.rest.items c.next.new.self.rest.items c.loop-worker.passes.items c.push-pushed.new.self.items c.in-Some.worker (c.loop-worker.invariant.0 f.0 f.1 f.2) c.in-Some.ensures.steps.0 c.into_pass.result c.into_pass.ensures.pass c.in-Ok.ensures.items in
    (λ key k held. back_next key k c.loop-worker.worker-iterator.rest.items c.next.new.self.rest.items c.loop-worker.passes.items c.push-pushed.new.self.items c.in-Some.worker (c.loop-worker.invariant.0 key k held) c.in-Some.ensures.steps.0 c.into_pass.result c.into_pass.ensures.pass c.in-Ok.ensures.items, record { made = m.made }, (let a = c.push-pushed.ensures.capacity in let b = c.loop-worker.invariant.2 in omega (arith, a, b)), λ key k j held counted. count_next g.N.Engine.count key k (g.N.Engine.count c.args.engine.now) (g.N.Engine.count c.loop-worker.engine) (g.N.Engine.count c.merge.new.self) c.loop-worker.worker-iterator.rest.items c.next.new.self.rest.items c.loop-worker.passes.items c.push-pushed.new.self.items j c.in-Some.worker c.into_pass.result (c.loop-worker.invariant.3 key k j held counted) (c.loop-worker.invariant.0 key k held) c.in-Some.ensures.steps.0 c.in-Ok.ensures.items c.into_pass.ensures.pass c.merge.ensures)

pub returns : goal.returns
returns g c = record {
  merged = λ key k j held counted kept. count_all g.N.Engine.count key k (g.N.Engine.count c.args.engine.now) (g.N.Engine.count c.loop-worker.engine) c.loop-worker.worker-iterator.rest.items c.loop-worker.passes.items c.push-pushed-2.new.self.items j c.args.last (let ok = c.loop-worker.worker-iterator.rest.ok in let n = c.in-None.ensures.steps.0 in sym ok.0 ∙ n) (c.loop-worker.invariant.0 key k held) (c.loop-worker.invariant.3 key k j held counted) c.in-Ok-pushed.ensures.items kept;
  last = λ d. back_last _ _ c.loop-worker.worker-iterator.rest.items c.loop-worker.passes.items c.push-pushed-2.new.self.items c.args.last d (let ok = c.loop-worker.worker-iterator.rest.ok in let n = c.in-None.ensures.steps.0 in sym ok.0 ∙ n) (c.loop-worker.invariant.0 _ _ c.requires.held.2) c.in-Ok-pushed.ensures.items;
  back = λ key k held back. back_all key k c.loop-worker.worker-iterator.rest.items c.loop-worker.passes.items c.push-pushed-2.new.self.items c.args.last (let ok = c.loop-worker.worker-iterator.rest.ok in let n = c.in-None.ensures.steps.0 in sym ok.0 ∙ n) (c.loop-worker.invariant.0 key k held) back c.in-Ok-pushed.ensures.items;
}
