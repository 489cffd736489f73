use Rattle.std.proofs.Common.{length, sym, subst, ap, ◌∙◌, arith}
use Rattle.worker_runner.specs.Workers.{AreFirstPasses}
use Rattle.worker_runner.proofs.Pairing.{mid_all, mid_next, mid_none, same_number}
use Rattle.worker_runner.proofs.making.make_workers.Goals as goal

pub loop-pass-init : goal.loop-pass-init
loop-pass-init g c =
    let same = c.into_iter-pass-iterator.ensures.into_iter_gives.0 in
    let f = c.requires.first in
    let m = mid_none f.0 f.1 c.args.guests.items c.into_iter-pass-iterator.result.rest.items c.args.room.items c.requires.room.0 c.requires.counts.0 (ap length same ∙ c.requires.counts.1) f.2 (subst (AreFirstPasses f.0 f.1 0) (sym same) f.3) in
    (λ key h gs ps. mid_none key h c.args.guests.items c.into_iter-pass-iterator.result.rest.items c.args.room.items c.requires.room.0 c.requires.counts.0 (ap length same ∙ c.requires.counts.1) gs (subst (AreFirstPasses key h 0) (sym same) ps), record { left = m.left; made = m.made }, c.requires.room.1)

pub worker_of-requires-clause-number : goal.worker_of-requires-clause-number
worker_of-requires-clause-number g c κs within =
    let f = c.requires.first in
    same_number f.0 f.1 _ _ _ _ _ c.loop-pass.workers.items _ _ (c.loop-pass.invariant.0 f.0 f.1 f.2 f.3) c.in-Some-pop.ensures.items c.in-Some.ensures.steps.0

pub loop-pass-preserved : goal.loop-pass-preserved
loop-pass-preserved g c =
    let f = c.requires.first in
    let m = mid_next f.0 f.1 _ _ _ _ _ _ _ _ (c.loop-pass.invariant.0 f.0 f.1 f.2 f.3) c.in-Some-pop.ensures.items c.in-Some.ensures.steps.0 c.worker_of.result c.worker_of.ensures c.in-Ok.ensures.items in
    (λ key h gs ps. mid_next key h _ _ _ _ _ _ _ _ (c.loop-pass.invariant.0 key h gs ps) c.in-Some-pop.ensures.items c.in-Some.ensures.steps.0 c.worker_of.result c.worker_of.ensures c.in-Ok.ensures.items, record { left = m.left; made = m.made }, (let a = c.push-pushed.ensures.capacity in let b = c.loop-pass.invariant.2 in omega (arith, a, b)))

pub returns : goal.returns
returns g c = record { fresh = λ key h gs ps. (c.loop-pass.invariant.0 key h gs ps).fresh; ready = λ key h gs ps. mid_all key h c.loop-pass.guests.items c.loop-pass.pass-iterator.rest.items c.loop-pass.workers.items (let ok = c.loop-pass.pass-iterator.rest.ok in let n = c.in-None.ensures.steps.0 in sym ok.0 ∙ n) (c.loop-pass.invariant.0 key h gs ps) }
