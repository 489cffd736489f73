use Rattle.std.proofs.Common.{◌≡◌, ◌∙◌, sym, ap, arith, length}
use Rattle.std.specs.Vec.Iter.{into_iter_items, into_iter_len}
use Rattle.block_lift.proofs.Handed.{err_kept, kept_none, kept_next, twice_next, stale_next, split_next, all_taken, accepted_all}
use Rattle.block_lift.proofs.accepting.accept.Goals as goal

pub loop-block-init : goal.loop-block-init
loop-block-init c =
    let gives = c.into_iter-block-iterator.ensures.into_iter_gives in
    let count : length (into_iter_items c.into_iter-block-iterator.result) ≡ into_iter_len c.into_iter-block-iterator.result = omega (arith, ap length gives.0, gives.1, c.args.blocks.ok.0) in
    (tt, tt, kept_none c.args.image.now _ c.new-kept.ensures.empty, sym gives.0, count)

pub returns-in_err-block-clause-refused : goal.returns-in_err-block-clause-refused
returns-in_err-block-clause-refused c =
    let h = stale_next c.args.image.now c.args.blocks.items c.loop-block.yielded _ _ _ c.in-Some.block c.in_err-block.field-0.0 c.loop-block.invariant.2 c.loop-block.invariant.3 c.in-Some.ensures.steps.0 c.in_err-block.ensures.stale in
    err_kept c.from_residual.result c.in_err-block.field-0.0 _ c.from_residual.ensures.1 h

pub returns-then-has-clause-refused : goal.returns-then-has-clause-refused
returns-then-has-clause-refused c =
    twice_next c.args.image.now c.args.blocks.items c.loop-block.yielded _ _ _ c.in-Some.block c.in_ok-block.block c.has.result c.loop-block.invariant.2 c.loop-block.invariant.3 c.in-Some.ensures.steps.0 c.in_ok-block.ensures.same c.in_ok-block.ensures.fresh c.has.ensures c.if-has.true

pub loop-block-preserved : goal.loop-block-preserved
loop-block-preserved c =
    let count : length (into_iter_items c.next.new.self) ≡ into_iter_len c.next.new.self = omega (arith, ap length c.in-Some.ensures.steps.0, c.in-Some.ensures.steps.1, c.loop-block.invariant.4) in (
      tt,
      tt,
      kept_next c.args.image.now c.loop-block.yielded _ _ c.in-Some.block c.in_ok-block.block c.has.result c.loop-block.invariant.2 c.in_ok-block.ensures.same c.in_ok-block.ensures.fresh c.has.ensures c.if-has.false c.in_ok-put.ensures,
      split_next c.args.blocks.items c.loop-block.yielded _ _ c.in-Some.block c.loop-block.invariant.3 c.in-Some.ensures.steps.0,
      count,
    )

pub returns-clause-accepted : goal.returns-clause-accepted
returns-clause-accepted c =
    let none : length (into_iter_items c.loop-block.block-iterator) ≡ 0 = c.loop-block.invariant.4 ∙ c.in-None.ensures.steps.0 in
    accepted_all c.args.image.now c.args.blocks.items c.loop-block.yielded _ _ c.loop-block.invariant.2 (all_taken _ _ _ c.loop-block.invariant.3 none) c.in_ok-accepted.ensures.items c.in_ok-accepted.ensures.rising
