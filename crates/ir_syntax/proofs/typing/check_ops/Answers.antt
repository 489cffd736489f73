use Rattle.std.proofs.Common.{sym}
use Rattle.ir_syntax.proofs.TypedLemmas.{are_typed-take_more, types_after_all-take_more}
use Rattle.ir_syntax.proofs.typing.check_ops.Goals as goal

pub loop-k-preserved : goal.loop-k-preserved
loop-k-preserved c = record {
  right = are_typed-take_more _ _ _ _ _ c.loop-k-test.true c.loop-k.invariant.after c.loop-k.invariant.right (sym (c.if-not-is_typed.ensures {u = tt}));
  after = types_after_all-take_more _ _ _ _ _ _ c.loop-k-test.true c.loop-k.invariant.after c.step.ensures;
}
