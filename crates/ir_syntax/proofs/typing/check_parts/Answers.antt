use Rattle.std.proofs.Common.{sym, ◌∙◌}
use Rattle.ir_syntax.proofs.PartLemmas.{untyped, are_parts_typed-drop_more, FaultsFrom-more, FaultsFrom-here}
use Rattle.ir_syntax.proofs.typing.check_parts.Goals as goal

pub returns-in-Err-clause-wrong : goal.returns-in-Err-clause-wrong
returns-in-Err-clause-wrong c =
    FaultsFrom-here _ _ _ _ _ _ c.loop-i-test.true c.index-parts-i.is c.is_last.ensures (c.in-Err.ensures {u = tt}).wrong c.loop-i.invariant.wrong

pub returns-in-Err-clause-untyped : goal.returns-in-Err-clause-untyped
returns-in-Err-clause-untyped c =
    untyped _ _ _ _ (FaultsFrom-here _ _ _ _ _ _ c.loop-i-test.true c.index-parts-i.is c.is_last.ensures (c.in-Err.ensures {u = tt}).wrong c.loop-i.invariant.wrong)

pub loop-i-preserved : goal.loop-i-preserved
loop-i-preserved c =
    let after = c.in_default.ensures.after in
    let typed = c.in_default.ensures.right in
    record {
      right = sym (are_parts_typed-drop_more _ _ _ _ _ _ c.loop-i-test.true c.index-parts-i.is c.is_last.ensures typed after) ∙ c.loop-i.invariant.right;
      wrong = FaultsFrom-more _ _ _ _ _ _ c.loop-i-test.true c.index-parts-i.is c.is_last.ensures typed after c.loop-i.invariant.wrong;
    }
