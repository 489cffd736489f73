use Rattle.std.proofs.Common.{slice_set}
use Rattle.guest_steps.specs.Kept.{KeepsBlocks}
use Rattle.std.proofs.Common.{sym, subst, arith, ◌∙◌}
use Rattle.guest_steps.proofs.Table.{emptied, same_at, taken}
use Rattle.guest_steps.proofs.kept.take.Goals as goal

pub returns-clause-table : goal.returns-clause-table
returns-clause-table c = subst (λ o. KeepsBlocks c.args.table.now.items (slice_set c.args.table.now.items c.index_of-i.result o)) (sym c.take.ensures.after) (emptied c.args.table.now.items c.index_of-i.result)

pub returns-clause-block : goal.returns-clause-block
returns-clause-block c = taken c.args.table.now.items c.index_of-i.result c.args.a c.take.result c.index.result.now c.in-Some.kept (omega (arith, c.if-i-len.false, c.len.ensures)) (same_at c.args.table.now.items c.index_of-i.result c.index_mut.result.now c.take.result c.index_mut.ensures.value c.take.ensures.value) c.index.ensures c.in-Some.is (sym c.at.ensures ∙ c.if-at-a.false)
