use Rattle.std.proofs.Common.{sym, ◌∙◌}
use Rattle.basic_blocks.proofs.Blocks.{block_goes_on, block_ends, block_stops, block_full}
use Rattle.basic_blocks.proofs.block.block_at.Goals as goal

pub returns-in_default : goal.returns-in_default
returns-in_default c = block_stops c.args.image.now c.loop-k._k c.loop-k.at c.loop-k.block.items _ c.loop-k-test.true (sym c.instr_at.ensures.value ∙ c.in_default.is) c.loop-k.invariant

pub returns-then-is_transfer : goal.returns-then-is_transfer
returns-then-is_transfer c = rw (c.in_ok-push.ensures.items, c.from.ensures) (block_ends c.args.image.now c.loop-k._k c.loop-k.at c.in-Some.instr c.in-Some.len c.loop-k.block.items _ c.loop-k-test.true (sym c.instr_at.ensures.value ∙ c.in-Some.is) (sym c.is_transfer.ensures ∙ c.if-is_transfer.true) c.loop-k.invariant)

pub returns : goal.returns
returns c = block_full c.args.image.now c.loop-k._k c.loop-k.at c.loop-k.block.items _ c.loop-k-test.false c.loop-k.invariant
