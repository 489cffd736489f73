use Rattle.std.proofs.Common.{sym, ◌∙◌}
use Rattle.additive_lift.proofs.Walks.{walk_goes_on, walk_ends, walk_stops, walk_full}
use Rattle.additive_lift.proofs.exits.ending.Goals as goal

pub returns-in_default : goal.returns-in_default
returns-in_default c = walk_stops c.args.image.now c.loop-k._k c.loop-k.at c.loop-k.last _ c.loop-k-test.true (sym c.instr_at.ensures.value ∙ c.in_default.is) c.loop-k.invariant

pub returns-then-is_transfer : goal.returns-then-is_transfer
returns-then-is_transfer c = rw c.from-at.ensures (walk_ends c.args.image.now c.loop-k._k c.loop-k.at c.in-Some.instr c.in-Some.len c.loop-k.last _ c.loop-k-test.true (sym c.instr_at.ensures.value ∙ c.in-Some.is) (sym c.is_transfer.ensures ∙ c.if-is_transfer.true) c.loop-k.invariant)

pub loop-k-preserved : goal.loop-k-preserved
loop-k-preserved c = rw c.from-at.ensures (walk_goes_on c.args.image.now c.loop-k._k c.loop-k.at c.in-Some.instr c.in-Some.len c.loop-k.last _ c.loop-k-test.true (sym c.instr_at.ensures.value ∙ c.in-Some.is) (sym c.is_transfer.ensures ∙ c.if-is_transfer.false) c.loop-k.invariant)

pub returns : goal.returns
returns c = walk_full c.args.image.now c.loop-k._k c.loop-k.at c.loop-k.last _ c.loop-k-test.false c.loop-k.invariant
