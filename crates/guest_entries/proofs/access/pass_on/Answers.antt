use Rattle.guest_entries.proofs.Passing.{passed_on, passed_out}
use Rattle.guest_entries.proofs.access.pass_on.Goals as goal

pub returns-then-has_more : goal.returns-then-has_more
returns-then-has_more c = λ kept part place. passed_on kept part c.args.to c.args.own.now c.step_on.new.own c.args.table.now.items (c.if-has_more.ensures kept part place) (c.step_on.ensures kept part place)

pub returns-else-has_more : goal.returns-else-has_more
returns-else-has_more c = λ kept part place. passed_out kept part c.args.to c.args.own.now c.leave.new.own c.args.table.now.items c.leave.new.table.items (c.if-has_more.ensures kept part place) (c.leave.ensures.own kept part place) (λ image grown h k. c.leave.ensures.table kept part image grown place h k)
