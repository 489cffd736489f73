use Rattle.std.proofs.Common.{sym, subst}
use Rattle.guest_steps.specs.Kept.{AreKept}
use Rattle.thread_step.proofs.Starting.{none_kept, none_more}
use Rattle.thread_step.proofs.guest.empty_table.Goals as goal

pub loop-i-init : goal.loop-i-init
loop-i-init c = λ image grown. subst (AreKept image grown) (sym c.new-table.ensures.items) (none_kept image grown)

pub loop-i-preserved : goal.loop-i-preserved
loop-i-preserved c = λ image grown. subst (AreKept image grown) (sym c.in_ok-push.ensures.items) (none_more image grown c.loop-i.table.items (c.loop-i.invariant image grown))

pub returns : goal.returns
returns c = c.loop-i.invariant
