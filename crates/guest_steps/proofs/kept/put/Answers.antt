use Rattle.std.proofs.Common.{slice_set}
use Rattle.guest_steps.specs.Kept.{AreKept}
use Rattle.std.proofs.Common.{sym, subst}
use Rattle.guest_steps.proofs.Table.{filled}
use Rattle.guest_steps.proofs.kept.put.Goals as goal
use Rattle.guest_steps.proofs.kept.put.Goals.{in-Some-1, in-None-1}

put_there : goal.returns-then-i-len
put_there c = λ image grown h k. subst (λ o. AreKept image grown (slice_set c.args.table.now.items c.index_of-i.result o)) (sym c.replace-old.ensures.after) (filled c.args.table.now.items c.index_of-i.result c.args.kept image grown h k)

pub returns-then-i-len : goal.returns-then-i-len
returns-then-i-len c = elim c.match-old.branch [ in-Some-1 w ↦ put_there c | in-None-1 w ↦ put_there c ]
