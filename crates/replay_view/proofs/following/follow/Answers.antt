use Rattle.std.proofs.Common.{take}
use Rattle.replay_view.proofs.Walked.{shown}
use Rattle.replay_view.proofs.following.follow.Goals as goal

pub returns-in-Ok-view-clause-view : goal.returns-in-Ok-view-clause-view
returns-in-Ok-view-clause-view c = shown c.args.case.now c.in-Ok.walker (take c.args.n c.args.journal.now) c.in-Ok-view.view c.in-Ok.ensures.taken c.in-Ok.ensures.case c.in-Ok-view.ensures
