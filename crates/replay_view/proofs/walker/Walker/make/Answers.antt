use Rattle.std.proofs.Common.{refl}
use Rattle.replay_view.specs.Moments.{both_of}
use Rattle.replay_view.proofs.Walked.{at_start}
use Rattle.replay_view.proofs.walker.Walker.make.Goals as goal

pub returns-clause-none : goal.returns-clause-none
returns-clause-none c = at_start c.args.case.now (record { case = c.args.case.now; both = both_of c.args.case.now.image c.in_ok-moment.moment; taken = 0 }) refl c.in_ok-moment.ensures refl
