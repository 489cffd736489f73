use Rattle.lift_mem.proofs.Groups.{leave_lifts}
use Rattle.lift_mem.proofs.laws.leave_lifts.Goals as goal

pub returns : goal.returns
returns c = λ next. leave_lifts next tt
