use Rattle.lift_mem.proofs.Groups.{mfence_lifts}
use Rattle.lift_mem.proofs.laws.mfence_lifts.Goals as goal

pub returns : goal.returns
returns c = λ next. mfence_lifts next tt
