use Rattle.x86_model.proofs.Standing.{refuses_unspelled}
use Rattle.x86_model.proofs.laws.refuses_what_is_not_spelled.Goals as goal

pub returns : goal.returns
returns c = refuses_unspelled c.reads_exactly.ensures
