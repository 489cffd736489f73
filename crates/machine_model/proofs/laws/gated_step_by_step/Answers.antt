use Rattle.machine_model.specs.Gated.{begin}
use Rattle.machine_model.proofs.Gates.{leads_more, advances, gated_before, leads_play}
use Rattle.machine_model.proofs.laws.gated_step_by_step.Goals as goal

pub returns-clause-more : goal.returns-clause-more
returns-clause-more c = λ x journal e b n. leads_more x (begin x) b n journal e

pub returns-clause-advance : goal.returns-clause-advance
returns-clause-advance c = advances

pub returns-clause-before : goal.returns-clause-before
returns-clause-before c = gated_before

pub returns-clause-played : goal.returns-clause-played
returns-clause-played c = λ x journal b. leads_play x b journal
