use Rattle.replay_view.proofs.Outcomes.{one_answer}
use Rattle.replay_view.proofs.laws.one_answer.Goals as goal

pub returns : goal.returns
returns c = one_answer
