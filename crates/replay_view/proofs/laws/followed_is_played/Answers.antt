use Rattle.replay_view.proofs.Outcomes.{followed_is_played}
use Rattle.replay_view.proofs.laws.followed_is_played.Goals as goal

pub returns : goal.returns
returns c = followed_is_played
