use Rattle.std.proofs.Common.{rules}
use Rattle.turn_lock.proofs.Steps.{splitting}
use Rattle.turn_lock.proofs.turn.Turn.deal.Goals as goal

pub split_seat-next-requires : goal.split_seat-next-requires
split_seat-next-requires g c = (search rules, search rules, splitting g.T.Story.case g.T.Story.entries g.T.Story.number _ _ _)
