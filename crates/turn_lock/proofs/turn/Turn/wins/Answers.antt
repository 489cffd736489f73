use Rattle.std.proofs.Common.{rules}
use Rattle.turn_lock.proofs.Steps.{taking}
use Rattle.turn_lock.proofs.turn.Turn.wins.Goals as goal

pub compare_exchange-requires : goal.compare_exchange-requires
compare_exchange-requires g c = (search rules, search rules, taking g.T.Story.case g.T.Story.entries g.T.Story.number _ _ _ _ _ c.requires.idle c.requires.free)
