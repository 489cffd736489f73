use Rattle.std.proofs.Common.{rules}
use Rattle.turn_lock.proofs.Steps.{drawing}
use Rattle.turn_lock.proofs.turn.Turn.draw.Goals as goal

pub compare_exchange-requires : goal.compare_exchange-requires
compare_exchange-requires g c = (search rules, search rules, drawing g.T.Story.case g.T.Story.entries g.T.Story.number _ _ _ _ c.args.self.now.table.shared.key.0.value _ (search rules) (search rules))
