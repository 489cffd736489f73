use Rattle.std.proofs.Common.{rules}
use Rattle.turn_lock.proofs.Steps.{giving_held}
use Rattle.turn_lock.proofs.turn.Turn.give.Goals as goal

pub swap-requires : goal.swap-requires
swap-requires g c = (search rules, search rules, giving_held g.T.Story.case g.T.Story.entries g.T.Story.number _ _ _ _ c.args.held.value c.args.held.seat.me _ c.args.held.out (search rules) c.requires.same_case c.requires.added c.requires.short (search rules))
