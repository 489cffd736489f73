use Rattle.std.proofs.Common.{rules, Some}
use Rattle.turn_lock.proofs.Steps.{front}
use Rattle.turn_lock.proofs.turn.Turn.take_out.Goals as goal

pub exchange-taken-requires : goal.exchange-taken-requires
exchange-taken-requires g c = (search rules, (Some c.requires.won.0, front c.args.seat.me _ _ c.requires.won.1))
