use Rattle.guest_entries.proofs.Missing.{missed, tell_comes}
use Rattle.guest_entries.proofs.growth.tell.Goals as goal

pub miss-requires-clause-comes : goal.miss-requires-clause-comes
miss-requires-clause-comes c = let r = c.requires.misses in tell_comes c.args.hall.now c.args.t c.args.a c.args.own.now r.0 r.1 r.2 r.3 c.requires.settled c.requires.additive

pub returns-clause-missed : goal.returns-clause-missed
returns-clause-missed c = λ table d along stops. missed c.args.hall.now c.miss.new.self c.args.t c.args.a c.args.own.now table d c.miss.ensures along stops c.requires.settled c.requires.additive
