use Rattle.guest_entries.proofs.Missing.{end_comes, strict_entered}
use Rattle.guest_entries.proofs.growth.end_strict.Goals as goal

pub miss-requires-clause-comes : goal.miss-requires-clause-comes
miss-requires-clause-comes c = let r = c.requires.misses in end_comes c.args.hall.now c.args.t c.args.a c.args.own.now r.0 r.1 r.2 r.3 c.requires.settled c.requires.strict

pub returns : goal.returns
returns c = λ table d along stops. strict_entered c.args.hall.now c.miss.new.self c.args.t c.args.a c.args.own.now table d c.miss.ensures along stops c.requires.settled c.requires.strict
