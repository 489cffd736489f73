use Rattle.guest_entries.proofs.Missing.{full_comes_by, full_entered_by}
use Rattle.guest_entries.proofs.growth.end_full.Goals as goal

pub full-requires-clause-place : goal.full-requires-clause-place
full-requires-clause-place c = let r = c.requires.misses in (c.tell.ensures.missed r.0 r.1 r.2 r.3).at

pub full-requires-clause-comes : goal.full-requires-clause-comes
full-requires-clause-comes c = let r = c.requires.misses in full_comes_by c.args.hall.now c.tell.new.hall c.args.t c.args.a c.args.own.now c.tell.new.own r.0 r.1 c.tell.ensures.own r.3 c.requires.additive c.requires.all (c.tell.ensures.missed r.0 r.1 r.2 r.3)

pub returns : goal.returns
returns c = λ table d along stops. full_entered_by c.args.hall.now c.tell.new.hall c.full.new.self c.args.t c.args.a c.args.own.now c.tell.new.own table d c.tell.ensures.own c.full.ensures stops c.requires.additive c.requires.all (c.tell.ensures.missed table d along stops)
