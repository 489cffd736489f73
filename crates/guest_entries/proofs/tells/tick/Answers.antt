use Rattle.guest_entries.proofs.Entering.{may_come}
use Rattle.journal_pack.specs.declared.entry.Entry.TheVariants.{Tick}
use Rattle.guest_entries.proofs.Telling.{tick_entered, tick_left}
use Rattle.guest_entries.proofs.tells.tick.Goals as goal

pub tick-requires-clause-comes : goal.tick-requires-clause-comes
tick-requires-clause-comes c =
    let r = c.requires.most in
    may_come c.args.hall.now c.args.t (Tick c.args.t c.args.own.now.k) (record c.args.own.now { k = 0 }) r.0 (tick_left c.args.hall.now c.args.t c.args.own.now r.0 r.1 r.2 r.3) tt

pub returns : goal.returns
returns c = λ table d along at. tick_entered c.args.hall.now c.args.t c.args.own.now table d along c.tick.new.self at c.tick.ensures
