use Rattle.guest_entries.proofs.Entering.{may_come}
use Rattle.journal_pack.specs.declared.entry.Entry.TheVariants.{Over}
use Rattle.guest_entries.proofs.Telling.{over_entered, over_left}
use Rattle.guest_entries.proofs.tells.over.Goals as goal

pub over-requires-clause-comes : goal.over-requires-clause-comes
over-requires-clause-comes c =
    let r = c.requires.limit in
    may_come c.args.hall.now c.args.t (Over c.args.t c.args.own.now.k) (record c.args.own.now { k = 0 }) r.0 (over_left c.args.hall.now c.args.t c.args.own.now r.0 r.1 r.2 r.3) tt

pub returns : goal.returns
returns c = λ table d along limit. over_entered c.args.hall.now c.args.t c.args.own.now table d along c.over.new.self limit c.over.ensures
