use Rattle.std.proofs.Common.{sym, ◌∙◌}
use Rattle.hall_core.specs.Hall.{both}
use Rattle.thread_step.proofs.SlotTurn.{begun_ready, has_none}
use Rattle.thread_step.proofs.guest.Guest.enter.Goals as goal

pub start-requires-clause-new : goal.start-requires-clause-new
start-requires-clause-new c = c.requires.ready.stands.new c.args.t c.requires.going c.requires.lives (c.has_begun.ensures.no c.if-has_begun.false)

pub returns-then-has_begun-clause-ready : goal.returns-then-has_begun-clause-ready
returns-then-has_begun-clause-ready c = begun_ready c.args.hall.now c.args.self.now c.args.t c.requires.ready c.requires.going c.requires.lives (c.has_begun.ensures.yes c.if-has_begun.true)

pub returns-clause-told : goal.returns-clause-told
returns-clause-told c = c.start.ensures.told ∙ sym (c.requires.ready.stands.told c.requires.going (has_none c.args.hall.now c.args.self.now c.args.t c.requires.lives (c.has_begun.ensures.no c.if-has_begun.false)))

pub returns-clause-ages : goal.returns-clause-ages
returns-clause-ages c = c.start.ensures.none ∙ sym (c.requires.ready.stands.none c.requires.going (has_none c.args.hall.now c.args.self.now c.args.t c.requires.lives (c.has_begun.ensures.no c.if-has_begun.false)))

pub returns-clause-ready : goal.returns-clause-ready
returns-clause-ready c = (_, c.start.ensures.ready c.clear.new.table.items c.args.t c.requires.going c.requires.lives (c.clear.ensures c.args.hall.now.case.image (both c.args.hall.now).gate.grown))
