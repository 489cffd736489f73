use Rattle.std.proofs.Common.{sym, ◌∙◌}
use Rattle.hall_core.proofs.Dead.{dead_comes}
use Rattle.hall_core.proofs.hall.Hall.dead.Goals as goal

pub end_dead-requires-clause-comes : goal.end_dead-requires-clause-comes
end_dead-requires-clause-comes g c = dead_comes c.args.self.now c.requires.going (sym c.is_dead.ensures ∙ c.if-not-is_dead.false)
