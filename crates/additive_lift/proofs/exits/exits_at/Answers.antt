use Rattle.std.proofs.Common.{sym, ◌∙◌}
use Rattle.additive_lift.proofs.Walks.{exits_are, no_exits}
use Rattle.additive_lift.proofs.exits.exits_at.Goals as goal

pub returns-in-Some : goal.returns-in-Some
returns-in-Some c = exits_are c.args.image.now c.args.a c.in-Some.instr c.in-Some.next c.targets-all.result _ (sym c.ending.ensures ∙ c.in-Some.is) c.targets-all.ensures c.code_place.ensures c.code_place-in-Some.ensures

pub returns-in-None : goal.returns-in-None
returns-in-None c = no_exits c.args.image.now c.args.a _ (sym c.ending.ensures ∙ c.in-None.is) c.none.ensures
