use Rattle.std.proofs.Common.{ap, ◌∙◌, sym}
use mathlib.Core.Option.{some}
use Rattle.turn_lock.proofs.Passes.{closes, closes_with}
use Rattle.turn_lock.proofs.turn.Turn.close.Goals as goal

pub unreachable-requires : goal.unreachable-requires
unreachable-requires g c =
    let end = closes g.T.Story.case g.T.Story.entries g.T.Story.number c.args.self.table.shared.key.1 c.gather-seat.result.id c.gather-seat.result.me.0 _ _ c.args.passes.items
    (c.requires.all ∙ sym c.args.self.sized.2) c.requires.in_order (ap (λ m. m.0) c.gather-seat.ensures.all) c.close_with-closed.ensures.values.2 in
    let there = end.1 in cc

pub returns-clause-same_case : goal.returns-clause-same_case
returns-clause-same_case g c k d h =
    (closes_with g.T.Story.case g.T.Story.entries g.T.Story.number c.args.self.table.shared.key.1 c.gather-seat.result.id c.gather-seat.result.me.0 _ _ c.args.passes.items c.in-Some.value
    (c.requires.all ∙ sym c.args.self.sized.2) c.requires.in_order (ap (λ m. m.0) c.gather-seat.ensures.all) c.close_with-closed.ensures.values.2 (c.take-left.ensures.value ∙ ap some c.in-Some.is) k d h).same_case

pub returns-clause-begins : goal.returns-clause-begins
returns-clause-begins g c k d h =
    (closes_with g.T.Story.case g.T.Story.entries g.T.Story.number c.args.self.table.shared.key.1 c.gather-seat.result.id c.gather-seat.result.me.0 _ _ c.args.passes.items c.in-Some.value
    (c.requires.all ∙ sym c.args.self.sized.2) c.requires.in_order (ap (λ m. m.0) c.gather-seat.ensures.all) c.close_with-closed.ensures.values.2 (c.take-left.ensures.value ∙ ap some c.in-Some.is) k d h).begins

pub returns-clause-own : goal.returns-clause-own
returns-clause-own g c k d h =
    (closes_with g.T.Story.case g.T.Story.entries g.T.Story.number c.args.self.table.shared.key.1 c.gather-seat.result.id c.gather-seat.result.me.0 _ _ c.args.passes.items c.in-Some.value
    (c.requires.all ∙ sym c.args.self.sized.2) c.requires.in_order (ap (λ m. m.0) c.gather-seat.ensures.all) c.close_with-closed.ensures.values.2 (c.take-left.ensures.value ∙ ap some c.in-Some.is) k d h).same_own
