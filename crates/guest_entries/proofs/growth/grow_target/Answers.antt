use Rattle.std.proofs.Common.{[], ◌∷◌, MatchOption, Ok, subst}
use Rattle.basic_blocks.specs.Reach.{IsReach, IsReachAbove}
use Rattle.guest_entries.specs.Growth.{GrewTarget}
use Rattle.guest_entries.proofs.Growing.{above_after, on_err, reach_after, target_comes, target_then, target_there, unbounded_reach, wanting_target}
use Rattle.guest_entries.proofs.growth.grow_target.Goals as goal

pub grow-requires-clause-comes : goal.grow-requires-clause-comes
grow-requires-clause-comes g c = let r = c.requires.growth in target_comes c.args.hall.now c.args.t c.args.a r.0 r.1 r.2 c.requires.place c.requires.new c.requires.few

pub returns-in_err-grow : goal.returns-in_err-grow
returns-in_err-grow g c = λ x d i. on_err (λ r. GrewTarget r c.args.hall.now c.grow.new.hall c.args.t c.args.a x d) (λ e. wanting_target c.args.hall.now c.grow.new.hall c.args.t c.args.a x d e c.in_err-grow.ensures.err i) c.from_residual.result c.from_residual.ensures.0

pub grow_reach-requires : goal.grow_reach-requires
grow_reach-requires g c =
    let r = c.requires.growth in
    let reach : IsReach c.args.hall.now.case.image (c.args.a ∷ []) c.in-Some.places.items = subst (λ o. MatchOption o (IsReachAbove c.args.hall.now.case.image (c.args.a ∷ []) 65536) (λ places. IsReach c.args.hall.now.case.image (c.args.a ∷ []) places.items)) c.in-Some.is c.requires.onward in
    record {
      onward = (
        c.args.a,
        r.0,
        r.1,
        target_there c.args.hall.now c.grow.new.hall c.args.t c.args.a r.0 r.1 c.args.block.value c.in_ok-grow.ensures.ok r.2 c.requires.place c.requires.new c.requires.few,
        reach_after c.args.hall.now c.grow.new.hall c.args.t c.args.a c.args.block.value c.in-Some.places.items c.deref.result.now c.in_ok-grow.ensures.ok c.deref.ensures.value reach,
      );
    }

pub returns-in-Some : goal.returns-in-Some
returns-in-Some g c = λ x d i.
    let reach : IsReach c.args.hall.now.case.image (c.args.a ∷ []) c.in-Some.places.items = subst (λ o. MatchOption o (IsReachAbove c.args.hall.now.case.image (c.args.a ∷ []) 65536) (λ places. IsReach c.args.hall.now.case.image (c.args.a ∷ []) places.items)) c.in-Some.is c.requires.onward in
    target_then c.grow_reach.result c.args.hall.now c.grow.new.hall c.grow_reach.new.hall c.args.t c.args.a x d c.args.block.value c.in_ok-grow.ensures.ok i c.requires.place c.requires.new c.requires.few
    (c.grow_reach.ensures c.args.a x d
    (target_there c.args.hall.now c.grow.new.hall c.args.t c.args.a x d c.args.block.value c.in_ok-grow.ensures.ok i c.requires.place c.requires.new c.requires.few)
    (reach_after c.args.hall.now c.grow.new.hall c.args.t c.args.a c.args.block.value c.in-Some.places.items c.deref.result.now c.in_ok-grow.ensures.ok c.deref.ensures.value reach))

pub returns-in-None : goal.returns-in-None
returns-in-None g c = λ x d i.
    let above : IsReachAbove c.args.hall.now.case.image (c.args.a ∷ []) 65536 = subst (λ o. MatchOption o (IsReachAbove c.args.hall.now.case.image (c.args.a ∷ []) 65536) (λ places. IsReach c.args.hall.now.case.image (c.args.a ∷ []) places.items)) c.in-None.is c.requires.onward in
    let there = target_there c.args.hall.now c.grow.new.hall c.args.t c.args.a x d c.args.block.value c.in_ok-grow.ensures.ok i c.requires.place c.requires.new c.requires.few in
    target_then (Ok tt) c.args.hall.now c.grow.new.hall c.grow.new.hall c.args.t c.args.a x d c.args.block.value c.in_ok-grow.ensures.ok i c.requires.place c.requires.new c.requires.few (unbounded_reach c.grow.new.hall c.args.t c.args.a x d there.growth (above_after c.args.hall.now c.grow.new.hall c.args.t c.args.a c.args.block.value c.in_ok-grow.ensures.ok above))
