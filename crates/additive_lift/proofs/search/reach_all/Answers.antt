use Rattle.std.proofs.Common.{[], ◌∷◌, ◌≡◌, subst, arith}
use Rattle.additive_lift.specs.Search.{IsMet, Meets}
use Rattle.additive_lift.proofs.Searches.{search_goes_on, search_ends}
use Rattle.additive_lift.proofs.search.reach_all.Goals as goal

pub loop-a-preserved : goal.loop-a-preserved
loop-a-preserved c =
    let popped = subst (IsMet c.args.image.now (c.args.root ∷ []) c.loop-a.search.met.keys) c.in-Some.ensures.items c.loop-a.invariant in
    let met = subst (λ x. Meets x c.loop-a.search.met.keys c.pop.new.self.items c.meet_exits.new.self.met.keys c.meet_exits.new.self.todo.items) c.exits_at.ensures c.in_ok-meet_exits.ensures in
    search_goes_on c.args.image.now _ _ _ _ _ c.in-Some.a popped met

pub returns : goal.returns
returns c =
    let none : c.loop-a.search.todo.items ≡ [] = grind (arith, c.in_default.ensures.items, c.in_default.ensures.variant, c.in_default.ensures.cases) in
    search_ends c.args.image.now _ _ _ _ c.loop-a.invariant none c.in_ok-places.ensures.items c.in_ok-places.ensures.rises
