use Rattle.std.proofs.Common.{◌++◌, [], ◌≡◌, subst, arith}
use Rattle.additive_lift.specs.Search.{IsMet, Meets}
use Rattle.additive_lift.proofs.Searches.{search_goes_on, search_ends, search_above}
use Rattle.additive_lift.proofs.search.reach.Goals as goal

pub returns-then-count-gt-PLACE_LIMIT-2-clause-too_many : goal.returns-then-count-gt-PLACE_LIMIT-2-clause-too_many
returns-then-count-gt-PLACE_LIMIT-2-clause-too_many c = λ _.
    let popped = subst (IsMet c.args.image.now (c.args.roots.now ++ c.args.known.now) c.loop-a.search.met.keys) c.in-Some.ensures.items c.loop-a.invariant.0 in
    let met = subst (λ x. Meets x c.loop-a.search.met.keys c.pop.new.self.items c.meet_exits.new.self.met.keys c.meet_exits.new.self.todo.items) c.exits_at.ensures c.in_ok-meet_exits.ensures in
    search_above c.args.image.now _ c.meet_exits.new.self.met.keys c.meet_exits.new.self.todo.items 65536 (search_goes_on c.args.image.now _ _ _ _ _ c.in-Some.a popped met) c.count-in-Some.ensures.rises (omega (arith, c.if-count-gt-PLACE_LIMIT-2.true, c.count-in-Some.ensures.count))

pub loop-a-preserved : goal.loop-a-preserved
loop-a-preserved c =
    let popped = subst (IsMet c.args.image.now (c.args.roots.now ++ c.args.known.now) c.loop-a.search.met.keys) c.in-Some.ensures.items c.loop-a.invariant.0 in
    let met = subst (λ x. Meets x c.loop-a.search.met.keys c.pop.new.self.items c.meet_exits.new.self.met.keys c.meet_exits.new.self.todo.items) c.exits_at.ensures c.in_ok-meet_exits.ensures in
    (search_goes_on c.args.image.now _ _ _ _ _ c.in-Some.a popped met, omega (arith, c.if-count-gt-PLACE_LIMIT-2.false, c.count-in-Some.ensures.count))

pub returns-clause-reach : goal.returns-clause-reach
returns-clause-reach c =
    let none : c.loop-a.search.todo.items ≡ [] = grind (arith, c.in_default.ensures.items, c.in_default.ensures.variant, c.in_default.ensures.cases) in
    search_ends c.args.image.now _ _ _ _ c.loop-a.invariant.0 none c.in_ok-places.ensures.items c.in_ok-places.ensures.rises
