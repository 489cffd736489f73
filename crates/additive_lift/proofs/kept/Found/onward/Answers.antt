use Rattle.std.proofs.Common.{[], ◌∷◌, ◌≡◌, ◌∙◌, subst, ap, arith}
use Rattle.basic_blocks.specs.Span.{successors}
use Rattle.additive_lift.specs.Search.{IsMet, Meets}
use Rattle.additive_lift.proofs.Searches.{search_goes_on, search_ends, search_above}
use Rattle.additive_lift.proofs.kept.Found.onward.Goals as goal

pub returns-then-count-gt-PLACE_LIMIT-2-clause-too_many : goal.returns-then-count-gt-PLACE_LIMIT-2-clause-too_many
returns-then-count-gt-PLACE_LIMIT-2-clause-too_many c =
    let popped = subst (IsMet c.args.self.now (c.args.root ∷ []) c.loop-a.search.met.keys) c.in-Some.ensures.items c.loop-a.invariant.0 in
    let exits = c.exits_at-exits.ensures.exits ∙ ap (λ i. successors i c.in-Some.a) c.loop-a.invariant.2 in
    let met = subst (λ x. Meets x c.loop-a.search.met.keys c.pop.new.self.items c.meet_exits.new.self.met.keys c.meet_exits.new.self.todo.items) exits c.in_ok-meet_exits.ensures in
    search_above c.args.self.now _ c.meet_exits.new.self.met.keys c.meet_exits.new.self.todo.items 65536 (search_goes_on c.args.self.now _ _ _ _ _ c.in-Some.a popped met) c.count-in-Some.ensures.rises (omega (arith, c.if-count-gt-PLACE_LIMIT-2.true, c.count-in-Some.ensures.count))

pub loop-a-preserved : goal.loop-a-preserved
loop-a-preserved c =
    let popped = subst (IsMet c.args.self.now (c.args.root ∷ []) c.loop-a.search.met.keys) c.in-Some.ensures.items c.loop-a.invariant.0 in
    let exits = c.exits_at-exits.ensures.exits ∙ ap (λ i. successors i c.in-Some.a) c.loop-a.invariant.2 in
    let met = subst (λ x. Meets x c.loop-a.search.met.keys c.pop.new.self.items c.meet_exits.new.self.met.keys c.meet_exits.new.self.todo.items) exits c.in_ok-meet_exits.ensures in
    (search_goes_on c.args.self.now _ _ _ _ _ c.in-Some.a popped met, omega (arith, c.if-count-gt-PLACE_LIMIT-2.false, c.count-in-Some.ensures.count), c.exits_at-exits.ensures.same ∙ c.loop-a.invariant.2)

pub returns-clause-reach : goal.returns-clause-reach
returns-clause-reach c =
    let none : c.loop-a.search.todo.items ≡ [] = grind (arith, c.in_default.ensures.items, c.in_default.ensures.variant, c.in_default.ensures.cases) in
    search_ends c.args.self.now _ _ _ _ c.loop-a.invariant.0 none c.in_ok-places.ensures.items c.in_ok-places.ensures.rises

pub returns-then-count-gt-PLACE_LIMIT-clause-too_many : goal.returns-then-count-gt-PLACE_LIMIT-clause-too_many
returns-then-count-gt-PLACE_LIMIT-clause-too_many c =
    let met = subst (λ i. IsMet i (c.args.root ∷ []) c.in_ok-search.search.met.keys c.in_ok-search.search.todo.items) c.image.ensures c.in_ok-search.ensures in
    search_above c.args.self.now _ c.in_ok-search.search.met.keys c.in_ok-search.search.todo.items 65536 met c.count.ensures.rises (omega (arith, c.if-count-gt-PLACE_LIMIT.true, c.count.ensures.count))
