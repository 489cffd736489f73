use Rattle.std.proofs.Common.{◌≡◌, ◌+◌, ◌-◌, ℕ, max, get_or, ap, ◌∙◌, arith}
use Rattle.tso_memory.specs.Numbers.{class_of}
use Rattle.tso_memory.proofs.NumberLemmas.{class_read, reach_within, seen_reach}
use Rattle.tso_memory.proofs.numbers.Numbers.reach.Goals as goal

pub returns-clause-within : goal.returns-clause-within
returns-clause-within c = λ ps h.
    let newest = c.args.self.now.newest.items in
    let is : c.saturating_sub.result ≡ max c.index-low.result.now c.index-high.result.now - c.args.self.now.first = c.saturating_sub.ensures ∙ ap (λ (m : ℕ). m - c.args.self.now.first) c.max.ensures in
    reach_within ps c.args.self.now.first c.args.a (c.args.a + (c.args.size - 1)) c.index-low.result.now c.index-high.result.now c.saturating_sub.result newest h
    (class_read newest c.class.result (class_of c.args.a) c.index-low.result.now c.requires.classes c.class.ensures.within c.class.ensures.class c.index-low.ensures)
    (class_read newest c.last_class.result (class_of (c.args.a + (c.args.size - 1))) c.index-high.result.now c.requires.classes c.last_class.ensures.within c.last_class.ensures.class c.index-high.ensures)
    is

pub returns-clause-seen : goal.returns-clause-seen
returns-clause-seen c = λ ps h x b from to.
    let newest = c.args.self.now.newest.items in
    let is : c.saturating_sub.result ≡ max c.index-low.result.now c.index-high.result.now - c.args.self.now.first = c.saturating_sub.ensures ∙ ap (λ (m : ℕ). m - c.args.self.now.first) c.max.ensures in
    let low : c.index-low.result.now ≡ get_or newest (class_of c.args.a) 0 = class_read newest c.class.result (class_of c.args.a) c.index-low.result.now c.requires.classes c.class.ensures.within c.class.ensures.class c.index-low.ensures in
    let high : c.index-high.result.now ≡ get_or newest (class_of (c.args.a + (c.args.size - 1))) 0 = class_read newest c.last_class.result (class_of (c.args.a + (c.args.size - 1))) c.index-high.result.now c.requires.classes c.last_class.ensures.within c.last_class.ensures.class c.index-high.ensures in
    seen_reach ps c.args.self.now.first c.saturating_sub.result c.args.a c.args.size x b newest c.requires.some c.requires.narrow h (omega (arith, is, low)) (omega (arith, is, high)) from to
