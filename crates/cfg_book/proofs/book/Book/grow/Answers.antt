use Rattle.std.proofs.Common.{◌≡◌, Bool, true, false, Option, Some, None, option_map, is_some, IsSome, refl, ap, sym, ◌∙◌, arith}
use Rattle.std.specs.FinMap as map
use Rattle.std.proofs.lemmas.Result.{IfOk-at_ok}
use Rattle.cfg_book.proofs.Entries.{get-shown, len-shown, put_shown}
use Rattle.cfg_book.proofs.book.Book.grow.Goals as goal

module _ {A X : Type 0} (v : A → X) where
  is_some-shown : (o : Option A) → is_some (option_map v o) ≡ is_some o
  is_some-shown None = refl
  is_some-shown (Some x) = refl

  shown_some : (o : Option A) (p : Option X) (b : Bool) → p ≡ option_map v o → b ≡ is_some o → b ≡ true → IsSome p
  shown_some o p b e t h = ap is_some e ∙ is_some-shown o ∙ sym t ∙ h

  shown_none : (o : Option A) (p : Option X) (b : Bool) → p ≡ option_map v o → b ≡ is_some o → b ≡ false → p ≡ None
  shown_none None p b e t h = e
  shown_none (Some x) p b e t h = absurd cc

pub returns-then-contains_key-clause-outcome : goal.returns-then-contains_key-clause-outcome
returns-then-contains_key-clause-outcome g c =
    let shown = ap (λ w. map.get w.blocks c.args.a) (sym c.self.view_is) ∙ get-shown (λ b. b.value) c.self.inside.blocks.entries c.args.a in
    (shown_some (λ b. b.value) _ _ c.contains_key.result shown c.contains_key.ensures c.if-contains_key.true, refl)

pub returns-then-len-ge-MAX_BLOCKS-clause-outcome :
    goal.returns-then-len-ge-MAX_BLOCKS-clause-outcome
returns-then-len-ge-MAX_BLOCKS-clause-outcome g c =
    let shown = ap (λ w. map.get w.blocks c.args.a) (sym c.self.view_is) ∙ get-shown (λ b. b.value) c.self.inside.blocks.entries c.args.a in
    let counted = c.len.ensures.len ∙ sym (len-shown (λ b. b.value) c.self.inside.blocks.entries c.len.ensures.unique) ∙ ap (λ w. map.len w.blocks) c.self.view_is in
    (shown_none (λ b. b.value) _ _ c.contains_key.result shown c.contains_key.ensures c.if-contains_key.false, omega (arith, counted, c.len.ensures.len, c.self.invariant))

pub returns-clause-ok : goal.returns-clause-ok
returns-clause-ok g c =
    let updates = IfOk-at_ok _ c.unwrap.ensures c.insert-grown.ensures.updates in
    put_shown (λ b. b.value) c.self.inside.blocks.entries c.insert-grown.new.self.entries c.args.a c.args.b updates.0 ∙ ap (λ w. map.insert w.blocks c.args.a c.args.b.value) c.self.view_is

pub returns-clause-outcome : goal.returns-clause-outcome
returns-clause-outcome g c =
    let shown = ap (λ w. map.get w.blocks c.args.a) (sym c.self.view_is) ∙ get-shown (λ b. b.value) c.self.inside.blocks.entries c.args.a in
    let counted = c.len.ensures.len ∙ sym (len-shown (λ b. b.value) c.self.inside.blocks.entries c.len.ensures.unique) ∙ ap (λ w. map.len w.blocks) c.self.view_is in
    (shown_none (λ b. b.value) _ _ c.contains_key.result shown c.contains_key.ensures c.if-contains_key.false, omega (arith, counted, c.if-len-ge-MAX_BLOCKS.false))
