use Rattle.std.proofs.Common.{◌≡◌, ℕ, Some, None, sym, ap, ◌∙◌}
use Rattle.std.specs.FinMap as map
use Rattle.sync_more.proofs.MapLemmas.{remove-apart, remove-inserted}
use Rattle.sync_more.proofs.TableLemmas.{get-other, get-same, over-none, over-some}
use Rattle.sync_more.proofs.TreeLemmas.{get-tree, remove-tree}
use Rattle.sync_more.proofs.table.Table.take.Goals as goal

pub returns-then-key-k-clause-value : goal.returns-then-key-k-clause-value
returns-then-key-k-clause-value g c =
    let es = c.self.inside.tree.entries in
    let there : c.self.inside.last ≡ Some (c.in-Some.key, c.in-Some.v) = sym c.take.ensures.value ∙ c.in-Some.is in
    sym (get-same (map.from_entries es) c.in-Some.key c.args.k c.in-Some.v c.if-key-k.true)
    ∙ sym (ap (λ m. map.get m c.args.k) (over-some c.self.inside.last es c.in-Some.key c.in-Some.v there))
    ∙ ap (λ w. map.get w.places c.args.k) c.self.view_is

pub returns-then-key-k-clause-places : goal.returns-then-key-k-clause-places
returns-then-key-k-clause-places g c =
    let es = c.self.inside.tree.entries in
    let there : c.self.inside.last ≡ Some (c.in-Some.key, c.in-Some.v) = sym c.take.ensures.value ∙ c.in-Some.is in
    over-none c.take.new.self c.remove-beneath.new.self.entries c.take.ensures.after
    ∙ remove-tree c.self.inside.tree c.remove-beneath.new.self c.args.k c.remove-beneath.ensures.updates
    ∙ sym (remove-inserted (map.from_entries es) c.args.k c.in-Some.v)
    ∙ ap (λ (j : ℕ). map.remove (map.insert (map.from_entries es) j c.in-Some.v) c.args.k) (sym c.if-key-k.true)
    ∙ sym (ap (λ m. map.remove m c.args.k) (over-some c.self.inside.last es c.in-Some.key c.in-Some.v there))
    ∙ ap (λ w. map.remove w.places c.args.k) c.self.view_is

pub returns-else-key-k-clause-value : goal.returns-else-key-k-clause-value
returns-else-key-k-clause-value g c =
    let es = c.self.inside.tree.entries in
    let there : c.self.inside.last ≡ Some (c.in-Some.key, c.in-Some.v) = sym c.take.ensures.value ∙ c.in-Some.is in
    c.remove-beneath.ensures.value ∙ sym (get-tree es c.args.k)
    ∙ sym (get-other (map.from_entries es) c.in-Some.key c.args.k c.in-Some.v c.if-key-k.false)
    ∙ sym (ap (λ m. map.get m c.args.k) (over-some c.self.inside.last es c.in-Some.key c.in-Some.v there))
    ∙ ap (λ w. map.get w.places c.args.k) c.self.view_is

pub returns-else-key-k-clause-places : goal.returns-else-key-k-clause-places
returns-else-key-k-clause-places g c =
    let es = c.self.inside.tree.entries in
    let there : c.self.inside.last ≡ Some (c.in-Some.key, c.in-Some.v) = sym c.take.ensures.value ∙ c.in-Some.is in
    ap (λ m. map.insert m c.in-Some.key c.in-Some.v) (remove-tree c.self.inside.tree c.remove-beneath.new.self c.args.k c.remove-beneath.ensures.updates)
    ∙ remove-apart (map.from_entries es) c.args.k c.in-Some.key c.in-Some.v (λ e. c.if-key-k.false (sym e))
    ∙ sym (ap (λ m. map.remove m c.args.k) (over-some c.self.inside.last es c.in-Some.key c.in-Some.v there))
    ∙ ap (λ w. map.remove w.places c.args.k) c.self.view_is

pub returns-in-None-clause-value : goal.returns-in-None-clause-value
returns-in-None-clause-value g c =
    let es = c.self.inside.tree.entries in
    let there : c.self.inside.last ≡ None = sym c.take.ensures.value ∙ c.in-None.is in
    c.remove-beneath.ensures.value ∙ sym (get-tree es c.args.k) ∙ sym (ap (λ m. map.get m c.args.k) (over-none c.self.inside.last es there)) ∙ ap (λ w. map.get w.places c.args.k) c.self.view_is

pub returns-in-None-clause-places : goal.returns-in-None-clause-places
returns-in-None-clause-places g c =
    let es = c.self.inside.tree.entries in
    let there : c.self.inside.last ≡ None = sym c.take.ensures.value ∙ c.in-None.is in
    over-none c.take.new.self c.remove-beneath.new.self.entries c.take.ensures.after
    ∙ remove-tree c.self.inside.tree c.remove-beneath.new.self c.args.k c.remove-beneath.ensures.updates
    ∙ sym (ap (λ m. map.remove m c.args.k) (over-none c.self.inside.last es there))
    ∙ ap (λ w. map.remove w.places c.args.k) c.self.view_is
