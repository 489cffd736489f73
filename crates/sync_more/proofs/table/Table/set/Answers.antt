use Rattle.std.proofs.Common.{◌≡◌, true, false, None, IsSome, subst, sym, ap, ◌∙◌}
use Rattle.std.specs.FinMap as map
use Rattle.std.proofs.lemmas.Result.{IfOk-at_ok}
use Rattle.sync_more.proofs.TableLemmas.{is_ok, newest-insert, older-get, older-insert}
use Rattle.sync_more.proofs.TreeLemmas.{get-tree, insert-tree}
use Rattle.sync_more.proofs.table.Table.set.Goals as goal

pub returns-then-is_newest-clause-places : goal.returns-then-is_newest-clause-places
returns-then-is_newest-clause-places g c =
    newest-insert c.self.inside.last c.self.inside.tree.entries c.args.k c.args.v (sym c.is_newest.ensures ∙ c.if-is_newest.true)
    ∙ ap (λ w. map.insert w.places c.args.k c.args.v) c.self.view_is

pub unwrap-requires : goal.unwrap-requires
unwrap-requires g c =
    let es = c.self.inside.tree.entries in
    is_ok c.insert-kept.result _ c.insert-kept.ensures.absent (λ none.
    let gone : map.get c.args.self.now.places c.args.k ≡ None =
    ap (λ w. map.get w.places c.args.k) (sym c.self.view_is) ∙ older-get c.self.inside.last es c.args.k (sym c.is_newest.ensures ∙ c.if-is_newest.false) ∙ get-tree es c.args.k ∙ none in
    let never : false ≡ true = subst IsSome gone c.requires in (cc))

pub returns-clause-places : goal.returns-clause-places
returns-clause-places g c =
    let updates = IfOk-at_ok _ c.unwrap.ensures c.insert-kept.ensures.updates in
    older-insert c.self.inside.last c.self.inside.tree.entries c.insert-kept.new.self.entries c.args.k c.args.v (sym c.is_newest.ensures ∙ c.if-is_newest.false)
    (insert-tree c.self.inside.tree c.insert-kept.new.self c.args.k c.args.v updates)
    ∙ ap (λ w. map.insert w.places c.args.k c.args.v) c.self.view_is
