use Rattle.std.proofs.Common.{◌≡◌, Some, sym, ap, ◌∙◌}
use Rattle.sync_more.proofs.TableLemmas.{over-none, over-some}
use Rattle.sync_more.proofs.TreeLemmas.{insert-tree}
use Rattle.sync_more.proofs.table.Table.reserve.Goals as goal

pub returns-in-Ok-clause-places : goal.returns-in-Ok-clause-places
returns-in-Ok-clause-places g c =
    let there : c.self.inside.last ≡ Some (c.in-Some.k, c.in-Some.v) = sym c.take.ensures.value ∙ c.in-Some.is in
    over-none c.take.new.self c.insert.new.self.entries c.take.ensures.after
    ∙ insert-tree c.self.inside.tree c.insert.new.self c.in-Some.k c.in-Some.v c.in-Ok.ensures.updates
    ∙ sym (over-some c.self.inside.last c.self.inside.tree.entries c.in-Some.k c.in-Some.v there)
    ∙ ap (λ w. w.places) c.self.view_is
