use Rattle.std.proofs.Common.{ap, ◌∙◌}
use Rattle.std.specs.FinMap as map
use Rattle.std.proofs.lemmas.Result.{IfOk-at_ok}
use Rattle.sync_more.proofs.HashLemmas.{insert-shown}
use Rattle.sync_more.proofs.phases.Phases.put.Goals as goal

pub returns-clause-places : goal.returns-clause-places
returns-clause-places c =
    let updates = IfOk-at_ok _ c.unwrap.ensures c.insert-kept.ensures.updates in
    insert-shown c.self.inside.entries.entries c.insert-kept.new.self.entries c.args.t c.args.phase updates.0 ∙ ap (λ w. map.insert w.places c.args.t c.args.phase) c.self.view_is
