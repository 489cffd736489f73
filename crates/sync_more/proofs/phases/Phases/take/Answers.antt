use Rattle.std.proofs.Common.{ap, ◌∙◌}
use Rattle.std.specs.FinMap as map
use Rattle.sync_more.proofs.HashLemmas.{remove-shown}
use Rattle.sync_more.proofs.phases.Phases.take.Goals as goal

pub returns-clause-places : goal.returns-clause-places
returns-clause-places c = remove-shown c.self.inside.entries.entries c.remove-phase.new.self.entries c.args.t c.remove-phase.ensures.updates.0 ∙ ap (λ w. map.remove w.places c.args.t) c.self.view_is
