use Rattle.std.proofs.Common.{ap, ◌∙◌}
use Rattle.sync_more.proofs.HashLemmas.{same-shown}
use Rattle.sync_more.proofs.phases.Phases.reserve.Goals as goal

pub returns-clause-places : goal.returns-clause-places
returns-clause-places c = same-shown c.self.inside.entries.entries c.reserve.new.self.entries c.reserve.ensures.entries.2 ∙ ap (λ w. w.places) c.self.view_is
