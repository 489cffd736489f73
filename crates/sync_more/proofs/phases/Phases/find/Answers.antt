use Rattle.std.proofs.Common.{ap, sym, ◌∙◌}
use Rattle.std.specs.FinMap as map
use Rattle.sync_more.proofs.HashLemmas.{get-shown}
use Rattle.sync_more.proofs.phases.Phases.find.Goals as goal

pub returns : goal.returns
returns c = c.copied.ensures ∙ c.get.ensures.value ∙ sym (get-shown c.self.inside.entries.entries c.args.t) ∙ ap (λ w. map.get w.places c.args.t) c.self.view_is
