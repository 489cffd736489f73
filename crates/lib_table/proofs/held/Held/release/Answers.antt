use Rattle.std.proofs.Common.{ap, ◌∙◌}
use Rattle.std.specs.FinMap as map
use Rattle.lib_table.proofs.HeldLemmas.{remove-held}
use Rattle.lib_table.proofs.held.Held.release.Goals as goal

pub returns : goal.returns
returns c = remove-held c.self.inside.owners c.remove-owner.new.self c.args.a c.remove-owner.ensures.updates ∙ ap (λ m. map.remove m c.args.a) c.self.view_is
