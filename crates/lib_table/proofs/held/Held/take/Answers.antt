use Rattle.std.proofs.Common.{ap, ◌∙◌}
use Rattle.std.specs.FinMap as map
use Rattle.lib_table.proofs.HeldLemmas.{insert-held}
use Rattle.lib_table.proofs.held.Held.take.Goals as goal

pub returns-clause-ok : goal.returns-clause-ok
returns-clause-ok c = insert-held c.self.inside.owners c.insert.new.self c.args.a c.args.t c.in_ok-insert.ensures.updates ∙ ap (λ m. map.insert m c.args.a c.args.t) c.self.view_is
