use Rattle.std.proofs.Common.{sym, ap, ◌∙◌}
use Rattle.std.specs.FinMap as map
use Rattle.lib_table.proofs.HeldLemmas.{get-held}
use Rattle.lib_table.proofs.held.Held.holder.Goals as goal

pub returns : goal.returns
returns c = c.copied.ensures ∙ (c.get.ensures.value ∙ (sym (get-held c.self.inside.owners.entries c.args.a) ∙ ap (λ m. map.get m c.args.a) c.self.view_is))
