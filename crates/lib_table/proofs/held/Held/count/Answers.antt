use Rattle.std.proofs.Common.{sym, ap, ◌∙◌}
use Rattle.std.specs.FinMap as map
use Rattle.lib_table.proofs.HeldLemmas.{len-held}
use Rattle.lib_table.proofs.held.Held.count.Goals as goal

pub returns : goal.returns
returns c = c.len.ensures.len ∙ (sym (len-held c.self.inside.owners c.len.ensures.ordered) ∙ ap map.len c.self.view_is)
