use Rattle.std.proofs.Common.{ap, sym, ◌∙◌}
use Rattle.std.specs.FinMap as map
use Rattle.cfg_book.proofs.Entries.{len-shown}
use Rattle.cfg_book.proofs.book.Book.count.Goals as goal

pub returns-clause-count : goal.returns-clause-count
returns-clause-count g c = c.len.ensures.len ∙ sym (len-shown (λ b. b.value) c.self.inside.blocks.entries c.len.ensures.unique) ∙ ap (λ w. map.len w.blocks) c.self.view_is
