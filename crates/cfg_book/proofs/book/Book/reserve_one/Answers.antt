use Rattle.std.proofs.Common.{ap, ◌∙◌}
use Rattle.cfg_book.proofs.Entries.{same_shown}
use Rattle.cfg_book.proofs.book.Book.reserve_one.Goals as goal

pub returns-clause-blocks : goal.returns-clause-blocks
returns-clause-blocks g c = same_shown (λ b. b.value) c.self.inside.blocks.entries c.reserve.new.self.entries c.reserve.ensures.entries.2 ∙ ap (λ w. w.blocks) c.self.view_is
