use Rattle.std.proofs.Common.{ap, sym, ◌∙◌}
use Rattle.std.specs.List.{list_all}
use Rattle.lib_table.specs.Library.{LibraryData, has_number}
use Rattle.lib_table.proofs.SlotLemmas.{numbers-computed}
use Rattle.lib_table.proofs.library.Library.has_numbers.Goals as goal

pub returns-clause-numbers : goal.returns-clause-numbers
returns-clause-numbers c = λ h.
    numbers-computed c.args.self.now c.self.inside.slots.items (ap (λ (l : LibraryData). l.slots) (sym c.self.view_is)) c.self.invariant.0
    (ap (list_all has_number) (sym c.deref.ensures.value) ∙ (sym c.all_have_numbers.ensures ∙ h))
