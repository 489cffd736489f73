use Rattle.std.proofs.Common.{ap, sym, ◌∙◌}
use Rattle.std.specs.List.{position}
use Rattle.lib_table.specs.Library.{LibraryData, is_free}
use Rattle.lib_table.proofs.SlotLemmas.{free-fits}
use Rattle.lib_table.proofs.library.Library.next_number.Goals as goal

pub number_in-requires-clause-fits : goal.number_in-requires-clause-fits
number_in-requires-clause-fits c =
    free-fits c.args.self.now c.self.inside.slots.items c.in_ok-slot.slot c.index.result.now (ap (λ (l : LibraryData). l.slots) (sym c.self.view_is)) c.self.invariant.0 c.requires
    (sym (c.in_ok-slot.ensures ∙ ap (position is_free) c.deref.ensures.value)) c.index.ensures
