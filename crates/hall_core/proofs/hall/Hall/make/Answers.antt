use Rattle.std.proofs.Common.{ap, sym, subst, ◌∙◌}
use Rattle.lib_table.specs.Library as library
use Rattle.machine_model.specs.Own.{HasNoRepeats}
use Rattle.machine_model.proofs.Prefixes.{rising}
use Rattle.hall_core.proofs.Filled.{hall_from}
use Rattle.hall_core.proofs.hall.Hall.make.Goals as goal

pub filled-requires-clause-apart : goal.filled-requires-clause-apart
filled-requires-clause-apart g c = subst HasNoRepeats (sym c.requires.places) (rising c.args.case.first c.requires.ordered)

pub invariant_of-result : goal.invariant_of-result
invariant_of-result g c =
    let input = c.in_ok-input.ensures.items ∙ c.deref.ensures.value ∙ ap (λ x. x.input) c.case.view_is in
    let table = c.in_ok-library.ensures ∙ ap library.start_of input in
    (hall_from g.B.Fits.fits c.args.case c.args.blocks.items c.in_ok-book.book.blocks c.new-2.result.entries c.in_ok-marks.marks.items c.new-2.result.spare c.new.result c.args.start.memory c.in_ok-library.library c.requires.limit c.requires.places c.requires.fits c.in_ok-book.ensures (ap (λ x. x.entries) c.new-2.ensures) c.in_ok-marks.ensures c.new.ensures (ap (λ x. x.memory) c.requires.start) table, ap (λ x. x.rsp) c.requires.start)
