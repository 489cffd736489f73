use Rattle.std.proofs.Common.{sym, subst, ◌∙◌}
use Rattle.hall_core.specs.Hall.{FitTheirPlaces}
use Rattle.turn_rows.specs.Lifted.{IsLifted}
use Rattle.turn_rows.proofs.tests.run.hall_of.Goals as goal

pub make-requires-clause-fits : goal.make-requires-clause-fits
make-requires-clause-fits c = subst (λ i. FitTheirPlaces IsLifted i c.in_ok-blocks.blocks.items) (c.deref-2.ensures ∙ sym c.in_ok-case.ensures.image) c.in_ok-blocks.ensures.fits
