use Rattle.std.proofs.Common.{sym, subst}
use Rattle.hall_core.specs.Hall.{FitTheirPlaces}
use Rattle.turn_rows.specs.Lifted.{IsLifted}
use Rattle.turn_rows.proofs.Placed.{fits_one_more}
use Rattle.turn_rows.proofs.tests.blocks.put.Goals as goal

pub returns-clause-fits : goal.returns-clause-fits
returns-clause-fits c = λ all. subst (FitTheirPlaces IsLifted c.args.image.now) (sym c.in_ok-push.ensures.items) (fits_one_more IsLifted c.args.image.now c.args.blocks.now.items (c.args.a, c.args.b) c.requires all)
