use Rattle.std.proofs.Common.{[], ◌∷◌}
use Rattle.run_start.proofs.Lifting.{reached_places}
use Rattle.run_start.proofs.places.first_places.Goals as goal

pub returns-in-Ok-reached-clause-code : goal.returns-in-Ok-reached-clause-code
returns-in-Ok-reached-clause-code g c = reached_places c.args.image.now (c.args.image.now.entry ∷ []) c.in-Ok-reached.places.items c.in-Ok-reached.ensures.reach
