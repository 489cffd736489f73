use Rattle.std.proofs.Common.{◌≡◌, take}
use Rattle.hall_core.specs.Hall.{FitTheirPlaces, places_of}
use Rattle.turn_rows.specs.Lifted.{IsLifted}
use Rattle.turn_rows.proofs.tests.blocks.blocks_at.Given as goal

abbrev pub invariant-loop-a : goal.invariant-loop-a
invariant-loop-a l = record { places : places_of l.blocks.items ≡ take l.a-index l.places; fits : FitTheirPlaces IsLifted l.image l.blocks.items }
