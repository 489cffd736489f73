use Rattle.std.proofs.Common.{sym, subst, ◌∙◌}
use Rattle.elf_image.specs.Layout.{ImageData}
use Rattle.run_start.specs.First.{AreCodePlaces, AreLifted}
use Rattle.run_start.proofs.Lifting.{blocks_fit, places_same}
use Rattle.run_start.proofs.first.open.Goals as goal

pub lifted-requires : goal.lifted-requires
lifted-requires c =
    let case = c.args.prepared.case in
    subst (λ (i : ImageData). AreCodePlaces i c.first.result.now) (sym c.image.ensures) (subst (AreCodePlaces case.image) (sym c.first.ensures) c.requires.places)

pub make-requires-clause-places : goal.make-requires-clause-places
make-requires-clause-places c = places_same c.image.result.now c.first.result.now c.in_ok-blocks.blocks.items c.in_ok-blocks.ensures ∙ c.first.ensures

pub make-requires-clause-fits : goal.make-requires-clause-fits
make-requires-clause-fits c = blocks_fit c.args.prepared.case.image c.first.result.now c.in_ok-blocks.blocks.items (subst (λ (i : ImageData). AreLifted i c.first.result.now c.in_ok-blocks.blocks.items) c.image.ensures c.in_ok-blocks.ensures)
