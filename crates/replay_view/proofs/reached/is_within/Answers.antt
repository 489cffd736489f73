use Rattle.std.proofs.Common.{◌∙◌, sym}
use Rattle.replay_view.proofs.Growths.{not_reached, reaches_if_it_fits}
use Rattle.replay_view.proofs.reached.is_within.Goals as goal

pub returns-then-not-has : goal.returns-then-not-has
returns-then-not-has c = not_reached c.args.image.now c.args.grown.now c.args.places.now c.args.root c.args.a c.requires (sym c.has.ensures ∙ c.if-not-has.true)

pub returns : goal.returns
returns c = reaches_if_it_fits c.args.image.now c.args.grown.now c.args.places.now c.args.root c.args.a c.fits.result c.requires (sym c.has.ensures ∙ c.if-not-has.false) c.fits.ensures
