use Rattle.std.proofs.Common.{◌∙◌, ◌+◌, ap, sym, length}
use Rattle.std.specs.Prelude.{nat_le}
use Rattle.machine_model.specs.Gated.{most_grown}
use Rattle.machine_plain.specs.PlainGates.{new_places}
use Rattle.basic_blocks.specs.Reach.{is_among}
use Rattle.machine_plain.proofs.GateWalk.{not_reached, reaches_if_it_fits}
use Rattle.machine_plain.proofs.gate.is_within_reach.Goals as goal

pub returns-then-not-has : goal.returns-then-not-has
returns-then-not-has c =
    not_reached c.args.image.now c.args.grown.now c.in_ok-places.places.items c.args.g c.args.a c.in_ok-places.ensures
    (ap (λ x. is_among x c.args.a) (sym c.deref.ensures.value) ∙ sym c.has.ensures ∙ c.if-not-has.true)

pub returns : goal.returns
returns c =
    reaches_if_it_fits c.args.image.now c.args.grown.now c.in_ok-places.places.items c.args.g c.args.a c.fits.result c.in_ok-places.ensures
    (ap (λ x. is_among x c.args.a) (sym c.deref.ensures.value) ∙ sym c.has.ensures ∙ c.if-not-has.false)
    (c.fits.ensures ∙ ap (λ x. nat_le (length c.args.grown.now + new_places c.args.grown.now x) most_grown) c.deref-2.ensures.value)
