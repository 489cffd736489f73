use Rattle.std.proofs.Common.{None, map, take, sym, ap, ◌∙◌}
use Rattle.std.proofs.lemmas.List.{map_more}
use Rattle.dyn_link.specs.declared.binding.Binding.{Binding}
use Rattle.dyn_link.specs.declared.slot.Place.{Place}
use Rattle.dyn_link.proofs.Writing.{shape, bound_none, bound_more, shapes_bound, apart_too, placed_too}
use Rattle.dyn_link.proofs.slot.write_places.Goals as goal

abbrev none : Place
none = record { segment = 0; binding = record { slot = 0; function = None } }

pub loop-p-init : goal.loop-p-init
loop-p-init c = record { bound = bound_none c.args.segments.now.items; whole = c.requires.whole }

pub write_place-requires-clause-placed : goal.write_place-requires-clause-placed
write_place-requires-clause-placed c =
    let bs = map (λ (p : Place). p.binding) (take c.loop-p.p-index c.args.places.now) in
    let same = ap (map shape) c.loop-p.invariant.bound ∙ shapes_bound c.args.segments.now.items bs in
    placed_too c.loop-p.segments.items c.args.segments.now.items same _ (c.requires.placed c.loop-p.p-index none c.loop-p-test.true)

pub write_place-requires-clause-apart : goal.write_place-requires-clause-apart
write_place-requires-clause-apart c =
    let bs = map (λ (p : Place). p.binding) (take c.loop-p.p-index c.args.places.now) in
    let same = ap (map shape) c.loop-p.invariant.bound ∙ shapes_bound c.args.segments.now.items bs in
    apart_too c.loop-p.segments.items c.args.segments.now.items same c.requires.apart

pub loop-p-preserved : goal.loop-p-preserved
loop-p-preserved c =
    let binding_of : Place → Binding = λ p. p.binding in
    let more = map_more binding_of c.args.places.now c.loop-p.p-index none c.loop-p-test.true in
    record {
      bound = rw (c.write_place.ensures.bound, c.loop-p.invariant.bound, more) (sym (bound_more c.args.segments.now.items (map binding_of (take c.loop-p.p-index c.args.places.now)) _));
      whole = c.write_place.ensures.whole c.loop-p.invariant.whole;
    }
