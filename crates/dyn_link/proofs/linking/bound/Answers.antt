use Rattle.std.proofs.Common.{map, sym, subst}
use Rattle.elf_image.specs.Layout.{ImageData, IsImage}
use Rattle.dyn_link.specs.declared.slot.Place.{Place}
use Rattle.dyn_link.proofs.Writing.{bound_image}
use Rattle.dyn_link.proofs.linking.bound.Goals as goal

pub make-requires : goal.make-requires
make-requires c =
    let m : ImageData = record { entry = c.image.inside.entry; segments = c.image.inside.segments.items; entries = c.image.inside.entries.items } in
    bound_image m (map (λ (p : Place). p.binding) c.args.places.now) c.write_places.new.segments.items c.add_functions.new.entries.items (subst IsImage (sym c.image.view_is) c.facts.ensures) c.write_places.ensures.bound c.write_places.ensures.whole c.in_ok-add_functions.ensures.rising
