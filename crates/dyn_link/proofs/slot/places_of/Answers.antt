use Rattle.std.proofs.Common.{refl, sym, subst}
use Rattle.std.proofs.lemmas.List.{map_more, map-append}
use Rattle.std.proofs.lemmas.List.Elements.{All-push}
use Rattle.elf_image.specs.Layout.{IsImage}
use Rattle.dyn_link.specs.declared.binding.Binding.{Binding}
use Rattle.dyn_link.specs.declared.slot.Place.{Place}
use Rattle.dyn_link.specs.declared.relocation.Relocation.{Relocation}
use Rattle.dyn_link.specs.Bound.{binding}
use Rattle.dyn_link.specs.Placed.{IsPlaced}
use Rattle.dyn_link.proofs.Placing.{slot_of_good}
use Rattle.dyn_link.proofs.slot.places_of.Goals as goal

abbrev none : Relocation
none = record { slot = 0; kind = 0; symbol = 0 }

pub numbers_of-requires-clause-apart : goal.numbers_of-requires-clause-apart
numbers_of-requires-clause-apart c =
    let image = subst IsImage (sym c.image.view_is) c.facts.ensures in
    rw c.deref.ensures.value image.apart

pub place_of-requires-clause-slot : goal.place_of-requires-clause-slot
place_of-requires-clause-slot c = rw c.binding-binding.ensures (slot_of_good c.args.image.now.segments c.args.names.now.strings.now c.args.names.now.symbols c.args.relocations.now c.requires c.loop-r.r-index none c.loop-r-test.true)

pub loop-r-preserved : goal.loop-r-preserved
loop-r-preserved c =
    let binding_of : Place → Binding = λ p. p.binding in
    let f : Relocation → Binding = binding c.args.image.now.segments c.args.names.now.strings.now c.args.names.now.symbols in
    let pushed = c.in_ok-push.ensures.items in
    record {
      same = rw (pushed, map-append binding_of c.loop-r.places.items, c.loop-r.invariant.same, c.place_of.ensures.same, c.binding-binding.ensures, map_more f c.args.relocations.now c.loop-r.r-index none c.loop-r-test.true) refl;
      placed = rw pushed (All-push (IsPlaced c.args.image.now.segments) c.loop-r.places.items c.place_of.result c.loop-r.invariant.placed c.place_of.ensures.placed);
    }
