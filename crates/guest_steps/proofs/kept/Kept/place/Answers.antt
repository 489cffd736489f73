use Rattle.std.proofs.Common.{◌≡◌, length, slice_index}
use Rattle.guest_parts.specs.Standing.{places_of}
use Rattle.std.proofs.Common.{ap, arith, ◌∙◌}
use Rattle.std.proofs.lemmas.Grind.{get_or_default_zero}
use Rattle.guest_steps.proofs.Table.{places_long}
use Rattle.guest_steps.proofs.kept.Kept.place.Goals as goal

pub index-requires : goal.index-requires
index-requires c = let e : length c.self.inside.block.value.parts ≡ length c.args.self.now.block.parts = ap (λ x. length x.block.parts) c.self.view_is in omega (arith, c.requires, e, ap length c.self.invariant.1, places_long c.self.inside.image.value c.self.inside.block.value)

pub returns : goal.returns
returns c =
    let e : length c.self.inside.block.value.parts ≡ length c.args.self.now.block.parts = ap (λ x. length x.block.parts) c.self.view_is in
    c.index.ensures
    ∙ get_or_default_zero c.self.inside.places.items c.args.part c.index.result.now (omega (arith, c.requires, e, ap length c.self.invariant.1, places_long c.self.inside.image.value c.self.inside.block.value))
    ∙ ap (λ l. slice_index l c.args.part) c.self.invariant.1
    ∙ ap (λ x. slice_index (places_of x.image x.block) c.args.part) c.self.view_is
