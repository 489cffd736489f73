use Rattle.std.proofs.Common.{◌∙◌, ap}
use Rattle.basic_blocks.specs.Reach.{is_among}
use Rattle.machine_plain.proofs.Closures.{in_order_reach}
use Rattle.machine_plain.proofs.reach.reach_plain.Goals as goal

pub returns : goal.returns
returns c =
    in_order_reach c.args.image.now c.args.root c.in_ok-places.places.items c.in_ok-sorted.sorted.items c.in_ok-places.ensures
    (λ a. c.in_ok-sorted.ensures.places a ∙ ap (λ x. is_among x a) c.deref.ensures.value)
    c.in_ok-sorted.ensures.rises
