use Rattle.std.proofs.Common.{arith, ◌∙◌}
use Rattle.std.specs.Int.{w32}
use Rattle.std.proofs.lemmas.Int.{to_z-of_z}
use Rattle.guest_gen.proofs.Jumps.{near_spelled, far_spelled}
use Rattle.guest_gen.proofs.assembling.jump_back.Goals as goal

pub returns-in_ok-bytes-clause-spells : goal.returns-in_ok-bytes-clause-spells
returns-in_ok-bytes-clause-spells c = near_spelled c.args.label c.args.at _ c.in_ok-bytes.bytes.items c.requires.behind (omega (arith, c.if-at-label-le-NEAR.true)) (to_z-of_z w32 c.distance-rel.result c.distance-rel.ensures.fits ∙ c.distance-rel.ensures.value) c.in_ok-bytes.ensures.spells c.in_ok-bytes.ensures.usual

pub returns-in_ok-bytes-2-clause-spells : goal.returns-in_ok-bytes-2-clause-spells
returns-in_ok-bytes-2-clause-spells c = far_spelled c.args.label c.args.at _ c.in_ok-bytes-2.bytes.items c.requires.behind (omega (arith, c.if-at-label-le-NEAR.false)) c.requires.low (to_z-of_z w32 c.distance-rel-else-at-label-le-NEAR.result c.distance-rel-else-at-label-le-NEAR.ensures.fits ∙ c.distance-rel-else-at-label-le-NEAR.ensures.value) c.in_ok-bytes-2.ensures.spells c.in_ok-bytes-2.ensures.usual
