use Rattle.std.proofs.Common.{◌≡◌, [], ◌∷◌, Some, sym, ap, ◌∙◌, subst}
use Rattle.basic_blocks.specs.Reach.{IsReach}
use Rattle.journal_pack.specs.declared.entry.Entry.TheVariants.{Grow}
use Rattle.machine_model.specs.Serial.{make}
use Rattle.machine_plain.specs.PlainGates.{led_to}
use Rattle.serial_plain.specs.PlainSerial.{turn_as}
use Rattle.serial_plain.proofs.SerialPlain.{ok_then, reach_told, target_grown}
use Rattle.serial_plain.proofs.turns.PlainTurn.grow_target.Goals as goal

pub returns-clause-made : goal.returns-clause-made
returns-clause-made c =
    let some : Some (turn_as c.make.new.self) ≡ make c.args.case.now (Grow c.args.t c.args.g) (turn_as c.args.self.now) = sym (ap (λ b. led_to b (turn_as c.make.new.self)) c.if-not-branch.false) ∙ c.in_ok-make.ensures.made in
    let reached : IsReach c.args.case.now.image (c.args.g ∷ []) c.in_ok-places.places.items = subst (λ i. IsReach i (c.args.g ∷ []) c.in_ok-places.places.items) c.image.ensures c.in_ok-places.ensures in
    ok_then c.grow_reach.result _ _ c.grow_reach.ensures.made (λ b h reach r.
    target_grown c.args.case.now reach c.args.t c.args.g c.deref.result.now (turn_as c.args.self.now) (turn_as c.make.new.self) (led_to b (turn_as c.grow_reach.new.self)) (c.deref.ensures.value ∙ reach_told c.args.case.now.image reach c.args.g c.in_ok-places.places.items r reached) some h)
