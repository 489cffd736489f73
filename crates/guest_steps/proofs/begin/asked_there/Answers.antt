use Rattle.std.proofs.Common.{None, Some, refl, sym, ◌∙◌}
use Rattle.lib_table.specs.declared.ask.Asked.TheVariants.{Lib}
use Rattle.guest_steps.proofs.Asked.{call_asked, end_asked, place_asked}
use Rattle.guest_steps.proofs.begin.asked_there.Goals as goal

pub returns-then-a-eq-END_DOOR : goal.returns-then-a-eq-END_DOOR
returns-then-a-eq-END_DOOR c = end_asked c.args.image.now c.args.a c.if-a-eq-END_DOOR.true

pub returns-then-a-eq-CALL_DOOR : goal.returns-then-a-eq-CALL_DOOR
returns-then-a-eq-CALL_DOOR c = call_asked c.args.image.now c.args.a c.if-a-eq-CALL_DOOR.true

pub returns-in-Some : goal.returns-in-Some
returns-in-Some c = place_asked c.args.image.now c.args.a (Some c.in-Some.function) (Some (Lib c.in-Some.function)) c.if-a-eq-END_DOOR.false c.if-a-eq-CALL_DOOR.false (sym c.function_at.ensures ∙ c.in-Some.is) refl

pub returns-in-None : goal.returns-in-None
returns-in-None c = place_asked c.args.image.now c.args.a None None c.if-a-eq-END_DOOR.false c.if-a-eq-CALL_DOOR.false (sym c.function_at.ensures ∙ c.in-None.is) refl
