use Rattle.std.proofs.Common.{◌≡◌, Some, [], sym, ap, ◌∙◌}
use Rattle.machine_model.specs.Serial.{AreReaches, Reaches, Rules, point_of, turn, turn_in}
use Rattle.machine_plain.specs.PlainGates.{led_to}
use Rattle.serial_plain.specs.PlainSerial.{run_as, turn_as}
use Rattle.serial_plain.proofs.RoundsPlain.{begun_in, begun_young, run_set, run_taken, slot_read, slot_set, turn_taken}
use Rattle.serial_plain.proofs.serial.PlainRun.take_turn.Goals as goal

pub turn-requires-clause-young : goal.turn-requires-clause-young
turn-requires-clause-young c =
    let same = c.in_ok-ages.ensures.items ∙ c.deref.ensures.value ∙ slot_read (λ v. v.items) c.args.self.now.ages.items c.args.s c.index.result.now [] c.requires.run.slots c.requires.slot c.index.ensures in
    let here : turn_as c.begin.new.self ≡ turn_in (run_as c.args.self.now) c.args.s = begun_in (run_as c.args.self.now) c.args.s c.in_ok-ages.ages.items (turn_as c.begin.new.self) c.begin.ensures same in
    begun_young c.args.case.now c.args.count c.args.s (run_as c.args.self.now) (turn_as c.begin.new.self) c.requires.run c.requires.slot c.requires.count here

pub returns-clause-made : goal.returns-clause-made
returns-clause-made c =
    let rules : Rules = record { turn = c.args.budget; hold = c.args.hold } in
    let same = c.in_ok-ages.ensures.items ∙ c.deref.ensures.value ∙ slot_read (λ v. v.items) c.args.self.now.ages.items c.args.s c.index.result.now [] c.requires.run.slots c.requires.slot c.index.ensures in
    let here : turn_as c.begin.new.self ≡ turn_in (run_as c.args.self.now) c.args.s = begun_in (run_as c.args.self.now) c.args.s c.in_ok-ages.ages.items (turn_as c.begin.new.self) c.begin.ensures same in
    let made : (reach : Reaches) → AreReaches c.args.case.now.image reach → Some (turn_as c.turn.new.self) ≡ turn c.args.case.now reach rules c.args.t (point_of c.begin.new.self.walk c.args.t) (turn_as c.begin.new.self) = λ reach r. sym (ap (λ b. led_to b (turn_as c.turn.new.self)) c.if-not-branch.false) ∙ c.in_ok-turn.ensures.made reach r in
    let set = slot_set (λ v. v.items) c.args.self.now.ages.items c.args.s c.in_ok-ages-2.ages c.turn.new.self.ages.items (c.in_ok-ages-2.ensures.items ∙ c.deref-2.ensures.value) in
    turn_taken c.args.case.now rules c.args.count c.args.s c.args.t (run_as c.args.self.now) _ (turn_as c.begin.new.self) (turn_as c.turn.new.self) c.requires.run c.requires.slot here made (run_set (run_as c.args.self.now) c.args.s (turn_as c.turn.new.self) _ set)

pub returns-clause-run : goal.returns-clause-run
returns-clause-run c =
    let rules : Rules = record { turn = c.args.budget; hold = c.args.hold } in
    let same = c.in_ok-ages.ensures.items ∙ c.deref.ensures.value ∙ slot_read (λ v. v.items) c.args.self.now.ages.items c.args.s c.index.result.now [] c.requires.run.slots c.requires.slot c.index.ensures in
    let here : turn_as c.begin.new.self ≡ turn_in (run_as c.args.self.now) c.args.s = begun_in (run_as c.args.self.now) c.args.s c.in_ok-ages.ages.items (turn_as c.begin.new.self) c.begin.ensures same in
    let made : (reach : Reaches) → AreReaches c.args.case.now.image reach → Some (turn_as c.turn.new.self) ≡ turn c.args.case.now reach rules c.args.t (point_of c.begin.new.self.walk c.args.t) (turn_as c.begin.new.self) = λ reach r. sym (ap (λ b. led_to b (turn_as c.turn.new.self)) c.if-not-branch.false) ∙ c.in_ok-turn.ensures.made reach r in
    let set = slot_set (λ v. v.items) c.args.self.now.ages.items c.args.s c.in_ok-ages-2.ages c.turn.new.self.ages.items (c.in_ok-ages-2.ensures.items ∙ c.deref-2.ensures.value) in
    λ _. run_taken c.args.case.now rules c.args.count c.args.s c.args.t (run_as c.args.self.now) _ (turn_as c.begin.new.self) (turn_as c.turn.new.self) c.requires.run c.requires.slot here made (c.in_ok-turn.ensures.played c.if-not-branch.false) (run_set (run_as c.args.self.now) c.args.s (turn_as c.turn.new.self) _ set)
