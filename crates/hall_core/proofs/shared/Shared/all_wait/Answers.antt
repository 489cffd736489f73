use Rattle.std.proofs.Common.{arith, sym, ◌∙◌}
use Rattle.hall_core.specs.Shared.{is_stuck_in}
use Rattle.machine_model.proofs.Slots.{all_slots, one_slot}
use Rattle.hall_core.proofs.shared.Shared.all_wait.Goals as goal

pub returns-then-not-is_stuck : goal.returns-then-not-is_stuck
returns-then-not-is_stuck c =
    sym (one_slot (is_stuck_in c.args.self.now c.args.marks.now) c.loop-s.s c.loop-s-test.true (sym c.is_stuck.ensures ∙ c.if-not-is_stuck.true))

pub returns : goal.returns
returns c = sym (all_slots (is_stuck_in c.args.self.now c.args.marks.now) (λ u lt. c.loop-s.invariant u (omega arith)))
