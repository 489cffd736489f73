use Rattle.std.proofs.Common.{arith, sym, ◌∙◌}
use Rattle.machine_model.specs.State.{thread_in}
use Rattle.machine_model.specs.Step.{is_stuck}
use Rattle.machine_model.proofs.Slots.{all_slots, one_slot}
use Rattle.replay_machine.proofs.machine.Machine.all_wait.Goals as goal

pub returns-then-not-is_stuck : goal.returns-then-not-is_stuck
returns-then-not-is_stuck c =
    sym (one_slot (λ s. is_stuck c.args.image.now c.args.self.now s (thread_in c.args.self.now s)) c.loop-s.s c.loop-s-test.true (sym c.is_stuck.ensures ∙ c.if-not-is_stuck.true))

pub returns : goal.returns
returns c = sym (all_slots (λ s. is_stuck c.args.image.now c.args.self.now s (thread_in c.args.self.now s)) (λ u lt. c.loop-s.invariant u (omega arith)))
