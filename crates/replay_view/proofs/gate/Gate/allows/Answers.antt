use Rattle.std.proofs.Common.{◌∙◌, ◌↔◌, ap, subst}
use Rattle.std.specs.Prelude.{IfOk, IsTrue}
use Rattle.machine_model.specs.Gated.{IsGrowth, Spot, spot_at}
use Rattle.replay_view.specs.Gates.{gate_of}
use Rattle.replay_view.proofs.gate.Gate.allows.Goals as goal

pub returns-in-Grow-clause-is : goal.returns-in-Grow-clause-is
returns-in-Grow-clause-is c =
    rw c.in-Grow.is
    (subst (λ l. IfOk c.is_growth.result (λ b. IsTrue b ↔ IsGrowth c.args.reached.now c.args.self.now.grown c.in-Grow.a l))
    (ap (λ (s : Spot). s.latest) (c.spot.ensures c.args.reached.now ∙ ap (spot_at (gate_of c.args.reached.now c.args.self.now)) c.slot_of-slot.ensures.slot))
    c.is_growth.ensures.is)
