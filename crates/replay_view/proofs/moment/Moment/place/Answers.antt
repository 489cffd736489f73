use Rattle.std.proofs.Common.{◌≡◌, ◌∙◌, ap, sym, Some}
use Rattle.machine_model.specs.Gated.{Both, IsAllowed}
use Rattle.replay_view.specs.Gates.{gate_of, position_of, stand_of}
use Rattle.replay_view.specs.Grown.{led_to}
use Rattle.replay_view.specs.Moments.{both_of, gated_from}
use Rattle.replay_view.proofs.Moves.{allowed_in, barred_by_steps, barred_if, last_is, placed_if}
use Rattle.replay_view.proofs.moment.Moment.place.Goals as goal

pub returns-then-not-is_gated-clause-barred : goal.returns-then-not-is_gated-clause-barred
returns-then-not-is_gated-clause-barred c =
    let b : Both = both_of c.args.case.now.image c.args.self.now in
    barred_by_steps c.args.case.now b c.args.entry
    (ap (λ x. led_to x (stand_of c.args.case.now.image c.args.run.stand)) (sym c.if-not-is_gated.true ∙ c.is_gated.ensures) ∙ c.requires.gated)

pub returns-clause-placed : goal.returns-clause-placed
returns-clause-placed c =
    let b : Both = both_of c.args.case.now.image c.args.self.now in
    let made : Some (stand_of c.args.case.now.image c.args.run.stand) ≡ gated_from c.args.case.now b c.args.entry = ap (λ x. led_to x (stand_of c.args.case.now.image c.args.run.stand)) (sym c.if-not-is_gated.false ∙ c.is_gated.ensures) ∙ c.requires.gated in
    let allowed : IsAllowed c.args.case.now.image b.gate c.args.entry = allowed_in c.args.case.now b c.args.entry c.args.reached.now (gate_of c.args.reached.now c.args.self.now.gate) c.requires.image (ap (λ i. gate_of i c.args.self.now.gate) c.requires.image) (c.in_ok-allows.ensures.is.0 c.if-not-branch.false) in
    placed_if c.args.case.now b c.args.entry (stand_of c.args.case.now.image c.args.run.stand) c.spot_last.result made allowed
    (last_is c.args.case.now b c.args.entry (stand_of c.image-image.result.now c.stand.result) (stand_of c.args.case.now.image c.args.run.stand) c.spot_last.result c.image-image.result.now c.grown.result.now (position_of c.image-image.result.now c.args.spot) c.image-image.ensures c.grown.ensures
    (ap (λ i. position_of i c.args.spot) c.image-image.ensures ∙ c.requires.spot)
    (ap (λ i. stand_of i c.stand.result) c.image-image.ensures ∙ ap (stand_of c.args.case.now.image) c.stand.ensures) c.spot_last.ensures)

pub returns-clause-barred : goal.returns-clause-barred
returns-clause-barred c =
    let b : Both = both_of c.args.case.now.image c.args.self.now in
    let made : Some (stand_of c.args.case.now.image c.args.run.stand) ≡ gated_from c.args.case.now b c.args.entry = ap (λ x. led_to x (stand_of c.args.case.now.image c.args.run.stand)) (sym c.if-not-is_gated.false ∙ c.is_gated.ensures) ∙ c.requires.gated in
    barred_if c.args.case.now b c.args.entry (stand_of c.args.case.now.image c.args.run.stand) c.spot_last.result made
    (last_is c.args.case.now b c.args.entry (stand_of c.image-image.result.now c.stand.result) (stand_of c.args.case.now.image c.args.run.stand) c.spot_last.result c.image-image.result.now c.grown.result.now (position_of c.image-image.result.now c.args.spot) c.image-image.ensures c.grown.ensures
    (ap (λ i. position_of i c.args.spot) c.image-image.ensures ∙ c.requires.spot)
    (ap (λ i. stand_of i c.stand.result) c.image-image.ensures ∙ ap (stand_of c.args.case.now.image) c.stand.ensures) c.spot_last.ensures)
