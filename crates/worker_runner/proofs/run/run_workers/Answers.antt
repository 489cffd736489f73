use Rattle.std.proofs.Common.{◌∙◌, ap}
use Rattle.lift_table.specs.Block.{lifted_block}
use Rattle.machine_model.specs.CaseData.{CaseData}
use Rattle.ir_runner.proofs.Running.{blocks_stay, stays_grown}
use Rattle.worker_runner.proofs.run.run_workers.Goals as goal

pub returns-clause-lifted : goal.returns-clause-lifted
returns-clause-lifted g c = λ a b e. (c.facts-2.ensures.fits a b e).0

pub returns-clause-kept : goal.returns-clause-kept
returns-clause-kept g c =
    let case = c.run_all-hall.ensures.case in
    let n = c.run_all-hall.result.0 in
    blocks_stay c.args.hall.case.image c.args.hall.blocks n.blocks _ _ (λ a b e. (c.facts.ensures.fits a b e).0) (λ a b e. (c.facts-2.ensures.fits a b e).0 ∙ ap (λ (k : CaseData). lifted_block k.image a) case) c.facts.ensures.grown c.facts-2.ensures.grown (λ a m. stays_grown c.args.hall n a c.requires.first case c.facts-2.ensures.gated m)
