use Rattle.std.proofs.Common.{◌∙◌, ap, arith, length}
use Rattle.lift_table.specs.Block.{lifted_block}
use Rattle.machine_model.specs.CaseData.{CaseData}
use Rattle.ir_runner.proofs.Running.{blocks_stay, first_grown, stays_grown, whole_ran}
use Rattle.ir_runner.proofs.run.run_serial.Goals as goal

pub run_all-ran-requires-clause-few : goal.run_all-ran-requires-clause-few
run_all-ran-requires-clause-few g c κs within =
    let n = c.count-few.ensures.count ∙ ap length (first_grown c.args.hall c.requires.first) in
    let most = c.count-few.ensures.limit in
    omega (arith, n, most)

pub returns-clause-count : goal.returns-clause-count
returns-clause-count g c = whole_ran (g.N.Engine.count c.args.engine.now) (g.N.Engine.count c.run_all-ran.new.engine) c.args.hall c.run_all-ran.new.hall c.requires.first c.run_all-ran.ensures.case c.run_all-ran.ensures.count

pub returns-clause-lifted : goal.returns-clause-lifted
returns-clause-lifted g c = λ a b e. (c.facts-2.ensures.fits a b e).0

pub returns-clause-kept : goal.returns-clause-kept
returns-clause-kept g c =
    let case = c.run_all-ran.ensures.case in
    blocks_stay c.args.hall.case.image c.args.hall.blocks c.run_all-ran.new.hall.blocks _ _ (λ a b e. (c.facts.ensures.fits a b e).0) (λ a b e. (c.facts-2.ensures.fits a b e).0 ∙ ap (λ (k : CaseData). lifted_block k.image a) case) c.facts.ensures.grown c.facts-2.ensures.grown (λ a m. stays_grown c.args.hall c.run_all-ran.new.hall a c.requires.first case c.facts-2.ensures.gated m)
