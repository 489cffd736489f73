use Rattle.std.proofs.Common.{◌∙◌, sym, subst, List, None}
use Rattle.journal_pack.specs.declared.entry.Entry.{Entry}
use Rattle.machine_model.specs.CaseData.{CaseData}
use Rattle.ir_runner.specs.Outputs.{written}
use Rattle.recompile_core.specs.Runs.{IsMade}
use Rattle.recompile_core.proofs.Making.{made_by_workers}
use Rattle.recompile_core.proofs.run.run_by_workers.Goals as goal

pub returns-clause-made : goal.returns-clause-made
returns-clause-made g c =
    let h = c.run_workers-hall.result.0 in
    let out = written g.O.Sink.faults g.O.Sink.held c.args.out.now c.run_workers-hall.new.out in
    let err = written g.E.Sink.faults g.E.Sink.held c.args.err.now c.run_workers-hall.new.err in
    let m = made_by_workers h c.run_workers-hall.result.1 c.copied.result c.came_of-came.result out err c.facts.ensures.gated c.facts.ensures.played c.run_workers-hall.ensures.outputs (c.copied.ensures ∙ c.ending.ensures) c.came_of-came.ensures in
    let P : CaseData → Type 0 = λ k. IsMade k None h.journal c.came_of-came.result out err in
    let Q : List Entry → Type 0 = λ j. IsMade c.args.hall.case None j c.came_of-came.result out err in
    subst Q (sym c.into_run-case.ensures.journal) (subst P c.run_workers-hall.ensures.case m)
