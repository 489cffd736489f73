use Rattle.std.proofs.Common.{◌∙◌, sym, subst, List, Some}
use Rattle.journal_pack.specs.declared.entry.Entry.{Entry}
use Rattle.machine_model.specs.CaseData.{CaseData}
use Rattle.thread_step.specs.Turned.{serial_rules}
use Rattle.ir_runner.specs.Outputs.{written}
use Rattle.recompile_core.specs.Runs.{IsMade}
use Rattle.recompile_core.proofs.Making.{made_by}
use Rattle.recompile_core.proofs.run.run.Goals as goal

pub returns-clause-made : goal.returns-clause-made
returns-clause-made g c =
    let h = c.run_serial-hall.result.0 in
    let out = written g.O.Sink.faults g.O.Sink.held c.args.out.now c.run_serial-hall.new.out in
    let err = written g.E.Sink.faults g.E.Sink.held c.args.err.now c.run_serial-hall.new.err in
    let m = made_by h c.run_serial-hall.result.1 c.copied.result c.came_of-came.result c.args.rules out err c.facts.ensures.gated c.facts.ensures.played c.run_serial-hall.ensures.journal c.run_serial-hall.ensures.outputs (c.copied.ensures ∙ c.ending.ensures) c.came_of-came.ensures in
    let P : CaseData → Type 0 = λ k. IsMade k (Some (serial_rules c.args.rules)) h.journal c.came_of-came.result out err in
    let Q : List Entry → Type 0 = λ j. IsMade c.args.hall.case (Some (serial_rules c.args.rules)) j c.came_of-came.result out err in
    subst Q (sym c.into_run-case.ensures.journal) (subst P c.run_serial-hall.ensures.case m)
