use Rattle.std.proofs.Common.{None}
use Rattle.ir_runner.specs.Outputs.{written}
use Rattle.recompile_core.specs.World.{files_now}
use Rattle.recompile_core.proofs.Finishing.{played_by}
use Rattle.recompile_core.proofs.workers.play_by_workers.Goals as goal

pub returns-clause-played : goal.returns-clause-played
returns-clause-played g c =
    let now = files_now g.F.Files.names g.F.Files.read_faults g.F.Files.write_faults in
    played_by g.E.Sink.faults g.E.Sink.held c.args.err.now c.run_by_workers-made.new.err c.finish.new.err c.args.hall.case c.run_by_workers-made.result.case None c.run_by_workers-made.result.journal c.finish.result.journal c.run_by_workers-made.result.came c.finish.result.ending (now c.args.files.now) (now c.finish.new.files) c.args.journal_name.now c.args.report_name.now (written g.O.Sink.faults g.O.Sink.held c.args.out.now c.run_by_workers-made.new.out) c.run_by_workers-made.ensures.case c.finish.ensures.journal c.run_by_workers-made.ensures.made c.finish.ensures.finished
