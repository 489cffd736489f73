use Rattle.worker_runner.proofs.Ending.{none_ran}
use Rattle.worker_runner.proofs.run.run_all.Goals as goal

pub returns-in-Err-clause-count : goal.returns-in-Err-clause-count
returns-in-Err-clause-count g c = none_ran (g.N.Engine.count c.args.engine.now) c.args.hall c.requires.first
