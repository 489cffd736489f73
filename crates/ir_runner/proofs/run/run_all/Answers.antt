use Rattle.ir_runner.proofs.Running.{nothing_begins}
use Rattle.ir_runner.proofs.run.run_all.Goals as goal

pub returns-in-Err-clause-journal : goal.returns-in-Err-clause-journal
returns-in-Err-clause-journal g c = nothing_begins c.args.hall.now.case c.args.rules c.args.hall.now.journal c.requires.few c.requires.rules.turn c.requires.first
