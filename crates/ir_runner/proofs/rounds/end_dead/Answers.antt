use Rattle.ir_runner.proofs.Rounding.{dead_added}
use Rattle.ir_runner.proofs.rounds.end_dead.Goals as goal

pub returns-clause-ok : goal.returns-clause-ok
returns-clause-ok c = dead_added c.args.hall.now c.reserve.new.self c.dead-ended.new.self c.dead-ended.result c.in_ok-reserve.ensures.same c.requires.dead c.dead-ended.ensures.exact c.dead-ended.ensures.entry
