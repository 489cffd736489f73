use Rattle.worker_runner.proofs.Growing.{grew}
use Rattle.worker_runner.proofs.watch.look.Goals as goal

pub returns-clause-grew : goal.returns-clause-grew
returns-clause-grew c =
    let w = c.end_dead-ended.ensures.wrote in
    grew c.args.hall.now c.end_dead-ended.new.hall w.adds.0 w.case w.adds.1 c.facts.ensures.gated c.facts-2.ensures.gated
