use Rattle.ir_meaning.proofs.ReadyLemmas.{answered_fits}
use Rattle.ir_meaning.proofs.part.answer.Goals as goal

pub returns-clause-fits : goal.returns-clause-fits
returns-clause-fits c types f = rw c.answer_end.ensures (answered_fits c.args.part.now.end types c.args.state.now c.args.value c.requires f)
