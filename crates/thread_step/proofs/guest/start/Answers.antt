use Rattle.std.proofs.Common.{refl}
use Rattle.thread_step.proofs.Starting.{ready_new}
use Rattle.thread_step.proofs.guest.start.Goals.{in-Between-1, in-Inside-1}
use Rattle.thread_step.proofs.guest.start.Goals as goal

stands : goal.returns-clause-ready
stands c = λ table t going lives kept. ready_new c.args.hall.now c.args.slot t c.start_place.result _ table c.requires.low c.requires.new c.facts.ensures.gated going lives c.start_state-own.ensures c.start_place.ensures refl refl c.clear.ensures.items refl c.clear-2.ensures kept

pub returns-clause-ready : goal.returns-clause-ready
returns-clause-ready c = elim c.match-own.branch [ in-Inside-1 w ↦ stands c | in-Between-1 w ↦ stands c ]
