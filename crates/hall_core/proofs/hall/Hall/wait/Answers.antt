use Rattle.hall_core.proofs.Asking.{stands_after}
use Rattle.hall_core.proofs.hall.Hall.wait.Goals as goal

pub mark-requires : goal.mark-requires
mark-requires g c = stands_after c.args.self.now c.come.new.self c.args.t c.args.k c.args.ask.now c.facts.ensures.gated c.requires.needs c.requires.comes c.come.ensures
