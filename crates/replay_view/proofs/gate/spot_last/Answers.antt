use Rattle.replay_view.specs.Gates.{position_of}
use Rattle.replay_view.proofs.gate.spot_last.Goals as goal

pub returns-in-Ev : goal.returns-in-Ev
returns-in-Ev c = λ after. rw c.in-Ev.is (c.after_event.ensures c.in-Ev.field-0 c.in-Ev.field-1 after (position_of c.args.image.now c.args.spot))
