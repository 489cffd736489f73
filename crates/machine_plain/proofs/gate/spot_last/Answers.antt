use Rattle.machine_plain.proofs.gate.spot_last.Goals as goal

pub returns-in-Ev : goal.returns-in-Ev
returns-in-Ev c = rw c.in-Ev.is (c.after_event.ensures c.in-Ev.field-0 c.in-Ev.field-1 c.args.spot)
