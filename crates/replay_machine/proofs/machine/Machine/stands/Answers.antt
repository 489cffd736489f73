use Rattle.replay_machine.proofs.machine.Machine.stands.Goals as goal

pub returns-in-Dead : goal.returns-in-Dead
returns-in-Dead c = rw c.in-Dead.is (c.dead_stands.ensures c.args.cpu)
