use Rattle.std.proofs.Common.{ap}
use Rattle.machine_plain.proofs.PlainLemmas.{room_answered}
use Rattle.machine_plain.proofs.cores.PlainCore.go_on.Goals as goal

pub search-requires-clause-room : goal.search-requires-clause-room
search-requires-clause-room c = room_answered c.args.self.now c.set_cpu-in-Probe.new.self c.args.cpu c.args.what c.args.answer c.in-Probe.frame c.in-Probe.place c.requires c.in-Probe.is (ap (λ x. x.frames) c.set_cpu-in-Probe.ensures) c.facts.ensures
