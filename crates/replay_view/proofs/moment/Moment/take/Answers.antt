use Rattle.std.proofs.Common.{◌≡◌, subst}
use Rattle.machine_model.specs.Gated.{Both}
use Rattle.replay_view.specs.Gates.{gate_of, position_of, settled}
use Rattle.replay_view.specs.Moments.{both_of}
use Rattle.replay_view.proofs.Moves.{gate_settled, going, living, taken}
use Rattle.replay_view.proofs.moment.Moment.take.Goals as goal

pub make-requires-clause-serves : goal.make-requires-clause-serves
make-requires-clause-serves c = λ t e.
    c.requires.serves (going c.args.case.now c.args.self.now.machine c.args.entry c.args.cpu c.args.wanted c.requires.begun) t
    (living c.args.case.now c.args.self.now.machine c.args.entry c.args.cpu c.args.wanted t c.requires.begun e)

pub returns-clause-taken : goal.returns-clause-taken
returns-clause-taken c =
    let b : Both = both_of c.args.case.now.image c.args.self.now in
    let n : Both = both_of c.args.case.now.image (record { machine = c.make.new.self.machine; gate = c.set_spot.new.self }) in
    taken c.args.case.now b n c.args.entry c.args.cpu c.args.wanted (position_of c.args.case.now.image c.args.spot) c.requires.begun c.requires.placed c.requires.room
    c.in_ok-make.ensures.machine
    (gate_settled b c.args.entry (position_of c.args.case.now.image c.args.spot) (position_of c.args.case.now.image c.settled.result) n.machine (gate_of c.args.case.now.image c.make.new.self.gate) n.gate c.slot_in-slot.result c.cpu-mid.result (c.in_ok-make.ensures.gate c.args.case.now.image) c.slot_in-slot.ensures c.cpu-mid.ensures
    (subst (λ i. position_of i c.settled.result ≡ settled c.args.entry c.cpu-mid.result.mid (position_of i c.args.spot)) c.image.ensures c.settled.ensures) (c.set_spot.ensures c.args.case.now.image))
