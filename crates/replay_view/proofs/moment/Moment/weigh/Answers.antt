use Rattle.std.proofs.Common.{◌≡◌, ◌∙◌, sym, true}
use Rattle.machine_model.specs.Gated.{Both}
use Rattle.replay_view.specs.Gates.{position_of}
use Rattle.replay_machine.specs.Machines.{overfills_by}
use Rattle.replay_view.specs.Moments.{IsBegun, IsPlaced, both_of}
use Rattle.replay_view.proofs.Moves.{comes, crowded}
use Rattle.replay_view.proofs.moment.Moment.weigh.Goals as goal

pub returns-then-overfills_by-clause-weighed : goal.returns-then-overfills_by-clause-weighed
returns-then-overfills_by-clause-weighed c =
    let b : Both = both_of c.args.case.now.image c.args.self.now in
    let begun : IsBegun c.args.case.now b.machine c.args.entry c.in-Some.begun.run.stand.cpu c.in-Some.begun.wanted = c.in-Some.ensures.begun in
    let placed : IsPlaced c.args.case.now b c.args.entry (position_of c.args.case.now.image c.in-Some-2.spot) = rw c.in-Some-2.is at c.in_ok-spot.ensures.placed in
    let full : overfills_by b.machine c.args.entry c.in-Some.begun.wanted ≡ true = sym c.overfills_by.ensures ∙ c.if-overfills_by.true in
    (comes c.args.case.now b c.args.entry c.in-Some.begun.run.stand.cpu c.in-Some.begun.wanted (position_of c.args.case.now.image c.in-Some-2.spot) begun placed, crowded c.args.case.now b.machine c.args.entry c.in-Some.begun.run.stand.cpu c.in-Some.begun.wanted begun full)
