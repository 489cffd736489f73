use Rattle.std.proofs.Common.{◌≡◌, ◌+◌, ◌≤◌, ap, arith, subst, true}
use Rattle.machine_model.specs.Gated.{Both}
use Rattle.replay_view.specs.Follow.{IsTaken, MayCome, WalkData}
use Rattle.replay_machine.specs.Machines.{is_crowded}
use Rattle.replay_view.specs.Moments.{both_of}
use Rattle.replay_view.proofs.Walked.{few_taken, one_more, serves}
use Rattle.replay_view.proofs.walker.Walker.step.Goals as goal

pub take-requires-clause-serves : goal.take-requires-clause-serves
take-requires-clause-serves c = serves _ c.self.invariant.0

pub overflow_add-self : goal.overflow_add-self
overflow_add-self c =
    let w : WalkData = record { case = c.self.inside.case.now; both = both_of c.self.inside.case.now.image c.self.inside.moment; taken = c.self.inside.taken } in
    let few : c.self.inside.taken ≤ 268500993 = few_taken w c.self.invariant.0 in
    omega arith

pub returns-in-Crowded-clause-fault : goal.returns-in-Crowded-clause-fault
returns-in-Crowded-clause-fault c =
    let h = subst (λ (w : WalkData). ((x : Both) × MayCome w.case w.both c.args.entry.now x) × (is_crowded w.case.image w.both.machine c.args.entry.now ≡ true)) c.self.view_is (rw c.in-Crowded.is at c.in_ok-weigh.ensures.weighed) in
    (ap (λ (w : WalkData). w.taken) c.self.view_is, h.0, h.1)

pub returns-in_ok-take-in-Taken-clause-more : goal.returns-in_ok-take-in-Taken-clause-more
returns-in_ok-take-in-Taken-clause-more c =
    let n : WalkData = record { case = c.self.inside.case.now; both = both_of c.self.inside.case.now.image c.take.new.self; taken = c.self.inside.taken + 1 } in
    λ entries h. one_more c.args.self.now n entries c.args.entry.now h (record {
      case = ap (λ (w : WalkData). w.case) c.self.view_is;
      taken = subst (λ (w : WalkData). IsTaken w.case w.both c.args.entry.now n.both) c.self.view_is c.in_ok-take-in-Taken.ensures.taken;
      count = ap (λ (w : WalkData). w.taken + 1) c.self.view_is;
    })
