use Rattle.std.proofs.Common.{◌≡◌, ◌∙◌, ◌∷◌, ◌<◌, ◌≤◌, arith, drop, length, subst, sym}
use Rattle.replay_view.specs.Faults.{FollowFaults}
use Rattle.replay_view.proofs.Journals.{fault_here, next_left, next_taken}
use Rattle.replay_view.proofs.following.walk_to.Goals as goal

pub loop-entry-preserved : goal.loop-entry-preserved
loop-entry-preserved c =
    let here : drop c.loop-entry.walker.taken c.args.journal.now ≡ c.in-Some.entry ∷ c.next.new.self = c.loop-entry.invariant.left ∙ c.in-Some.ensures.steps in
    record {
      taken = next_taken c.loop-entry.walker c.step.new.self c.args.journal.now c.in-Some.entry c.next.new.self c.loop-entry.invariant.taken here c.in-Ok.ensures.taken;
      left = next_left c.loop-entry.walker c.step.new.self c.args.journal.now c.in-Some.entry c.next.new.self here c.in-Ok.ensures.taken;
      case = c.in-Ok.ensures.taken.case ∙ c.loop-entry.invariant.case;
      within = omega (arith, c.in-Ok.ensures.taken.count, c.taken.ensures, c.if-taken-n.false);
    }

pub returns-in-Err-clause-fault : goal.returns-in-Err-clause-fault
returns-in-Err-clause-fault c =
    let here : drop c.loop-entry.walker.taken c.args.journal.now ≡ c.in-Some.entry ∷ c.next.new.self = c.loop-entry.invariant.left ∙ c.in-Some.ensures.steps in
    let below : c.loop-entry.walker.taken < c.args.n = omega (arith, c.taken.ensures, c.if-taken-n.false) in
    let within : c.args.n ≤ length c.args.journal.now = omega (arith, c.len.ensures, c.if-len-n.false) in
    subst (FollowFaults c.args.case.now c.args.journal.now c.args.n) (sym c.followed.ensures)
    (fault_here c.loop-entry.walker c.args.case.now c.args.journal.now c.args.n c.in-Some.entry c.next.new.self c.in-Err.fault c.loop-entry.invariant.taken c.loop-entry.invariant.case here below within c.in-Err.ensures.fault)
