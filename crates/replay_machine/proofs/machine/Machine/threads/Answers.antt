use Rattle.std.proofs.Common.{◌∙◌, ◌+◌, ◌++◌, ◌<◌, ◌^◌, ap, sym, arith}
use Rattle.replay_machine.specs.Views.{numbered, threads_below}
use Rattle.replay_machine.proofs.Shown.{no_others, one_more}
use Rattle.replay_machine.proofs.machine.Machine.threads.Goals as goal

pub loop-t-preserved : goal.loop-t-preserved
loop-t-preserved c =
    let number : c.in-Some.t < 2 ^ 32 = c.in-Some.ensures.number in
    record {
      threads =
          c.in_ok-add.ensures
          ∙ ap (λ v. c.loop-t.threads.items ++ numbered c.in-Some.t v) c.in_ok-view.ensures
          ∙ one_more c.args.self.now c.loop-t.from c.in-Some.t c.loop-t.threads.items c.loop-t.invariant.threads c.in-Some.ensures.next
          ∙ ap (λ t. threads_below c.args.self.now (t + 1)) (sym c.from-from.ensures);
      within = omega (arith, number, c.from-from.ensures);
    }

pub returns : goal.returns
returns c = no_others c.args.self.now c.loop-t.from c.loop-t.threads.items c.loop-t.invariant.threads c.loop-t.invariant.within c.in_default.ensures.next
