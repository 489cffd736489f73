use Rattle.std.proofs.Common.{◌≢◌, subst, sym}
use Rattle.thread_step.specs.Guest.{guest_slot}
use Rattle.thread_step.specs.Turned.{AreRules}
use Rattle.turn_rows.proofs.tests.run.Run.turn_by.Goals as goal

pub returns : goal.returns
returns g c =
    let e = c.turn_alone-turned.ensures in
    record {
      ready = c.in_ok-answer.ensures c.turn_alone-turned.new.hall c.turn_alone-turned.new.guest e.ready;
      second = e.others c.args.self.other c.requires.apart c.requires.second;
      apart = subst (λ s. guest_slot c.args.self.other ≢ s) (sym e.slot) c.requires.apart;
      ruled = subst (λ k. AreRules k c.args.self.rules) (sym e.case) c.requires.ruled;
    }
