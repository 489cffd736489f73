use Rattle.std.proofs.Common.{◌≢◌, subst, sym}
use Rattle.thread_step.specs.Guest.{guest_slot}
use Rattle.thread_step.specs.Turned.{AreRules}
use Rattle.turn_rows.proofs.Again.{compared, ready_again}
use Rattle.turn_rows.proofs.tests.run.Run.try_turn.Goals as goal

pub returns : goal.returns
returns g c =
    let e = c.turn_alone-turned.ensures in
    let q = c.requires.good in
    record {
      ready = c.in_ok-answer.ensures c.turn_alone-turned.new.hall c.turn_alone-turned.new.guest e.ready (λ same err is. ready_again c.args.self.hall c.turn_alone-turned.new.hall c.args.self.guest c.turn_alone-turned.new.guest c.turn_alone-turned.result c.args.self.rules c.requires.told e.ended e.idle e.turn err is (compared _ _ _ _ c.length.ensures c.length-before.ensures same) e.case e.slot q.ready e.ready);
      second = e.others c.args.self.other q.apart q.second;
      apart = subst (λ s. guest_slot c.args.self.other ≢ s) (sym e.slot) q.apart;
      ruled = subst (λ k. AreRules k c.args.self.rules) (sym e.case) q.ruled;
    }
