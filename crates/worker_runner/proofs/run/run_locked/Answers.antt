use Rattle.std.proofs.Common.{List, length, refl, sym, subst, ap, ◌∙◌}
use Rattle.atomic_table.specs.Seated.{TableId}
use Rattle.turn_lock.specs.declared.pass.Pass.{Pass}
use Rattle.turn_lock.specs.Lock.{lock_id}
use Rattle.thread_step.specs.declared.guest.Guest.{Guest}
use Rattle.thread_step.specs.declared.rules.Rules.{Rules}
use Rattle.thread_step.specs.Context.{HallOf}
use Rattle.worker_runner.specs.declared.round.Worker.{Worker}
use Rattle.worker_runner.specs.Rounds.{AreHeld, AreReady, Starts}
use Rattle.worker_runner.specs.Workers.{Begins, IsFirstPass}
use Rattle.worker_runner.proofs.Gathering.{fresh_counted}
use Rattle.worker_runner.proofs.Ending.{no_first, no_second}
use Rattle.worker_runner.proofs.Pairing.{split_passes}
use Rattle.worker_runner.proofs.run.run_locked.Goals as goal

starts : {N : Type 0} (key : TableId) (h : HallOf) (r : Rules) (guests : List Guest) (dealt : List (Pass HallOf)) (driver : Pass HallOf) (workers : List (Worker N)) → Begins key h r guests dealt → IsFirstPass key h 64 driver → AreReady key h.case workers → Starts key h.case r driver (record { first = 0; second = 0; length = 0; used = 0 }) workers
starts key h r guests dealt driver workers b d ready = record {
  hall = h;
  saw = d.saw;
  case = refl;
  place = record { first = sym (ap length (no_first h b.none)); second = sym (ap length (no_second h b.none)) };
  first = no_first h b.none;
  second = no_second h b.none;
  ready = ready;
  rules = b.rules;
}

pub make_workers-workers-requires-clause-first : goal.make_workers-workers-requires-clause-first
make_workers-workers-requires-clause-first g c κs within =
    let b = c.requires.begins in
    let s = split_passes (lock_id c.args.lock) b.0 c.args.dealt.items c.pop.new.self.items c.in-Some.driver c.in-Some.ensures.items b.1.many b.1.passes_are in
    (lock_id c.args.lock, b.0, b.1.guests_are, s.0)

pub rounds-driver-requires-clause-lock : goal.rounds-driver-requires-clause-lock
rounds-driver-requires-clause-lock g c κs within =
    let b = c.requires.begins in
    (split_passes (lock_id c.args.lock) b.0 c.args.dealt.items c.pop.new.self.items c.in-Some.driver c.in-Some.ensures.items b.1.many b.1.passes_are).1.lock

pub rounds-driver-requires-clause-number : goal.rounds-driver-requires-clause-number
rounds-driver-requires-clause-number g c κs within =
    let b = c.requires.begins in
    (split_passes (lock_id c.args.lock) b.0 c.args.dealt.items c.pop.new.self.items c.in-Some.driver c.in-Some.ensures.items b.1.many b.1.passes_are).1.number

pub rounds-driver-requires-clause-counted : goal.rounds-driver-requires-clause-counted
rounds-driver-requires-clause-counted g c κs within =
    let b = c.requires.begins in
    let s = split_passes (lock_id c.args.lock) b.0 c.args.dealt.items c.pop.new.self.items c.in-Some.driver c.in-Some.ensures.items b.1.many b.1.passes_are in
    fresh_counted g.N.Engine.count b.0 c.make_workers-workers.result.items b.1.none (c.make_workers-workers.ensures.fresh (lock_id c.args.lock) b.0 b.1.guests_are s.0)

pub rounds-driver-requires-clause-start : goal.rounds-driver-requires-clause-start
rounds-driver-requires-clause-start g c κs within =
    let b = c.requires.begins in
    let s = split_passes (lock_id c.args.lock) b.0 c.args.dealt.items c.pop.new.self.items c.in-Some.driver c.in-Some.ensures.items b.1.many b.1.passes_are in
    (b.0.case, starts (lock_id c.args.lock) b.0 c.args.rules c.args.guests.items c.args.dealt.items c.in-Some.driver c.make_workers-workers.result.items b.1 s.1 (c.make_workers-workers.ensures.ready (lock_id c.args.lock) b.0 b.1.guests_are s.0))

pub take_back-hall-requires-clause-held : goal.take_back-hall-requires-clause-held
take_back-hall-requires-clause-held g c κs within =
    let b = c.requires.begins in
    let s = split_passes (lock_id c.args.lock) b.0 c.args.dealt.items c.pop.new.self.items c.in-Some.driver c.in-Some.ensures.items b.1.many b.1.passes_are in
    let st = starts (lock_id c.args.lock) b.0 c.args.rules c.args.guests.items c.args.dealt.items c.in-Some.driver c.make_workers-workers.result.items b.1 s.1 (c.make_workers-workers.ensures.ready (lock_id c.args.lock) b.0 b.1.guests_are s.0) in
    let m = c.rounds-driver.ensures.came b.0.case st in
    (m.hall, m.saw, subst (λ k. AreHeld (lock_id c.args.lock) k c.rounds-driver.new.workers.items) (sym m.case) (c.rounds-driver.ensures.held b.0.case st))

pub end-ran-requires-clause-goes : goal.end-ran-requires-clause-goes
end-ran-requires-clause-goes g c =
    let b = c.requires.begins in
    let s = split_passes (lock_id c.args.lock) b.0 c.args.dealt.items c.pop.new.self.items c.in-Some.driver c.in-Some.ensures.items b.1.many b.1.passes_are in
    let st = starts (lock_id c.args.lock) b.0 c.args.rules c.args.guests.items c.args.dealt.items c.in-Some.driver c.make_workers-workers.result.items b.1 s.1 (c.make_workers-workers.ensures.ready (lock_id c.args.lock) b.0 b.1.guests_are s.0) in
    let m = c.rounds-driver.ensures.came b.0.case st in
    let held = subst (λ k. AreHeld (lock_id c.args.lock) k c.rounds-driver.new.workers.items) (sym m.case) (c.rounds-driver.ensures.held b.0.case st) in
    (m.hall, c.take_back-hall.ensures.goes m.hall m.saw held, m.place)

pub returns : goal.returns
returns g c =
    let b = c.requires.begins in
    let s = split_passes (lock_id c.args.lock) b.0 c.args.dealt.items c.pop.new.self.items c.in-Some.driver c.in-Some.ensures.items b.1.many b.1.passes_are in
    let st = starts (lock_id c.args.lock) b.0 c.args.rules c.args.guests.items c.args.dealt.items c.in-Some.driver c.make_workers-workers.result.items b.1 s.1 (c.make_workers-workers.ensures.ready (lock_id c.args.lock) b.0 b.1.guests_are s.0) in
    let m = c.rounds-driver.ensures.came b.0.case st in
    let held = subst (λ k. AreHeld (lock_id c.args.lock) k c.rounds-driver.new.workers.items) (sym m.case) (c.rounds-driver.ensures.held b.0.case st) in
    record {
      case = λ h begins.
          let t = split_passes (lock_id c.args.lock) h c.args.dealt.items c.pop.new.self.items c.in-Some.driver c.in-Some.ensures.items begins.many begins.passes_are in
          let su = starts (lock_id c.args.lock) h c.args.rules c.args.guests.items c.args.dealt.items c.in-Some.driver c.make_workers-workers.result.items begins t.1 (c.make_workers-workers.ensures.ready (lock_id c.args.lock) h begins.guests_are t.0) in
          let n = c.rounds-driver.ensures.came h.case su in
          (c.take_back-hall.ensures.goes n.hall n.saw (subst (λ k. AreHeld (lock_id c.args.lock) k c.rounds-driver.new.workers.items) (sym n.case) (c.rounds-driver.ensures.held h.case su))).case ∙ n.case;
      count = c.take_back-hall.ensures.count c.rounds-driver.ensures.counted;
      outputs = c.end-ran.ensures m.hall c.args.out.now c.args.err.now (c.take_back-hall.ensures.goes m.hall m.saw held) m.place m.end;
    }
