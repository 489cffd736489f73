use Rattle.std.proofs.Common.{◌≡◌, ◌<◌, length, Some, sym, subst, ◌∙◌, arith}
use Rattle.turn_lock.specs.Lock.{lock_id}
use Rattle.turn_lock.specs.Journal.{StartsWith}
use Rattle.turn_lock.specs.Words.{pass_case, pass_seen}
use Rattle.thread_step.specs.Context.{HallOf, case_in, journal_in}
use Rattle.machine_model.specs.Gated.{Leads, begin}
use Rattle.hall_core.specs.Hall.{both}
use Rattle.guest_parts.specs.Running.{Rises}
use Rattle.worker_runner.specs.Ending.{Goes}
use Rattle.guest_entries.specs.Steps.{instruction_steps}
use Rattle.thread_step.specs.Counts.{slots_steps}
use Rattle.thread_step.proofs.Counting.{rises_less}
use Rattle.thread_step.proofs.SlotCounts.{slots_make_all}
use Rattle.worker_runner.specs.Rounds.{AreHeld}
use Rattle.worker_runner.proofs.Gathering.{goes_by, kept_by, saw_back}
use Rattle.worker_runner.proofs.closing.take_back.Goals as goal

pub gather-passes-requires-clause-held : goal.gather-passes-requires-clause-held
gather-passes-requires-clause-held g c κs within = let h = c.requires.held in (lock_id c.args.lock, h.0.case, h.2)

pub close-shared-requires-clause-all : goal.close-shared-requires-clause-all
close-shared-requires-clause-all g c =
    let h = c.requires.held in
    let b = c.gather-passes.ensures.back (lock_id c.args.lock) h.0.case h.2 (saw_back (lock_id c.args.lock) h.0 c.args.last c.requires.last.0 c.requires.last.1 h.1) in
    b.0 ∙ sym c.requires.count

pub close-shared-requires-clause-lock : goal.close-shared-requires-clause-lock
close-shared-requires-clause-lock g c =
    let h = c.requires.held in
    let b = c.gather-passes.ensures.back (lock_id c.args.lock) h.0.case h.2 (saw_back (lock_id c.args.lock) h.0 c.args.last c.requires.last.0 c.requires.last.1 h.1) in
    λ k d less. (b.1 k d less).lock

pub close-shared-requires-clause-in_order : goal.close-shared-requires-clause-in_order
close-shared-requires-clause-in_order g c =
    let h = c.requires.held in
    let b = c.gather-passes.ensures.back (lock_id c.args.lock) h.0.case h.2 (saw_back (lock_id c.args.lock) h.0 c.args.last c.requires.last.0 c.requires.last.1 h.1) in
    λ k d less. (b.1 k d less).number

pub returns : goal.returns
returns g c = record {
  goes = λ h saw held.
      let b = c.gather-passes.ensures.back (lock_id c.args.lock) h.case held (saw_back (lock_id c.args.lock) h c.args.last c.requires.last.0 c.requires.last.1 saw) in
      let n = c.close-shared.result in
      let many = b.0 in
      let less : 64 < length c.gather-passes.result.items = omega (arith, many) in
      let is = c.gather-passes.ensures.last c.args.last in
      let same : c.into_hall-hall.result ≡ n = c.into_hall-hall.ensures in
      let leads = subst (λ (z : HallOf). Leads z.case (begin z.case) z.journal (both z)) same c.facts.ensures.gated in
      subst (Goes h) (sym same) (goes_by h n c.args.last saw
      (subst (λ p. pass_case case_in p ≡ Some n.case) is (c.close-shared.ensures.same_case 64 c.args.last less))
      (subst (λ p. StartsWith n.journal (pass_seen journal_in p)) is (c.close-shared.ensures.begins 64 c.args.last less))
      leads);
  count = λ counted.
      let h = c.requires.held in
      let key = lock_id c.args.lock in
      let n = c.close-shared.result in
      let b = c.gather-passes.ensures.back key h.0.case h.2 (saw_back key h.0 c.args.last c.requires.last.0 c.requires.last.1 h.1) in
      let many = b.0 in
      let less : 64 < length c.gather-passes.result.items = omega (arith, many) in
      let is = c.gather-passes.ensures.last c.args.last in
      let same : c.into_hall-hall.result ≡ n = c.into_hall-hall.ensures in
      let leads = subst (λ (z : HallOf). Leads z.case (begin z.case) z.journal (both z)) same c.facts.ensures.gated in
      let went = goes_by h.0 n c.args.last h.1 (subst (λ p. pass_case case_in p ≡ Some n.case) is (c.close-shared.ensures.same_case 64 c.args.last less)) (subst (λ p. StartsWith n.journal (pass_seen journal_in p)) is (c.close-shared.ensures.begins 64 c.args.last less)) leads in
      let kept = kept_by key h.0.case n c.gather-passes.result.items b went.case leads c.close-shared.ensures.same_case c.close-shared.ensures.begins c.close-shared.ensures.own in
      let held = subst (λ k. AreHeld key k c.args.workers.items) (sym went.case) h.2 in
      subst (λ (z : HallOf). Rises (g.N.Engine.count c.args.engine.now) (g.N.Engine.count c.gather-passes.new.engine) (instruction_steps z.case z.journal)) (sym same) (rises_less (g.N.Engine.count c.args.engine.now) (g.N.Engine.count c.gather-passes.new.engine) (slots_steps n.case 64 n.journal) (instruction_steps n.case n.journal) (slots_make_all n.case n.journal) (c.gather-passes.ensures.merged key n.case n.journal held counted kept));
}
