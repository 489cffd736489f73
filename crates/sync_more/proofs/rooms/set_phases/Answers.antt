use Rattle.std.proofs.Common.{take, get_or, ap, sym, ◌∙◌, arith}
use Rattle.std.proofs.lemmas.List.{take_more}
use Rattle.std.specs.FinMap as map
use Rattle.sync_more.specs.Rooms.{with_phases}
use Rattle.sync_more.proofs.PhaseLemmas.{with_phases-append}
use Rattle.sync_more.proofs.rooms.set_phases.Goals as goal

pub loop-t-preserved : goal.loop-t-preserved
loop-t-preserved c = record {
  same = c.put.ensures.places
      ∙ ap (λ m. map.insert m (get_or c.args.threads.now c.loop-t.t-index 0) c.args.phase) c.loop-t.invariant.same
      ∙ sym (ap (λ ts. with_phases c.args.phases.now.places ts c.args.phase) (take_more c.args.threads.now c.loop-t.t-index 0 c.loop-t-test.true)
      ∙ with_phases-append c.args.phases.now.places (take c.loop-t.t-index c.args.threads.now) (get_or c.args.threads.now c.loop-t.t-index 0) c.args.phase);
  room = omega (arith, c.put.ensures.room, c.loop-t.invariant.room);
  fits = c.loop-t.invariant.fits;
}
