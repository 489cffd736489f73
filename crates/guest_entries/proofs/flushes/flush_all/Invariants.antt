use Rattle.std.proofs.Common.{◌<◌, ◌≤◌, length}
use Rattle.guest_entries.proofs.Flushed.{SomeBy}
use Rattle.guest_entries.proofs.flushes.flush_all.Given as goal

abbrev pub invariant-loop-hall : goal.invariant-loop-hall
invariant-loop-hall l = record {
  few : length l.ages ≤ length l.fn.ages;
  room : length l.ages < l.hall.spare;
  flushed : SomeBy l.fn.hall l.hall l.t l.fn.ages l.ages;
}

abbrev pub decreases-loop-hall : goal.decreases-loop-hall
decreases-loop-hall l = length l.ages
