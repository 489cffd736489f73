use Rattle.std.proofs.Common.{◌<◌, length}
use Rattle.guest_steps.specs.Ages.{AreAges}
use Rattle.guest_entries.proofs.Settling.{SettlingBy}
use Rattle.guest_entries.proofs.settle.settle.Given as goal

abbrev pub invariant-loop-hall : goal.invariant-loop-hall
invariant-loop-hall l = record {
  room : length l.ages < l.hall.spare;
  fresh : AreAges 256 l.ages;
  settling : SettlingBy l.fn.hall l.hall l.t l.fn.hold l.fn.ages l.ages;
}

abbrev pub decreases-loop-hall : goal.decreases-loop-hall
decreases-loop-hall l = length l.ages
