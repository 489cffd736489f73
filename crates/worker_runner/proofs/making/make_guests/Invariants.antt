use Rattle.std.proofs.Common.{◌≡◌, length}
use Rattle.worker_runner.specs.Workers.{AreFirstGuests}
use Rattle.worker_runner.proofs.making.make_guests.Given as goal

abbrev pub invariant-loop-i : goal.invariant-loop-i
invariant-loop-i l = (length l.guests.items ≡ l.i) × AreFirstGuests l.hall l.guests.items
