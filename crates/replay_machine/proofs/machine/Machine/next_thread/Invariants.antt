use Rattle.std.proofs.Common.{◌<◌, ◌^◌}
use Rattle.std.specs.Prelude.{IfSome}
use Rattle.replay_machine.proofs.Shown.{IsLeast, kept}
use Rattle.replay_machine.proofs.machine.Machine.next_thread.Given as goal

abbrev pub invariant-loop-s : goal.invariant-loop-s
invariant-loop-s l = record {
  least : IsLeast (kept l.self) l.s l.from l.least;
  number : IfSome l.least (λ t. t < 2 ^ 32);
}
