use Rattle.std.specs.Prelude.{All}
use Rattle.replay_view.specs.Gates.{KeepsReach}
use Rattle.replay_view.proofs.reached.Reached.new.Given as goal

abbrev pub invariant-loop : goal.invariant-loop
invariant-loop l = All (KeepsReach l.image) l.kept.items
