use Rattle.std.proofs.Common.{◌≡◌, ◌≤◌, take}
use Rattle.replay_view.specs.Grown.{new_places}
use Rattle.replay_view.proofs.grown.Grown.new_places.Given as goal

abbrev pub invariant-loop-p : goal.invariant-loop-p
invariant-loop-p l = (l.count ≡ new_places l.self (take l.p-index l.places)) × (l.count ≤ l.p-index)
