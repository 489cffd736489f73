use Rattle.std.proofs.Common.{◌≡◌, ◌++◌, [], All}
use Rattle.std.specs.List.{flat_map}
use Rattle.turn_lock.specs.Words.{lock_of}
use Rattle.turn_lock.specs.Rule.{standing_for}
use Rattle.turn_lock.proofs.turn.Turn.gather.Given as goal

abbrev pub invariant-loop-other : goal.invariant-loop-other
invariant-loop-other g l = record {
  lock : l.seat.table_id ≡ l.fn.self.table.shared.table_id;
  locks : All (λ p. lock_of p ≡ l.fn.self.table.shared.table_id) l.passes.items;
  stands : l.seat.me ≡ (standing_for l.seat.me.0.passes, []);
  all : flat_map (λ p. p.seat.me.0.passes) l.passes.items ++ l.seat.me.0.passes ≡ flat_map (λ p. p.seat.me.0.passes) l.fn.passes.items;
}

abbrev pub decreases-loop-other : goal.decreases-loop-other
decreases-loop-other g l = goal.left-loop-other g l
