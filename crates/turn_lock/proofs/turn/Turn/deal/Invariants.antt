use Rattle.std.proofs.Common.{◌≡◌, ◌≤◌, [], length, All, Some, vec_capacity}
use Rattle.turn_lock.specs.Words.{lock_of, pass_seen, pass_case, InOrder}
use Rattle.turn_lock.specs.Rule.{fresh}
use Rattle.turn_lock.proofs.turn.Turn.deal.Given as goal

abbrev pub invariant-loop-i : goal.invariant-loop-i
invariant-loop-i g l = record {
  lock : l.seat.table_id ≡ l.fn.self.table.shared.table_id;
  unnumbered : l.seat.me ≡ (fresh l.fn.self.table.shared.key.0.value, []);
  room : l.fn.self.count ≤ vec_capacity l.passes;
  count : length l.passes.items ≡ l.i;
  locks : All (λ p. lock_of p ≡ l.fn.self.table.shared.table_id) l.passes.items;
  in_order : InOrder l.passes.items;
  same_case : All (λ p. pass_case g.T.Story.case p ≡ Some (g.T.Story.case l.fn.self.table.shared.key.0.value)) l.passes.items;
  seen : All (λ p. pass_seen g.T.Story.entries p ≡ g.T.Story.entries l.fn.self.table.shared.key.0.value) l.passes.items;
}
