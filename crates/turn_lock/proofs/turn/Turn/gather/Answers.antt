use Rattle.std.proofs.Common.{rules, ap, ◌∙◌, ◌++◌, ◌≡◌}
use Rattle.std.specs.List.{flat_map}
use Rattle.std.proofs.lemmas.List.Elements.{All-pop}
use Rattle.turn_lock.specs.Words.{lock_of}
use Rattle.turn_lock.proofs.Steps.{joining, idle_of}
use Rattle.turn_lock.proofs.Passes.{stands, one_more, stands_still, joined_passes}
use Rattle.turn_lock.proofs.turn.Turn.gather.Goals as goal

pub join_seat-requires : goal.join_seat-requires
join_seat-requires g c = let p = c.in-Some-pop.field-0 in let w = idle_of p.seat.me p.idle in
    (search rules, search rules, ap (λ m. m.1) w.2, search rules, joining g.T.Story.case g.T.Story.entries g.T.Story.number _ _ _ _ _ (search rules) (search rules))

pub loop-other-preserved : goal.loop-other-preserved
loop-other-preserved g c = record {
  lock = search rules;
  locks = (All-pop (λ p. lock_of p ≡ c.args.self.now.table.shared.table_id) _ _ _ c.pop.ensures.items c.loop-other.invariant.locks).0;
  stands = stands_still c.loop-other.seat.me c.join_seat.new.seat.me c.in-Some-pop.field-0.seat.me.0 c.join_seat.ensures.2 c.loop-other.invariant.stands;
  all = ap (λ ps. flat_map stands c.pop.new.self.items ++ ps) (joined_passes c.loop-other.seat.me c.join_seat.new.seat.me c.in-Some-pop.field-0.seat.me.0 c.join_seat.ensures.2)
      ∙ one_more c.loop-other.passes.items c.pop.new.self.items c.args.passes.items c.in-Some-pop.field-0 c.loop-other.seat.me.0.passes c.in-Some-pop.ensures.items c.loop-other.invariant.all;
}
