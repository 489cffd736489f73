use Rattle.std.proofs.Common.{◌≡◌, ◌-◌, slice_index}
use Rattle.guest_parts.specs.Running.{Rises}
use Rattle.guest_parts.specs.Standing.{places_of}
use Rattle.guest_steps.specs.declared.own.Position.TheVariants as at
use Rattle.std.proofs.Common.{refl, sym, ap, subst, arith}
use Rattle.guest_parts.specs.Standing.{StandsBetween}
use Rattle.guest_steps.specs.declared.own.Own.{Own}
use Rattle.guest_steps.specs.Stretched.{Moved}
use Rattle.guest_steps.proofs.Moves.{asks_for, inside_there, is_kept, is_under, moves, stands_inside, stays}
use Rattle.guest_steps.proofs.stretch.go.Given as given
use Rattle.guest_steps.proofs.stretch.go.Goals as goal

pub returns-in_default-clause-went : goal.returns-in_default-clause-went
returns-in_default-clause-went g c = λ k b t d h room small. stays k b t c.args.own.now c.args.own.now c.args.table.now.items c.args.table.now.items d h refl refl refl

pub returns-in-Most-clause-went : goal.returns-in-Most-clause-went
returns-in-Most-clause-went g c = λ k b t d h room small.
    let own = c.args.own.now in
    let x = c.in-Inside.kept in
    let r = c.in-Most.ensures.stop k.image b.gate.grown own.last d (stands_inside k b t own c.args.table.now.items d x c.in-Inside.part h c.in-Inside.is) in
    let few = c.in-Most.ensures.few in
    let new : Own = record own { state = c.run.new.state; at = at.Inside x c.run.new.part; k = c.run.new.k } in
    (r.next, moves k b t own new c.args.table.now.items c.args.table.now.items d r.next c.args.most h r.gated c.run.ensures.later (omega (arith, few)) room small r.stands (is_under k b t own c.args.table.now.items d x c.in-Inside.part h c.in-Inside.is) h.kept refl refl, inside_there k.image b.gate.grown x.block c.run.new.part own.last c.run.new.state r.next c.parts_follow_their_thread.ensures.parts r.stands)

pub returns-in-Asks-clause-went : goal.returns-in-Asks-clause-went
returns-in-Asks-clause-went g c = λ k b t d h room small.
    let own = c.args.own.now in
    let x = c.in-Inside.kept in
    let r = c.in-Asks.ensures.stop k.image b.gate.grown own.last d (stands_inside k b t own c.args.table.now.items d x c.in-Inside.part h c.in-Inside.is) in
    let few = c.in-Asks.ensures.few in
    let new : Own = record own { state = c.run.new.state; at = at.Inside x c.run.new.part; k = c.run.new.k } in
    (r.0, r.2.next, moves k b t own (record new { state = r.0 }) c.args.table.now.items c.args.table.now.items d r.2.next c.args.most h r.2.gated c.run.ensures.later (omega (arith, few)) room small r.2.stands (is_under k b t own c.args.table.now.items d x c.in-Inside.part h c.in-Inside.is) h.kept refl refl, asks_for k b new x c.run.new.part c.in-Asks.request r.0 r.2.next c.parts_follow_their_thread.ensures.parts refl r.2.stands r.1)

pub returns-in-Left-clause-went : goal.returns-in-Left-clause-went
returns-in-Left-clause-went g c = λ k b t d h room small.
    let own = c.args.own.now in
    let x = c.in-Inside.kept in
    let r = c.in-Left.ensures.stop k.image b.gate.grown own.last d (stands_inside k b t own c.args.table.now.items d x c.in-Inside.part h c.in-Inside.is) in
    let few = c.in-Left.ensures.few in
    let kept = is_kept k b t own c.args.table.now.items d x c.in-Inside.part h c.in-Inside.is in
    let new : Own = record own { state = c.run.new.state; at = at.Between c.in-Left.to; last = slice_index (places_of x.image x.block) c.run.new.part; k = c.run.new.k } in
    let moved : Moved k b t own new c.leave.new.table.items d r.next = moves k b t own new c.args.table.now.items c.leave.new.table.items d r.next c.args.most h r.gated c.run.ensures.later few room small (subst (λ i. StandsBetween c.in-Left.to (slice_index (places_of i x.block) c.run.new.part) c.run.new.state r.next) (sym kept.same) r.stands) tt (c.leave.ensures.table x c.run.new.part k.image b.gate.grown refl h.kept kept) refl refl in
    (r.next, subst (λ z. Moved k b t own z c.leave.new.table.items d r.next) (sym (c.leave.ensures.own x c.run.new.part refl)) moved)

left_k : (g : given.Over) (c : goal.After-leave g) → c.leave.new.own.k ≡ c.run.new.k
left_k g c = ap (λ z. z.k) (c.leave.ensures.own c.in-Inside.kept c.run.new.part refl)

pub returns-in-Left-clause-few : goal.returns-in-Left-clause-few
returns-in-Left-clause-few g c = let few = c.in-Left.ensures.few in omega (arith, few, left_k g c)

pub returns-in-Left-clause-later : goal.returns-in-Left-clause-later
returns-in-Left-clause-later g c = omega (arith, c.run.ensures.later, left_k g c)

pub returns-in-Left-clause-count : goal.returns-in-Left-clause-count
returns-in-Left-clause-count g c = subst (λ z. Rises (g.N.Engine.count c.args.engine.now) (g.N.Engine.count c.run.new.engine) (z - c.args.own.now.k)) (sym (left_k g c)) c.in-Left.ensures.count

pub returns-in-Left-clause-further : goal.returns-in-Left-clause-further
returns-in-Left-clause-further g c = omega (arith, c.in-Left.ensures.further, left_k g c)
