use Rattle.std.proofs.Common.{◌≡◌, ◌-◌, slice_index, refl, sym, subst, ap, arith, ◌∙◌}
use Rattle.guest_parts.specs.Running.{Rises}
use Rattle.guest_parts.specs.Standing.{StandsBetween, places_of}
use Rattle.guest_steps.specs.declared.own.Own.{Own}
use Rattle.guest_steps.specs.declared.own.Position.TheVariants as at
use Rattle.guest_steps.specs.Ahead.{Strode}
use Rattle.guest_steps.proofs.Moves.{is_kept, is_under, stands_inside}
use Rattle.guest_steps.proofs.Striding.{stands_still, strides}
use Rattle.guest_steps.proofs.ahead.run_quiet.Given as given
use Rattle.guest_steps.proofs.ahead.run_quiet.Goals as goal

pub returns-in_default-clause-ahead : goal.returns-in_default-clause-ahead
returns-in_default-clause-ahead g c = λ k b t d h. (d, stands_still k b t c.args.own.now c.args.own.now c.args.table.now.items d h refl refl)

pub returns-in-Most-clause-ahead : goal.returns-in-Most-clause-ahead
returns-in-Most-clause-ahead g c = λ k b t d h.
    let own = c.args.own.now in
    let x = c.in-Inside.kept in
    let r = c.in-Most.ensures.stop k.image b.gate.grown own.last d (stands_inside k b t own c.args.table.now.items d x c.in-Inside.part h c.in-Inside.is) in
    let few = c.in-Most.ensures.few in
    let small = c.quiet_to-most.ensures.most h.with.few in
    let new : Own = record own { state = c.run.new.state; at = at.Inside x c.run.new.part; k = c.run.new.k } in
    (r.next, strides k b t own new c.args.table.now.items c.args.table.now.items d r.next h r.gated c.run.ensures.later (omega (arith, few, small)) r.stands (is_under k b t own c.args.table.now.items d x c.in-Inside.part h c.in-Inside.is) h.kept refl refl)

pub returns-in-Left-clause-ahead : goal.returns-in-Left-clause-ahead
returns-in-Left-clause-ahead g c = λ k b t d h.
    let own = c.args.own.now in
    let x = c.in-Inside.kept in
    let r = c.in-Left.ensures.stop k.image b.gate.grown own.last d (stands_inside k b t own c.args.table.now.items d x c.in-Inside.part h c.in-Inside.is) in
    let few = c.in-Left.ensures.few in
    let small = c.quiet_to-most.ensures.most h.with.few in
    let kept = is_kept k b t own c.args.table.now.items d x c.in-Inside.part h c.in-Inside.is in
    let new : Own = record own { state = c.run.new.state; at = at.Between c.in-Left.to; last = slice_index (places_of x.image x.block) c.run.new.part; k = c.run.new.k } in
    let strode : Strode k b t own new c.leave.new.table.items d r.next = strides k b t own new c.args.table.now.items c.leave.new.table.items d r.next h r.gated c.run.ensures.later (omega (arith, few, small)) (subst (λ i. StandsBetween c.in-Left.to (slice_index (places_of i x.block) c.run.new.part) c.run.new.state r.next) (sym kept.same) r.stands) tt (c.leave.ensures.table x c.run.new.part k.image b.gate.grown refl h.kept kept) refl refl in
    (r.next, subst (λ z. Strode k b t own z c.leave.new.table.items d r.next) (sym (c.leave.ensures.own x c.run.new.part refl)) strode)

left_k : (g : given.Over) (c : goal.After-leave g) → c.leave.new.own.k ≡ c.run.new.k
left_k g c = ap (λ z. z.k) (c.leave.ensures.own c.in-Inside.kept c.run.new.part refl)

pub returns-in-Left-clause-later : goal.returns-in-Left-clause-later
returns-in-Left-clause-later g c = omega (arith, c.run.ensures.later, left_k g c)

pub returns-in-Left-clause-further : goal.returns-in-Left-clause-further
returns-in-Left-clause-further g c = λ yes. omega (arith, c.in-Left.ensures.further, left_k g c)

pub returns-in-Left-clause-count : goal.returns-in-Left-clause-count
returns-in-Left-clause-count g c = subst (λ z. Rises (g.N.Engine.count c.args.engine.now) (g.N.Engine.count c.run.new.engine) (z - c.args.own.now.k)) (sym (left_k g c)) c.in-Left.ensures.count

pub returns-in-Asks-clause-ahead : goal.returns-in-Asks-clause-ahead
returns-in-Asks-clause-ahead g c = λ k b t d h.
    let own = c.args.own.now in
    let x = c.in-Inside.kept in
    let back : c.put_back.new.own ≡ own = c.put_back.ensures x c.run.new.part refl ∙ ap (λ p. record own { at = p }) (sym c.in-Inside.is) in
    (d, subst (λ z. Strode k b t own z c.args.table.now.items d d) (sym back) (stands_still k b t own own c.args.table.now.items d h refl refl))
