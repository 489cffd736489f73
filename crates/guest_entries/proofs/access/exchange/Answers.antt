use Rattle.std.proofs.Common.{◌<◌, ◌^◌, IfSome, ap, sym, subst, ◌∙◌}
use Rattle.tso_memory.specs.Buffer.{size_of}
use Rattle.hall_core.specs.Hall.{NeedsAt, machine}
use Rattle.hall_core.specs.Shared.{Locks, locked_value, shared_of}
use Rattle.machine_model.specs.Conversions.{request_width_of}
use Rattle.machine_model.specs.Serial.{AtEvent}
use Rattle.ir_syntax.specs.declared.request.Request.TheVariants as ask
use Rattle.guest_entries.specs.Entered.{Entered}
use Rattle.guest_entries.proofs.Accesses.{answer_is, locked_entered, locked_may, locked_need, locked_takes, rip_is}
use Rattle.guest_entries.proofs.Standing.{inside_part, takes_there}
use Rattle.guest_entries.proofs.access.exchange.Goals as goal

pub here-rip-requires : goal.here-rip-requires
here-rip-requires c = let r = c.requires.asks in inside_part c.args.hall.now c.args.t c.args.own.now r.0 r.1 r.2 (ask.Locked c.args.a c.args.w c.args.change) r.3

pub locked-value-requires-clause-needs : goal.locked-value-requires-clause-needs
locked-value-requires-clause-needs c =
    let r = c.requires.asks in
    let rip = rip_is c.args.hall.now c.args.t c.args.own.now r.0 r.1 r.2 (ask.Locked c.args.a c.args.w c.args.change) c.here-rip.result r.3 c.here-rip.ensures in
    subst (λ w. NeedsAt c.args.hall.now c.args.t c.args.own.now.k c.here-rip.result (Locks c.args.a w c.request_change.result)) (sym c.request_width.ensures) (subst (λ z. NeedsAt c.args.hall.now c.args.t c.args.own.now.k c.here-rip.result (Locks c.args.a (request_width_of c.args.w) z)) (sym c.request_change.ensures) (locked_need c.args.hall.now c.args.hall.now c.args.t c.args.own.now r.0 r.1 r.2 c.args.a c.args.w c.args.change r.3 c.requires.none c.here-rip.result rip))

pub locked-value-requires-clause-comes : goal.locked-value-requires-clause-comes
locked-value-requires-clause-comes c = let r = c.requires.asks in locked_may c.args.hall.now c.args.hall.now c.args.t c.args.own.now r.0 r.1 r.2 c.args.a c.args.w c.args.change r.3 c.requires.none

fits : (c : goal.After-answered-arg-1) → IfSome c.locked-value.result (λ x. x < 256 ^ size_of (request_width_of c.args.w))
fits c = subst (λ w. IfSome c.locked-value.result (λ x. x < 256 ^ size_of w)) c.request_width.ensures c.locked-value.ensures.fits

pub answered-requires-clause-takes : goal.answered-requires-clause-takes
answered-requires-clause-takes c = let r = c.requires.asks in takes_there c.args.hall.now c.args.t c.args.own.now r.0 r.1 r.2 (ask.Locked c.args.a c.args.w c.args.change) r.3 c.locked-value.result (locked_takes c.args.hall.now c.args.hall.now c.args.t c.args.own.now r.0 r.1 r.2 c.args.a c.args.w c.args.change r.3 c.requires.none c.locked-value.result (fits c))

pub returns : goal.returns
returns c = λ table v d q.
    let is = answer_is c.args.own.now c.answered.new.own q.asks.kept q.asks.part q.asks.piece c.locked-value.result (c.answered.ensures.some q.asks.kept q.asks.part q.asks.piece q.asks.rest q.asks.at q.asks.there) c.answered.ensures.none in
    subst (λ z. Entered c.args.hall.now c.locked-value.new.self c.args.t c.args.own.now z table d AtEvent) (sym is) (locked_entered c.args.hall.now c.locked-value.new.self c.args.t c.args.own.now table v d c.args.a c.args.w c.args.change q c.requires.none c.locked-value.result (c.locked-value.ensures.value ∙ ap (λ w. locked_value (shared_of (machine c.args.hall.now)) c.args.a (size_of w)) c.request_width.ensures) (subst (λ w. IfSome c.locked-value.result (λ x. x < 256 ^ size_of w)) c.request_width.ensures c.locked-value.ensures.fits) c.locked-value.ensures.entry)
