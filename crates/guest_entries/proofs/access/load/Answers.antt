use Rattle.std.proofs.Common.{◌<◌, ◌^◌, IfSome, ap, sym, subst, ◌∙◌}
use Rattle.tso_memory.specs.Buffer.{size_of}
use Rattle.hall_core.specs.Hall.{NeedsAt, machine}
use Rattle.hall_core.specs.Shared.{Loads, loaded_value, shared_of}
use Rattle.machine_model.specs.Conversions.{request_width_of}
use Rattle.machine_model.specs.Serial.{AtEvent}
use Rattle.ir_syntax.specs.declared.request.Request.TheVariants as ask
use Rattle.guest_entries.specs.Entered.{Entered}
use Rattle.guest_entries.proofs.Accesses.{answer_is, load_entered, load_may, load_need, load_takes, rip_is}
use Rattle.guest_entries.proofs.Standing.{inside_part, takes_there}
use Rattle.guest_entries.proofs.access.load.Goals as goal

pub here-rip-requires : goal.here-rip-requires
here-rip-requires c = let r = c.requires.asks in inside_part c.args.hall.now c.args.t c.args.own.now r.0 r.1 r.2 (ask.Load c.args.a c.args.w) r.3

pub load-value-requires-clause-needs : goal.load-value-requires-clause-needs
load-value-requires-clause-needs c =
    let r = c.requires.asks in
    let rip = rip_is c.args.hall.now c.args.t c.args.own.now r.0 r.1 r.2 (ask.Load c.args.a c.args.w) c.here-rip.result r.3 c.here-rip.ensures in
    subst (λ w. NeedsAt c.args.hall.now c.args.t c.args.own.now.k c.here-rip.result (Loads c.args.a w)) (sym c.request_width.ensures) (load_need c.args.hall.now c.args.hall.now c.args.t c.args.own.now r.0 r.1 r.2 c.args.a c.args.w r.3 c.here-rip.result rip)

pub load-value-requires-clause-comes : goal.load-value-requires-clause-comes
load-value-requires-clause-comes c = let r = c.requires.asks in load_may c.args.hall.now c.args.hall.now c.args.t c.args.own.now r.0 r.1 r.2 c.args.a c.args.w r.3

fits : (c : goal.After-answered-arg-1) → IfSome c.load-value.result (λ x. x < 256 ^ size_of (request_width_of c.args.w))
fits c = subst (λ w. IfSome c.load-value.result (λ x. x < 256 ^ size_of w)) c.request_width.ensures c.load-value.ensures.fits

pub answered-requires-clause-takes : goal.answered-requires-clause-takes
answered-requires-clause-takes c = let r = c.requires.asks in takes_there c.args.hall.now c.args.t c.args.own.now r.0 r.1 r.2 (ask.Load c.args.a c.args.w) r.3 c.load-value.result (load_takes c.args.hall.now c.args.hall.now c.args.t c.args.own.now r.0 r.1 r.2 c.args.a c.args.w r.3 c.load-value.result (fits c))

pub returns : goal.returns
returns c = λ table v d q.
    let is = answer_is c.args.own.now c.answered.new.own q.asks.kept q.asks.part q.asks.piece c.load-value.result (c.answered.ensures.some q.asks.kept q.asks.part q.asks.piece q.asks.rest q.asks.at q.asks.there) c.answered.ensures.none in
    subst (λ z. Entered c.args.hall.now c.load-value.new.self c.args.t c.args.own.now z table d AtEvent) (sym is) (load_entered c.args.hall.now c.load-value.new.self c.args.t c.args.own.now table v d c.args.a c.args.w q c.load-value.result (c.load-value.ensures.value ∙ ap (λ w. loaded_value (shared_of (machine c.args.hall.now)) c.args.t c.args.a (size_of w)) c.request_width.ensures) (subst (λ w. IfSome c.load-value.result (λ x. x < 256 ^ size_of w)) c.request_width.ensures c.load-value.ensures.fits) c.load-value.ensures.entry)
