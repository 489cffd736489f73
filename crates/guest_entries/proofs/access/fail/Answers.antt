use Rattle.std.proofs.Common.{sym, subst}
use Rattle.hall_core.specs.Hall.{NeedsAt}
use Rattle.hall_core.specs.Shared.{Fails}
use Rattle.ir_syntax.specs.declared.request.Request.TheVariants as ask
use Rattle.guest_entries.proofs.Accesses.{bad_entered, bad_may, bad_need, rip_is}
use Rattle.guest_entries.proofs.Standing.{inside_part}
use Rattle.guest_entries.proofs.access.fail.Goals as goal

pub here-rip-requires : goal.here-rip-requires
here-rip-requires c = let r = c.requires.asks in inside_part c.args.hall.now c.args.t c.args.own.now r.0 r.1 r.2 (ask.Bad c.args.kind) r.3

pub bad-requires-clause-needs : goal.bad-requires-clause-needs
bad-requires-clause-needs c =
    let r = c.requires.asks in
    let rip = rip_is c.args.hall.now c.args.t c.args.own.now r.0 r.1 r.2 (ask.Bad c.args.kind) c.here-rip.result r.3 c.here-rip.ensures in
    subst (λ k. NeedsAt c.args.hall.now c.args.t c.args.own.now.k c.here-rip.result (Fails k)) (sym c.request_kind.ensures) (bad_need c.args.hall.now c.args.hall.now c.args.t c.args.own.now r.0 r.1 r.2 c.args.kind r.3 c.here-rip.result rip)

pub bad-requires-clause-comes : goal.bad-requires-clause-comes
bad-requires-clause-comes c = let r = c.requires.asks in bad_may c.args.hall.now c.args.hall.now c.args.t c.args.own.now r.0 r.1 r.2 c.args.kind r.3

pub returns : goal.returns
returns c = λ table v d q. bad_entered c.args.hall.now c.bad.new.self c.args.t c.args.own.now table v d c.args.kind q c.bad.ensures
