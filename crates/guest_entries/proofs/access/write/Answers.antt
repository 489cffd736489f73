use Rattle.std.proofs.Common.{ℕ, List, sym, subst}
use Rattle.hall_core.specs.Hall.{NeedsAt}
use Rattle.hall_core.specs.Shared.{Stores}
use Rattle.guest_entries.specs.Entered.{Passed}
use Rattle.guest_entries.proofs.Accesses.{rip_is, store_entered, store_may, store_need, storing}
use Rattle.guest_entries.proofs.Standing.{inside_part}
use Rattle.guest_entries.proofs.access.write.Goals as goal

pub here-rip-requires : goal.here-rip-requires
here-rip-requires c = let r = c.requires.asks in inside_part c.args.hall.now c.args.t c.args.own.now c.args.table.now.items r.0 r.1 r.2 r.4

pub store-stored-requires-clause-needs : goal.store-stored-requires-clause-needs
store-stored-requires-clause-needs c =
    let r = c.requires.asks in
    let rip = rip_is c.args.hall.now c.args.t c.args.own.now c.args.table.now.items r.0 r.1 r.2 c.here-rip.result r.4 c.here-rip.ensures in
    let s = storing c.args.hall.now c.args.own.now c.args.a c.args.value c.args.to c.args.w r.1 r.2 r.3 r.4.asks in
    subst (λ w. NeedsAt c.args.hall.now c.args.t c.args.own.now.k c.here-rip.result (Stores c.args.a w c.args.value)) (sym c.request_width.ensures) (store_need c.args.hall.now c.args.hall.now c.args.t c.args.own.now c.args.table.now.items c.args.table.now.items r.0 r.1 r.2 r.4 c.args.a c.args.value c.args.to c.args.w s c.here-rip.result rip)

pub store-stored-requires-clause-comes : goal.store-stored-requires-clause-comes
store-stored-requires-clause-comes c =
    let r = c.requires.asks in
    let s = storing c.args.hall.now c.args.own.now c.args.a c.args.value c.args.to c.args.w r.1 r.2 r.3 r.4.asks in
    store_may c.args.hall.now c.args.hall.now c.args.t c.args.own.now c.args.table.now.items c.args.table.now.items r.0 r.1 r.2 r.4 c.args.a c.args.value c.args.to c.args.w s

pub pass_on-requires : goal.pass_on-requires
pass_on-requires c = let r = c.requires.asks in record { inside = inside_part c.args.hall.now c.args.t c.args.own.now c.args.table.now.items r.0 r.1 r.2 r.4 }

pub returns : goal.returns
returns c = λ v d r by q.
    let s = storing c.args.hall.now c.args.own.now c.args.a c.args.value c.args.to c.args.w d r by q.asks in
    store_entered c.args.hall.now c.store-stored.new.self c.args.t c.args.own.now c.args.table.now.items c.pass_on.new.table.items v d r q c.args.a c.args.value c.args.to c.args.w s c.pass_on.new.own c.requires.few (subst (λ (z : List ℕ). Passed s.kept s.part c.args.to (record c.args.own.now { k = 0; ages = z }) c.pass_on.new.own c.args.table.now.items c.pass_on.new.table.items) c.push.ensures (c.pass_on.ensures s.kept s.part s.at)) c.store-stored.ensures.entry
