use Rattle.std.proofs.Common.{◌≡◌, false, sym, subst, ap, ◌∙◌, refl}
use Rattle.lib_table.specs.declared.ask.Ask.{Ask}
use Rattle.lib_table.specs.Row.{waits as row_waits}
use Rattle.hall_core.specs.Hall.{NeedsAt, both, machine}
use Rattle.hall_core.specs.Shared.{Asks}
use Rattle.guest_entries.specs.Entered.{CallIs}
use Rattle.guest_entries.specs.Called.{at_after, data_after}
use Rattle.guest_steps.specs.declared.stretch.Came.TheVariants as came
use Rattle.guest_steps.specs.Own.{data_of}
use Rattle.guest_steps.specs.Stretched.{StopsAt}
use Rattle.guest_entries.proofs.Calling.{bad_goes, call_may, call_needs, done_goes, followed, if_failed, not_asked, not_served, still_along, take_last, waited_same}
use Rattle.guest_entries.proofs.call.serve.Goals as goal

pub returns-in_err-hold : goal.returns-in_err-hold
returns-in_err-hold c = λ table d along stops.
    let h = c.args.hall.now in let own = c.args.own.now in
    let after = record own { frames = c.hold.new.frames } in
    if_failed (λ r. CallIs r h h c.args.t own after table d) (λ e. not_asked h c.args.t c.args.a c.args.what own table d along stops h after refl (ap (λ z. record (data_of own) { frames = z }) c.in_err-hold.ensures.err) refl) c.from_residual.result c.from_residual.ensures.0

pub call-requires-clause-needs : goal.call-requires-clause-needs
call-requires-clause-needs c =
    let r = c.requires.asks in
    subst (λ (x : Ask). NeedsAt c.args.hall.now c.args.t c.args.own.now.k c.args.a (Asks x)) (sym c.ask_of-ask.ensures) (call_needs c.args.hall.now c.args.t c.args.a c.args.what c.args.own.now r.0 r.1 r.2 r.3)

pub call-requires-clause-comes : goal.call-requires-clause-comes
call-requires-clause-comes c = λ free.
    let r = c.requires.asks in
    let h = c.args.hall.now in
    call_may h c.args.t c.args.a c.args.what c.args.own.now r.0 r.1 r.2 r.3 c.requires.none (subst (λ (x : Ask). row_waits (machine h).library (machine h).tso.memory c.args.t x ≡ false) c.ask_of-ask.ensures free)

pub returns-in-Err : goal.returns-in-Err
returns-in-Err c = λ table d along stops.
    let h = c.args.hall.now in let own = c.args.own.now in
    let held = c.in_ok-hold.ensures.ok in
    let after = record own { frames = c.pop-held.new.self } in
    let same : c.pop-held.new.self.items ≡ own.frames.items = c.pop-held.ensures.rest ∙ take_last _ c.hold.new.frames.items own.frames.items held.0 c.hold.new.frames.ok.0 held.1 in
    not_asked h c.args.t c.args.a c.args.what own table d along stops c.call.new.self after c.in-Err.ensures.err (ap (λ z. record (data_of own) { frames = z }) same) refl

pub wait-requires-clause-asks : goal.wait-requires-clause-asks
wait-requires-clause-asks c =
    let r = c.requires.asks in
    let h = c.args.hall.now in let own = c.args.own.now in
    let held = c.in_ok-hold.ensures.ok in
    let is = not_served h c.args.t c.args.a c.args.what own r.0 r.1 r.2 r.3 c.in-Ok.step c.call.new.self c.in-Waits.is c.in-Ok.ensures.entry in
    let same : data_of c.follow.new.own ≡ data_of own = c.follow.ensures.guest own.frames.items held.0 held.1 ∙ ap (data_after (data_of own) c.args.a c.args.what) c.in-Waits.is in
    let at : c.follow.new.own.at ≡ own.at = c.follow.ensures.at ∙ ap (at_after own.at c.args.a) c.in-Waits.is in
    let s = still_along h c.args.t c.args.a c.args.what own r.0 r.1 r.2 r.3 c.call.new.self c.follow.new.own is same at in
    (r.0, r.1, s.0, subst (λ (x : Ask). StopsAt (came.Library c.args.a x.what) c.call.new.self.case (both c.call.new.self) c.follow.new.own r.1) (sym c.ask_of-ask.ensures) s.1)

pub returns-in-Waits : goal.returns-in-Waits
returns-in-Waits c = λ table d along stops.
    let h = c.args.hall.now in let own = c.args.own.now in
    let held = c.in_ok-hold.ensures.ok in
    let is = not_served h c.args.t c.args.a c.args.what own table d along stops c.in-Ok.step c.call.new.self c.in-Waits.is c.in-Ok.ensures.entry in
    let same : data_of c.follow.new.own ≡ data_of own = c.follow.ensures.guest own.frames.items held.0 held.1 ∙ ap (data_after (data_of own) c.args.a c.args.what) c.in-Waits.is in
    let at : c.follow.new.own.at ≡ own.at = c.follow.ensures.at ∙ ap (at_after own.at c.args.a) c.in-Waits.is in
    let s = still_along h c.args.t c.args.a c.args.what own table d along stops c.call.new.self c.follow.new.own is same at in
    waited_same h c.args.t c.args.a c.args.what own table d along stops c.call.new.self c.wait.new.hall c.follow.new.own c.wait.new.own is same (c.wait.ensures table d s.0 (subst (λ (x : Ask). StopsAt (came.Library c.args.a x.what) c.call.new.self.case (both c.call.new.self) c.follow.new.own d) (sym c.ask_of-ask.ensures) s.1))

pub returns-in-Done : goal.returns-in-Done
returns-in-Done c = λ table d along stops.
    let own = c.args.own.now in
    let held = c.in_ok-hold.ensures.ok in
    followed c.args.hall.now c.args.t c.args.a c.args.what own table d along stops c.requires.none c.in-Ok.step c.call.new.self c.follow.new.own c.ask_of-ask.result c.ask_of-ask.ensures (λ e. absurd (done_goes _ (sym c.in-Done.is ∙ e))) c.in-Ok.ensures.row c.in-Ok.ensures.entry c.follow.ensures.fits (c.follow.ensures.guest own.frames.items held.0 held.1) c.follow.ensures.at

pub returns-in-Bad : goal.returns-in-Bad
returns-in-Bad c = λ table d along stops.
    let own = c.args.own.now in
    let held = c.in_ok-hold.ensures.ok in
    followed c.args.hall.now c.args.t c.args.a c.args.what own table d along stops c.requires.none c.in-Ok.step c.call.new.self c.follow.new.own c.ask_of-ask.result c.ask_of-ask.ensures (λ e. absurd (bad_goes _ (sym c.in-Bad.is ∙ e))) c.in-Ok.ensures.row c.in-Ok.ensures.entry c.follow.ensures.fits (c.follow.ensures.guest own.frames.items held.0 held.1) c.follow.ensures.at
