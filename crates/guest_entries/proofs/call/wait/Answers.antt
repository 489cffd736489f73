use Rattle.std.proofs.Common.{◌≡◌, true, sym, subst}
use Rattle.lib_table.specs.declared.ask.Ask.{Ask}
use Rattle.lib_table.specs.Row.{waits as row_waits}
use Rattle.hall_core.specs.Hall.{Needs, machine}
use Rattle.hall_core.specs.Shared.{Asks}
use Rattle.guest_entries.proofs.Calling.{call_needs, wait_may, waited}
use Rattle.guest_entries.proofs.call.wait.Goals as goal

pub wait-requires-clause-needs : goal.wait-requires-clause-needs
wait-requires-clause-needs c =
    let r = c.requires.asks in
    subst (λ (x : Ask). Needs c.args.hall.now c.args.t c.args.own.now.k (Asks x)) (sym c.requires.is) (call_needs c.args.hall.now c.args.t c.args.a c.args.ask.now.what c.args.own.now r.0 r.1 r.2 r.3).needs

has_to : goal.wait-requires-clause-comes
has_to c = λ some.
    let r = c.requires.asks in
    wait_may c.args.hall.now c.args.t c.args.a c.args.ask.now.what c.args.own.now r.0 r.1 r.2 r.3 c.requires.none (subst (λ (x : Ask). row_waits (machine c.args.hall.now).library (machine c.args.hall.now).tso.memory c.args.t x ≡ true) c.requires.is c.requires.waits) some

pub wait-requires-clause-comes : goal.wait-requires-clause-comes
wait-requires-clause-comes c = has_to c

pub returns : goal.returns
returns c = λ table d along stops.
    waited c.args.hall.now c.args.t c.args.a c.args.ask.now.what c.args.own.now table d along stops c.requires.none c.args.ask.now c.wait.new.self c.facts.ensures.marked (subst (λ (x : Ask). row_waits (machine c.args.hall.now).library (machine c.args.hall.now).tso.memory c.args.t x ≡ true) c.requires.is c.requires.waits) c.wait.ensures
