use Rattle.std.proofs.Common.{subst}
use Rattle.ir_syntax.specs.declared.request.Request.TheVariants as ask
use Rattle.guest_entries.specs.Entered.{Passed}
use Rattle.guest_entries.proofs.Accesses.{fence_entered, fence_may, fence_need}
use Rattle.guest_entries.proofs.Standing.{inside_part}
use Rattle.guest_entries.proofs.access.pass_fence.Goals as goal

pub fence-requires-clause-needs : goal.fence-requires-clause-needs
fence-requires-clause-needs c = let r = c.requires.asks in fence_need c.args.hall.now c.args.hall.now c.args.t c.args.own.now c.args.table.now.items c.args.table.now.items r.0 r.1 r.2 c.requires.none

pub fence-requires-clause-comes : goal.fence-requires-clause-comes
fence-requires-clause-comes c = let r = c.requires.asks in fence_may c.args.hall.now c.args.hall.now c.args.t c.args.own.now c.args.table.now.items c.args.table.now.items r.0 r.1 r.2 c.requires.none

pub pass_on-requires : goal.pass_on-requires
pass_on-requires c = let r = c.requires.asks in record { inside = inside_part c.args.hall.now c.args.t c.args.own.now c.args.table.now.items r.0 r.1 ask.Fence r.2 }

pub returns : goal.returns
returns c = λ v d q.
    let p = c.pass_on.ensures q.asks.kept q.asks.part q.asks.at in
    fence_entered c.args.hall.now c.fence.new.self c.args.t c.args.own.now c.args.table.now.items c.pass_on.new.table.items v d q c.requires.none c.pass_on.new.own (subst (λ z. Passed q.asks.kept q.asks.part z (record c.args.own.now { k = 0 }) c.pass_on.new.own c.args.table.now.items c.pass_on.new.table.items) (c.end-to.ensures q.asks.kept q.asks.part q.asks.at) p) c.fence.ensures
