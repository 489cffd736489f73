use Rattle.guest_entries.specs.Entered.{Asking}
use Rattle.std.proofs.Common.{refl, sym, subst}
use Rattle.ir_syntax.specs.declared.request.Request.TheVariants as ask
use Rattle.ir_syntax.specs.declared.width.Width.TheVariants as ir_size
use Rattle.guest_entries.specs.Entered.{StoresBy}
use Rattle.thread_step.proofs.entries.ask.Goals as goal

pub returns-in-Load : goal.returns-in-Load
returns-in-Load c = λ v d q.
    let w = subst (Asking c.args.hall.now c.args.t c.args.own.now c.args.table.now.items v d) c.in-Load.is q in
    c.load.ensures c.args.table.now.items v d w

pub returns-in-Locked : goal.returns-in-Locked
returns-in-Locked c = λ v d q.
    let w = subst (Asking c.args.hall.now c.args.t c.args.own.now c.args.table.now.items v d) c.in-Locked.is q in
    c.locked.ensures c.args.table.now.items v d w

pub returns-in-Bad : goal.returns-in-Bad
returns-in-Bad c = λ v d q.
    let w = subst (Asking c.args.hall.now c.args.t c.args.own.now c.args.table.now.items v d) c.in-Bad.is q in
    c.fail.ensures c.args.table.now.items v d w

pub returns-in-Store : goal.returns-in-Store
returns-in-Store c = λ v d q.
    let w = subst (Asking c.args.hall.now c.args.t c.args.own.now c.args.table.now.items v d) c.in-Store.is q in
    c.store.ensures v d (ask.Store c.in-Store.a c.in-Store.w c.in-Store.v) (subst (StoresBy (ask.Store c.in-Store.a c.in-Store.w c.in-Store.v) c.in-Store.a c.in-Store.w c.in-Store.v c.end-to.result) (sym w.asks.at) (refl, refl, refl, c.end-to.ensures w.asks.kept w.asks.part w.asks.at)) w

pub returns-in-StoreGo : goal.returns-in-StoreGo
returns-in-StoreGo c = λ v d q.
    let w = subst (Asking c.args.hall.now c.args.t c.args.own.now c.args.table.now.items v d) c.in-StoreGo.is q in
    c.store-in-StoreGo.ensures v d (ask.StoreGo c.in-StoreGo.a c.in-StoreGo.v c.in-StoreGo.target) (subst (StoresBy (ask.StoreGo c.in-StoreGo.a c.in-StoreGo.v c.in-StoreGo.target) c.in-StoreGo.a ir_size.W64 c.in-StoreGo.v c.in-StoreGo.target) (sym w.asks.at) (refl, refl, refl, refl)) w
