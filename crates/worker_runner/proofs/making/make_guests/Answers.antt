use Rattle.std.proofs.Common.{◌∷◌, [], arith, length, length-append, subst, sym, ap}
use Rattle.worker_runner.specs.Workers.{AreFirstGuests}
use Rattle.worker_runner.proofs.Pairing.{guests_next, guests_none}
use Rattle.worker_runner.proofs.making.make_guests.Goals as goal

pub loop-i-init : goal.loop-i-init
loop-i-init c = (ap length c.new-guests.ensures.items, subst (AreFirstGuests c.args.hall.now) (sym c.new-guests.ensures.items) (guests_none c.args.hall.now))

pub loop-i-preserved : goal.loop-i-preserved
loop-i-preserved c =
    let e = c.in_ok-make.ensures in
    let p = c.in_ok-push.ensures.items in
    let n = c.loop-i.invariant.0 in
    let low = c.loop-i-test.true in
    let len = length-append c.loop-i.guests.items (c.in_ok-make.field-0 ∷ []) in
    let sum = ap length p in
    (omega (arith, sum, len, n), subst (AreFirstGuests c.args.hall.now) (sym p) (guests_next c.args.hall.now c.loop-i.guests.items c.in_ok-make.field-0 _ (omega (arith, n, low)) c.loop-i.invariant.1 (record { slot_is = e.slot; ready = e.ready; told = e.told })))

pub returns : goal.returns
returns c = let past = c.loop-i-test.false in let below = c.loop-i.auto.i-end in let n = c.loop-i.invariant.0 in record { count = omega (arith, n, past, below); guests = c.loop-i.invariant.1 }
