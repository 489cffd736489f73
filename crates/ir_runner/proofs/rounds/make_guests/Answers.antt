use Rattle.std.proofs.Common.{◌≡◌, ◌+◌, arith, subst, sym}
use Rattle.ir_runner.proofs.Rounding.{Firsts, first_guests, one_first}
use Rattle.ir_runner.proofs.rounds.make_guests.Goals as goal

pub loop-slot-preserved : goal.loop-slot-preserved
loop-slot-preserved c =
    let e = c.in_ok-make.ensures in
    subst (λ l. Firsts c.args.hall.now l (c.loop-slot.slot + 1)) (sym c.in_ok-push.ensures.items) (one_first c.args.hall.now c.loop-slot.guests.items c.loop-slot.slot c.in_ok-make.field-0 c.loop-slot.invariant e.slot e.ready e.told e.none)

pub returns : goal.returns
returns c =
    let past = c.loop-slot-test.false in
    let below = c.loop-slot.auto.slot-end in
    let all : c.loop-slot.slot ≡ 64 = omega (arith, past, below) in
    let f = subst (Firsts c.args.hall.now c.loop-slot.guests.items) all c.loop-slot.invariant in
    record { guests = first_guests c.args.hall.now c.loop-slot.guests.items f; ages = f.ages }
