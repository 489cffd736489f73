use Rattle.std.proofs.Common.{◌≡◌, ℕ, ◌+◌, ◌-◌, ◌<◌, ◌≤◌, List, length, ap, arith, subst, ◌∙◌}
use Rattle.guest_entries.specs.Entered.{FlushedSome}
use Rattle.guest_entries.proofs.Flushed.{flushes_on, rest_count, some_wait, stands_on, starts}
use Rattle.guest_entries.proofs.flushes.flush_all.Goals as goal

pub loop-hall-init : goal.loop-hall-init
loop-hall-init c = record { few = omega arith; room = c.requires.room; flushed = starts c.args.hall.now c.args.t c.args.ages.now }

pub flush_one-requires-clause-room : goal.flush_one-requires-clause-room
flush_one-requires-clause-room c = let r : length c.loop-hall.ages < c.loop-hall.hall.spare = c.loop-hall.invariant.room in omega (arith, r)

pub flush_one-requires-clause-with : goal.flush_one-requires-clause-with
flush_one-requires-clause-with c =
    let s = stands_on c.args.hall.now c.loop-hall.hall c.args.t c.args.ages.now c.loop-hall.ages c.loop-hall.invariant.flushed c.requires.with in
    (s.0, s.1, s.2, s.3)

pub flush_one-requires-clause-some : goal.flush_one-requires-clause-some
flush_one-requires-clause-some c =
    let lt : 0 < length c.loop-hall.ages = omega (arith, c.loop-hall-test.true, c.len.ensures.len) in
    some_wait c.loop-hall.hall c.args.t c.loop-hall.ages (stands_on c.args.hall.now c.loop-hall.hall c.args.t c.args.ages.now c.loop-hall.ages c.loop-hall.invariant.flushed c.requires.with) lt

pub loop-hall-smaller : goal.loop-hall-smaller
loop-hall-smaller c =
    let lt : 0 < length c.loop-hall.ages = omega (arith, c.loop-hall-test.true, c.len.ensures.len) in
    let e : length c.flush_one.new.ages + 1 ≡ length c.loop-hall.ages = ap (λ (l : List ℕ). length l + 1) c.flush_one.ensures.rest ∙ rest_count c.loop-hall.ages lt in
    let less : length c.flush_one.new.ages < length c.loop-hall.ages = omega (arith, e) in
    less

pub loop-hall-preserved : goal.loop-hall-preserved
loop-hall-preserved c =
    let lt : 0 < length c.loop-hall.ages = omega (arith, c.loop-hall-test.true, c.len.ensures.len) in
    let e : length c.flush_one.new.ages + 1 ≡ length c.loop-hall.ages = ap (λ (l : List ℕ). length l + 1) c.flush_one.ensures.rest ∙ rest_count c.loop-hall.ages lt in
    let few : length c.loop-hall.ages ≤ length c.args.ages.now = c.loop-hall.invariant.few in
    let room : length c.loop-hall.ages < c.loop-hall.hall.spare = c.loop-hall.invariant.room in
    record {
      few = omega (arith, e, few);
      room = omega (arith, e, room, c.flush_one.ensures.room);
      flushed = flushes_on c.args.hall.now c.loop-hall.hall c.flush_one.new.hall c.args.t c.args.ages.now c.loop-hall.ages c.flush_one.new.ages e few c.loop-hall.invariant.flushed c.flush_one.ensures.flushed;
    }

pub returns-clause-flushed : goal.returns-clause-flushed
returns-clause-flushed c = λ g d going w same.
    let all : length c.args.ages.now - length c.loop-hall.ages ≡ length c.args.ages.now = omega (arith, c.loop-hall-test.false, c.len.ensures.len) in
    subst (λ k. FlushedSome c.args.hall.now c.loop-hall.hall c.args.t k g c.loop-hall.ages d) all (c.loop-hall.invariant.flushed g d going w same)

pub returns-clause-room : goal.returns-clause-room
returns-clause-room c = let r : length c.loop-hall.ages < c.loop-hall.hall.spare = c.loop-hall.invariant.room in omega (arith, r)
