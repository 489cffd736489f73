use Rattle.std.proofs.Common.{◌≡◌, ℕ, ◌+◌, ◌<◌, true, List, length, ap, arith, subst, sym, ◌∙◌}
use Rattle.guest_steps.specs.Ages.{AreAges, is_too_old}
use Rattle.guest_entries.proofs.Flushed.{rest_count, some_wait}
use Rattle.guest_steps.proofs.Older.{ages_older, ages_rest, ages_within}
use Rattle.guest_entries.proofs.Settling.{older_count, settling_ends, settling_on, settling_stands, settling_starts, too_old_waits}
use Rattle.guest_entries.proofs.settle.settle.Goals as goal

pub loop-hall-init : goal.loop-hall-init
loop-hall-init c =
    let n : length c.grow_older.new.self ≡ length c.args.ages.now = ap length c.grow_older.ensures ∙ older_count c.args.ages.now in
    record {
      room = omega (arith, n, c.requires.room);
      fresh = subst (AreAges 256) (sym c.grow_older.ensures) (ages_older 255 c.args.ages.now c.requires.fresh);
      settling = settling_starts c.args.hall.now c.args.t c.args.hold c.args.ages.now c.grow_older.new.self c.grow_older.ensures;
    }

pub flush_one-requires-clause-room : goal.flush_one-requires-clause-room
flush_one-requires-clause-room c = let r : length c.loop-hall.ages < c.loop-hall.hall.spare = c.loop-hall.invariant.room in omega (arith, r)

pub flush_one-requires-clause-with : goal.flush_one-requires-clause-with
flush_one-requires-clause-with c =
    let s = settling_stands c.args.hall.now c.loop-hall.hall c.args.t c.args.hold c.args.ages.now c.loop-hall.ages c.loop-hall.invariant.settling c.requires.with in
    (s.0, s.1, s.2, s.3)

pub flush_one-requires-clause-some : goal.flush_one-requires-clause-some
flush_one-requires-clause-some c =
    let lt : 0 < length c.loop-hall.ages = too_old_waits c.args.hold c.loop-hall.ages (sym c.is_too_old.ensures ∙ c.loop-hall-test.true) in
    some_wait c.loop-hall.hall c.args.t c.loop-hall.ages (settling_stands c.args.hall.now c.loop-hall.hall c.args.t c.args.hold c.args.ages.now c.loop-hall.ages c.loop-hall.invariant.settling c.requires.with) lt

pub loop-hall-smaller : goal.loop-hall-smaller
loop-hall-smaller c =
    let lt : 0 < length c.loop-hall.ages = too_old_waits c.args.hold c.loop-hall.ages (sym c.is_too_old.ensures ∙ c.loop-hall-test.true) in
    let e : length c.flush_one.new.ages + 1 ≡ length c.loop-hall.ages = ap (λ (l : List ℕ). length l + 1) c.flush_one.ensures.rest ∙ rest_count c.loop-hall.ages lt in
    let less : length c.flush_one.new.ages < length c.loop-hall.ages = omega (arith, e) in
    less

pub loop-hall-preserved : goal.loop-hall-preserved
loop-hall-preserved c =
    let too : is_too_old c.args.hold c.loop-hall.ages ≡ true = sym c.is_too_old.ensures ∙ c.loop-hall-test.true in
    let lt : 0 < length c.loop-hall.ages = too_old_waits c.args.hold c.loop-hall.ages too in
    let e : length c.flush_one.new.ages + 1 ≡ length c.loop-hall.ages = ap (λ (l : List ℕ). length l + 1) c.flush_one.ensures.rest ∙ rest_count c.loop-hall.ages lt in
    let room : length c.loop-hall.ages < c.loop-hall.hall.spare = c.loop-hall.invariant.room in
    record {
      room = omega (arith, e, room, c.flush_one.ensures.room);
      fresh = subst (AreAges 256) (sym c.flush_one.ensures.rest) (ages_rest 256 c.loop-hall.ages c.loop-hall.invariant.fresh);
      settling = settling_on c.args.hall.now c.loop-hall.hall c.flush_one.new.hall c.args.t c.args.hold c.args.ages.now c.loop-hall.ages c.flush_one.new.ages too c.flush_one.ensures.rest c.loop-hall.invariant.settling c.flush_one.ensures.flushed;
    }

pub returns-clause-settled : goal.returns-clause-settled
returns-clause-settled c = λ g d going w same. settling_ends c.args.hall.now c.loop-hall.hall c.args.t c.args.hold c.args.ages.now c.loop-hall.ages g d (sym c.is_too_old.ensures ∙ c.loop-hall-test.false) c.loop-hall.invariant.settling going w same

pub returns-clause-fresh : goal.returns-clause-fresh
returns-clause-fresh c = ages_within 256 c.args.hold c.loop-hall.ages c.loop-hall.invariant.fresh (sym c.is_too_old.ensures ∙ c.loop-hall-test.false)
