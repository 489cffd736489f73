-- A thread's miss, and what follows it.
use Rattle.std.proofs.Common.{◌≡◌, ℕ, ◌<◌, Bool, true, false, List, [], ◌∷◌, ◌++◌, Option, Some, None, Result, Ok, Err, refl, sym, ap, ◌∙◌, subst, arith, not, ◌&&◌, ◌==◌, inl, inr, length}
use Rattle.std.specs.Prelude.{IsSome, option_and_then}
use Rattle.std.specs.declared.alloc.AllocError.{AllocError}
use Rattle.std.proofs.lemmas.Bool.Decides.{nat_tests}
use Rattle.std.proofs.lemmas.List.{get_or-set_other}
use Rattle.address_space.specs.Slots.{slot_of}
use Rattle.elf_image.specs.Layout.{ImageData}
use Rattle.ir_syntax.specs.declared.block.Block.{Block}
use Rattle.basic_blocks.specs.Places.{is_code_place}
use Rattle.basic_blocks.specs.Reach.{is_among}
use Rattle.journal_pack.specs.declared.entry.Entry.TheVariants.{Full, Miss}
use Rattle.machine_model.specs.declared.ending.RunEnd.{RunEnd}
use Rattle.machine_model.specs.CaseData.{CaseData}
use Rattle.machine_model.specs.State.{is_live}
use Rattle.machine_model.specs.Gated.{Both, Stand, advance, is_between, most_grown, spot_at, stand_at}
use Rattle.machine_model.specs.Ready.{HasGrown}
use Rattle.machine_model.specs.Serial.{AreReaches, AtMiss, Turn, after_miss, full_or, is_missing, make, miss}
use Rattle.machine_model.proofs.Comes.{both_more}
use Rattle.machine_model.proofs.NamesGrowth.{first_ahead}
use Rattle.machine_model.proofs.OwnKinds.{miss_own}
use Rattle.hall_core.specs.Hall.{Comes, HallData, added, both, grown}
use Rattle.guest_parts.specs.Entries.{Misses}
use Rattle.guest_parts.specs.Guest.{LeavesEnded, LeavesWith}
use Rattle.guest_parts.specs.Points.{point_at}
use Rattle.guest_parts.specs.Standing.{StandsBetween, StandsIn}
use Rattle.guest_parts.specs.Standing as standing
use Rattle.guest_parts.proofs.Entries.{full_leaves, miss_ends, miss_tells}
use Rattle.guest_parts.proofs.Turns.{made}
use Rattle.guest_steps.specs.declared.own.Own.{Own}
use Rattle.guest_steps.specs.declared.own.Position.TheVariants.{Between}
use Rattle.guest_steps.specs.declared.stretch.Came.TheVariants as came
use Rattle.guest_steps.specs.Kept.{AreKept, Table}
use Rattle.guest_entries.specs.Entered.{AlongIn, Entered, MissIs, Partly, turn_in}
use Rattle.guest_entries.specs.Growth.{Grew, GrewTarget, InGrowth, Missed}
use Rattle.guest_steps.specs.Own.{Along, IsUnder, data_of, position_of}
use Rattle.guest_steps.specs.Stretched.{StopsAt}
use Rattle.machine_model.proofs.SerialGated.{made as made_of_turn}
use Rattle.guest_entries.specs.Steps.{AddsFree}
use Rattle.guest_entries.proofs.Adding.{free_none}
use Rattle.guest_entries.proofs.Begins.{miss_begins}

-- a run with an ending doesn't go on
never : {P : Type 0} (o : Option RunEnd) → IsSome o → o ≡ None → P
never None h e = absurd (let f : false ≡ true = h in cc)
never (Some x) h e = absurd (let f : Some x ≡ None = e in cc)

same_test : (a b : ℕ) → a ≡ b → (a == b) ≡ true
same_test a b e = grind (arith, nat_tests)

other_test : (a b : ℕ) → a < b → (a == b) ≡ false
other_test a b e = grind (arith, nat_tests)

-- blocks at hand are grown where more are
pub kept_within : (image : ImageData) (old new : List ℕ) (table : Table) → ((x : ℕ) → is_among old x ≡ true → is_among new x ≡ true) → AreKept image old table → AreKept image new table
kept_within image old new table more h i x e = let k = h i x e in record { same = k.same; there = more x.block.at k.there }

-- ---- where it comes

-- a guest is with its thread at a place that isn't grown
pub record IsMissing (h : HallData Block) (t a : ℕ) (own : Own) (table : Table) (d : Stand) : Type 0 where
  pub along : AlongIn h t own table d
  pub stops : StopsAt (came.Missing a) h.case (both h) own d
  pub settled : HasGrown h.case.image (both h) (slot_of t)

misses_there : (h : HallData Block) (t a : ℕ) (own : Own) (table : Table) (d : Stand) → IsMissing h t a own table d → Misses h.case (both h) t (data_of own) a
misses_there h t a own table d m = (ap position_of m.stops.1, m.stops.2.place, m.stops.2.new, m.settled)

stands_there : (h : HallData Block) (t a : ℕ) (own : Own) (table : Table) (d : Stand) → IsMissing h t a own table d → StandsBetween a own.last own.state d
stands_there h t a own table d m = subst (λ (p : standing.Position). StandsIn h.case.image (grown h) p own.last own.state d) (ap position_of m.stops.1) m.along.with.stands

tells : (h : HallData Block) (t a : ℕ) (own : Own) (table : Table) (d : Stand) → IsMissing h t a own table d → h.case.strict ≡ false → LeavesWith h.case (both h) t (Miss t own.k own.last a) (record (data_of own) { k = 0 })
tells h t a own table d m additive = miss_tells h.case (both h) t (data_of own) d m.along.going m.along.with a m.stops.0 (misses_there h t a own table d m) additive

ends : (h : HallData Block) (t a : ℕ) (own : Own) (table : Table) (d : Stand) → IsMissing h t a own table d → h.case.strict ≡ true → LeavesEnded h.case (both h) (Miss t own.k own.last a)
ends h t a own table d m strict = miss_ends h.case (both h) t (data_of own) d m.along.going m.along.with a m.stops.0 (misses_there h t a own table d m) strict

pub tell_comes : (h : HallData Block) (t a : ℕ) (own : Own) (table : Table) (d : Stand) → AlongIn h t own table d → StopsAt (came.Missing a) h.case (both h) own d → HasGrown h.case.image (both h) (slot_of t) → h.case.strict ≡ false → Comes h (Miss t own.k own.last a)
tell_comes h t a own table d along stops settled additive =
    let l = tells h t a own table d (record { along = along; stops = stops; settled = settled }) additive in
    record { next = l.next; step = l.comes; allowed = tt }

pub end_comes : (h : HallData Block) (t a : ℕ) (own : Own) (table : Table) (d : Stand) → AlongIn h t own table d → StopsAt (came.Missing a) h.case (both h) own d → HasGrown h.case.image (both h) (slot_of t) → h.case.strict ≡ true → Comes h (Miss t own.k own.last a)
end_comes h t a own table d along stops settled strict =
    let l = ends h t a own table d (record { along = along; stops = stops; settled = settled }) strict in
    record { next = l.next; step = l.comes; allowed = tt }

-- its entry is the one that the turn makes
miss_made : (h : HallData Block) (t a : ℕ) (own : Own) (d : Stand) (n : Both) → StandsBetween a own.last own.state d → advance h.case (both h) (Miss t own.k own.last a) ≡ Some n → both (added h (Miss t own.k own.last a)) ≡ n → make h.case (Miss t own.k d.cpu.last d.cpu.rip) (turn_in h own.ages) ≡ Some (turn_in (added h (Miss t own.k own.last a)) own.ages)
miss_made h t a own d n s p at =
    ap (λ x. make h.case (Miss t own.k x d.cpu.rip) (turn_in h own.ages)) s.finished
    ∙ ap (λ x. make h.case (Miss t own.k own.last x) (turn_in h own.ages)) (sym s.agrees.0)
    ∙ made h.case (Miss t own.k own.last a) (both h) n h.journal own.ages p
    ∙ ap (λ (z : Both). Some (record { both = z; journal = h.journal ++ Miss t own.k own.last a ∷ []; ages = own.ages; waiting = false })) (sym at)

-- ---- a strict run

strict_acts : (c : CaseData) (t : ℕ) (d : Stand) (k : ℕ) (s x : Turn) → c.strict ≡ true → make c (Miss t k d.cpu.last d.cpu.rip) s ≡ Some x → (reach : ℕ → List ℕ) → miss c reach t (point_at k d) s ≡ Some x
strict_acts c t d k s x strict m reach = ap (option_and_then (after_miss c reach t d.cpu.rip c.strict)) m ∙ ap (λ b. after_miss c reach t d.cpu.rip b x) strict

ended_strict : (h : HallData Block) (t a : ℕ) (own : Own) (table : Table) (d : Stand) → IsMissing h t a own table d → h.case.strict ≡ true → Entered h (added h (Miss t own.k own.last a)) t own (record own { k = 0 }) table d AtMiss
ended_strict h t a own table d m strict =
    let l = ends h t a own table d m strict in
    let at : both (added h (Miss t own.k own.last a)) ≡ l.next = both_more h.case h.journal (Miss t own.k own.last a) l.next l.comes in
    let is = miss_made h t a own d l.next (stands_there h t a own table d m) l.comes at in
    record {
      case = refl;
      acts = λ reach right. strict_acts h.case t d own.k (turn_in h own.ages) _ strict is reach;
      on = λ none live. never l.next.machine.ending l.ended (ap (λ (z : Both). z.machine.ending) (sym at) ∙ none);
      gone = λ none live. never l.next.machine.ending l.ended (ap (λ (z : Both). z.machine.ending) (sym at) ∙ none);
      told = refl;
      fresh = λ f. f;
      marks = λ s ne. get_or-set_other h.marks (slot_of t) s None None ne;
    }

pub strict_entered : (h v : HallData Block) (t a : ℕ) (own : Own) (table : Table) (d : Stand) → v ≡ added h (Miss t own.k own.last a) → AlongIn h t own table d → StopsAt (came.Missing a) h.case (both h) own d → HasGrown h.case.image (both h) (slot_of t) → h.case.strict ≡ true → Entered h v t own (record own { k = 0 }) table d AtMiss
strict_entered h v t a own table d e along stops settled strict =
    subst (λ (z : HallData Block). Entered h z t own (record own { k = 0 }) table d AtMiss) (sym e) (ended_strict h t a own table d (record { along = along; stops = stops; settled = settled }) strict)

-- ---- a run that goes on

told_miss : (h : HallData Block) (t a : ℕ) (own : Own) (table : Table) (d : Stand) → IsMissing h t a own table d → h.case.strict ≡ false → Missed h (added h (Miss t own.k own.last a)) t a own (record own { k = 0 }) table d
told_miss h t a own table d m additive =
    let e = Miss t own.k own.last a in
    let l = tells h t a own table d m additive in
    let at : both (added h e) ≡ l.next = both_more h.case h.journal e l.next l.comes in
    let there = stands_there h t a own table d m in
    let leaves = miss_own h.case (both h) l.next t own.k own.last a d m.along.going.whole l.comes m.along.with.ahead in
    let next : Along h.case l.next t (record own { k = 0 }) table (stand_at l.next (slot_of t)) = record {
      going = l.going;
      with = l.with;
      under = m.along.under;
      kept = subst (λ z. AreKept h.case.image z table) (sym l.grown) m.along.kept;
    } in
    let rip : d.cpu.rip ≡ a = sym there.agrees.0 in
    record {
      case = refl;
      along = subst (λ (z : Both). Along h.case z t (record own { k = 0 }) table (stand_at z (slot_of t))) (sym at) next;
      latest = ap (λ (z : Both). (spot_at z.gate (slot_of t)).latest) at ∙ leaves.0.latest;
      same = ap (λ (z : Both). z.gate.grown) at ∙ l.grown;
      rip = rip;
      at = ap (λ (z : Both). (stand_at z (slot_of t)).cpu.rip) at ∙ ap (λ (z : Stand). z.cpu.rip) leaves.0.stand ∙ rip;
      made = miss_made h t a own d l.next there l.comes at;
      marks = λ s ne. get_or-set_other h.marks (slot_of t) s None None ne;
    }

pub missed : (h v : HallData Block) (t a : ℕ) (own : Own) (table : Table) (d : Stand) → v ≡ added h (Miss t own.k own.last a) → AlongIn h t own table d → StopsAt (came.Missing a) h.case (both h) own d → HasGrown h.case.image (both h) (slot_of t) → h.case.strict ≡ false → Missed h v t a own (record own { k = 0 }) table d
missed h v t a own table d e along stops settled additive =
    subst (λ (z : HallData Block). Missed h z t a own (record own { k = 0 }) table d) (sym e) (told_miss h t a own table d (record { along = along; stops = stops; settled = settled }) additive)

-- ---- after it

-- a run that isn't strict goes on with what is full or grows
missed_acts : (c : CaseData) (t : ℕ) (d : Stand) (k a : ℕ) (s n : Turn) (all : Bool) → c.strict ≡ false → make c (Miss t k d.cpu.last d.cpu.rip) s ≡ Some n → d.cpu.rip ≡ a → (length n.both.gate.grown == most_grown) ≡ all → (reach : ℕ → List ℕ) → miss c reach t (point_at k d) s ≡ full_or c reach t a n all
missed_acts c t d k a s n all additive m rip e reach =
    ap (option_and_then (after_miss c reach t d.cpu.rip c.strict)) m
    ∙ ap (λ b. after_miss c reach t d.cpu.rip b n) additive
    ∙ ap (full_or c reach t d.cpu.rip n) e
    ∙ ap (λ x. full_or c reach t x n all) rip

-- the guest is still at the place, which isn't grown
full_ends : (h mid : HallData Block) (t a : ℕ) (own : Own) (table : Table) (d : Stand) → own.at ≡ Between a → is_code_place h.case.image a ≡ true → is_among (grown h) a ≡ false → h.case.strict ≡ false → length (grown h) ≡ most_grown → Missed h mid t a own (record own { k = 0 }) table d → LeavesEnded mid.case (both mid) (Full t)
full_ends h mid t a own table d at place new additive all m =
    let here : (data_of (record own { k = 0 })).at ≡ standing.Between a = ap position_of at in
    full_leaves mid.case (both mid) t (data_of (record own { k = 0 })) (stand_at (both mid) (slot_of t)) m.along.going m.along.with a refl here
    (ap (λ (c : CaseData). c.strict) m.case ∙ additive)
    (ap (λ (c : CaseData). is_code_place c.image a) m.case ∙ place)
    (ap (λ l. is_among l a) m.same ∙ new)
    (ap length m.same ∙ all)

pub full_comes : (h mid : HallData Block) (t a : ℕ) (own : Own) (table : Table) (d : Stand) → StopsAt (came.Missing a) h.case (both h) own d → h.case.strict ≡ false → length (grown h) ≡ most_grown → Missed h mid t a own (record own { k = 0 }) table d → Comes mid (Full t)
full_comes h mid t a own table d stops additive all m =
    let l = full_ends h mid t a own table d stops.1 stops.2.place stops.2.new additive all m in
    record { next = l.next; step = l.comes; allowed = tt }

ended_full : (h mid : HallData Block) (t a : ℕ) (own : Own) (table : Table) (d : Stand) → StopsAt (came.Missing a) h.case (both h) own d → h.case.strict ≡ false → length (grown h) ≡ most_grown → Missed h mid t a own (record own { k = 0 }) table d → Entered h (added mid (Full t)) t own (record own { k = 0 }) table d AtMiss
ended_full h mid t a own table d stops additive all m =
    let e = Full t in
    let l = full_ends h mid t a own table d stops.1 stops.2.place stops.2.new additive all m in
    let at : both (added mid e) ≡ l.next = both_more mid.case mid.journal e l.next l.comes in
    let is : make h.case e (turn_in mid own.ages) ≡ Some (turn_in (added mid e) own.ages) =
    ap (λ (c : CaseData). make c e (turn_in mid own.ages)) (sym m.case)
    ∙ made mid.case e (both mid) l.next mid.journal own.ages l.comes
    ∙ ap (λ (z : Both). Some (record { both = z; journal = mid.journal ++ e ∷ []; ages = own.ages; waiting = false })) (sym at) in
    record {
      case = m.case;
      acts = λ reach right. missed_acts h.case t d own.k a (turn_in h own.ages) (turn_in mid own.ages) true additive m.made m.rip (same_test (length (grown mid)) most_grown (ap length m.same ∙ all)) reach ∙ is;
      on = λ none live. never l.next.machine.ending l.ended (ap (λ (z : Both). z.machine.ending) (sym at) ∙ none);
      gone = λ none live. never l.next.machine.ending l.ended (ap (λ (z : Both). z.machine.ending) (sym at) ∙ none);
      told = refl;
      fresh = λ f. f;
      marks = λ s ne. get_or-set_other mid.marks (slot_of t) s None None ne ∙ m.marks s ne;
    }

pub full_entered : (h mid v : HallData Block) (t a : ℕ) (own : Own) (table : Table) (d : Stand) → v ≡ added mid (Full t) → StopsAt (came.Missing a) h.case (both h) own d → h.case.strict ≡ false → length (grown h) ≡ most_grown → Missed h mid t a own (record own { k = 0 }) table d → Entered h v t own (record own { k = 0 }) table d AtMiss
full_entered h mid v t a own table d e stops additive all m =
    subst (λ (z : HallData Block). Entered h z t own (record own { k = 0 }) table d AtMiss) (sym e) (ended_full h mid t a own table d stops additive all m)

-- ---- and growth

pub in_growth : (h mid : HallData Block) (t a : ℕ) (own : Own) (table : Table) (d : Stand) → h.case.strict ≡ false → Missed h mid t a own (record own { k = 0 }) table d → InGrowth mid t a (data_of (record own { k = 0 })) (stand_at (both mid) (slot_of t))
in_growth h mid t a own table d additive m = record { additive = ap (λ (c : CaseData). c.strict) m.case ∙ additive; going = m.along.going; with = m.along.with; latest = m.latest }

-- a guest that stands with its thread keeps its blocks at hand
still_along : (mid new : HallData Block) (t a : ℕ) (own : Own) (table : Table) (d : Stand) → AlongIn mid t own table d → Grew mid new t a (data_of own) d → AlongIn new t own table d
still_along mid new t a own table d m g = record {
  going = g.growth.going;
  with = g.growth.with;
  under = subst (λ (c : CaseData). IsUnder c.image own.at) (sym g.case) m.under;
  kept = subst (λ (c : CaseData). AreKept c.image (grown new) table) (sym g.case) (kept_within mid.case.image (grown mid) (grown new) table g.within m.kept);
}

grown_there : (image : ImageData) (places : List ℕ) (d : Stand) → is_among places d.cpu.rip ≡ true → is_missing image places d ≡ false
grown_there image places d e = ap (λ b. is_code_place image d.cpu.rip && is_between d.left && not b) e ∙ and_none (is_code_place image d.cpu.rip) (is_between d.left)
  where
    and_none : (a b : Bool) → (a && b && false) ≡ false
    and_none true true = refl
    and_none true false = refl
    and_none false b = refl

live_or_not : {P : Type 0} (b : Bool) → b ≡ true → b ≡ false → P
live_or_not b x y = absurd (let e : true ≡ false = sym x ∙ y in cc)

missed_journal : (h mid : HallData Block) (t : ℕ) (own : Own) (d : Stand) → make h.case (Miss t own.k d.cpu.last d.cpu.rip) (turn_in h own.ages) ≡ Some (turn_in mid own.ages) → mid.journal ≡ h.journal ++ Miss t own.k d.cpu.last d.cpu.rip ∷ []
missed_journal h mid t own d p = sym (ap (λ (x : Turn). x.journal) (made_of_turn h.case (Miss t own.k d.cpu.last d.cpu.rip) (turn_in h own.ages) (turn_in mid own.ages) p).is)

-- the target was grown, and what is reached from it, or memory was wanting
pub miss_is : (result : Result (Unit {0}) AllocError) (h mid new : HallData Block) (t a : ℕ) (own : Own) (table : Table) (d : Stand) → h.case.strict ≡ false → length (grown h) < most_grown → Missed h mid t a own (record own { k = 0 }) table d → GrewTarget result mid new t a (data_of (record own { k = 0 })) (stand_at (both mid) (slot_of t)) → MissIs result h new t own (record own { k = 0 }) table d
miss_is (Ok u) h mid new t a own table d additive few m q =
    let g = data_of (record own { k = 0 }) in
    let there = stand_at (both mid) (slot_of t) in
    let along = still_along mid new t a (record own { k = 0 }) table there m.along q.0 in
    let here : stand_at (both new) (slot_of t) ≡ there = first_ahead new.case (both new) (slot_of t) 0 there refl q.0.growth.with.ahead in
    let rip : (stand_at (both new) (slot_of t)).cpu.rip ≡ a = ap (λ (z : Stand). z.cpu.rip) here ∙ m.at in
    record {
      case = q.0.case ∙ m.case;
      acts = λ reach right.
          missed_acts h.case t d own.k a (turn_in h own.ages) (turn_in mid own.ages) false additive m.made m.rip (other_test (length (grown mid)) most_grown (let n = ap length m.same in omega (arith, n, few))) reach
          ∙ ap (λ (c : CaseData). full_or c reach t a (turn_in mid own.ages) false) (sym m.case)
          ∙ q.2 reach (subst (λ (c : CaseData). AreReaches c.image reach) (sym m.case) right);
      on = λ none live. (
        subst (λ (z : Stand). AlongIn new t (record own { k = 0 }) table z) (sym here) along,
        inr (grown_there h.case.image (grown new) (stand_at (both new) (slot_of t)) (ap (is_among (grown new)) rip ∙ q.1)),
      );
      gone = λ none live. live_or_not (is_live (both new).machine t) q.0.growth.going.live live;
      told = refl;
      fresh = λ f. f;
      marks = λ s ne. q.0.marks s ne ∙ m.marks s ne;
    }
miss_is (Err e) h mid new t a own table d additive few m q =
    let there = stand_at (both mid) (slot_of t) in record {
      case = q.0.case ∙ m.case;
      stand = there;
      along = still_along mid new t a (record own { k = 0 }) table there m.along q.0;
      fresh = λ f. f;
      begins = λ reach right x p.
          q.2 reach (subst (λ (c : CaseData). AreReaches c.image reach) (sym m.case) right) x (
          ap (λ (c : CaseData). full_or c reach t a (turn_in mid own.ages) false) m.case
          ∙ sym (missed_acts h.case t d own.k a (turn_in h own.ages) (turn_in mid own.ages) false additive m.made m.rip (other_test (length (grown mid)) most_grown (let n = ap length m.same in omega (arith, n, few))) reach)
          ∙ p);
      tells = inr (record { mid = h.journal; first = free_none t h.journal; source = d.cpu.last; target = d.cpu.rip; free = subst (λ j. AddsFree t j new.journal) (missed_journal h mid t own d m.made) q.0.free }, refl);
      marks = λ s ne. q.0.marks s ne ∙ m.marks s ne;
    }

-- where memory was wanting before any entry
pub not_begun : (h v : HallData Block) (t : ℕ) (own after : Own) (table : Table) (d : Stand) → v ≡ h → after ≡ own → AlongIn h t own table d → Partly h v t own after table d AtMiss
not_begun h v t own after table d same still along =
    subst (λ (z : HallData Block). Partly h z t own after table d AtMiss) (sym same) (subst (λ (z : Own). Partly h h t own z table d AtMiss) (sym still) (record {
      case = refl;
      stand = d;
      along = along;
      fresh = λ f. f;
      begins = λ reach right x p. miss_begins h.case reach t (point_at own.k d) (turn_in h own.ages) x p;
      tells = inl (free_none t h.journal, refl);
      marks = λ s ne. refl;
    }))

-- ---- with the guest as it was left

pub full_comes_by : (h mid : HallData Block) (t a : ℕ) (own after : Own) (table : Table) (d : Stand) → after ≡ record own { k = 0 } → StopsAt (came.Missing a) h.case (both h) own d → h.case.strict ≡ false → length (grown h) ≡ most_grown → Missed h mid t a own after table d → Comes mid (Full t)
full_comes_by h mid t a own after table d same stops additive all m = full_comes h mid t a own table d stops additive all (subst (λ (z : Own). Missed h mid t a own z table d) same m)

pub full_entered_by : (h mid v : HallData Block) (t a : ℕ) (own after : Own) (table : Table) (d : Stand) → after ≡ record own { k = 0 } → v ≡ added mid (Full t) → StopsAt (came.Missing a) h.case (both h) own d → h.case.strict ≡ false → length (grown h) ≡ most_grown → Missed h mid t a own after table d → Entered h v t own after table d AtMiss
full_entered_by h mid v t a own after table d same e stops additive all m =
    subst (λ (z : Own). Entered h v t own z table d AtMiss) (sym same) (full_entered h mid v t a own table d e stops additive all (subst (λ (z : Own). Missed h mid t a own z table d) same m))

pub in_growth_by : (h mid : HallData Block) (t a : ℕ) (own after : Own) (table : Table) (d : Stand) → after ≡ record own { k = 0 } → h.case.strict ≡ false → Missed h mid t a own after table d → InGrowth mid t a (data_of after) (stand_at (both mid) (slot_of t))
in_growth_by h mid t a own after table d same additive m =
    subst (λ (z : Own). InGrowth mid t a (data_of z) (stand_at (both mid) (slot_of t))) (sym same) (in_growth h mid t a own table d additive (subst (λ (z : Own). Missed h mid t a own z table d) same m))

pub miss_is_by : (result : Result (Unit {0}) AllocError) (h mid new : HallData Block) (t a : ℕ) (own after : Own) (table : Table) (d : Stand) → after ≡ record own { k = 0 } → h.case.strict ≡ false → length (grown h) < most_grown → Missed h mid t a own after table d → GrewTarget result mid new t a (data_of after) (stand_at (both mid) (slot_of t)) → MissIs result h new t own after table d
miss_is_by result h mid new t a own after table d same additive few m q =
    subst (λ (z : Own). MissIs result h new t own z table d) (sym same)
    (miss_is result h mid new t a own table d additive few (subst (λ (z : Own). Missed h mid t a own z table d) same m) (subst (λ (z : Own). GrewTarget result mid new t a (data_of z) (stand_at (both mid) (slot_of t))) same q))
