-- A whole turn, entry by entry.
use Rattle.std.proofs.Common.{◌≡◌, ℕ, suc, ◌+◌, ◌-◌, ◌<◌, ◌≤◌, true, false, List, [], ◌∷◌, Option, Some, None, refl, sym, subst, ap, arith, ◌∙◌}
use Rattle.std.specs.Prelude.{◌||◌, is_none, is_some, map, not, option_and_then, IsSome}
use Rattle.std.proofs.lemmas.Option.{option_and_then_some, same_Some}
use Rattle.address_space.specs.Slots.{slot_of}
use Rattle.ir_syntax.specs.declared.block.Block.{Block}
use Rattle.machine_model.specs.declared.ending.RunEnd.{RunEnd}
use Rattle.machine_model.specs.CaseData.{CaseData}
use Rattle.machine_model.specs.Gated.{Both, Stand, gated_steps, stand_at}
use Rattle.machine_model.specs.Own.{IsAhead}
use Rattle.machine_model.specs.Ready.{HasGrown}
use Rattle.machine_model.specs.Serial.{AreReaches, Point, Rule, Turn, aged, flush_old, is_over, point_of, settle, settled, turn, turn_from}
use Rattle.machine_model.specs.State.{is_live}
use Rattle.hall_core.specs.Hall.{HallData, both, mark_at}
use Rattle.guest_parts.specs.Guest.{GuestData}
use Rattle.guest_parts.specs.Points.{Acts, ComesOut, GoesOnAs, point_at, waiting_of}
use Rattle.guest_parts.proofs.Turns.{goes_then, out_then, turn_comes_out, turn_goes_on, turn_spent}
use Rattle.guest_steps.specs.declared.own.Own.{Own}
use Rattle.thread_step.specs.declared.rules.Rules.{Rules}
use Rattle.guest_steps.specs.Ages.{AreAges}
use Rattle.guest_steps.specs.Kept.{AreKept, Table}
use Rattle.guest_entries.specs.Entered.{AlongIn, OthersKeepMarks, SettledBy, turn_in}
use Rattle.guest_steps.specs.Own.{Along, data_of}
use Rattle.thread_step.specs.Turned.{Broke, BrokenTurn, EndedTurn, IsTurn, OneEntry, RanTurn, Ready, Stayed, WaitedTurn, Went}
use Rattle.machine_model.proofs.Reaches.{are_reaches, reach_of}
use Rattle.machine_laws.proofs.Turns.{act_on, here}
use Rattle.guest_entries.specs.Steps.{Adds}
use Rattle.guest_entries.proofs.Adding.{adds_none, adds_then}
use Rattle.guest_entries.proofs.Begins.{Begins, begins_then, settle_begins, turn_from_begins}

-- after i entries of its budget a turn goes on from e
pub record OnTheWay (h now : HallData Block) (t : ℕ) (r : Rules) (own mid : Own) (table : Table) (d : Stand) (i : ℕ) (e : Stand) : Type 0 where
  pub case : now.case ≡ h.case
  pub ready : Ready now t mid table e
  pub on : GoesOnAs h.case t r.turn (point_at own.k d) (turn_in h own.ages) (r.turn - i) (point_at mid.k e) (turn_in now mid.ages)
  pub told : 0 < i → (mid.k ≡ 0) × (e ≡ stand_at (both now) (slot_of t))
  pub adds : Adds t h.journal now.journal
  pub marks : OthersKeepMarks h now t

pub begins_way : (h : HallData Block) (t : ℕ) (r : Rules) (own : Own) (table : Table) (d : Stand) → Ready h t own table d → OnTheWay h h t r own own table d 0 d
begins_way h t r own table d ready = record {
  case = refl;
  ready = ready;
  on = let n : r.turn ≡ r.turn - 0 = omega arith in subst (λ k. GoesOnAs h.case t r.turn (point_at own.k d) (turn_in h own.ages) k (point_at own.k d) (turn_in h own.ages)) n (λ reach right. refl);
  told = λ lt. absurd (omega (arith, lt));
  adds = adds_none t h.journal;
  marks = λ s ne. refl;
}

-- what is done at a point is done by entries of the thread
pub entry_adds : (now new : HallData Block) (t : ℕ) (q : Point) (ages : List ℕ) (x : Turn) (r : Rule) → Acts now.case t q (turn_in now ages) r x → x.journal ≡ new.journal → Adds t now.journal new.journal
entry_adds now new t q ages x r acts is =
    let s = turn_in now ages in
    let w = act_on now.case t (both now) now.journal (reach_of now.case.image) q s x r (here now.case t (both now) now.journal s refl refl) (acts (reach_of now.case.image) (are_reaches now.case.image)) in
    record { entries = w.entries; journal = sym is ∙ w.journal; own = w.own }

-- ---- the end of a turn

settle_ended : (c : CaseData) (t hold : ℕ) (x : Turn) (e : RunEnd) → x.both.machine.ending ≡ Some e → settle c t hold x ≡ Some x
settle_ended c t hold x e is = ap (settled c t hold x) is

no_ages : (x : Turn) → x.ages ≡ [] → aged x ≡ x
no_ages x e = ap (λ l. record x { ages = l }) (ap (map (λ a. a + 1)) e ∙ sym e)

settle_none : (c : CaseData) (t hold : ℕ) (x : Turn) → x.both.machine.ending ≡ None → x.ages ≡ [] → settle c t hold x ≡ Some x
unfolding flush_old
settle_none c t hold x is e = ap (settled c t hold x) is ∙ ap (λ (z : Turn). flush_old c t hold z.ages z) (no_ages x e) ∙ ap (λ l. flush_old c t hold l x) e

turn_is : (h : HallData Block) (t : ℕ) (r : Rules) (own : Own) (d : Stand) (x y : Turn) → ComesOut h.case t r.turn (point_at own.k d) (turn_in h own.ages) x → settle h.case t r.hold x ≡ Some y → IsTurn h t r own d y
unfolding turn
turn_is h t r own d x y out e = λ reach right. ap (option_and_then (settle h.case t r.hold)) (out reach right) ∙ e

over_ended : (t : ℕ) (x : Turn) → x.waiting ≡ false → IsSome x.both.machine.ending → is_over t x ≡ true
over_ended t x w h = ap (λ z. z || not (is_none x.both.machine.ending) || not (is_live x.both.machine t)) w ∙ by x.both.machine.ending h
  where
    by : (o : Option RunEnd) → IsSome o → (not (is_none o) || not (is_live x.both.machine t)) ≡ true
    by None s = absurd (let no : false ≡ true = s in cc)
    by (Some e) s = refl

over_gone : (t : ℕ) (x : Turn) → x.waiting ≡ false → x.both.machine.ending ≡ None → is_live x.both.machine t ≡ false → is_over t x ≡ true
over_gone t x w none dead = ap (λ z. z || not (is_none x.both.machine.ending) || not (is_live x.both.machine t)) w ∙ ap (λ (z : Option RunEnd). not (is_none z) || not (is_live x.both.machine t)) none ∙ ap not dead

some_end : (o : Option RunEnd) → IsSome o → (e : RunEnd) × (o ≡ Some e)
some_end None s = absurd (let no : false ≡ true = s in cc)
some_end (Some e) s = (e, refl)

module _ (h now : HallData Block) (t : ℕ) (r : Rules) (own mid : Own) (table : Table) (d : Stand) (i : ℕ) (e : Stand) (w : OnTheWay h now t r own mid table d i e) (less : i < r.turn) where
  abbrev start : Turn
  start = turn_in h own.ages

  left_is : r.turn - i ≡ suc (r.turn - (i + 1))
  left_is = omega (arith, less)

  on_now : GoesOnAs h.case t r.turn (point_at own.k d) start (suc (r.turn - (i + 1))) (point_at mid.k e) (turn_in now mid.ages)
  on_now = subst (λ k. GoesOnAs h.case t r.turn (point_at own.k d) start k (point_at mid.k e) (turn_in now mid.ages)) left_is w.on

  module _ (new : HallData Block) (after : Own) (left : Table) (x : Turn) (one : OneEntry now new t mid after left e x) where
    case_is : new.case ≡ h.case
    case_is = one.case ∙ w.case

    marks_are : OthersKeepMarks h new t
    marks_are = λ s ne. one.marks s ne ∙ w.marks s ne

    out : is_over t x ≡ true → ComesOut h.case t r.turn (point_at own.k d) start x
    out over = out_then h.case t r.turn (suc (r.turn - (i + 1))) (point_at own.k d) (point_at mid.k e) start (turn_in now mid.ages) x on_now (subst (λ c. ComesOut c t (suc (r.turn - (i + 1))) (point_at mid.k e) (turn_in now mid.ages) x) w.case (turn_comes_out now.case t (r.turn - (i + 1)) (point_at mid.k e) (point_at one.k one.stop) (turn_in now mid.ages) x one.rule one.comes one.acts over))

  pub goes_on : (new : HallData Block) (after : Own) (left : Table) → Went now new t mid after left e → (both new).machine.ending ≡ None → is_live (both new).machine t ≡ true → OnTheWay h new t r own after left d (i + 1) (stand_at (both new) (slot_of t))
  goes_on new after left q going live =
      let one = q.one in
      let f = turn_goes_on now.case t (r.turn - (i + 1)) (point_at mid.k e) (point_at one.k one.stop) (turn_in now mid.ages) (both new) new.journal after.ages one.rule one.comes one.acts going live in
      let g = goes_then h.case t r.turn (suc (r.turn - (i + 1))) (r.turn - (i + 1)) (point_at own.k d) (point_at mid.k e) (point_of (both new) t) start (turn_in now mid.ages) (turn_in new after.ages) on_now (subst (λ c. GoesOnAs c t (suc (r.turn - (i + 1))) (point_at mid.k e) (turn_in now mid.ages) (r.turn - (i + 1)) (point_of (both new) t) (turn_in new after.ages)) w.case f) in
      record {
        case = case_is new after left (turn_in new after.ages) one;
        ready = q.on going live;
        on = subst (λ k. GoesOnAs h.case t r.turn (point_at own.k d) start (r.turn - (i + 1)) (point_at k (stand_at (both new) (slot_of t))) (turn_in new after.ages)) (sym one.told) g;
        told = λ lt. (one.told, refl);
        adds = adds_then t h.journal now.journal new.journal w.adds (entry_adds now new t (point_at one.k one.stop) mid.ages (turn_in new after.ages) one.rule one.acts refl);
        marks = marks_are new after left (turn_in new after.ages) one;
      }

  pub ends : (new : HallData Block) (after : Own) (left : Table) → Went now new t mid after left e → IsSome (both new).machine.ending → EndedTurn h new t r own after d
  ends new after left q ended =
      let x = turn_in new after.ages in
      let s = some_end (both new).machine.ending ended in
      record {
        case = case_is new after left x q.one;
        turn = turn_is h t r own d x x (out new after left x q.one (over_ended t x refl ended)) (settle_ended h.case t r.hold x s.0 s.1);
        ended = ended;
        marks = marks_are new after left x q.one;
      }

  pub dies : (new : HallData Block) (after : Own) (left : Table) → Went now new t mid after left e → (both new).machine.ending ≡ None → is_live (both new).machine t ≡ false → RanTurn h new t r own after left d
  dies new after left q going dead =
      let x = turn_in new after.ages in
      record {
        case = case_is new after left x q.one;
        turn = turn_is h t r own d x x (out new after left x q.one (over_gone t x refl going dead)) (settle_none h.case t r.hold x going (q.gone going dead));
        going = going;
        told = q.one.told;
        ready = λ live. absurd (let clash : true ≡ false = sym live ∙ dead in cc);
        gone = λ d. q.gone going d;
        marks = marks_are new after left x q.one;
      }

  pub waits : (new : HallData Block) (after : Own) (left : Table) → Stayed now new t mid after left e → WaitedTurn h new t r own after left d
  waits new after left q =
      let x = waiting_of (both new) new.journal after.ages in
      let going = q.ready.along.going.going in
      record {
        case = case_is new after left x q.one;
        turn = turn_is h t r own d x x (out new after left x q.one refl) (settle_none h.case t r.hold x going q.none);
        going = going;
        told = q.one.told;
        ready = q.ready;
        none = q.none;
        stuck = q.stuck;
        marked = q.marked;
        marks = marks_are new after left x q.one;
      }

  pub breaks : (new : HallData Block) (after : Own) (left : Table) → Broke now new t mid after left e → BrokenTurn h new t r own after left d
  unfolding turn
  breaks new after left q = record {
    case = q.case ∙ w.case;
    stand = q.stand;
    along = q.along;
    fresh = q.fresh;
    begins = λ x is reach right. option_and_then_some (settle h.case t r.hold) (turn_from h.case reach t r.turn (point_at own.k d) start) x (is reach right) (λ y a b.
        begins_then new.journal y.journal x.journal (q.begins reach (subst (λ (c : CaseData). AreReaches c.image reach) (sym w.case) right) (r.turn - (i + 1)) y (subst (λ c. turn_from c reach t (suc (r.turn - (i + 1))) (point_at mid.k e) (turn_in now mid.ages) ≡ Some y) (sym w.case) (sym (on_now reach right) ∙ a))) (settle_begins h.case t r.hold y x b));
    adds = adds_then t h.journal now.journal new.journal w.adds q.adds;
    marks = λ s ne. q.marks s ne ∙ w.marks s ne;
  }

-- ---- a budget that is spent

unheld : (now new : HallData Block) (spare t hold : ℕ) (g : GuestData) (ages : List ℕ) (e : Stand) → SettledBy (record now { spare = spare }) new t hold g ages e → SettledBy now new t hold g ages e
unheld now new spare t hold g ages e s = record { case = s.case; going = s.going; with = s.with; grown = s.grown; settled = s.settled; is_settled = s.is_settled; marks = s.marks }

pub from_held : (now held : HallData Block) (spare : ℕ) (new : HallData Block) (t hold : ℕ) (g : GuestData) (ages : List ℕ) (e : Stand) → held ≡ record now { spare = spare } → SettledBy held new t hold g ages e → SettledBy now new t hold g ages e
from_held now held spare new t hold g ages e is s = unheld now new spare t hold g ages e (subst (λ z. SettledBy z new t hold g ages e) is s)

pub stands_at : (c : CaseData) (b : Both) (slot k : ℕ) (e : Stand) → k ≡ 0 → IsAhead c b slot k e → e ≡ stand_at b slot
unfolding gated_steps
stands_at c b slot k e none ahead = sym (same_Some (stand_at b slot) e (subst (λ n. gated_steps c.image b.gate.grown n (stand_at b slot) ≡ Some e) none ahead))

pub older : (a b : ℕ) (ages : List ℕ) → a ≤ b → AreAges a ages → AreAges b ages
older a b [] le h = tt
older a b (x ∷ ages) le h = (omega (arith, le, h.0), h.1)

module _ (h now : HallData Block) (t : ℕ) (r : Rules) (own mid : Own) (table : Table) (d : Stand) (i : ℕ) (e : Stand) (w : OnTheWay h now t r own mid table d i e) (spent : r.turn ≤ i) (some : 0 < r.turn) where
  abbrev first : Turn
  first = turn_in h own.ages

  none_left : r.turn - i ≡ 0
  none_left = omega (arith, spent)

  pub no_place : (held : HallData Block) → held ≡ record now { spare = held.spare } → BrokenTurn h held t r own mid table d
  unfolding turn
  no_place held is = record {
    case = ap (λ (z : HallData Block). z.case) is ∙ w.case;
    stand = e;
    along = subst (λ z. AlongIn z t mid table e) (sym is) w.ready.along;
    fresh = w.ready.fresh;
    begins = λ x turns reach right. option_and_then_some (settle h.case t r.hold) (turn_from h.case reach t r.turn (point_at own.k d) first) x (turns reach right) (λ y a b.
        subst (λ (z : HallData Block). Begins z.journal x.journal) (sym is) (begins_then now.journal y.journal x.journal (turn_from_begins h.case reach t (r.turn - i) (point_at mid.k e) (turn_in now mid.ages) y (sym (w.on reach right) ∙ a)) (settle_begins h.case t r.hold y x b)));
    adds = subst (λ (z : HallData Block). Adds t h.journal z.journal) (sym is) w.adds;
    marks = λ s ne. ap (λ (z : HallData Block). mark_at z s) is ∙ w.marks s ne;
  }

  spent_out : ComesOut h.case t r.turn (point_at own.k d) first (turn_in now mid.ages)
  spent_out = out_then h.case t r.turn 0 (point_at own.k d) (point_at mid.k e) first (turn_in now mid.ages) (turn_in now mid.ages) (subst (λ k. GoesOnAs h.case t r.turn (point_at own.k d) first k (point_at mid.k e) (turn_in now mid.ages)) none_left w.on) (turn_spent h.case t (point_at mid.k e) (turn_in now mid.ages))

  settles_from : (new : HallData Block) (ages : List ℕ) → (young : AreAges r.hold ages) → r.hold ≤ 255 → SettledBy now new t r.hold (data_of mid) ages e → RanTurn h new t r own (record mid { ages = ages }) table d
  settles_from new ages young hold s =
      let told = w.told (omega (arith, spent, some)) in
      let after : Own = record mid { ages = ages } in
      let along : AlongIn new t after table e = subst (λ c. Along c (both new) t after table e) (sym s.case) (record { going = s.going; with = s.with; under = w.ready.along.under; kept = subst (λ g. AreKept now.case.image g table) (sym s.grown) w.ready.along.kept }) in
      let stands : e ≡ stand_at (both new) (slot_of t) = stands_at now.case (both new) (slot_of t) mid.k e told.0 s.with.ahead in
      record {
        case = s.case ∙ w.case;
        turn = turn_is h t r own d (turn_in now mid.ages) (turn_in new ages) spent_out (subst (λ c. settle c t r.hold (turn_in now mid.ages) ≡ Some (turn_in new ages)) w.case s.is_settled);
        going = s.going.going;
        told = told.0;
        ready = λ live. record {
          along = subst (λ z. AlongIn new t after table z) stands along;
          grown = subst (λ (c : CaseData). HasGrown c.image (both new) (slot_of t)) (sym s.case) (s.settled w.ready.grown);
          fresh = older r.hold 255 ages hold young;
        };
        gone = λ dead. absurd (let clash : true ≡ false = sym s.going.live ∙ dead in cc);
        marks = λ z ne. s.marks z ne ∙ w.marks z ne;
      }

  pub settles : (held new : HallData Block) (ages : List ℕ) → held ≡ record now { spare = held.spare } → (young : AreAges r.hold ages) → r.hold ≤ 255 → SettledBy held new t r.hold (data_of mid) ages e → RanTurn h new t r own (record mid { ages = ages }) table d
  settles held new ages is young hold s = settles_from new ages young hold (from_held now held held.spare new t r.hold (data_of mid) ages e is s)

pub none_end : (o : Option RunEnd) → is_some o ≡ false → o ≡ None
none_end None e = refl
none_end (Some x) e = absurd (let clash : true ≡ false = e in cc)
