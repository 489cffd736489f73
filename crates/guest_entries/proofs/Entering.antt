-- From what an entry leaves of a guest to what a call of the shared state leaves of a turn.
use Rattle.std.proofs.Common.{◌≡◌, ℕ, ◌<◌, true, false, [], ◌∷◌, ◌++◌, inl, Option, Some, None, IsSome, refl, sym, subst, ap, arith, ◌∙◌}
use Rattle.std.proofs.lemmas.List.{get_or-set_other}
use Rattle.std.proofs.lemmas.Grind.{get_or-set_at}
use Rattle.std.proofs.lemmas.Option.{none-some, option_and_then_some, same_Some}
use Rattle.address_space.specs.Slots.{slot_of}
use Rattle.ir_syntax.specs.declared.block.Block.{Block}
use Rattle.journal_pack.specs.declared.entry.Entry.{Entry}
use Rattle.journal_pack.specs.declared.entry.Entry.TheVariants.{Ev, Tick, Wait}
use Rattle.x86_model.specs.Want.{want}
use Rattle.machine_model.specs.CaseData.{CaseData}
use Rattle.machine_model.specs.Gated.{Both, IsAllowed, Other, Spot, Stand, advance, entered, gate_with, onward, spot_at, spot_last, spot_with, stand_at}
use Rattle.machine_model.specs.Own.{IsAhead, IsWhole}
use Rattle.machine_model.specs.Ready.{HasGrown}
use Rattle.machine_model.specs.Serial.{Rule}
use Rattle.machine_model.specs.State.{is_live}
use Rattle.machine_model.specs.Step.{core_with, cpu_at, slot_in}
use Rattle.machine_model.proofs.Comes.{both_more}
use Rattle.machine_model.proofs.Own.{made_of, steps_private}
use Rattle.hall_core.specs.Hall.{Comes, HallData, NeedsAt, added, both, machine}
use Rattle.hall_core.specs.Shared.{Need, need_of}
use Rattle.guest_parts.specs.Guest.{IsGoing, LeavesEnded, LeavesWith}
use Rattle.guest_parts.specs.Points.{Acts, point_at, turn_of}
use Rattle.guest_steps.specs.declared.own.Own.{Own}
use Rattle.guest_steps.specs.Ages.{AreAges}
use Rattle.guest_steps.specs.Kept.{AreKept, Table}
use Rattle.guest_entries.specs.Entered.{Entered, OthersKeepMarks, turn_in}
use Rattle.guest_steps.specs.Own.{Along, IsUnder, data_of}

-- ---- what an entry leaves of the latest entries

low : (t : ℕ) → slot_of t < 64
unfolding slot_of
low t = omega arith

spot_there : (b : Both) (e : Entry) (spot : Spot) (s : ℕ) → IsWhole b → slot_in e ≡ s → s < 64 → spot_at (gate_with e b.gate spot) s ≡ spot
spot_there b e spot s h same lt = get_or-set_at b.gate.spots (slot_in e) s spot _ (sym same) (omega (arith, h.spots, same, lt))

after_entry : (c : CaseData) (b n : Both) (e : Entry) (t : ℕ) → IsWhole b → slot_in e ≡ slot_of t → ((spot : Spot) (d : Stand) → spot_last c.image b.gate.grown e (cpu_at n.machine (slot_in e)) (spot_at b.gate (slot_in e)) d ≡ Some spot → spot.latest ≡ Other) → advance c b e ≡ Some n → HasGrown c.image n (slot_of t)
after_entry c b n e t h same by p =
    let m = made_of c b n e p in
    inl (ap (λ g. (spot_at g (slot_of t)).latest) m.gate ∙ ap (λ (s : Spot). s.latest) (spot_there b e m.spot (slot_of t) h same (low t)) ∙ by m.spot m.stand m.is.last)

last_is : (x spot : Spot) → Some x ≡ Some spot → x.latest ≡ Other → spot.latest ≡ Other
last_is x spot e h = subst (λ (s : Spot). s.latest ≡ Other) (same_Some x spot e) h

pub grown_event : (c : CaseData) (b n : Both) (t k : ℕ) → IsWhole b → advance c b (Ev t k) ≡ Some n → HasGrown c.image n (slot_of t)
grown_event c b n t k h p = after_entry c b n (Ev t k) t h refl (λ spot d e. option_and_then_some (λ left. Some (spot_with (onward (cpu_at n.machine (slot_of t)).mid left) Other)) (entered c.image b.gate.grown d.cpu.rip d.left) spot e (λ l q r. last_is (spot_with (onward (cpu_at n.machine (slot_of t)).mid l) Other) spot r refl)) p

pub grown_tick : (c : CaseData) (b n : Both) (t k : ℕ) → IsWhole b → advance c b (Tick t k) ≡ Some n → HasGrown c.image n (slot_of t)
grown_tick c b n t k h p = after_entry c b n (Tick t k) t h refl (λ spot d e. last_is (spot_with d.left Other) spot e refl) p

pub grown_wait : (c : CaseData) (b n : Both) (t k : ℕ) → IsWhole b → advance c b (Wait t k) ≡ Some n → HasGrown c.image n (slot_of t)
grown_wait c b n t k h p = after_entry c b n (Wait t k) t h refl (λ spot d e. last_is (spot_with d.left Other) spot e refl) p

-- ---- what an entry leaves

-- The entry may come. Where the run goes on and the thread lives, the guest stands with it; where the thread ended no write
-- of it waits.
pub record Left (c : CaseData) (b : Both) (t : ℕ) (e : Entry) (after : Own) (table : Table) : Type 0 where
  pub next : Both
  pub comes : advance c b e ≡ Some next
  pub on : next.machine.ending ≡ None → is_live next.machine t ≡ true → Along c next t after table (stand_at next (slot_of t)) × HasGrown c.image next (slot_of t)
  pub gone : next.machine.ending ≡ None → is_live next.machine t ≡ false → after.ages ≡ []

no_end : {A : Type 0} {X : Type 0} (o : Option A) → IsSome o → o ≡ None → X
no_end None h e = absurd (let no : false ≡ true = h in cc)
no_end (Some x) h e = absurd (none-some x (sym e))

pub left_ended : (c : CaseData) (b : Both) (t : ℕ) (e : Entry) (after : Own) (table : Table) → LeavesEnded c b e → Left c b t e after table
left_ended c b t e after table h = record {
  next = h.next;
  comes = h.comes;
  on = λ none live. no_end h.next.machine.ending h.ended none;
  gone = λ none dead. no_end h.next.machine.ending h.ended none;
}

pub left_with : (c : CaseData) (b : Both) (t : ℕ) (e : Entry) (after : Own) (table : Table) → (h : LeavesWith c b t e (data_of after)) → IsUnder c.image after.at → AreKept c.image b.gate.grown table → HasGrown c.image h.next (slot_of t) → Left c b t e after table
left_with c b t e after table h under kept grown = record {
  next = h.next;
  comes = h.comes;
  on = λ none live. (record { going = h.going; with = h.with; under = under; kept = subst (λ g. AreKept c.image g table) (sym h.grown) kept }, grown);
  gone = λ none dead. absurd (let clash : true ≡ false = sym h.going.live ∙ dead in cc);
}

-- ---- calls of the shared state

pub may_come : (h : HallData Block) (t : ℕ) (e : Entry) (after : Own) (table : Table) → Left h.case (both h) t e after table → IsAllowed h.case.image (both h).gate e → Comes h e
may_come h t e after table left allowed = record { next = left.next; step = left.comes; allowed = allowed }

pub needs_at : (h : HallData Block) (t k : ℕ) (d : Stand) (need : Need) (rip : ℕ) → IsGoing (both h) t → IsAhead h.case (both h) (slot_of t) k d → need_of (core_with (machine h) t d.cpu) (want h.case.image d.cpu) ≡ need → d.cpu.rip ≡ rip → NeedsAt h t k rip need
needs_at h t k d need rip going ahead wants at = record {
  needs = record {
    live = going.live;
    cpu = d.cpu;
    there = steps_private h.case.image (both h).gate.grown k (stand_at (both h) (slot_of t)) d ahead;
    wants = wants;
  };
  at = at;
}

-- ---- what the call leaves of the turn

marks_stay : (h : HallData Block) (t : ℕ) (e : Entry) → slot_in e ≡ slot_of t → OthersKeepMarks h (added h e) t
marks_stay h t e same = λ s ne. get_or-set_other h.marks (slot_in e) s None None (λ q. ne (q ∙ same))

entered_with : (h : HallData Block) (t : ℕ) (own after : Own) (table : Table) (d : Stand) (e : Entry) (r : Rule) (left : Left h.case (both h) t e after table) → slot_in e ≡ slot_of t → Acts h.case t (point_at own.k d) (turn_in h own.ages) r (turn_of left.next (h.journal ++ e ∷ []) after.ages) → after.k ≡ 0 → (AreAges 255 own.ages → AreAges 255 after.ages) → Entered h (added h e) t own after table d r
entered_with h t own after table d e r left same acts told fresh =
    let is : both (added h e) ≡ left.next = both_more h.case h.journal e left.next left.comes in
    record {
      case = refl;
      acts = subst (λ n. Acts h.case t (point_at own.k d) (turn_in h own.ages) r (turn_of n (h.journal ++ e ∷ []) after.ages)) (sym is) acts;
      on = subst (λ (n : Both). n.machine.ending ≡ None → is_live n.machine t ≡ true → Along h.case n t after table (stand_at n (slot_of t)) × HasGrown h.case.image n (slot_of t)) (sym is) left.on;
      gone = subst (λ (n : Both). n.machine.ending ≡ None → is_live n.machine t ≡ false → after.ages ≡ []) (sym is) left.gone;
      told = told;
      fresh = fresh;
      marks = marks_stay h t e same;
    }

pub entered_by : (h new : HallData Block) (t : ℕ) (own after : Own) (table : Table) (d : Stand) (e : Entry) (r : Rule) (left : Left h.case (both h) t e after table) → slot_in e ≡ slot_of t → new ≡ added h e → Acts h.case t (point_at own.k d) (turn_in h own.ages) r (turn_of left.next (h.journal ++ e ∷ []) after.ages) → after.k ≡ 0 → (AreAges 255 own.ages → AreAges 255 after.ages) → Entered h new t own after table d r
entered_by h new t own after table d e r left same is acts told fresh = subst (λ n. Entered h n t own after table d r) (sym is) (entered_with h t own after table d e r left same acts told fresh)
