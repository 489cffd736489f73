-- The rules always name a step: rounds.
use Rattle.std.proofs.Common.{◌≡◌, ℕ, ◌<◌, inl, inr, Bool, true, false, List, [], ◌∷◌, Option, Some, None, refl, sym, ap, ◌∙◌, subst, arith, ◌==◌, ◌||◌, nat_lt, length, slice_index_or}
use Rattle.std.specs.Prelude.{option_and_then}
use Rattle.std.proofs.lemmas.Bool.Decides.{nat_tests}
use Rattle.std.proofs.lemmas.Option.{none-some, same_Some}
use Rattle.address_space.specs.Slots.{slot_of}
use Rattle.lib_table.specs.Library as table
use Rattle.basic_blocks.specs.Reach.{is_among}
use Rattle.machine_model.specs.declared.ending.RunEnd.{RunEnd}
use Rattle.machine_model.specs.CaseData.{CaseData}
use Rattle.machine_model.specs.State.{Machine, is_live, list_at}
use Rattle.machine_model.specs.Ready.{HasGrown, IsSound}
use Rattle.machine_model.specs.Serial.{Reaches, Turn}
use Rattle.machine_model.proofs.NamesEntries.{InTurn, Turned}
use Rattle.machine_model.specs.Serial.{AreReaches, Rules, point_of}
use Rattle.machine_model.proofs.NamesEntries.{others_itself}
use Rattle.std.proofs.lemmas.List.{get_or-set_same, get_or-set_other, length-set}
use Rattle.std.proofs.lemmas.Bool.{cases_eq}
use Rattle.std.specs.Prelude.{slice_set}
use Rattle.address_space.specs.Slots.{generation_of}
use Rattle.address_space.proofs.Numbers.{generation_back, slot_back}
use Rattle.lib_table.specs.declared.life.Life.{Life}
use Rattle.lib_table.specs.declared.life.Life.TheVariants.{Unborn, Live, Ended, Joined}
use Rattle.lib_table.specs.declared.slot.Slot.{Slot}
use Rattle.lib_table.specs.Library.{LibraryData, is_running, life_in, live_number, number_at, slot_at}
use Rattle.machine_model.specs.State.{thread_in}
use Rattle.machine_model.specs.Play.{walk}
use Rattle.machine_model.specs.Serial.{Run, one_turn, run_after, turn_in, turn_of, turn_unless}
use Rattle.machine_model.proofs.NamesTurns.{begin_reached, turn_makes}

-- ---- the thread of a slot

lives_by : (u t : ℕ) (life : Life) → live_number u life ≡ Some t → (u ≡ t) × (is_running life ≡ true)
lives_by u t Unborn e = absurd (none-some t e)
lives_by u t (Live a b) e = (same_Some u t e, refl)
lives_by u t (Ended v) e = absurd (none-some t e)
lives_by u t Joined e = absurd (none-some t e)

pub dead_by : (u : ℕ) (life : Life) → live_number u life ≡ None → is_running life ≡ false
dead_by u Unborn e = refl
dead_by u (Live a b) e = absurd (none-some u (sym e))
dead_by u (Ended v) e = refl
dead_by u Joined e = refl

same_number : (g : ℕ) → (g == g) ≡ true
same_number g = grind arith

not_less : (g : ℕ) → nat_lt g g ≡ false
not_less g = grind (arith, nat_tests)

own_life : (s : Slot) → life_in s s.generation ≡ s.life
unfolding life_in
own_life s = rw (not_less s.generation, same_number s.generation) refl

pub live_at : (l : LibraryData) (s : ℕ) → s < 64 → is_running (slot_at l s).life ≡ true → table.is_live l (number_at l s) ≡ true
live_at l s low run =
    let a = slot_back s (slot_at l s).generation low in
    let b = generation_back s (slot_at l s).generation low in
    ap (λ x. is_running (life_in (slot_at l x) (generation_of (number_at l s)))) a ∙ ap (λ x. is_running (life_in (slot_at l s) x)) b ∙ ap is_running (own_life (slot_at l s)) ∙ run

pub thread_at_slot : (m : Machine) (s t : ℕ) → s < 64 → thread_in m s ≡ Some t → (slot_of t ≡ s) × (is_live m t ≡ true)
thread_at_slot m s t low e =
    let p = lives_by (number_at m.library s) t (slot_at m.library s).life e in
    (ap slot_of (sym p.0) ∙ slot_back s (slot_at m.library s).generation low, ap (table.is_live m.library) (sym p.0) ∙ live_at m.library s low p.1)

-- ---- runs

-- each slot's waiting writes have ages, and its thread stands at a grown place after a miss
pub record IsRun (c : CaseData) (run : Run) : Type 0 where
  pub sound : IsSound c run.both
  pub aged : run.both.machine.ending ≡ None → (s : ℕ) → s < 64 → length (slice_index_or run.ages s []) ≡ length (list_at run.both.machine s)
  pub grown : run.both.machine.ending ≡ None → (s : ℕ) → s < 64 → HasGrown c.image run.both s
  pub count : length run.ages ≡ 64

pub record Runs (c : CaseData) (made : Option Run) : Type 0 where
  pub run : Run
  pub is : made ≡ Some run
  pub after : IsRun c run

pub in_turn_of : (c : CaseData) (run : Run) (s t : ℕ) → s < 64 → IsRun c run → run.both.machine.ending ≡ None → slot_of t ≡ s → is_live run.both.machine t ≡ true → InTurn c run.both t run.both (slice_index_or run.ages s [])
in_turn_of c run s t low h going same live = record {
  sound = h.sound;
  going = going;
  live = live;
  aged = h.aged going s low ∙ ap (λ u. length (list_at run.both.machine u)) (sym same);
  grown = subst (λ u. HasGrown c.image run.both u) (sym same) (h.grown going s low);
  others = others_itself c run.both (slot_of t);
}

after_turn : (c : CaseData) (run : Run) (s t : ℕ) (x : Turn) → s < 64 → IsRun c run → run.both.machine.ending ≡ None → slot_of t ≡ s → Turned c run.both t x.both x.ages → IsRun c (run_after run s x)
after_turn c run s t x low h going same v = record {
  sound = v.sound;
  aged = λ g u below. elim (cases_eq u s) [
    | inl is ↦ ap (λ j. length (slice_index_or (slice_set run.ages s x.ages) j [])) is ∙ ap length (get_or-set_same run.ages s x.ages [] (omega (arith, low, h.count))) ∙ v.aged g ∙ ap (λ j. length (list_at x.both.machine j)) (same ∙ sym is)
    | inr ne ↦ ap length (get_or-set_other run.ages s u x.ages [] ne) ∙ h.aged going u below ∙ ap length (sym (v.others.lists u (λ e. ne (e ∙ same))))
  ];
  grown = λ g u below. elim (cases_eq u s) [
    | inl is ↦ subst (λ j. HasGrown c.image x.both j) (same ∙ sym is) (v.grown g)
    | inr ne ↦ v.others.ready u below (λ e. ne (e ∙ same)) (h.grown going u below)
  ];
  count = length-set run.ages s x.ages ∙ h.count;
}

turn_of_makes : (c : CaseData) (reach : Reaches) (r : Rules) (run : Run) (s : ℕ) (who : Option ℕ) → AreReaches c.image reach → s < 64 → IsRun c run → run.both.machine.ending ≡ None → thread_in run.both.machine s ≡ who → Runs c (turn_of c reach r run s who)
turn_of_makes c reach r run s None right low h going e = record { run = run; is = refl; after = h }
turn_of_makes c reach r run s (Some t) right low h going e =
    let w = thread_at_slot run.both.machine s t low e in
    let i = in_turn_of c run s t low h going w.0 w.1 in
    let a = turn_makes c reach r run.both t (point_of run.both t) (turn_in run s) right i (begin_reached c run.both t run.both (slice_index_or run.ages s []) i) in
    record { run = run_after run s a.turn; is = ap (option_and_then (λ x. Some (run_after run s x))) a.is; after = after_turn c run s t a.turn low h going w.0 a.after }

turn_unless_makes : (c : CaseData) (reach : Reaches) (r : Rules) (run : Run) (s : ℕ) (end : Option RunEnd) → AreReaches c.image reach → s < 64 → IsRun c run → run.both.machine.ending ≡ end → Runs c (turn_unless c reach r run s end)
turn_unless_makes c reach r run s None right low h e = turn_of_makes c reach r run s (thread_in run.both.machine s) right low h e refl
turn_unless_makes c reach r run s (Some x) right low h e = record { run = run; is = refl; after = h }

pub one_turn_makes : (c : CaseData) (reach : Reaches) (r : Rules) (run : Run) (s : ℕ) → AreReaches c.image reach → s < 64 → IsRun c run → Runs c (one_turn c reach r run s)
unfolding one_turn
one_turn_makes c reach r run s right low h = turn_unless_makes c reach r run s run.both.machine.ending right low h refl

or_true : (b : Bool) → (b || true) ≡ true
or_true true = refl
or_true false = refl

pub walk_makes : (c : CaseData) (reach : Reaches) (r : Rules) (run : Run) (es : List ℕ) → AreReaches c.image reach → ((s : ℕ) → is_among es s ≡ true → s < 64) → IsRun c run → Runs c (walk (one_turn c reach r) run es)
unfolding walk
walk_makes c reach r run [] right low h = record { run = run; is = refl; after = h }
walk_makes c reach r run (s ∷ es) right low h =
    let here : is_among (s ∷ es) s ≡ true = ap (λ b. b || is_among es s) (same_number s) in
    let a = one_turn_makes c reach r run s right (low s here) h in
    let m = walk_makes c reach r a.run es right (λ u k. low u (ap (λ b. (s == u) || b) k ∙ or_true (s == u))) a.after in
    record { run = m.run; is = ap (option_and_then (λ x. walk (one_turn c reach r) x es)) a.is ∙ m.is; after = m.after }
