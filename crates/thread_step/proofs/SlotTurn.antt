-- The turn of a guest's slot.
use Rattle.std.proofs.Common.{◌≡◌, ◌≢◌, ℕ, ◌<◌, ◌⊎◌, inl, inr, Bool, true, false, List, [], ◌++◌, slice_index_or, slice_set, length-set, Option, Some, None, refl, sym, subst, ap, arith, ◌∙◌}
use Rattle.std.specs.Prelude.{option_and_then, IsSome, is_some}
use Rattle.std.proofs.lemmas.Bool.{cases_eq}
use Rattle.std.proofs.lemmas.List.{get_or-set_other, get_or-set_same}
use Rattle.std.proofs.lemmas.Option.{none-some, option_and_then_some, same_Some}
use Rattle.address_space.specs.Slots.{slot_of}
use Rattle.ir_syntax.specs.declared.block.Block.{Block}
use Rattle.journal_pack.specs.declared.entry.Entry.{Entry}
use Rattle.machine_model.specs.declared.ending.RunEnd.{RunEnd}
use Rattle.machine_model.specs.CaseData.{CaseData}
use Rattle.machine_model.specs.Gated.{Both, Leads, Stand, begin, gated_steps, stand_at}
use Rattle.machine_model.specs.Own.{IsAhead}
use Rattle.machine_model.specs.Ready.{HasGrown}
use Rattle.machine_model.specs.Serial as serial
use Rattle.machine_model.specs.Serial.{AreReaches, Reaches, Run, Turn, one_turn, point_of, run_after, turn, turn_unless}
use Rattle.machine_model.specs.State.{is_live, thread_in}
use Rattle.machine_model.proofs.NamesRounds.{thread_at_slot}
use Rattle.lib_table.specs.declared.life.Life.{Life}
use Rattle.lib_table.specs.declared.life.Life.TheVariants.{Ended as HasEnded, Joined, Live, Unborn}
use Rattle.lib_table.specs.Library.{is_running, is_unborn, life_at}
use Rattle.machine_model.proofs.Own.{whole_from}
use Rattle.machine_model.proofs.SerialGated.{turn_gated}
use Rattle.machine_laws.proofs.Spans.{unborn_before}
use Rattle.machine_model.proofs.Reaches.{are_reaches, reach_of, same_reaches}
use Rattle.machine_laws.proofs.Turns.{turn_leads}
use Rattle.hall_core.specs.Hall.{HallData, both, machine, mark_at}
use Rattle.guest_parts.specs.Points.{point_at, turn_of, waiting_of}
use Rattle.thread_step.specs.declared.guest.Guest.{Guest}
use Rattle.guest_steps.specs.declared.own.Own.{Own}
use Rattle.thread_step.specs.declared.rules.Rules.{Rules}
use Rattle.thread_step.specs.declared.rules.Turned.{Turned}
use Rattle.thread_step.specs.declared.rules.Turned.TheVariants.{Ran, Waiting, Ended, Idle, Memory}
use Rattle.thread_step.specs.Alone.{BeginsOneTurn, InRun, IsAt, IsOneTurn}
use Rattle.guest_steps.specs.Kept.{Table}
use Rattle.guest_entries.specs.Entered.{OthersKeepMarks, turn_in}
use Rattle.thread_step.specs.Guest.{HasNone, IsLeft, IsNewborn, IsReady, IsStanding, StandsWith}
use Rattle.guest_entries.specs.Steps.{Adds}
use Rattle.thread_step.specs.Turned.{IsTurn, Ready, TurnIs, serial_rules}
use Rattle.thread_step.proofs.Whole.{stands_at}
use Rattle.thread_step.proofs.Lives.{LivesOrNone, lives_there, none_left, own_lives}

-- ---- where a guest stands

begun_or_not : (o : Option ℕ) (t : ℕ) → (o ≡ Some t) ⊎ (o ≢ Some t)
begun_or_not None t = inr (λ e. none-some t e)
begun_or_not (Some u) t = elim (cases_eq u t) [ inl e ↦ inl (ap Some e) | inr ne ↦ inr (λ e. ne (same_Some u t e)) ]

-- a thread that lives in its slot is the only one there
pub has_none : (h : HallData Block) (g : Guest) (t : ℕ) → thread_in (machine h) g.slot ≡ Some t → g.thread ≢ Some t → HasNone h g
has_none h g t lives other = λ u there is. other (is ∙ sym there ∙ lives)

module _ (h : HallData Block) (g : Guest) (t : ℕ) (r : IsReady h g) (going : (machine h).ending ≡ None) (lives : thread_in (machine h) g.slot ≡ Some t) where
  pub its_slot : slot_of t ≡ g.slot
  its_slot = (thread_at_slot (machine h) g.slot t r.stands.low lives).0

  pub it_lives : is_live (machine h) t ≡ true
  it_lives = (thread_at_slot (machine h) g.slot t r.stands.low lives).1

  pub begun_ready : g.thread ≡ Some t → (d : Stand) × Ready h t g.own g.table.items d
  begun_ready is = let s = r.stands.begun t going lives is in (s.0, record { along = s.1.along; grown = subst (HasGrown h.case.image (both h)) (sym its_slot) (r.grown t going lives); fresh = s.1.fresh })

  pub its_stand : (d : Stand) × IsAhead h.case (both h) g.slot g.own.k d
  unfolding gated_steps
  its_stand = elim (begun_or_not g.thread t) [
    | inl is ↦ let s = r.stands.begun t going lives is in (s.0, subst (λ u. IsAhead h.case (both h) u g.own.k s.0) its_slot s.1.along.with.ahead)
    | inr ne ↦ (stand_at (both h) g.slot, ap (λ k. gated_steps h.case.image (both h).gate.grown k (stand_at (both h) g.slot)) (r.stands.told going (has_none h g t lives ne)))
  ]

-- ---- a turn of a guest that was begun just now

turn_before : (h : HallData Block) (t : ℕ) (r : Rules) (own mid : Own) (d : Stand) (x : Turn) → mid.k ≡ own.k → mid.ages ≡ own.ages → IsTurn h t r mid d x → IsTurn h t r own d x
turn_before h t r own mid d x k ages q = λ reach right. subst (λ n. turn h.case reach (serial_rules r) t (point_at n d) (turn_in h own.ages) ≡ Some x) k (subst (λ l. turn h.case reach (serial_rules r) t (point_at mid.k d) (turn_in h l) ≡ Some x) ages (q reach right))

pub turned_before : (a : Turned) (h new : HallData Block) (t : ℕ) (r : Rules) (own mid after : Own) (table : Table) (d : Stand) → mid.k ≡ own.k → mid.ages ≡ own.ages → TurnIs a h new t r mid after table d → TurnIs a h new t r own after table d
turned_before Ran h new t r own mid after table d k ages q = record { case = q.case; turn = turn_before h t r own mid d _ k ages q.turn; going = q.going; told = q.told; ready = q.ready; gone = q.gone; marks = q.marks }
turned_before Waiting h new t r own mid after table d k ages q = record { case = q.case; turn = turn_before h t r own mid d _ k ages q.turn; going = q.going; told = q.told; ready = q.ready; none = q.none; stuck = q.stuck; marked = q.marked; marks = q.marks }
turned_before Ended h new t r own mid after table d k ages q = record { case = q.case; turn = turn_before h t r own mid d _ k ages q.turn; ended = q.ended; marks = q.marks }
turned_before Idle h new t r own mid after table d k ages q = q
turned_before (Memory e) h new t r own mid after table d k ages q = record { case = q.case; stand = q.stand; along = q.along; fresh = q.fresh; adds = q.adds; begins = λ x turns. q.begins x (turn_before h t r mid own d x (sym k) (sym ages) turns); marks = q.marks }

pub same_stand : (c : CaseData) (b : Both) (s u k n : ℕ) (d e : Stand) → s ≡ u → k ≡ n → IsAhead c b s k d → IsAhead c b u n e → d ≡ e
same_stand c b s u k n d e slot same p q = same_Some d e (sym p ∙ ap (λ z. gated_steps c.image b.gate.grown k (stand_at b z)) slot ∙ ap (λ z. gated_steps c.image b.gate.grown z (stand_at b u)) same ∙ q)

-- ---- the guest after a turn

pub none_is : (o : Option RunEnd) → IsSome o → o ≡ None → ⊥
none_is None s e = let no : false ≡ true = s in cc
none_is (Some x) s e = none-some x (sym e)

turn_lives : (h : HallData Block) (t : ℕ) (r : Rules) (own : Own) (d : Stand) (x : Turn) → Leads h.case (begin h.case) h.journal (both h) → is_live (machine h) t ≡ true → IsTurn h t r own d x → LivesOrNone x.both t
turn_lives h t r own d x leads live q =
    let right = are_reaches h.case.image in
    let w = turn_leads h.case (reach_of h.case.image) (serial_rules r) t (point_at own.k d) (turn_in h own.ages) x right leads (q (reach_of h.case.image) right) in
    own_lives h.case (both h) x.both t w.0 (whole_from h.case (both h) h.journal leads) w.3 w.2 (inl live)

pub live_born : (life : Life) → is_running life ≡ true → is_unborn life ≡ false
live_born Unborn h = absurd (let no : false ≡ true = h in cc)
live_born (Live start argument) h = refl
live_born (HasEnded value) h = absurd (let no : false ≡ true = h in cc)
live_born Joined h = absurd (let no : false ≡ true = h in cc)

is_unborn_life : (life : Life) → is_unborn life ≡ true → life ≡ Unborn
is_unborn_life Unborn h = refl
is_unborn_life (Live start argument) h = absurd (let no : false ≡ true = h in cc)
is_unborn_life (HasEnded value) h = absurd (let no : false ≡ true = h in cc)
is_unborn_life Joined h = absurd (let no : false ≡ true = h in cc)

by_test : (b : Bool) → (b ≡ true → ⊥) → b ≡ false
by_test true wrong = absurd (wrong refl)
by_test false wrong = refl

-- a thread that was born stays so
pub still_born : (c : CaseData) (before after : List Entry) (b n : Both) (u : ℕ) → Leads c (begin c) before b → Leads c (begin c) (before ++ after) n → is_unborn (life_at b.machine.library u) ≡ false → is_unborn (life_at n.machine.library u) ≡ false
still_born c before after b n u p q born = by_test (is_unborn (life_at n.machine.library u)) (λ yes.
    let was = unborn_before c before after b n u p q (is_unborn_life (life_at n.machine.library u) yes) in
    let no : true ≡ false = sym (ap is_unborn was) ∙ born in cc)

turn_born : (h : HallData Block) (t : ℕ) (r : Rules) (own : Own) (d : Stand) (x : Turn) → Leads h.case (begin h.case) h.journal (both h) → is_live (machine h) t ≡ true → IsTurn h t r own d x → is_unborn (life_at x.both.machine.library t) ≡ false
turn_born h t r own d x leads live q =
    let right = are_reaches h.case.image in
    let turns = q (reach_of h.case.image) right in
    let w = turn_leads h.case (reach_of h.case.image) (serial_rules r) t (point_at own.k d) (turn_in h own.ages) x right leads turns in
    let all = turn_gated h.case (reach_of h.case.image) (serial_rules r) t (point_at own.k d) (turn_in h own.ages) x right leads turns in
    still_born h.case h.journal w.0 (both h) x.both t leads (subst (λ j. Leads h.case (begin h.case) j x.both) w.1 all) (live_born (life_at (machine h).library t) live)

-- where the thread doesn't live any more, none lives in its slot
abbrev pub LeavesNone : HallData Block → ℕ → Type 0
LeavesNone new t = is_live (machine new) t ≡ false → thread_in (machine new) (slot_of t) ≡ None

module _ (new : HallData Block) (t : ℕ) (g : Guest) (slot : slot_of t ≡ g.slot) (low : g.slot < 64) (begun : g.thread ≡ Some t) where
  same_thread : (u : ℕ) → g.thread ≡ Some u → t ≡ u
  same_thread u is = same_Some t u (sym begun ∙ is)

  -- a thread that lives in the slot is t
  it_is : (live : Bool) → is_live (machine new) t ≡ live → LeavesNone new t → (u : ℕ) → thread_in (machine new) g.slot ≡ Some u → g.thread ≡ Some u
  it_is true e none u lives = begun ∙ sym (lives_there (machine new) t e) ∙ ap (thread_in (machine new)) slot ∙ lives
  it_is false e none u lives = absurd (none-some u (sym (none e) ∙ ap (thread_in (machine new)) slot ∙ lives))

  none_new : LeavesNone new t → (u : ℕ) → thread_in (machine new) g.slot ≡ Some u → g.thread ≢ Some u → IsNewborn new g.slot
  none_new none u lives other = absurd (other (it_is (is_live (machine new) t) refl none u lives))

  live_none : is_live (machine new) t ≡ true → LeavesNone new t
  live_none live dead = absurd (let no : true ≡ false = sym live ∙ dead in cc)

  -- a thread that lives is the guest's
  has_one : is_live (machine new) t ≡ true → HasNone new g → ⊥
  has_one live alone = alone t (ap (thread_in (machine new)) (sym slot) ∙ lives_there (machine new) t live) begun

  was_born : is_unborn (life_at (machine new).library t) ≡ false → (u : ℕ) → g.thread ≡ Some u → is_unborn (life_at (machine new).library u) ≡ false
  was_born born u is = subst (λ z. is_unborn (life_at (machine new).library z) ≡ false) (same_thread u is) born

  pub standing : (d : Stand) → StandsWith new t g d → IsStanding new g
  standing d s = record {
    low = low;
    begun = λ u going lives is. subst (λ z. (e : Stand) × StandsWith new z g e) (same_thread u is) (d, s);
    new = λ u going lives other. none_new (live_none s.along.going.live) u lives other;
    told = λ going alone. absurd (has_one s.along.going.live alone);
    none = λ going alone. absurd (has_one s.along.going.live alone);
    born = λ u going is. was_born (live_born (life_at (machine new).library t) s.along.going.live) u is;
  }

  pub ready_on : (d : Stand) → Ready new t g.own g.table.items d → IsReady new g
  ready_on d r = record {
    stands = standing d (record { along = r.along; fresh = r.fresh });
    grown = λ u going lives. subst (HasGrown new.case.image (both new)) slot r.grown;
  }

  pub gone_ready : thread_in (machine new) (slot_of t) ≡ None → is_unborn (life_at (machine new).library t) ≡ false → g.own.k ≡ 0 → g.own.ages ≡ [] → IsReady new g
  gone_ready none born told ages =
      let no : (u : ℕ) → thread_in (machine new) g.slot ≡ Some u → ⊥ = λ u lives. none-some u (sym none ∙ ap (thread_in (machine new)) slot ∙ lives) in
      record {
        stands = record {
          low = low;
          begun = λ u going lives is. absurd (no u lives);
          new = λ u going lives other. absurd (no u lives);
          told = λ going alone. told;
          none = λ going alone. ages;
          born = λ u going is. was_born born u is;
        };
        grown = λ u going lives. absurd (no u lives);
      }

  pub ended_ready : IsSome (machine new).ending → IsReady new g
  ended_ready ended =
      let no : (machine new).ending ≡ None → ⊥ = λ going. none_is (machine new).ending ended going in
      record {
        stands = record {
          low = low;
          begun = λ u going lives is. absurd (no going);
          new = λ u going lives other. absurd (no going);
          told = λ going alone. absurd (no going);
          none = λ going alone. absurd (no going);
          born = λ u going is. absurd (no going);
        };
        grown = λ u going lives. absurd (no going);
      }

  ran_ready : (live : Bool) → is_live (machine new) t ≡ live → ((is_live (machine new) t ≡ true) → Ready new t g.own g.table.items (stand_at (both new) (slot_of t))) → LivesOrNone (both new) t → is_unborn (life_at (machine new).library t) ≡ false → g.own.k ≡ 0 → (is_live (machine new) t ≡ false → g.own.ages ≡ []) → IsReady new g
  ran_ready true e on one born told gone = ready_on (stand_at (both new) (slot_of t)) (on e)
  ran_ready false e on one born told gone = gone_ready (none_left (both new) t one e) born told (gone e)

  pub left : (a : Turned) (h : HallData Block) (r : Rules) (own : Own) (d : Stand) → Leads h.case (begin h.case) h.journal (both h) → is_live (machine h) t ≡ true → TurnIs a h new t r own g.own g.table.items d → IsLeft a new g
  left Ran h r own d leads live q =
      let x = turn_in new g.own.ages in
      ran_ready (is_live (machine new) t) refl q.ready (turn_lives h t r own d x leads live q.turn) (turn_born h t r own d x leads live q.turn) q.told q.gone
  left Waiting h r own d leads live q = ready_on (stand_at (both new) (slot_of t)) q.ready
  left Ended h r own d leads live q = ended_ready q.ended
  left Idle h r own d leads live q = absurd q
  left (Memory e) h r own d leads live q = standing q.stand (record { along = q.along; fresh = q.fresh })

-- ---- what a turn says by itself

adds_by : (h new : HallData Block) (t : ℕ) (r : Rules) (own : Own) (d : Stand) (x : Turn) → Leads h.case (begin h.case) h.journal (both h) → IsTurn h t r own d x → x.journal ≡ new.journal → Adds t h.journal new.journal
adds_by h new t r own d x leads q is =
    let right = are_reaches h.case.image in
    let w = turn_leads h.case (reach_of h.case.image) (serial_rules r) t (point_at own.k d) (turn_in h own.ages) x right leads (q (reach_of h.case.image) right) in
    record { entries = w.0; journal = sym is ∙ w.1; own = w.2 }

pub adds_after : (a : Turned) (h new : HallData Block) (t : ℕ) (r : Rules) (own after : Own) (table : Table) (d : Stand) → Leads h.case (begin h.case) h.journal (both h) → TurnIs a h new t r own after table d → Adds t h.journal new.journal
adds_after Ran h new t r own after table d leads q = adds_by h new t r own d (turn_in new after.ages) leads q.turn refl
adds_after Waiting h new t r own after table d leads q = adds_by h new t r own d (waiting_of (both new) new.journal after.ages) leads q.turn refl
adds_after Ended h new t r own after table d leads q = adds_by h new t r own d (turn_in new after.ages) leads q.turn refl
adds_after Idle h new t r own after table d leads q = absurd q
adds_after (Memory e) h new t r own after table d leads q = q.adds

pub case_after : (a : Turned) (h new : HallData Block) (t : ℕ) (r : Rules) (own after : Own) (table : Table) (d : Stand) → TurnIs a h new t r own after table d → new.case ≡ h.case
case_after Ran h new t r own after table d q = q.case
case_after Waiting h new t r own after table d q = q.case
case_after Ended h new t r own after table d q = q.case
case_after Idle h new t r own after table d q = absurd q
case_after (Memory e) h new t r own after table d q = q.case

pub marks_after : (a : Turned) (h new : HallData Block) (t : ℕ) (r : Rules) (own after : Own) (table : Table) (d : Stand) → TurnIs a h new t r own after table d → OthersKeepMarks h new t
marks_after Ran h new t r own after table d q = q.marks
marks_after Waiting h new t r own after table d q = q.marks
marks_after Ended h new t r own after table d q = q.marks
marks_after Idle h new t r own after table d q = absurd q
marks_after (Memory e) h new t r own after table d q = q.marks

pub ran_told : (a : Turned) (h new : HallData Block) (t : ℕ) (r : Rules) (own after : Own) (table : Table) (d : Stand) → TurnIs a h new t r own after table d → a ≡ Ran → after.k ≡ 0
ran_told a h new t r own after table d q is = let p = subst (λ z. TurnIs z h new t r own after table d) is q in p.told

pub waiting_told : (a : Turned) (h new : HallData Block) (t : ℕ) (r : Rules) (own after : Own) (table : Table) (d : Stand) → TurnIs a h new t r own after table d → a ≡ Waiting → after.k ≡ 0
waiting_told a h new t r own after table d q is = let p = subst (λ z. TurnIs z h new t r own after table d) is q in p.told

pub waiting_marked : (a : Turned) (h new : HallData Block) (t : ℕ) (r : Rules) (own after : Own) (table : Table) (d : Stand) → TurnIs a h new t r own after table d → a ≡ Waiting → IsSome (mark_at new (slot_of t))
waiting_marked a h new t r own after table d q is = let p = subst (λ z. TurnIs z h new t r own after table d) is q in p.marked

-- ---- in the serial order

-- where a thread's turn is this, so is that of its slot
turns : (c : CaseData) (reach : Reaches) (r : serial.Rules) (b : Both) (journal : List Entry) (l : List (List ℕ)) (s t : ℕ) (ages : List ℕ) (x : Turn) → b.machine.ending ≡ None → thread_in b.machine s ≡ Some t → slice_index_or l s [] ≡ ages → turn c reach r t (point_of b t) (turn_of b journal ages) ≡ Some x → one_turn c reach r (record { both = b; journal = journal; ages = l }) s ≡ Some (run_after (record { both = b; journal = journal; ages = l }) s x)
unfolding one_turn
turns c reach r b journal l s t ages x going lives is e =
    let run : Run = record { both = b; journal = journal; ages = l } in
    ap (turn_unless c reach r run s) going ∙ ap (serial.turn_of c reach r run s) lives ∙ ap (option_and_then (λ y. Some (run_after run s y))) (ap (λ a. turn c reach r t (point_of b t) (turn_of b journal a)) is ∙ e)

-- a run is what it is at
run_is : (run : Run) (h : HallData Block) (g : Guest) → IsAt run h g → run ≡ record { both = both h; journal = h.journal; ages = run.ages }
run_is run h g at = ap (λ b. record { both = b; journal = run.journal; ages = run.ages }) at.both ∙ ap (λ j. record { both = both h; journal = j; ages = run.ages }) at.journal

one_by : (h new : HallData Block) (t : ℕ) (r : Rules) (reach : Reaches) (run : Run) (g after : Guest) (d : Stand) (x : Turn) → IsAt run h g → g.slot < 64 → after.slot ≡ g.slot → (machine h).ending ≡ None → thread_in (machine h) g.slot ≡ Some t → g.own.k ≡ 0 → d ≡ stand_at (both h) (slot_of t) → AreReaches h.case.image reach → IsTurn h t r g.own d x → x.both ≡ both new → x.journal ≡ new.journal → x.ages ≡ after.own.ages → IsOneTurn reach r run h new g after
one_by h new t r reach run g after d x at low slot going lives told stands right is b j ages =
    let first : Run = record { both = both h; journal = h.journal; ages = run.ages } in
    let from : turn h.case reach (serial_rules r) t (point_of (both h) t) (turn_of (both h) h.journal g.own.ages) ≡ Some x = subst (λ z. turn h.case reach (serial_rules r) t (point_at 0 z) (turn_in h g.own.ages) ≡ Some x) stands (subst (λ k. turn h.case reach (serial_rules r) t (point_at k d) (turn_in h g.own.ages) ≡ Some x) told (is reach right)) in
    let there = turns h.case reach (serial_rules r) (both h) h.journal run.ages g.slot t g.own.ages x going lives at.ages from in
    record {
      next = run_after first g.slot x;
      is = ap (λ z. one_turn h.case reach (serial_rules r) z g.slot) (run_is run h g at) ∙ there;
      there = record {
        both = b;
        journal = j;
        count = length-set run.ages g.slot x.ages ∙ at.count;
        ages = ap (λ s. slice_index_or (slice_set run.ages g.slot x.ages) s []) slot ∙ get_or-set_same run.ages g.slot x.ages [] (omega (arith, low, at.count)) ∙ ages;
      };
      others = λ s ne. get_or-set_other run.ages g.slot s x.ages [] ne;
    }

-- how a turn's entries begin, so begins what its slot adds to a run
begins_by : (h new : HallData Block) (t : ℕ) (r : Rules) (reach : Reaches) (run : Run) (g : Guest) (d : Stand) → IsAt run h g → (machine h).ending ≡ None → thread_in (machine h) g.slot ≡ Some t → g.own.k ≡ 0 → d ≡ stand_at (both h) (slot_of t) → AreReaches h.case.image reach → ((x : Turn) → IsTurn h t r g.own d x → (rest : List Entry) × (x.journal ≡ new.journal ++ rest)) → BeginsOneTurn reach r run h new g
unfolding one_turn
begins_by h new t r reach run g d at going lives told stands right begins next is =
    let first : Run = record { both = both h; journal = h.journal; ages = run.ages } in
    let on : Turn → Option Run = λ y. Some (run_after first g.slot y) in
    let from : one_turn h.case reach (serial_rules r) first g.slot ≡ Some next = ap (λ z. one_turn h.case reach (serial_rules r) z g.slot) (sym (run_is run h g at)) ∙ is in
    let step : serial.turn_of h.case reach (serial_rules r) first g.slot (Some t) ≡ Some next = sym (ap (turn_unless h.case reach (serial_rules r) first g.slot) going ∙ ap (serial.turn_of h.case reach (serial_rules r) first g.slot) lives) ∙ from in
    option_and_then_some on (turn h.case reach (serial_rules r) t (point_of (both h) t) (serial.turn_in first g.slot)) next step (λ x a b.
    let here : turn h.case reach (serial_rules r) t (point_at g.own.k d) (turn_in h g.own.ages) ≡ Some x =
    ap (λ k. turn h.case reach (serial_rules r) t (point_at k d) (turn_in h g.own.ages)) told ∙ ap (λ z. turn h.case reach (serial_rules r) t (point_at 0 z) (turn_in h g.own.ages)) stands ∙ ap (λ l. turn h.case reach (serial_rules r) t (point_of (both h) t) (turn_of (both h) h.journal l)) (sym at.ages) ∙ a in
    let q = begins x (λ other also. ap (λ z. turn h.case z (serial_rules r) t (point_at g.own.k d) (turn_in h g.own.ages)) (same_reaches h.case.image other reach also right) ∙ here) in
    (q.0, ap (λ (z : Run). z.journal) (sym (same_Some (run_after first g.slot x) next b)) ∙ q.1))

pub in_run : (a : Turned) (h new : HallData Block) (t : ℕ) (r : Rules) (reach : Reaches) (run : Run) (g after : Guest) (d : Stand) → IsAt run h g → g.slot < 64 → after.slot ≡ g.slot → (machine h).ending ≡ None → thread_in (machine h) g.slot ≡ Some t → g.own.k ≡ 0 → d ≡ stand_at (both h) (slot_of t) → AreReaches h.case.image reach → TurnIs a h new t r g.own after.own after.table.items d → InRun a reach r run h new g after
in_run Ran h new t r reach run g after d at low slot going lives told stands right q = one_by h new t r reach run g after d (turn_in new after.own.ages) at low slot going lives told stands right q.turn refl refl refl
in_run Waiting h new t r reach run g after d at low slot going lives told stands right q = one_by h new t r reach run g after d (waiting_of (both new) new.journal after.own.ages) at low slot going lives told stands right q.turn refl refl refl
in_run Ended h new t r reach run g after d at low slot going lives told stands right q = one_by h new t r reach run g after d (turn_in new after.own.ages) at low slot going lives told stands right q.turn refl refl refl
in_run Idle h new t r reach run g after d at low slot going lives told stands right q = absurd q
in_run (Memory e) h new t r reach run g after d at low slot going lives told stands right q = begins_by h new t r reach run g d at going lives told stands right (λ x is. q.begins x is reach right)

-- without a turn
stays : (h : HallData Block) (r : Rules) (reach : Reaches) (run : Run) (g : Guest) → IsAt run h g → one_turn h.case reach (serial_rules r) run g.slot ≡ Some run → IsOneTurn reach r run h h g g
stays h r reach run g at is = record { next = run; is = is; there = at; others = λ s ne. refl }

pub ended_turn : (h : HallData Block) (r : Rules) (reach : Reaches) (run : Run) (g : Guest) (e : RunEnd) → IsAt run h g → (machine h).ending ≡ Some e → IsOneTurn reach r run h h g g
unfolding one_turn
ended_turn h r reach run g e at is = stays h r reach run g at (ap (turn_unless h.case reach (serial_rules r) run g.slot) (ap (λ (b : Both). b.machine.ending) at.both ∙ is))

pub idle_turn : (h : HallData Block) (r : Rules) (reach : Reaches) (run : Run) (g : Guest) → IsAt run h g → (machine h).ending ≡ None → thread_in (machine h) g.slot ≡ None → IsOneTurn reach r run h h g g
unfolding one_turn
idle_turn h r reach run g at going none = stays h r reach run g at (ap (turn_unless h.case reach (serial_rules r) run g.slot) (ap (λ (b : Both). b.machine.ending) at.both ∙ going) ∙ ap (serial.turn_of h.case reach (serial_rules r) run g.slot) (ap (λ (b : Both). thread_in b.machine g.slot) at.both ∙ none))

-- ---- endings

pub some_ending : (o : Option RunEnd) → is_some o ≡ true → (e : RunEnd) × (o ≡ Some e)
some_ending None s = absurd (let clash : false ≡ true = s in cc)
some_ending (Some e) s = (e, refl)

pub none_ending : (o : Option RunEnd) → is_some o ≡ false → o ≡ None
none_ending None s = refl
none_ending (Some e) s = absurd (let clash : true ≡ false = s in cc)

-- without private steps a guest's thread is where its last entry left it
pub stands_first : (h : HallData Block) (g : Guest) (t : ℕ) (d : Stand) → slot_of t ≡ g.slot → g.own.k ≡ 0 → IsAhead h.case (both h) g.slot g.own.k d → d ≡ stand_at (both h) (slot_of t)
stands_first h g t d slot told ahead = stands_at h.case (both h) g.slot g.own.k d told ahead ∙ ap (stand_at (both h)) (sym slot)
