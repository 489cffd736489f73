-- Requests of the library, in a turn.
use Rattle.std.proofs.Common.{◌≡◌, ◌≢◌, ℕ, zero, suc, ◌+◌, ◌-◌, ◌<◌, ◌≤◌, ◌==◌, Bool, true, false, cond, List, [], ◌∷◌, ◌++◌, inl, inr, length, take, Option, Some, None, Result, Ok, Err, IsSome, slice_set, refl, sym, subst, ap, arith, ◌∙◌, ◌⊎◌}
use Rattle.std.specs.Prelude.{IsErr, is_none, option_and_then, ◌&&◌}
use Rattle.std.proofs.lemmas.Grind.{get_or-set_at}
use Rattle.std.proofs.lemmas.List.{get_or-set_other, length-append, length-set}
use Rattle.std.proofs.Math.Seq.{set-append_seam, take-append_seam}
use Rattle.std.proofs.lemmas.Bool.{eqb-false, eqb-true}
use Rattle.std.proofs.lemmas.Option.{none-some, same_Some}
use Rattle.std.specs.declared.alloc.AllocError.{AllocError}
use Rattle.address_space.specs.Slots.{slot_of}
use Rattle.callbacks.specs.declared.Frame.{Frame}
use Rattle.elf_image.specs.Layout.{ImageData, function_at}
use Rattle.elf_image.specs.declared.place.Function.{Function}
use Rattle.elf_image.specs.declared.place.Function.TheVariants as function
use Rattle.ir_syntax.specs.declared.block.Block.{Block}
use Rattle.journal_pack.specs.declared.entry.Entry.TheVariants.{Ev, Wait}
use Rattle.lib_table.specs.declared.answer.BadKind.{BadKind}
use Rattle.lib_table.specs.declared.answer.Called.{Called}
use Rattle.lib_table.specs.declared.answer.Called.TheVariants.{Back, Probe, Over, Stay}
use Rattle.lib_table.specs.declared.ask.Ask.{Ask}
use Rattle.lib_table.specs.declared.ask.Asked.{Asked}
use Rattle.lib_table.specs.declared.ask.Asked.TheVariants.{Lib, EndDoor}
use Rattle.lib_table.specs.Library.{LibraryData}
use Rattle.lib_table.specs.Outcome.{Bad, Done, RowResult}
use Rattle.lib_table.specs.Row.{is_waiting, row, waits}
use Rattle.lib_table.specs.Steps.{told}
use Rattle.lib_table.specs.declared.answer.Stepped.{Stepped}
use Rattle.lib_table.specs.declared.answer.Stepped.TheVariants as stepped
use Rattle.tso_memory.specs.Memory.{Memory}
use Rattle.tso_memory.specs.Tso.{is_none_waiting}
use Rattle.x86_model.specs.declared.want.Door.{Door}
use Rattle.x86_model.specs.declared.want.Want.{Want}
use Rattle.x86_model.specs.declared.want.Want.TheVariants as wants
use Rattle.x86_model.specs.Want.{door_at, want}
use Rattle.basic_blocks.specs.Places.{is_code_place}
use Rattle.machine_model.specs.CaseData.{CaseData}
use Rattle.machine_model.specs.Frames.{AreCalls}
use Rattle.machine_model.specs.Gated.{Both, Stand, advance, gated_steps, stand_at}
use Rattle.machine_model.specs.Own.{writes_at}
use Rattle.machine_model.specs.Ready.{HasGrown}
use Rattle.machine_model.specs.Serial.{AreReaches, AtEvent, Point, Reaches, Turn, act, event, flush_some, flushed_before, is_missing}
use Rattle.machine_model.specs.State.{Core, list_at}
use Rattle.machine_model.specs.Step.{ask_of, asked_by, core_with, without_top}
use Rattle.machine_model.proofs.Comes.{both_more}
use Rattle.hall_core.specs.Hall.{Comes, HallData, NeedsAt, added, both, machine, mark_at, with_mark}
use Rattle.hall_core.specs.Shared.{Asks, has_to_wait, need_of}
use Rattle.guest_parts.specs.Calls.{AsksWith, FitsRegisters, IsAtCall, LeavesGone, asked_in, asked_of, goes_on, guest_after, place_after, request_of}
use Rattle.guest_parts.specs.Guest.{GuestData, IsWith, LeavesEnded, LeavesWith}
use Rattle.guest_parts.specs.Points.{Acts, point_at, turn_of, waiting_of}
use Rattle.guest_parts.proofs.CallEntries.{asks_with, call_answers, call_comes, call_ends, call_faults}
use Rattle.guest_parts.proofs.Entries.{wait_leaves}
use Rattle.guest_parts.proofs.Turns.{call_acts, stay_acts, wait_acts}
use Rattle.guest_steps.specs.declared.own.Own.{Own}
use Rattle.guest_steps.specs.declared.own.Position.TheVariants.{Between}
use Rattle.guest_steps.specs.declared.stretch.Came.TheVariants as came
use Rattle.guest_steps.specs.Ages.{AreAges}
use Rattle.guest_entries.specs.Called.{FitsAfter, at_after, data_after}
use Rattle.guest_entries.proofs.Adding.{flushes_free, free_first, free_none}
use Rattle.guest_steps.specs.Kept.{AreKept, Table}
use Rattle.guest_entries.specs.Entered.{AlongIn, CallIs, Entered, FlushedSome, OthersKeepMarks, Partly, Waited, turn_in}
use Rattle.guest_steps.specs.Own.{Along, IsUnder, data_of, position_of}
use Rattle.guest_steps.specs.Stretched.{StopsAt}
use Rattle.guest_entries.proofs.Accesses.{acts_flushed, no_flush, none_waiting}
use Rattle.guest_entries.proofs.Begins.{act_begins}
use Rattle.guest_entries.proofs.Composed.{along_flushed, entered_flushed}
use Rattle.guest_entries.proofs.Entering.{Left, entered_by, grown_event, grown_wait, left_ended, left_with, needs_at}

pub if_failed : (P : Result Bool AllocError → Type 0) → ((e : AllocError) → P (Err e)) → (r : Result Bool AllocError) → IsErr r → P r
if_failed P f (Ok x) h = absurd (let no : false ≡ true = h in cc)
if_failed P f (Err e) h = f e

-- ---- lists of calls back

at_seam : (n : ℕ) (l kept : List Frame) (x : Frame) → n ≡ length l → l ≡ kept ++ x ∷ [] → n - 1 ≡ length kept
at_seam n l kept x is e = omega (arith, is, ap length e, length-append kept (x ∷ []))

pub take_last : (n : ℕ) (l kept : List Frame) (x : Frame) → n ≡ length l → l ≡ kept ++ x ∷ [] → take (n - 1) l ≡ kept
take_last n l kept x is e = ap (λ m. take m l) (at_seam n l kept x is e) ∙ ap (take (length kept)) e ∙ take-append_seam kept (x ∷ [])

pub set_last : (n : ℕ) (l kept : List Frame) (x f : Frame) → n ≡ length l → l ≡ kept ++ x ∷ [] → slice_set l (n - 1) f ≡ kept ++ f ∷ []
set_last n l kept x f is e = ap (λ m. slice_set l m f) (at_seam n l kept x is e) ∙ ap (λ z. slice_set z (length kept) f) e ∙ set-append_seam kept x [] f

with_top_at : (n : ℕ) (l : List Frame) → length l ≡ suc n → (y : Frame) × (l ≡ take n l ++ y ∷ [])
with_top_at n [] e = absurd (omega (arith, e))
with_top_at zero (x ∷ []) e = (x, refl)
with_top_at zero (x ∷ y ∷ l) e = absurd (omega (arith, e))
with_top_at (suc n) (x ∷ l) e = let r = with_top_at n l (omega (arith, e)) in (r.0, ap (λ (q : List Frame). x ∷ q) r.1)

-- one that isn't empty is its calls but the innermost, and that one
pub with_top : (l : List Frame) → 0 < length l → (y : Frame) × (l ≡ without_top l ++ y ∷ [])
with_top l some = with_top_at (length l - 1) l (omega (arith, some))

pub dropped : (n : ℕ) (old new kept : List Frame) (x : Frame) → n ≡ length old → 1 < n → old ≡ kept ++ x ∷ [] → new ≡ take (n - 1) old → (y : Frame) × (new ≡ without_top kept ++ y ∷ [])
dropped n old new kept x is more e f =
    let r = with_top kept (omega (arith, is, more, ap length e, length-append kept (x ∷ []))) in
    (r.0, f ∙ take_last n old kept x is e ∙ r.1)

pub stayed : (n : ℕ) (old kept : List Frame) (x : Frame) → n ≡ length old → n ≤ 1 → old ≡ kept ++ x ∷ [] → (y : Frame) × (old ≡ without_top kept ++ y ∷ [])
stayed n old [] x is few e = (x, e)
stayed n old (y ∷ kept) x is few e = absurd (omega (arith, is, few, ap length e, length-append kept (x ∷ [])))

-- ---- answers

pub done_goes : (called : Called) → stepped.Done called ≢ stepped.Waits
done_goes called e = let clash : has_to_wait (stepped.Done called) ≡ has_to_wait stepped.Waits = ap has_to_wait e in absurd (let no : false ≡ true = clash in cc)

pub bad_goes : (kind : BadKind) → stepped.Bad kind ≢ stepped.Waits
bad_goes kind e = let clash : has_to_wait (stepped.Bad kind) ≡ has_to_wait stepped.Waits = ap has_to_wait e in absurd (let no : false ≡ true = clash in cc)

-- ---- a request

low_slot : (t : ℕ) → slot_of t < 64
unfolding slot_of
low_slot t = omega arith

some_made : (k : ℕ) → k ≢ 0 → 0 < k
some_made zero n = absurd (n refl)
some_made (suc k) n = omega arith

no_step : (image : ImageData) (grown : List ℕ) (k : ℕ) (d e : Stand) → k ≡ 0 → gated_steps image grown k d ≡ Some e → e ≡ d
unfolding gated_steps
no_step image grown zero d e none p = sym (same_Some d e p)
no_step image grown (suc k) d e none p = absurd (omega (arith, none))

-- a thread has at most 16 calls back under way
pub few_calls : (h : HallData Block) (t : ℕ) (own : Own) (table : Table) (d : Stand) → AreCalls (machine h) → AlongIn h t own table d → length own.frames.items ≤ 16
few_calls h t own table d calls along = subst (λ (l : List Frame). length l ≤ 16) along.with.frames (calls.frames (slot_of t)).few

need_asks : (core : Core) (w : Want) (what : Asked) → asked_by w ≡ Some what → need_of core w ≡ Asks (ask_of core what)
need_asks core (wants.Private next) what e = absurd (none-some what e)
need_asks core (wants.Load a w) what e = absurd (none-some what e)
need_asks core (wants.Store a w value next) what e = absurd (none-some what e)
need_asks core (wants.Fence next) what e = absurd (none-some what e)
need_asks core (wants.Locked a w change) what e = absurd (none-some what e)
need_asks core (wants.Call f) what e = ap (λ z. Asks (ask_of core z)) (same_Some _ what e)
need_asks core (wants.Door d) what e = ap (λ z. Asks (ask_of core z)) (same_Some _ what e)
need_asks core (wants.Bad kind) what e = absurd (none-some what e)

all_flushed : (w : Want) (what : Asked) (n : ℕ) → asked_by w ≡ Some what → flushed_before w n ≡ n
all_flushed (wants.Private next) what n e = absurd (none-some what e)
all_flushed (wants.Load a w) what n e = absurd (none-some what e)
all_flushed (wants.Store a w value next) what n e = absurd (none-some what e)
all_flushed (wants.Fence next) what n e = refl
all_flushed (wants.Locked a w change) what n e = refl
all_flushed (wants.Call f) what n e = refl
all_flushed (wants.Door d) what n e = refl
all_flushed (wants.Bad kind) what n e = absurd (none-some what e)

-- no instruction stands where something is asked
no_code : (d : Option Door) (f : Option Function) (what : Asked) → asked_of d f ≡ Some what → (is_none d && is_none f) ≡ false
no_code (Some d) f what e = refl
no_code None (Some f) what e = refl
no_code None None what e = absurd (none-some what e)

asked_no_code : (image : ImageData) (a : ℕ) (what : Asked) → asked_in image a ≡ Some what → is_code_place image a ≡ false
asked_no_code image a what e = no_code (door_at a) (function_at a image.entries) what e

not_missing : (image : ImageData) (grown : List ℕ) (d : Stand) → is_code_place image d.cpu.rip ≡ false → is_missing image grown d ≡ false
not_missing image grown d e = rw e refl

-- ---- a guest that asks

-- guests that keep the same stand with their thread alike
pub along_same : (c : CaseData) (b : Both) (t : ℕ) (own after : Own) (table : Table) (d : Stand) → data_of after ≡ data_of own → after.at ≡ own.at → Along c b t own table d → Along c b t after table d
along_same c b t own after table d e at a = record {
  going = a.going;
  with = subst (λ g. IsWith c b t g d) (sym e) a.with;
  under = subst (IsUnder c.image) (sym at) a.under;
  kept = a.kept;
}

module _ (h : HallData Block) (t a : ℕ) (what : Asked) (own : Own) (table : Table) (d : Stand) (along : AlongIn h t own table d) (stops : StopsAt (came.Library a what) h.case (both h) own d) where
  abbrev guest : GuestData
  guest = data_of own

  abbrev request : Ask
  request = request_of guest what

  abbrev must_wait : Bool
  must_wait = waits (machine h).library (machine h).tso.memory t request

  at_call : IsAtCall h.case guest a what
  at_call = (ap position_of stops.1, stops.2)

  asks : AsksWith h.case (both h) t guest d a what
  asks = asks_with h.case (both h) t guest d a what along.with at_call

  needs : need_of (core_with (machine h) t d.cpu) (want h.case.image d.cpu) ≡ Asks request
  needs = need_asks (core_with (machine h) t d.cpu) (want h.case.image d.cpu) what asks.wants ∙ ap Asks asks.asks

  pub call_needs : NeedsAt h t own.k a (Asks request)
  call_needs = needs_at h t own.k d (Asks request) a along.going along.with.ahead needs asks.rip

  module _ (none : own.ages ≡ []) where
    no_writes : length (writes_at (both h) t) ≡ 0
    no_writes = sym along.with.ages ∙ ap length none

    empty : is_none_waiting (writes_at (both h) t) ≡ true
    empty = none_waiting (writes_at (both h) t) no_writes

    pub call_may : must_wait ≡ false → Comes h (Ev t own.k)
    call_may free =
        let q = call_comes h.case (both h) t guest d a what along.with at_call along.going stops.0.below empty free in
        record { next = q.0; step = q.1; allowed = tt }

    -- before the request nothing goes to memory any more
    all_there : flush_some h.case t (length (list_at (machine h) (slot_of t))) (turn_in h own.ages) ≡ Some (turn_in h own.ages)
    all_there = no_flush h.case t (turn_in h own.ages) _ no_writes

    call_act : (n : Both) → must_wait ≡ false → advance h.case (both h) (Ev t own.k) ≡ Some n → Acts h.case t (point_at own.k d) (turn_in h own.ages) AtEvent (turn_of n (h.journal ++ Ev t own.k ∷ []) own.ages)
    call_act n free comes = call_acts h.case t (point_at own.k d) (turn_in h own.ages) (both h) h.journal own.ages what asks.wants all_there n (asks.waits ∙ free) comes

    entered_call : (new : HallData Block) (after : Own) → (left : Left h.case (both h) t (Ev t own.k) after table) → must_wait ≡ false → new ≡ added h (Ev t own.k) → after.ages ≡ own.ages → after.k ≡ 0 → Entered h new t own after table d AtEvent
    entered_call new after left free is same told =
        entered_by h new t own after table d (Ev t own.k) AtEvent left refl is (subst (λ z. Acts h.case t (point_at own.k d) (turn_in h own.ages) AtEvent (turn_of left.next (h.journal ++ Ev t own.k ∷ []) z)) (sym same) (call_act left.next free left.comes)) told (λ y. subst (AreAges 255) (sym same) y)

    free_of : (r : RowResult) → row (machine h).library (machine h).tso.memory t request ≡ r → is_waiting r ≡ false → must_wait ≡ false
    free_of r e f = ap is_waiting e ∙ f

    -- ---- answers

    module _ (library : LibraryData) (memory : Memory) (new : HallData Block) (after : Own) (is : new ≡ added h (Ev t own.k)) where
      gone_left : LeavesGone h.case (both h) t (Ev t own.k) → after.ages ≡ own.ages → Left h.case (both h) t (Ev t own.k) after table
      gone_left l same = record {
        next = l.next;
        comes = l.comes;
        on = λ going live. absurd (let clash : true ≡ false = sym live ∙ l.gone in cc);
        gone = λ going dead. same ∙ none;
      }

      over_left : ((what ≡ Lib function.Exit) × LeavesEnded h.case (both h) (Ev t own.k)) ⊎ ((what ≡ EndDoor) × LeavesGone h.case (both h) t (Ev t own.k)) → after.ages ≡ own.ages → Left h.case (both h) t (Ev t own.k) after table
      over_left (inl l) same = left_ended h.case (both h) t (Ev t own.k) after table l.1
      over_left (inr l) same = gone_left l.1 same

      with_left : (called : Called) → row (machine h).library (machine h).tso.memory t request ≡ Done library memory called → goes_on called ≡ true → FitsRegisters called → data_of after ≡ guest_after guest a what called → after.at ≡ Between (place_after called a) → Left h.case (both h) t (Ev t own.k) after table
      with_left called e goes fits same_data at =
          let l = call_answers h.case (both h) t guest d a what along.with at_call along.going stops.0.below empty library memory called e goes fits in
          let m : LeavesWith h.case (both h) t (Ev t own.k) (data_of after) = subst (LeavesWith h.case (both h) t (Ev t own.k)) (sym same_data) l in
          left_with h.case (both h) t (Ev t own.k) after table m (subst (IsUnder h.case.image) (sym at) tt) along.kept (grown_event h.case (both h) m.next t own.k along.going.whole m.comes)

      pub answered : (called : Called) → row (machine h).library (machine h).tso.memory t request ≡ Done library memory called → FitsRegisters called → data_of after ≡ guest_after guest a what called → after.at ≡ Between (place_after called a) → Entered h new t own after table d AtEvent
      answered (Back rax rsp rip popped) e fits same_data at = entered_call new after (with_left (Back rax rsp rip popped) e refl fits same_data at) (free_of _ e refl) is (ap (λ (g : GuestData). g.ages) same_data) (ap (λ (g : GuestData). g.k) same_data)
      answered (Probe frame place) e fits same_data at = entered_call new after (with_left (Probe frame place) e refl fits same_data at) (free_of _ e refl) is (ap (λ (g : GuestData). g.ages) same_data) (ap (λ (g : GuestData). g.k) same_data)
      answered Stay e fits same_data at = entered_call new after (with_left Stay e refl fits same_data at) (free_of _ e refl) is (ap (λ (g : GuestData). g.ages) same_data) (ap (λ (g : GuestData). g.k) same_data)
      answered Over e fits same_data at = let same : after.ages ≡ own.ages = ap (λ (g : GuestData). g.ages) same_data in entered_call new after (over_left (call_ends h.case (both h) t guest d a what along.with at_call along.going stops.0.below empty library memory e) same) (free_of _ e refl) is same (ap (λ (g : GuestData). g.k) same_data)

    pub faulted : (kind : BadKind) (new : HallData Block) (after : Own) → new ≡ added h (Ev t own.k) → row (machine h).library (machine h).tso.memory t request ≡ Bad kind → data_of after ≡ record guest { k = 0 } → Entered h new t own after table d AtEvent
    faulted kind new after is e same_data =
        entered_call new after (left_ended h.case (both h) t (Ev t own.k) after table (call_faults h.case (both h) t guest d a what along.with at_call along.going stops.0.below empty kind e)) (free_of _ e refl) is (ap (λ (g : GuestData). g.ages) same_data) (ap (λ (g : GuestData). g.k) same_data)

    pub followed : (step : Stepped) (n : HallData Block) (after : Own) (ask : Ask) → ask ≡ request → step ≢ stepped.Waits → row (machine h).library (machine h).tso.memory t ask ≡ told step (machine n).library (machine n).tso.memory → n ≡ cond (has_to_wait step) h (added h (Ev t own.k)) → FitsAfter step → data_of after ≡ data_after guest a what step → after.at ≡ at_after own.at a step → Entered h n t own after table d AtEvent
    followed (stepped.Done called) n after ask same goes e is fits same_data at = answered (machine n).library (machine n).tso.memory n after is called (ap (row (machine h).library (machine h).tso.memory t) (sym same) ∙ e) fits same_data at
    followed stepped.Waits n after ask same goes e is fits same_data at = absurd (goes refl)
    followed (stepped.Bad kind) n after ask same goes e is fits same_data at = faulted kind n after is (ap (row (machine h).library (machine h).tso.memory t) (sym same) ∙ e) same_data

    -- ---- waiting

    pub wait_may : must_wait ≡ true → 0 < own.k → Comes h (Wait t own.k)
    wait_may has_to some =
        let l = wait_leaves h.case (both h) t guest d along.going along.with some stops.0.below empty (asks.waits ∙ has_to) in
        record { next = l.next; step = l.comes; allowed = tt }

    still : own.k ≡ 0 → d ≡ stand_at (both h) (slot_of t)
    still none_made = no_step h.case.image (both h).gate.grown own.k (stand_at (both h) (slot_of t)) d none_made along.with.ahead

    marked_there : (m : HallData Block) (ask : Ask) → length m.marks ≡ 64 → mark_at (with_mark m (slot_of t) (Some ask)) (slot_of t) ≡ Some ask
    marked_there m ask sized = get_or-set_at m.marks (slot_of t) (slot_of t) (Some ask) None refl (omega (arith, sized, low_slot t))

    others_stay : (m : HallData Block) (ask : Ask) → OthersKeepMarks m (with_mark m (slot_of t) (Some ask)) t
    others_stay m ask = λ s ne. get_or-set_other m.marks (slot_of t) s (Some ask) None (λ q. ne q)

    -- right after the thread's last entry no entry is made
    waited_at_once : (ask : Ask) → length h.marks ≡ 64 → own.k ≡ 0 → must_wait ≡ true → Waited h (with_mark h (slot_of t) (Some ask)) t own (record own { k = 0 }) table d
    waited_at_once ask sized none_made has_to =
        let same : record own { k = 0 } ≡ own = ap (λ k. record own { k = k }) (sym none_made) in
        let there : d ≡ stand_at (both h) (slot_of t) = still none_made in
        record {
          case = refl;
          acts = stay_acts h.case t (point_at own.k d) (turn_in h own.ages) (both h) h.journal own.ages what asks.wants all_there none_made (asks.waits ∙ has_to);
          along = subst (λ (o : Own). Along h.case (both h) t o table (stand_at (both h) (slot_of t))) (sym same) (subst (Along h.case (both h) t own table) there along);
          settled = inr (subst (λ e. is_missing h.case.image (both h).gate.grown e ≡ false) there (not_missing h.case.image (both h).gate.grown d (ap (is_code_place h.case.image) asks.rip ∙ asked_no_code h.case.image a what stops.2)));
          told = refl;
          none = none;
          marked = subst IsSome (sym (marked_there h ask sized)) refl;
          marks = others_stay h ask;
        }

    -- after private steps one tells them
    waited_later : (ask : Ask) → length h.marks ≡ 64 → 0 < own.k → must_wait ≡ true → Waited h (with_mark (added h (Wait t own.k)) (slot_of t) (Some ask)) t own (record own { k = 0 }) table d
    waited_later ask sized some has_to =
        let e = Wait t own.k in
        let n = added h e in
        let l = wait_leaves h.case (both h) t guest d along.going along.with some stops.0.below empty (asks.waits ∙ has_to) in
        let after : Own = record own { k = 0 } in
        let on : Along h.case l.next t after table (stand_at l.next (slot_of t)) = record { going = l.going; with = l.with; under = along.under; kept = subst (λ g. AreKept h.case.image g table) (sym l.grown) along.kept } in
        let there : both n ≡ l.next = both_more h.case h.journal e l.next l.comes in
        record {
          case = refl;
          acts = subst (λ b. Acts h.case t (point_at own.k d) (turn_in h own.ages) AtEvent (waiting_of b (h.journal ++ e ∷ []) own.ages)) (sym there) (wait_acts h.case t (point_at own.k d) (turn_in h own.ages) (both h) h.journal own.ages what asks.wants all_there l.next some (asks.waits ∙ has_to) l.comes);
          along = subst (λ b. Along h.case b t (record own { k = 0 }) table (stand_at b (slot_of t))) (sym there) on;
          settled = subst (λ b. HasGrown h.case.image b (slot_of t)) (sym there) (grown_wait h.case (both h) l.next t own.k along.going.whole l.comes);
          told = refl;
          none = none;
          marked = subst IsSome (sym (marked_there n ask (length-set h.marks (slot_of t) None ∙ sized))) refl;
          marks = λ s ne. others_stay n ask s ne ∙ get_or-set_other h.marks (slot_of t) s None None (λ q. ne q);
        }

    waited_by : (ask : Ask) (b : Bool) → (own.k == 0) ≡ b → length h.marks ≡ 64 → must_wait ≡ true → Waited h (with_mark (cond b h (added h (Wait t own.k))) (slot_of t) (Some ask)) t own (record own { k = 0 }) table d
    waited_by ask true e sized has_to = waited_at_once ask sized (eqb-true own.k 0 e) has_to
    waited_by ask false e sized has_to = waited_later ask sized (some_made own.k (eqb-false own.k 0 e)) has_to

    pub waited : (ask : Ask) (v : HallData Block) → length h.marks ≡ 64 → must_wait ≡ true → v ≡ with_mark (cond (own.k == 0) h (added h (Wait t own.k))) (slot_of t) (Some ask) → Waited h v t own (record own { k = 0 }) table d
    waited ask v sized has_to is = subst (λ z. Waited h z t own (record own { k = 0 }) table d) (sym is) (waited_by ask (own.k == 0) refl sized has_to)

  -- one that has to wait stands with its thread as before
  pub not_served : (step : Stepped) (n : HallData Block) → step ≡ stepped.Waits → n ≡ cond (has_to_wait step) h (added h (Ev t own.k)) → n ≡ h
  not_served step n e is = is ∙ ap (λ z. cond (has_to_wait z) h (added h (Ev t own.k))) e

  pub still_along : (n : HallData Block) (after : Own) → n ≡ h → data_of after ≡ guest → after.at ≡ own.at → AlongIn n t after table d × StopsAt (came.Library a what) n.case (both n) after d
  still_along n after is same_data at = subst (λ z. AlongIn z t after table d × StopsAt (came.Library a what) z.case (both z) after d) (sym is) (along_same h.case (both h) t own after table d same_data at along, (record { below = subst (λ (g : GuestData). (machine h).steps + g.k < h.case.limit) (sym same_data) stops.0.below; few = subst (λ (g : GuestData). g.k < 4096) (sym same_data) stops.0.few }, at ∙ stops.1, stops.2))

  pub waited_same : (n new : HallData Block) (before after : Own) → n ≡ h → data_of before ≡ guest → Waited n new t before after table d → Waited h new t own after table d
  waited_same n new before after is same_data q = by_same (subst (λ z. Waited z new t before after table d) is q)
    where
      by_same : Waited h new t before after table d → Waited h new t own after table d
      by_same w = record {
        case = w.case;
        acts = subst (λ (g : GuestData). Acts h.case t (point_at g.k d) (turn_in h g.ages) AtEvent (waiting_of (both new) new.journal after.ages)) same_data w.acts;
        along = w.along;
        settled = w.settled;
        told = w.told;
        none = w.none;
        marked = w.marked;
        marks = w.marks;
      }

  -- ---- want of memory

  pub not_asked : (v : HallData Block) (after : Own) → v ≡ h → data_of after ≡ data_of own → after.at ≡ own.at → Partly h v t own after table d AtEvent
  not_asked v after is same_data at = subst (λ z. Partly h z t own after table d AtEvent) (sym is) (record {
    case = refl;
    stand = d;
    along = along_same h.case (both h) t own after table d same_data at along;
    fresh = λ y. subst (AreAges 255) (sym (ap (λ (g : GuestData). g.ages) same_data)) y;
    begins = λ reach right x p. act_begins h.case reach t (point_at own.k d) (turn_in h own.ages) x AtEvent p;
    tells = inl (free_none t h.journal, ap (λ (g : GuestData). g.k) same_data);
    marks = λ s ne. refl;
  })

-- ---- after waiting writes went to memory

act_flushed : (c : CaseData) (reach : Reaches) (t m : ℕ) (q : Point) (s now : Turn) (w : Want) → want c.image q.stand.cpu ≡ w → flushed_before w (length (list_at s.both.machine (slot_of t))) ≡ m → flush_some c t m s ≡ Some now → flushed_before w (length (list_at now.both.machine (slot_of t))) ≡ 0 → act c reach t q s AtEvent ≡ act c reach t q now AtEvent
act_flushed c reach t m q s now w e count flushed none =
    let first : flush_some c t (flushed_before (want c.image q.stand.cpu) (length (list_at s.both.machine (slot_of t)))) s ≡ Some now = ap (λ z. flush_some c t z s) (ap (λ z. flushed_before z (length (list_at s.both.machine (slot_of t)))) e ∙ count) ∙ flushed in
    let second : flush_some c t (flushed_before (want c.image q.stand.cpu) (length (list_at now.both.machine (slot_of t)))) now ≡ Some now = no_flush c t now _ (ap (λ z. flushed_before z (length (list_at now.both.machine (slot_of t)))) e ∙ none) in
    ap (option_and_then (event c t q)) first ∙ sym (ap (option_and_then (event c t q)) second)

module _ (h n last : HallData Block) (t a : ℕ) (what : Asked) (own after : Own) (ages : List ℕ) (table : Table) (d : Stand) (along : AlongIn h t own table d) (stops : StopsAt (came.Library a what) h.case (both h) own d) (f : FlushedSome h n t (length own.ages) (data_of own) ages d) (none : ages ≡ []) where
  abbrev before : Own
  before = record own { ages = ages }

  pub along_now : AlongIn n t before table d
  along_now = along_flushed h n t (length own.ages) own ages table d along f

  pub stops_now : StopsAt (came.Library a what) n.case (both n) before d
  stops_now = (record { below = omega (arith, stops.0.below, f.steps, ap (λ (c : CaseData). c.limit) f.case); few = stops.0.few }, stops.1, subst (λ (c : CaseData). asked_in c.image a ≡ Some what) (sym f.case) stops.2)

  abbrev wanted : Want
  wanted = want h.case.image d.cpu

  asked : asked_by wanted ≡ Some what
  asked = (asks_with h.case (both h) t (data_of own) d a what along.with (ap position_of stops.1, stops.2)).wants

  count : flushed_before wanted (length (list_at (both h).machine (slot_of t))) ≡ length own.ages
  count = all_flushed wanted what (length (list_at (both h).machine (slot_of t))) asked ∙ sym along.with.ages

  left : flushed_before wanted (length (list_at (both n).machine (slot_of t))) ≡ 0
  left = all_flushed wanted what (length (list_at (both n).machine (slot_of t))) asked ∙ sym f.with.ages ∙ ap length none

  young : AreAges 255 own.ages → AreAges 255 ages
  young y = subst (AreAges 255) (sym none) tt

  waited_flushed : Waited n last t before after table d → Waited h last t own after table d
  waited_flushed q = record {
    case = q.case ∙ f.case;
    acts = acts_flushed h.case t (length own.ages) (point_at own.k d) (turn_in h own.ages) (turn_in n ages) (waiting_of (both last) last.journal after.ages) wanted refl count f.are_flushes left (subst (λ c. Acts c t (point_at own.k d) (turn_in n ages) AtEvent (waiting_of (both last) last.journal after.ages)) f.case q.acts);
    along = q.along;
    settled = subst (λ (c : CaseData). HasGrown c.image (both last) (slot_of t)) f.case q.settled;
    told = q.told;
    none = q.none;
    marked = q.marked;
    marks = λ s ne. q.marks s ne ∙ f.marks s ne;
  }

  partly_flushed : Partly n last t before after table d AtEvent → Partly h last t own after table d AtEvent
  partly_flushed q = record {
    case = q.case ∙ f.case;
    stand = q.stand;
    along = q.along;
    fresh = λ y. q.fresh (young y);
    begins = λ reach right x p. q.begins reach (subst (λ (c : CaseData). AreReaches c.image reach) (sym f.case) right) x (subst (λ (c : CaseData). act c reach t (point_at own.k d) (turn_in n ages) AtEvent ≡ Some x) (sym f.case) (sym (act_flushed h.case reach t (length own.ages) (point_at own.k d) (turn_in h own.ages) (turn_in n ages) wanted refl count f.are_flushes left) ∙ p));
    tells = free_first t h.journal n.journal last.journal own.k after.k (flushes_free h.case t (length own.ages) (turn_in h own.ages) (turn_in n ages) f.are_flushes) q.tells;
    marks = λ s ne. q.marks s ne ∙ f.marks s ne;
  }

  pub call_flushed : (result : Result Bool AllocError) → CallIs result n last t before after table d → CallIs result h last t own after table d
  call_flushed (Ok false) q = entered_flushed h n last t (length own.ages) own own after ages table table d wanted refl f refl count left young q
  call_flushed (Ok true) q = waited_flushed q
  call_flushed (Err e) q = partly_flushed q
