-- What an entry leaves of the calls back that threads have under way, and of the controls whose routines they run.
use Rattle.std.proofs.Common.{◌≡◌, ◌≢◌, ℕ, zero, suc, ◌+◌, ◌-◌, ◌<◌, ◌≤◌, ◌^◌, ◌⊎◌, inl, inr, Bool, true, false, cond, List, [], ◌∷◌, ◌++◌, Option, Some, None, All, refl, sym, ap, ◌∙◌, subst, arith, length, take, slice_set, slice_index_or, ◌==◌, length-append, replicate}
use Rattle.std.specs.Prelude.{option_and_then, slice_get}
use Rattle.std.specs.Ordering.{nat_cmp}
use Rattle.std.specs.FinMap.{FinMap, get, insert, get-insert}
use Rattle.std.proofs.lemmas.Bool.{cases_eq}
use Rattle.std.specs.Cmp.{unsigned_tied, nat_cmp_total}
use Rattle.std.proofs.lemmas.List.{get_or-set_other, get_or-set_same, length-take-le}
use Rattle.std.proofs.lemmas.List.Elements.{All-append, All-cons, All-nil, All-take}
use Rattle.std.proofs.lemmas.Option.{option_and_then_some, none-some, same_Some, cond_some, slice_get_within, get_or_from_slice_get}
use Rattle.callbacks.specs.declared.Frame.{Frame}
use Rattle.address_space.specs.Slots.{slot_of}
use Rattle.lib_table.specs.declared.answer.Called.{Called}
use Rattle.lib_table.specs.declared.answer.Called.TheVariants.{Back, Probe, Over, Stay}
use Rattle.lib_table.specs.declared.ask.Asked.{Asked}
use Rattle.lib_table.specs.declared.ask.Asked.TheVariants.{Lib, EndDoor, CallDoor}
use Rattle.lib_table.specs.declared.slot.Birth.{Birth}
use Rattle.lib_table.specs.Library.{LibraryData, HasNumbers, birth}
use Rattle.lib_table.specs.Steps.{CanAsk, HasLeft, HasRunning, RunsRoutine}
use Rattle.lib_table.specs.Outcome.{RowResult, Done, Waits, Bad}
use Rattle.sync_more.specs.declared.state.Control.{Control}
use Rattle.sync_more.specs.declared.state.Control.TheVariants as control
use Rattle.sync_more.specs.Once.{is_run, is_running}
use Rattle.tso_memory.specs.declared.change.Change.{Change}
use Rattle.tso_memory.specs.declared.write.PendingWrite.{PendingWrite}
use Rattle.tso_memory.specs.Buffer.{pending, size_of}
use Rattle.tso_memory.specs.declared.access.Access.TheVariants as access
use Rattle.tso_memory.specs.Tso.{is_none_waiting}
use Rattle.x86_model.specs.declared.cpu.Cpu.{Cpu}
use Rattle.x86_model.specs.declared.want.Want.{Want}
use Rattle.x86_model.specs.declared.want.Want.TheVariants as wants
use Rattle.x86_model.specs.Want.{want}
use Rattle.journal_pack.specs.declared.entry.Entry.{Entry}
use Rattle.journal_pack.specs.declared.entry.Entry.TheVariants as entry
use Rattle.journal_pack.specs.Entry.{private_of}
use Rattle.machine_model.specs.CaseData.{CaseData}
use Rattle.machine_model.specs.Conversions.{memory_width_of, memory_change_of, asked_at}
use Rattle.machine_model.specs.Play.{play}
use Rattle.machine_model.specs.State.{Core, Machine, IsSized, core_at, first_core, is_live, list_at, no_core, start, with_core}
use Rattle.machine_model.specs.Step.{loaded, stored, exchanged, flushed, newborn, born_core, with_birth, without_top, row_at, ask_of, called, core_with, served, serving, carried_out, later, missed, refused, slot_in, admits, after_private, cpu_at, step_from, step}
use Rattle.machine_model.specs.Frames.{HasElements, AreFrames, SameControls, ControlsDone, ControlsBegun, Calls, control_in, control_at, AreCalls}
use Rattle.machine_model.proofs.Independence.{HasSlots, if_some}
use Rattle.address_space.proofs.Numbers.{slot_below}
use Rattle.machine_model.proofs.RowLives.{row_stays, set_either}
use Rattle.machine_model.proofs.Sizes.{sized_at_start, sized_stays, walked}

-- ---- lists

get_take : {A : Type 0} (xs : List A) (k i : ℕ) (x : A) → slice_get (take k xs) i ≡ Some x → slice_get xs i ≡ Some x
get_take [] zero i x e = e
get_take [] (suc k) i x e = e
get_take (y ∷ ys) zero i x e = absurd (none-some x e)
get_take (y ∷ ys) (suc k) zero x e = e
get_take (y ∷ ys) (suc k) (suc i) x e = get_take ys k i x e

get_append : {A : Type 0} (xs : List A) (y : A) (i : ℕ) (x : A) → slice_get (xs ++ y ∷ []) i ≡ Some x → (slice_get xs i ≡ Some x) ⊎ ((i ≡ length xs) × (y ≡ x))
get_append [] y zero x e = inr (refl, same_Some y x e)
get_append [] y (suc i) x e = absurd (none-some x e)
get_append (z ∷ xs) y zero x e = inl e
get_append (z ∷ xs) y (suc i) x e = elim (get_append xs y i x e) [ inl h ↦ inl h | inr h ↦ inr (let n = h.0 in omega arith, h.1) ]

-- ---- calls of one thread

-- the calls of a thread are such, and each control in them was in them before
record Fewer (old new : List Frame) : Type 0 where
  frames : AreFrames new
  each : (i c : ℕ) → control_in new i ≡ Some c → control_in old i ≡ Some c

fewer_same : (fs : List Frame) → AreFrames fs → Fewer fs fs
fewer_same fs h = record { frames = h; each = λ i c e. e }

fewer_none : (fs : List Frame) → Fewer fs []
fewer_none fs = record { frames = record { few = omega arith; left = All-nil HasElements }; each = λ i c e. absurd (none-some c e) }

top_frames : (fs : List Frame) → AreFrames fs → AreFrames (without_top fs)
top_frames fs h = record { few = let n = length-take-le (length fs - 1) fs (omega arith) in let m = h.few in omega arith; left = All-take HasElements (length fs - 1) fs h.left }

control_take : (fs : List Frame) (k i c : ℕ) → control_in (take k fs) i ≡ Some c → control_in fs i ≡ Some c
control_take fs k i c e = option_and_then_some (λ (f : Frame). f.control) (slice_get (take k fs) i) c e (λ f p q. ap (option_and_then (λ (x : Frame). x.control)) (get_take fs k i f p) ∙ q)

control_append : (fs : List Frame) (g : Frame) (i c : ℕ) → control_in (fs ++ g ∷ []) i ≡ Some c → (control_in fs i ≡ Some c) ⊎ ((i ≡ length fs) × (g.control ≡ Some c))
control_append fs g i c e = option_and_then_some (λ (f : Frame). f.control) (slice_get (fs ++ g ∷ []) i) c e (λ f p q.
    elim (get_append fs g i f p) [
      | inl h ↦ inl (ap (option_and_then (λ (x : Frame). x.control)) h ∙ q)
      | inr h ↦ inr (h.0, ap (λ (x : Frame). x.control) h.1 ∙ q)
    ])

fewer_top : (fs : List Frame) → AreFrames fs → Fewer fs (without_top fs)
fewer_top fs h = record { frames = top_frames fs h; each = control_take fs (length fs - 1) }

pushed_frames : (fs : List Frame) (g : Frame) → AreFrames fs → length fs < 16 → HasElements g → AreFrames (fs ++ g ∷ [])
pushed_frames fs g h few left = record { few = let n = length-append fs (g ∷ []) in omega arith; left = All-append HasElements fs (g ∷ []) h.left (All-cons HasElements g [] left (All-nil HasElements)) }

-- a call that is no routine is added
plain_each : (old fs : List Frame) (g : Frame) → g.control ≡ None → ((i c : ℕ) → control_in fs i ≡ Some c → control_in old i ≡ Some c) → (i c : ℕ) → control_in (fs ++ g ∷ []) i ≡ Some c → control_in old i ≡ Some c
plain_each old fs g none each i c e = elim (control_append fs g i c e) [ inl h ↦ each i c h | inr h ↦ absurd (none-some c (sym none ∙ h.1)) ]

-- ---- controls

get_inserted : (m : FinMap nat_cmp Control) (x y : ℕ) (v : Control) → get (insert m x v) y ≡ cond (y == x) (Some v) (get m y)
get_inserted m x y v = get-insert nat_cmp_total m x v y ∙ ap (λ t. cond t (Some v) (get m y)) (unsigned_tied y x)

still_running : (m : FinMap nat_cmp Control) (x y t : ℕ) → is_run (get m y) ≡ true → is_run (get (insert m x (control.Running t)) y) ≡ true
still_running m x y t h =
    ap is_run (get_inserted m x y (control.Running t)) ∙ elim (y == x) as (λ b. is_run (cond b (Some (control.Running t)) (get m y)) ≡ true) [ true ↦ refl | false ↦ h ]

other_running : (m : FinMap nat_cmp Control) (x y : ℕ) (v : Control) → y ≢ x → is_run (get m y) ≡ true → is_run (get (insert m x v) y) ≡ true
other_running m x y v ne h =
    ap is_run (get_inserted m x y v) ∙ elim (y == x) as (λ b. (y == x) ≡ b → is_run (cond b (Some v) (get m y)) ≡ true) [ true ↦ λ e. absurd (ne (grind (arith, e))) | false ↦ λ e. h ] refl

-- ---- machines

abbrev frames_at : Machine → ℕ → List Frame
frames_at m s = (core_at m s).frames

-- what each thread has under way is less, and what is left of routines runs
calls_fewer : (m n : Machine) → AreCalls m → ((u : ℕ) → Fewer (frames_at m u) (frames_at n u)) → ((u i c : ℕ) → control_at n u i ≡ Some c → is_running m.library.rooms c ≡ true → is_running n.library.rooms c ≡ true) → AreCalls n
calls_fewer m n h less runs = record {
  frames = λ s. (less s).frames;
  running = λ s i c e. runs s i c e (h.running s i c ((less s).each i c e));
  distinct = λ s i u j c e f. h.distinct s i u j c ((less s).each i c e) ((less u).each j c f);
}

same_runs : (m n : Machine) → SameControls m.library n.library → (u i c : ℕ) → control_at n u i ≡ Some c → is_running m.library.rooms c ≡ true → is_running n.library.rooms c ≡ true
same_runs m n e u i c at h = ap (λ x. is_run (get x c)) e ∙ h

-- nothing of any call changes
calls_same : (m n : Machine) → ((u : ℕ) → frames_at n u ≡ frames_at m u) → SameControls m.library n.library → AreCalls m → AreCalls n
calls_same m n same e h = calls_fewer m n h (λ u. subst (λ fs. Fewer (frames_at m u) fs) (sym (same u)) (fewer_same (frames_at m u) (h.frames u))) (same_runs m n e)

-- a core with the same calls
with_frames : (m : Machine) (s : ℕ) (core : Core) (u : ℕ) → core.frames ≡ frames_at m s → (slice_index_or (slice_set m.cores s core) u no_core).frames ≡ frames_at m u
with_frames m s core u e = set_either (λ (x : Core). x.frames ≡ frames_at m u) m.cores s u core no_core (λ same. e ∙ ap (frames_at m) (sym same)) refl

-- ---- requests

born_frames : (s : ℕ) (b : Option Birth) → (born_core s b).frames ≡ []
born_frames s None = refl
born_frames s (Some b) = refl

-- what holds of the calls of each thread after a birth
after_birth : (P : ℕ → List Frame → Type 0) (n : Machine) (o : Option ℕ) → ((u : ℕ) → P u []) → ((u : ℕ) → P u (frames_at n u)) → (u : ℕ) → P u (frames_at (with_birth n o) u)
after_birth P n None none all u = all u
after_birth P n (Some v) none all u = set_either (λ (x : Core). P u x.frames) n.cores v u (born_core v (birth n.library v)) no_core (λ _. subst (P u) (sym (born_frames v (birth n.library v))) (none u)) (all u)

birth_library : (n : Machine) (o : Option ℕ) → (with_birth n o).library ≡ n.library
birth_library n None = refl
birth_library n (Some v) = refl

-- the machine after a request, but for a birth
abbrev answered : Machine → ℕ → Core → LibraryData → Machine → Machine
answered m s core library n = record n { cores = slice_set m.cores s core; library = library }

-- what holds of the calls of all threads but one, and of that one's new ones
each_thread : (P : ℕ → List Frame → Type 0) (cores : List Core) (s : ℕ) (core : Core) → s < length cores → ((u : ℕ) → u ≢ s → P u (slice_index_or cores u no_core).frames) → P s core.frames → (u : ℕ) → P u (slice_index_or (slice_set cores s core) u no_core).frames
each_thread P cores s core inside all own u =
    elim (cases_eq u s) [
      | inl e ↦ subst (λ v. P v (slice_index_or (slice_set cores s core) v no_core).frames) (sym e) (subst (λ (x : Core). P s x.frames) (sym (get_or-set_same cores s core no_core inside)) own)
      | inr ne ↦ subst (λ (x : Core). P u x.frames) (sym (get_or-set_other cores s u core no_core ne)) (all u ne)
    ]

-- the calls of a machine whose slot s has a new core, and in which one may be born
module _ (m : Machine) (n : Machine) (s : ℕ) (core : Core) (o : Option ℕ) (cores : n.cores ≡ slice_set m.cores s core) (inside : s < length m.cores) (h : AreCalls m) where
  of_each : (P : ℕ → List Frame → Type 0) → ((u : ℕ) → P u []) → ((u : ℕ) → u ≢ s → P u (frames_at m u)) → P s core.frames → (u : ℕ) → P u (frames_at (with_birth n o) u)
  of_each P none all own = after_birth P n o none (λ u. subst (λ (xs : List Core). P u (slice_index_or xs u no_core).frames) (sym cores) (each_thread P m.cores s core inside all own u))

  runs_by : (u c : ℕ) → is_run (get n.library.rooms.controls c) ≡ true → is_running (with_birth n o).library.rooms c ≡ true
  runs_by u c e = ap (λ (x : LibraryData). is_running x.rooms c) (birth_library n o) ∙ e

  all_fewer : Fewer (frames_at m s) core.frames → (u : ℕ) → Fewer (frames_at m u) (frames_at (with_birth n o) u)
  all_fewer own = of_each (λ u fs. Fewer (frames_at m u) fs) (λ u. fewer_none (frames_at m u)) (λ u ne. fewer_same (frames_at m u) (h.frames u)) own

  fewer_calls : Fewer (frames_at m s) core.frames → SameControls m.library n.library → AreCalls (with_birth n o)
  fewer_calls own e = calls_fewer m (with_birth n o) h (all_fewer own) (λ u i c f run. runs_by u c (ap (λ x. is_run (get x c)) e ∙ run))

  counted : (xs : List Frame) (i c k : ℕ) → k ≤ length xs → control_in (take k xs) i ≡ Some c → i < k
  counted xs i c k le f = option_and_then_some (λ (x : Frame). x.control) (slice_get (take k xs) i) c f (λ x p q. let w = slice_get_within (take k xs) i x p in let l = length-take-le k xs le in omega arith)

  below : core.frames ≡ without_top (frames_at m s) → (u i c : ℕ) → u ≡ s → control_at (with_birth n o) u i ≡ Some c → i < length (frames_at m s) - 1
  below frames u i c same f =
      of_each (λ v ys. v ≡ s → control_in ys i ≡ Some c → i < length (frames_at m s) - 1) (λ v _ g. absurd (none-some c g)) (λ v ne e _. absurd (ne e))
      (λ _ g. counted (frames_at m s) i c (length (frames_at m s) - 1) (omega arith) (ap (λ x. control_in x i) (sym frames) ∙ g)) u same f

  -- the innermost call was that of a routine
  popped_calls : (top : Frame) (c0 : ℕ) → core.frames ≡ without_top (frames_at m s) → slice_get (frames_at m s) (length (frames_at m s) - 1) ≡ Some top → top.control ≡ Some c0 → n.library.rooms.controls ≡ insert m.library.rooms.controls c0 control.Done → AreCalls (with_birth n o)
  popped_calls top c0 frames at routine e =
      let last : ℕ = length (frames_at m s) - 1 in
      let less = all_fewer (subst (Fewer (frames_at m s)) (sym frames) (fewer_top (frames_at m s) (h.frames s))) in
      let innermost : control_at m s last ≡ Some c0 = ap (option_and_then (λ (f : Frame). f.control)) at ∙ routine in
      calls_fewer m (with_birth n o) h less (λ u i c f run.
      runs_by u c (ap (λ x. is_run (get x c)) e
      ∙ other_running m.library.rooms.controls c0 c control.Done (λ same.
      let d = h.distinct u i s last c ((less u).each i c f) (innermost ∙ ap Some (sym same)) in
      let b = below frames u i c d.0 f in
      let e1 : i ≡ last = d.1 in
      absurd (omega (arith, b, e1))) run))

  -- where a control is, after the routine of c0 began
  abbrev Where : ℕ → ℕ → ℕ → ℕ → Type 0
  Where c0 u i c = (control_at m u i ≡ Some c) ⊎ ((u ≡ s) × (i ≡ length (frames_at m s)) × (c ≡ c0))

  where_is : (g : Frame) (c0 : ℕ) → core.frames ≡ frames_at m s ++ g ∷ [] → g.control ≡ Some c0 → (u i c : ℕ) → control_at (with_birth n o) u i ≡ Some c → Where c0 u i c
  where_is g c0 frames routine u i c f =
      of_each (λ v fs. control_in fs i ≡ Some c → Where c0 v i c) (λ v p. absurd (none-some c p)) (λ v ne p. inl p)
      (λ p. elim (control_append (frames_at m s) g i c (ap (λ x. control_in x i) (sym frames) ∙ p)) [ inl q ↦ inl q | inr q ↦ inr (refl, q.0, same_Some c c0 (sym q.1 ∙ routine)) ]) u f

  begun_runs : (c0 t u i c : ℕ) → Where c0 u i c → is_run (get (insert m.library.rooms.controls c0 (control.Running t)) c) ≡ true
  begun_runs c0 t u i c (inl p) = still_running m.library.rooms.controls c0 c t (h.running u i c p)
  begun_runs c0 t u i c (inr p) = ap is_run (get_inserted m.library.rooms.controls c0 c (control.Running t)) ∙ ap (λ b. is_run (cond b (Some (control.Running t)) (get m.library.rooms.controls c))) (let q : c ≡ c0 = p.2 in let r : (c == c0) ≡ true = grind (arith, q) in r)

  was_none : (c0 u i c : ℕ) → get m.library.rooms.controls c0 ≡ None → control_at m u i ≡ Some c → c ≡ c0 → ⊥
  was_none c0 u i c new p q = let r : false ≡ true = sym (ap is_run (ap (get m.library.rooms.controls) q ∙ new)) ∙ h.running u i c p in cc

  begun_apart : (c0 u i v j c : ℕ) → get m.library.rooms.controls c0 ≡ None → Where c0 u i c → Where c0 v j c → (u ≡ v) × (i ≡ j)
  begun_apart c0 u i v j c new (inl p) (inl q) = h.distinct u i v j c p q
  begun_apart c0 u i v j c new (inl p) (inr q) = absurd (was_none c0 u i c new p q.2)
  begun_apart c0 u i v j c new (inr p) (inl q) = absurd (was_none c0 v j c new q p.2)
  begun_apart c0 u i v j c new (inr p) (inr q) = (p.0 ∙ sym q.0, p.1 ∙ sym q.1)

  -- a routine begins
  begun_calls : (g : Frame) (c0 t : ℕ) → core.frames ≡ frames_at m s ++ g ∷ [] → length (frames_at m s) < 16 → HasElements g → g.control ≡ Some c0 → get m.library.rooms.controls c0 ≡ None → n.library.rooms.controls ≡ insert m.library.rooms.controls c0 (control.Running t) → AreCalls (with_birth n o)
  begun_calls g c0 t frames few left routine new e = record {
    frames = of_each (λ u fs. AreFrames fs) (λ u. (fewer_none []).frames) (λ u ne. h.frames u) (subst AreFrames (sym frames) (pushed_frames (frames_at m s) g (h.frames s) few left));
    running = λ u i c f. runs_by u c (ap (λ x. is_run (get x c)) e ∙ begun_runs c0 t u i c (where_is g c0 frames routine u i c f));
    distinct = λ u i v j c f k. begun_apart c0 u i v j c new (where_is g c0 frames routine u i c f) (where_is g c0 frames routine v j c k);
  }

-- ---- what a request leaves

last_some : {A : Type 0} (xs : List A) (x : A) → slice_get xs (length xs - 1) ≡ Some x → 0 < length xs
last_some xs x e = let w = slice_get_within xs (length xs - 1) x e in omega arith

answer_calls : (m : Machine) (t : ℕ) (cpu : Cpu) (what : Asked) (answer : Called) (after : LibraryData) (n : Machine) (o : Option ℕ) → n.cores ≡ slice_set m.cores (slot_of t) (called (core_with m t cpu) what answer) → n.library ≡ after → slot_of t < length m.cores → AreCalls m → Calls what m.library after t (ask_of (core_with m t cpu) what) answer → AreCalls (with_birth n o)
answer_calls m t cpu what (Back rax rsp rip false) after n o cores lib inside h says =
    fewer_calls m n (slot_of t) _ o cores inside h (fewer_same (frames_at m (slot_of t)) (h.frames (slot_of t))) (ap (λ (x : LibraryData). x.rooms.controls) lib ∙ says)
answer_calls m t cpu what (Back rax rsp rip true) after n o cores lib inside h says = returned_calls says.frame.control refl
  where
    returned_calls : (k : Option ℕ) → says.frame.control ≡ k → AreCalls (with_birth n o)
    returned_calls None e = fewer_calls m n (slot_of t) _ o cores inside h (fewer_top (frames_at m (slot_of t)) (h.frames (slot_of t))) (ap (λ (x : LibraryData). x.rooms.controls) lib ∙ subst (λ k. ControlsDone k m.library after) e says.controls)
    returned_calls (Some c) e = popped_calls m n (slot_of t) _ o cores inside h says.frame c refl says.top e (ap (λ (x : LibraryData). x.rooms.controls) lib ∙ subst (λ k. ControlsDone k m.library after) e says.controls)
answer_calls m t cpu (Lib f) (Probe frame place) after n o cores lib inside h says = begun frame.control refl
  where
    begun : (k : Option ℕ) → frame.control ≡ k → AreCalls (with_birth n o)
    begun None e = fewer_calls m n (slot_of t) _ o cores inside h (record { frames = pushed_frames (frames_at m (slot_of t)) frame (h.frames (slot_of t)) says.room says.left; each = plain_each (frames_at m (slot_of t)) (frames_at m (slot_of t)) frame e (λ i c p. p) }) (ap (λ (x : LibraryData). x.rooms.controls) lib ∙ subst (λ k. ControlsBegun k m.library after t) e says.controls)
    begun (Some c) e = let k = subst (λ k. ControlsBegun k m.library after t) e says.controls in begun_calls m n (slot_of t) _ o cores inside h frame c t refl says.room says.left e k.0 (ap (λ (x : LibraryData). x.rooms.controls) lib ∙ k.1)
answer_calls m t cpu CallDoor (Probe frame place) after n o cores lib inside h says =
    let fs : List Frame = frames_at m (slot_of t) in
    let top = top_frames fs (h.frames (slot_of t)) in
    let some = last_some fs says.before says.top in
    let few : length (without_top fs) < 16 = let l = length-take-le (length fs - 1) fs (omega arith) in let k = (h.frames (slot_of t)).few in omega arith in
    fewer_calls m n (slot_of t) _ o cores inside h (record { frames = pushed_frames (without_top fs) frame top few says.left; each = plain_each fs (without_top fs) frame says.search (control_take fs (length fs - 1)) }) (ap (λ (x : LibraryData). x.rooms.controls) lib ∙ says.controls)
answer_calls m t cpu EndDoor (Probe frame place) after n o cores lib inside h says = absurd says
answer_calls m t cpu what Stay after n o cores lib inside h says = fewer_calls m n (slot_of t) _ o cores inside h (fewer_same (frames_at m (slot_of t)) (h.frames (slot_of t))) (ap (λ (x : LibraryData). x.rooms.controls) lib ∙ says)
answer_calls m t cpu what Over after n o cores lib inside h says = fewer_calls m n (slot_of t) _ o cores inside h (fewer_same (frames_at m (slot_of t)) (h.frames (slot_of t))) (ap (λ (x : LibraryData). x.rooms.controls) lib ∙ says)

calls_core : (m : Machine) (s : ℕ) (core : Core) (n : Machine) → n.cores ≡ slice_set m.cores s core → n.library ≡ m.library → core.frames ≡ frames_at m s → AreCalls m → AreCalls n
calls_core m s core n cores lib e h = calls_same m n (λ u. ap (λ (xs : List Core). (slice_index_or xs u no_core).frames) cores ∙ with_frames m s core u e) (ap (λ (x : LibraryData). x.rooms.controls) lib) h

calls_served : (m n : Machine) (t : ℕ) (cpu : Cpu) (what : Asked) (r : RowResult) → HasSlots m → slot_of t < length m.cores → AreCalls m → row_at m t (core_with m t cpu) what ≡ r → served m t (core_with m t cpu) what r ≡ Some n → AreCalls n
calls_served m n t cpu what (Done after memory answer) sized inside h e p =
    subst AreCalls (same_Some _ n p) (answer_calls m t cpu what answer after _ (newborn m.library after) refl refl inside h (row_stays m.library after m.tso.memory memory t 0 (ask_of (core_with m t cpu) what) answer sized e).calls)
calls_served m n t cpu what Waits sized inside h e p = absurd (none-some n p)
calls_served m n t cpu what (Bad kind) sized inside h e p = subst AreCalls (same_Some _ n p) (calls_core m (slot_of t) _ _ refl refl refl h)

calls_serving : (m n : Machine) (t : ℕ) (cpu : Cpu) (what : Asked) → HasSlots m → slot_of t < length m.cores → AreCalls m → serving m t (core_with m t cpu) what ≡ Some n → AreCalls n
calls_serving m n t cpu what sized inside h p = calls_served m n t cpu what (row_at m t (core_with m t cpu) what) sized inside h refl ((if_some (is_none_waiting (list_at m (slot_of t))) _ n p).1)

calls_loaded : (m : Machine) (t : ℕ) (cpu : Cpu) (a n : ℕ) (o : Option ℕ) → AreCalls m → AreCalls (loaded m t cpu a n o)
calls_loaded m t cpu a n None h = calls_core m (slot_of t) _ _ refl refl refl h
calls_loaded m t cpu a n (Some x) h = calls_core m (slot_of t) _ _ refl refl refl h

calls_stored : (m : Machine) (t : ℕ) (cpu : Cpu) (write : PendingWrite) (next : Cpu) (o : Option ℕ) → AreCalls m → AreCalls (stored m t cpu write next o)
calls_stored m t cpu write next None h = calls_core m (slot_of t) _ _ refl refl refl h
calls_stored m t cpu write next (Some x) h = calls_core m (slot_of t) _ _ refl refl refl h

calls_exchanged : (m : Machine) (t : ℕ) (cpu : Cpu) (a n : ℕ) (change : Change) (o : Option ℕ) → AreCalls m → AreCalls (exchanged m t cpu a n change o)
calls_exchanged m t cpu a n change None h = calls_core m (slot_of t) _ _ refl refl refl h
calls_exchanged m t cpu a n change (Some x) h = calls_core m (slot_of t) _ _ refl refl refl h

calls_carried : (w : Want) (m n : Machine) (t : ℕ) (cpu : Cpu) → HasSlots m → slot_of t < length m.cores → AreCalls m → carried_out w m t cpu ≡ Some n → AreCalls n
calls_carried (wants.Private next) m n t cpu sized inside h p = absurd (none-some n p)
calls_carried (wants.Load a w) m n t cpu sized inside h p = subst AreCalls (same_Some _ n p) (calls_loaded m t cpu a (size_of (memory_width_of w)) (refused m access.Load a (size_of (memory_width_of w))) h)
calls_carried (wants.Store a w value next) m n t cpu sized inside h p = subst AreCalls (same_Some _ n p) (calls_stored m t cpu (pending a (memory_width_of w) value) next (refused m access.Store a (size_of (memory_width_of w))) h)
calls_carried (wants.Fence next) m n t cpu sized inside h p = subst AreCalls (cond_some (is_none_waiting (list_at m (slot_of t))) _ n p).1 (calls_core m (slot_of t) _ _ refl refl refl h)
calls_carried (wants.Locked a w change) m n t cpu sized inside h p = subst AreCalls (cond_some (is_none_waiting (list_at m (slot_of t))) _ n p).1 (calls_exchanged m t cpu a (size_of (memory_width_of w)) (memory_change_of change) (refused m access.Locked a (size_of (memory_width_of w))) h)
calls_carried (wants.Call f) m n t cpu sized inside h p = calls_serving m n t cpu (Lib f) sized inside h p
calls_carried (wants.Door d) m n t cpu sized inside h p = calls_serving m n t cpu (asked_at d) sized inside h p
calls_carried (wants.Bad kind) m n t cpu sized inside h p = subst AreCalls (same_Some _ n p) (calls_core m (slot_of t) _ _ refl refl refl h)

calls_later : (m : Machine) (k : ℕ) → AreCalls m → AreCalls (later m k)
calls_later m k h = record { frames = h.frames; running = h.running; distinct = h.distinct }

calls_flushed : (m n : Machine) (s : ℕ) (writes : List PendingWrite) → AreCalls m → flushed m s writes ≡ Some n → AreCalls n
calls_flushed m n s [] h p = absurd (none-some n p)
calls_flushed m n s (w ∷ ws) h p = subst AreCalls (same_Some _ n p) (record { frames = h.frames; running = h.running; distinct = h.distinct })

calls_missed : (strict : Bool) (m : Machine) (t : ℕ) (cpu : Cpu) (k source target : ℕ) → AreCalls m → AreCalls (missed strict (later (with_core m (slot_of t) (core_with m t cpu)) k) (record { thread = t; source = source; target = target }))
calls_missed true m t cpu k source target h = calls_core m (slot_of t) _ _ refl refl refl h
calls_missed false m t cpu k source target h = calls_core m (slot_of t) _ _ refl refl refl h

calls_from : (c : CaseData) (m n : Machine) (e : Entry) (cpu : Cpu) → IsSized m → AreCalls m → step_from c m e cpu ≡ Some n → AreCalls n
calls_from c m n (entry.Ev t k) cpu z h p = calls_carried (want c.image cpu) (later m (k + 1)) n t cpu z.slots (let b = slot_below t in let l = z.cores in omega arith) (calls_later m (k + 1) h) ((if_some _ _ n p).1)
calls_from c m n (entry.Tick t k) cpu z h p = subst AreCalls ((cond_some _ _ n p).1) (calls_core m (slot_of t) _ _ refl refl refl h)
calls_from c m n (entry.Flush t) cpu z h p = calls_flushed m n (slot_of t) (list_at m (slot_of t)) h p
calls_from c m n (entry.Wait t k) cpu z h p = subst AreCalls ((cond_some _ _ n p).1) (calls_core m (slot_of t) _ _ refl refl refl h)
calls_from c m n (entry.Miss t k source target) cpu z h p = subst AreCalls ((cond_some _ _ n p).1) (calls_missed c.strict m t cpu (k + 1) source target h)
calls_from c m n (entry.Grow t a) cpu z h p = subst AreCalls ((cond_some _ _ n p).1) h
calls_from c m n (entry.Over t k) cpu z h p = subst AreCalls ((cond_some _ _ n p).1) (calls_core m (slot_of t) _ _ refl refl refl h)
calls_from c m n (entry.Full t) cpu z h p = subst AreCalls ((cond_some _ _ n p).1) (record { frames = h.frames; running = h.running; distinct = h.distinct })
calls_from c m n entry.Dead cpu z h p = subst AreCalls ((cond_some _ _ n p).1) (record { frames = h.frames; running = h.running; distinct = h.distinct })

pub calls_stay : (c : CaseData) (m n : Machine) (e : Entry) → IsSized m → AreCalls m → step c m e ≡ Some n → AreCalls n
unfolding step
calls_stay c m n e z h p =
    option_and_then_some (step_from c m e) (after_private c.image (private_of e) (cpu_at m (slot_in e))) n ((if_some (admits m e) _ n p).1)
    (λ cpu q r. calls_from c m n e cpu z h r)

no_frames : (k s : ℕ) → (slice_index_or (replicate k no_core) s no_core).frames ≡ []
no_frames zero s = refl
no_frames (suc k) zero = refl
no_frames (suc k) (suc s) = no_frames k s

pub calls_at_start : (c : CaseData) → AreCalls (start c)
unfolding start
calls_at_start c = record {
  frames = λ s. subst AreFrames (sym (none s)) (fewer_none []).frames;
  running = λ s i x e. absurd (none-some x (ap (λ fs. control_in fs i) (sym (none s)) ∙ e));
  distinct = λ s i u j x e f. absurd (none-some x (ap (λ fs. control_in fs i) (sym (none s)) ∙ e));
}
  where
    none : (s : ℕ) → (slice_index_or (slice_set (replicate 64 no_core) 0 (first_core c)) s no_core).frames ≡ []
    none s = set_either (λ (x : Core). x.frames ≡ []) (replicate 64 no_core) 0 s (first_core c) no_core (λ _. refl) (no_frames 64 s)

pub calls_played : (c : CaseData) (journal : List Entry) (m : Machine) → play c journal ≡ Some m → AreCalls m
unfolding play
calls_played c journal m p = (walked (λ x. IsSized x × AreCalls x) c (λ x n e h q. (sized_stays c x n e h.0 q, calls_stay c x n e h.0 h.1 q)) (start c) m journal (sized_at_start c, calls_at_start c) p).1

-- ---- requests that a machine can make

top_left : (fs : List Frame) → All HasElements fs → HasLeft (slice_get fs (length fs - 1))
top_left fs all = by_top (slice_get fs (length fs - 1)) refl
  where
    by_top : (o : Option Frame) → slice_get fs (length fs - 1) ≡ o → HasLeft o
    by_top None e = tt
    by_top (Some f) e = subst HasElements (get_or_from_slice_get fs (length fs - 1) f f e) (all (length fs - 1) f (slice_get_within fs (length fs - 1) f e))

top_runs : (m : Machine) (s : ℕ) (o : Option Frame) → AreCalls m → slice_get (frames_at m s) (length (frames_at m s) - 1) ≡ o → RunsRoutine m.library.rooms o
top_runs m s None h e = tt
top_runs m s (Some f) h e = by_control f.control refl
  where
    by_control : (k : Option ℕ) → f.control ≡ k → HasRunning m.library.rooms k
    by_control None q = tt
    by_control (Some c) q = h.running s (length (frames_at m s) - 1) c (ap (option_and_then (λ (x : Frame). x.control)) e ∙ q)

pub can_ask : (m : Machine) (t : ℕ) (cpu : Cpu) (what : Asked) → AreCalls m → is_live m t ≡ true → HasNumbers m.library → m.library.rooms.rounds < 2 ^ 64 - 1 → CanAsk m.library t (ask_of (core_with m t cpu) what)
can_ask m t cpu what h live numbers rounds = record {
  live = live;
  left = top_left (frames_at m (slot_of t)) (h.frames (slot_of t)).left;
  running = top_runs m (slot_of t) _ h refl;
  numbers = numbers;
  rounds = rounds;
}
