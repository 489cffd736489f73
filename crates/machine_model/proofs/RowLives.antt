-- A library's row leaves the slot of every live thread but its own, draws one round at most, and what it answers fits what
-- was asked.
use Rattle.std.proofs.Common.{◌≡◌, ◌≢◌, ℕ, ◌+◌, ◌-◌, ◌*◌, ◌<◌, ◌≤◌, inl, inr, slice_set, Bool, true, false, cond, Option, Some, None, refl, sym, ap, ◌∙◌, subst, arith, slice_index_or, length-set, ◌==◌, nat_lt, nat_le, length}
use Rattle.std.specs.Prelude.{List, ⊤, not, ◌||◌, option_map, IsSome, ℤ, pos, negsuc, zero, suc}
use Rattle.std.specs.FinMap.{get, insert, remove}
use Rattle.sync_more.specs.declared.limits.TheConstants.{SERIAL_THREAD}
use Rattle.std.proofs.lemmas.Bool.Decides.{nat_tests}
use Rattle.std.proofs.lemmas.Bool.{cases_eq, cases_lt}
use Rattle.std.proofs.lemmas.List.{get_or-set_other, get_or-set_same, set_past}
use Rattle.std.proofs.lemmas.List.Quantifiers.{position-Some}
use Rattle.elf_image.specs.declared.place.Function.{Function}
use Rattle.elf_image.specs.declared.place.Function.TheVariants.{PthreadCreate, PthreadJoin, PthreadSelf, MutexInit, MutexLock, MutexTrylock, MutexUnlock, MutexDestroy, Bsearch, Read, Write, Exit, CondInit, CondDestroy, CondWait, CondSignal, CondBroadcast, BarrierInit, BarrierWait, BarrierDestroy, Once}
use Rattle.tso_memory.specs.Memory.{Memory}
use Rattle.callbacks.specs.declared.Frame.{Frame}
use Rattle.callbacks.specs.declared.Next.{Next}
use Rattle.callbacks.specs.declared.Next.TheVariants as next
use Rattle.lib_table.specs.declared.answer.BadKind.{BadKind}
use Rattle.lib_table.specs.declared.answer.BadKind.TheVariants.{Access, Depth}
use Rattle.lib_table.specs.declared.answer.Called.{Called}
use Rattle.lib_table.specs.declared.answer.Called.TheVariants.{Back, Probe, Over, Stay}
use Rattle.lib_table.specs.declared.ask.Ask.{Ask}
use Rattle.lib_table.specs.declared.ask.Asked.{Asked}
use Rattle.lib_table.specs.declared.ask.Asked.TheVariants.{Lib, EndDoor, CallDoor}
use Rattle.lib_table.specs.declared.life.Life.{Life}
use Rattle.lib_table.specs.declared.life.Life.TheVariants.{Unborn, Live, Ended, Joined}
use Rattle.address_space.specs.Slots.{slot_of, generation_of}
use Rattle.address_space.proofs.Numbers.{slot_back, generation_back}
use Rattle.lib_table.specs.declared.slot.Slot.{Slot}
use Rattle.lib_table.specs.Library.{LibraryData, is_held, is_held_by, is_free, is_running, is_unborn, life_at, life_in, new_slot, number_at, slot_at, free_slot, with_slot, with_life}
use Rattle.lib_table.specs.Outcome.{RowResult, Done, Waits, Bad, answer, a1, a2, a3, a4, low_32, sync_args, unless_denied, unwritable, unreadable, word_at}
use Rattle.lib_table.specs.Threads.{create, born_if, first_rsp, join, joining, joined, self_id, end_door, ended}
use Rattle.lib_table.specs.Sync.{comes_to, cond_wait, is_takeable, once, once_frame, sync}
use Rattle.sync_more.specs.declared.ask.SyncName.{SyncName}
use Rattle.sync_more.specs.declared.ask.SyncName.TheVariants as name
use Rattle.sync_more.specs.declared.ask.Outcome.{Outcome}
use Rattle.sync_more.specs.declared.ask.Outcome.TheVariants as outcome
use Rattle.sync_more.specs.Rooms.{Reply, RoomsData, told}
use Rattle.sync_more.specs.Row as rooms
use Rattle.sync_more.specs.Rooms.{phase_of}
use Rattle.sync_more.specs.Conditions as conditions
use Rattle.sync_more.specs.Conditions.{all_woken, is_another, lies_down, signalled, sleeps_or_wakes}
use Rattle.sync_more.specs.Barriers as barriers
use Rattle.sync_more.specs.Barriers.{arrived, arrives_or_passes, destroyed}
use Rattle.sync_more.specs.Once as onces
use Rattle.sync_more.specs.Once.{begun_unless}
use Rattle.sync_more.specs.declared.state.Phase.{Phase}
use Rattle.sync_more.specs.declared.state.Phase.TheVariants as phase
use Rattle.sync_more.specs.declared.state.Barrier.{Barrier}
use Rattle.sync_more.specs.declared.state.Sleepers.{Sleepers}
use Rattle.sync_more.specs.declared.state.Control.{Control}
use Rattle.sync_more.specs.declared.state.Control.TheVariants as control
use Rattle.lib_table.specs.Mutexes.{init, lock, trylock, unlock, destroy, taken}
use Rattle.lib_table.specs.Searches.{after_routine, comparison, new_frame, search_for, searching, searching_on, call_door, compared}
use Rattle.lib_table.specs.Streams.{read, write}
use Rattle.machine_model.specs.Frames.{HasElements, IsAnswer, SameControls, ControlsBegun, ControlsDone, Calls}
use Rattle.callbacks.specs.Frame.{element, middle, probe, probing, resumed, resumed_for, searched}
use Rattle.lib_table.specs.Row.{row, asked_row, call_row}

-- what holds of an element that is set, and of the one that was there
pub set_either : {A : Type 0} (P : A → Type 0) (xs : List A) (i j : ℕ) (y d : A) → (j ≡ i → P y) → P (slice_index_or xs j d) → P (slice_index_or (slice_set xs i y) j d)
set_either P xs i j y d own there =
    elim (cases_eq j i) [
      | inl e ↦ elim (cases_lt i (length xs)) [
        | inl lt ↦ subst P (ap (λ k. slice_index_or (slice_set xs i y) k d) (sym e)) (subst P (sym (get_or-set_same xs i y d lt)) (own e))
        | inr le ↦ subst (λ l. P (slice_index_or l j d)) (sym (set_past xs i y le)) there
      ]
      | inr ne ↦ subst P (sym (get_or-set_other xs i j y d ne)) there
    ]

-- how much befell a slot's threads: births, ends and joins
abbrev pub stage : Life → ℕ
stage Unborn = 0
stage (Live start argument) = 1
stage (Ended value) = 2
stage Joined = 3

abbrev pub age : Slot → ℕ
age s = 3 * s.generation + stage s.life

-- the slot u stays as it is, where a thread lives in it and isn't the one that asks; how many slots there are; how many
-- rounds were drawn; and what is said of calls back
pub record Stays (l after : LibraryData) (t u : ℕ) (what : Asked) (ask : Ask) (called : Called) : Type 0 where
  pub slot : u ≢ slot_of t → is_running (slot_at l u).life ≡ true → slot_at after u ≡ slot_at l u
  pub count : length after.slots ≡ length l.slots
  pub rounds : after.rooms.rounds ≤ l.rooms.rounds + 1
  pub older : is_running (life_at l t) ≡ true → age (slot_at after u) ≤ age (slot_at l u) + 1
  pub calls : Calls what l after t ask called

abbrev pub After : LibraryData → ℕ → ℕ → Asked → Ask → RowResult → Type 0
After l t u what ask (Done after m called) = Stays l after t u what ask called
After l t u what ask Waits = ⊤
After l t u what ask (Bad kind) = ⊤

pub record Kept (l : LibraryData) (t u : ℕ) (what : Asked) (ask : Ask) (r : RowResult) : Type 0 where
  pub is : After l t u what ask r

-- the number of a slot's next thread is of that slot
number_slot : (l : LibraryData) (s : ℕ) → s < 64 → slot_of (number_at l s) ≡ s
number_slot l s below = slot_back s (slot_at l s).generation below

free_dead : (life : Life) → is_unborn life ≡ true → is_running life ≡ false
free_dead Unborn e = refl
free_dead (Live a b) e = absurd (let h : false ≡ true = e in cc)
free_dead (Ended v) e = refl
free_dead Joined e = refl

-- a life that is neither of joined nor of unborn threads is the slot's own
abbrev IsOwn : Slot → ℕ → Life → Type 0
IsOwn s g life = (g ≡ s.generation) × (s.life ≡ life)

own_by : (s : Slot) (g : ℕ) (life : Life) → (Unborn ≡ life → ⊥) → (Joined ≡ life → ⊥) → (less same : Bool) → nat_lt g s.generation ≡ less → (g == s.generation) ≡ same → cond less Joined (cond same s.life Unborn) ≡ life → IsOwn s g life
own_by s g life not_unborn not_joined true same lt eq h = absurd (not_joined h)
own_by s g life not_unborn not_joined false true lt eq h = (grind (arith, eq), h)
own_by s g life not_unborn not_joined false false lt eq h = absurd (not_unborn h)

own_life : (s : Slot) (g : ℕ) (life : Life) → (Unborn ≡ life → ⊥) → (Joined ≡ life → ⊥) → life_in s g ≡ life → IsOwn s g life
unfolding life_in
own_life s g life not_unborn not_joined h = own_by s g life not_unborn not_joined (nat_lt g s.generation) (g == s.generation) refl refl h

-- an ended thread is the one of its slot
ended_is : (s : Slot) (g value : ℕ) → life_in s g ≡ Ended value → IsOwn s g (Ended value)
ended_is s g value e = own_life s g (Ended value) (λ h. let q : Unborn ≡ Ended value = h in cc) (λ h. let q : Joined ≡ Ended value = h in cc) e

-- and so is one that runs
running_is : (s : Slot) (g : ℕ) (life : Life) → life_in s g ≡ life → is_running life ≡ true → IsOwn s g life
running_is s g Unborn e r = absurd (let q : false ≡ true = r in cc)
running_is s g (Live a b) e r = own_life s g (Live a b) (λ h. let q : Unborn ≡ Live a b = h in cc) (λ h. let q : Joined ≡ Live a b = h in cc) e
running_is s g (Ended v) e r = absurd (let q : false ≡ true = r in cc)
running_is s g Joined e r = absurd (let q : false ≡ true = r in cc)

running_phase : (life : Life) → is_running life ≡ true → stage life ≡ 1
running_phase Unborn r = absurd (let q : false ≡ true = r in cc)
running_phase (Live a b) r = refl
running_phase (Ended v) r = absurd (let q : false ≡ true = r in cc)
running_phase Joined r = absurd (let q : false ≡ true = r in cc)

unborn_phase : (life : Life) → is_unborn life ≡ true → stage life ≡ 0
unborn_phase Unborn r = refl
unborn_phase (Live a b) r = absurd (let q : false ≡ true = r in cc)
unborn_phase (Ended v) r = absurd (let q : false ≡ true = r in cc)
unborn_phase Joined r = absurd (let q : false ≡ true = r in cc)

-- an answer that speaks of no call
abbrev IsSimple : Called → Type 0
IsSimple (Back rax rsp rip false) = ⊤
IsSimple (Back rax rsp rip true) = ⊥
IsSimple (Probe frame place) = ⊥
IsSimple Stay = ⊤
IsSimple Over = ⊤

module _ (l : LibraryData) (t u : ℕ) (what : Asked) (ask : Ask) where
  simple : (after : LibraryData) (called : Called) → IsSimple called → SameControls l after → Calls what l after t ask called
  simple after (Back rax rsp rip false) h e = e
  simple after (Back rax rsp rip true) h e = absurd h
  simple after (Probe frame place) h e = absurd h
  simple after Stay h e = e
  simple after Over h e = e

  answered : (after : LibraryData) (m : Memory) (called : Called) → after.slots ≡ l.slots → after.rooms.rounds ≤ l.rooms.rounds + 1 → Calls what l after t ask called → Kept l t u what ask (Done after m called)
  answered after m called e r h = record { is = record { slot = λ _ _. ap (λ x. slice_index_or x u new_slot) e; count = ap length e; rounds = r; older = λ _. let n = ap (λ x. age (slice_index_or x u new_slot)) e in omega arith; calls = h } }

  same : (after : LibraryData) (m : Memory) (called : Called) → after.slots ≡ l.slots → after.rooms ≡ l.rooms → IsSimple called → Kept l t u what ask (Done after m called)
  same after m called e r h = answered after m called e (let n = ap (λ (x : RoomsData). x.rounds) r in omega arith) (simple after called h (ap (λ (x : RoomsData). x.controls) r))

  waiting : Kept l t u what ask Waits
  waiting = record { is = tt }

  refusing : (kind : BadKind) → Kept l t u what ask (Bad kind)
  refusing kind = record { is = tt }

  if_kept : (b : Bool) (x y : RowResult) → Kept l t u what ask x → Kept l t u what ask y → Kept l t u what ask (cond b x y)
  if_kept true x y p q = p
  if_kept false x y p q = q

  denied_kept : (o : Option ℕ) (r : RowResult) → Kept l t u what ask r → Kept l t u what ask (unless_denied o r)
  denied_kept None r p = p
  denied_kept (Some x) r p = refusing (Access x)

  -- a slot in which a thread lives is none in which no thread lives
  other : (v : ℕ) → is_running (slot_at l v).life ≡ false → is_running (slot_at l u).life ≡ true → u ≢ v
  other v dead live e = absurd (let h : false ≡ true = sym dead ∙ ap (λ x. is_running (slot_at l x).life) (sym e) ∙ live in cc)

  set_other : (v : ℕ) (slot : Slot) (m : Memory) (called : Called) → is_running (slot_at l v).life ≡ false → age slot ≤ age (slot_at l v) + 1 → IsSimple called → Kept l t u what ask (Done (with_slot l v slot) m called)
  set_other v slot m called dead old fits = record { is = record { slot = λ _ live. get_or-set_other l.slots v u slot new_slot (other v dead live); count = length-set {A = Slot} l.slots v slot; rounds = omega arith; older = λ _. set_either (λ (x : Slot). age x ≤ age (slot_at l u) + 1) l.slots v u slot new_slot (λ e. subst (λ w. age slot ≤ age (slot_at l w) + 1) (sym e) old) (omega arith); calls = simple _ called fits refl } }

  set_own : (slot : Slot) (m : Memory) (called : Called) → (is_running (life_at l t) ≡ true → age slot ≤ age (slot_at l (slot_of t)) + 1) → IsSimple called → Kept l t u what ask (Done (with_slot l (slot_of t) slot) m called)
  set_own slot m called old fits = record { is = record { slot = λ ne _. get_or-set_other l.slots (slot_of t) u slot new_slot ne; count = length-set {A = Slot} l.slots (slot_of t) slot; rounds = omega arith; older = λ live. set_either (λ (x : Slot). age x ≤ age (slot_at l u) + 1) l.slots (slot_of t) u slot new_slot (λ e. subst (λ w. age slot ≤ age (slot_at l w) + 1) (sym e) (old live)) (omega arith); calls = simple _ called fits refl } }

  born_kept : (m : Memory) (back start argument : ℕ) (o : Option ℕ) → free_slot l ≡ o → length l.slots ≡ 64 → Kept l t u what ask (born_if l m ask back (option_map (λ v. (v, with_life l v (Live start argument))) (option_map (number_at l) o)))
  born_kept m back start argument None e sized = same _ _ _ refl refl tt
  born_kept m back start argument (Some s) e sized =
      let found = position-Some is_free l.slots s new_slot e in
      let below : s < 64 = subst (λ n. s < n) sized found.0 in
      let dead : is_running (slot_at l (slot_of (number_at l s))).life ≡ false = ap (λ x. is_running (slot_at l x).life) (number_slot l s below) ∙ free_dead (slot_at l s).life found.1 in
      denied_kept (unwritable m (a1 ask) 8) _ (denied_kept (unwritable m (first_rsp (number_at l s)) 8) _
      (set_other (slot_of (number_at l s)) _ _ _ dead (let a = ap (λ x. age (slot_at l x)) (number_slot l s below) in let g = generation_back s (slot_at l s).generation below in let f = unborn_phase (slot_at l s).life found.1 in omega arith) tt))

  create_kept : (m : Memory) (back : ℕ) → length l.slots ≡ 64 → Kept l t u what ask (create l m ask back)
  unfolding create
  create_kept m back sized = if_kept (not (a2 ask == 0)) _ _ (same _ _ _ refl refl tt) (born_kept m back (a3 ask) (a4 ask) (free_slot l) refl sized)

  joined_kept : (m : Memory) (back v value : ℕ) → IsOwn (slot_at l (slot_of v)) (generation_of v) (Ended value) → Kept l t u what ask (joined l m ask back v value)
  joined_kept m back v value own =
      let dead : is_running (slot_at l (slot_of v)).life ≡ false = ap is_running own.1 in
      let old : age (record { generation = generation_of v + 1; life = Unborn }) ≤ age (slot_at l (slot_of v)) + 1 = let f = ap stage own.1 in let g = own.0 in omega arith in
      if_kept (not (a2 ask == 0)) _ _ (denied_kept (unwritable m (a2 ask) 8) _ (set_other (slot_of v) _ _ _ dead old tt)) (set_other (slot_of v) _ _ _ dead old tt)

  joining_kept : (m : Memory) (back v : ℕ) (life : Life) → life_at l v ≡ life → Kept l t u what ask (joining l m t ask back v life)
  joining_kept m back v Unborn e = same _ _ _ refl refl tt
  joining_kept m back v (Live a b) e = if_kept (v == t) _ _ (same _ _ _ refl refl tt) waiting
  joining_kept m back v (Ended value) e = joined_kept m back v value (ended_is (slot_at l (slot_of v)) (generation_of v) value e)
  joining_kept m back v Joined e = same _ _ _ refl refl tt

  join_kept : (m : Memory) (back : ℕ) → Kept l t u what ask (join l m t ask back)
  unfolding join
  join_kept m back = if_kept (a1 ask == 0) _ _ (same _ _ _ refl refl tt) (joining_kept m back (a1 ask - 1) (life_at l (a1 ask - 1)) refl)

  ended_kept : (m : Memory) (o : Option Frame) → Kept l t u what ask (ended l m t ask o)
  ended_kept m None = if_kept (t == 0) _ _ (refusing _) (set_own (record { generation = generation_of t; life = Ended ask.rax }) _ _ (λ live.
      let own = running_is (slot_at l (slot_of t)) (generation_of t) (life_at l t) refl live in
      let f = ap stage own.1 ∙ running_phase (life_at l t) live in
      let g = own.0 in
      omega arith) tt)
  ended_kept m (Some f) = refusing _

  init_kept : (m : Memory) (back : ℕ) → Kept l t u what ask (init l m ask back)
  unfolding init
  init_kept m back = if_kept (not (a2 ask == 0)) _ _ (same _ _ _ refl refl tt) (if_kept (is_held l (a1 ask)) _ _ (same _ _ _ refl refl tt) (same _ _ _ refl refl tt))

  taken_kept : (m : Memory) (back : ℕ) → Kept l t u what ask (taken l m t ask back)
  taken_kept m back = if_kept _ _ _ (same _ _ _ refl refl tt) (same _ _ _ refl refl tt)

  lock_kept : (m : Memory) (back : ℕ) → Kept l t u what ask (lock l m t ask back)
  unfolding lock
  lock_kept m back = if_kept _ _ _ waiting (taken_kept m back)

  trylock_kept : (m : Memory) (back : ℕ) → Kept l t u what ask (trylock l m t ask back)
  unfolding trylock
  trylock_kept m back = if_kept _ _ _ (same _ _ _ refl refl tt) (taken_kept m back)

  unlock_kept : (m : Memory) (back : ℕ) → Kept l t u what ask (unlock l m t ask back)
  unfolding unlock
  unlock_kept m back = if_kept _ _ _ (same _ _ _ refl refl tt) (same _ _ _ refl refl tt)

  destroy_kept : (m : Memory) (back : ℕ) → Kept l t u what ask (destroy l m ask back)
  unfolding destroy
  destroy_kept m back = if_kept _ _ _ (same _ _ _ refl refl tt) (same _ _ _ refl refl tt)

  -- what is said of the next probe of a search, or of its end, where the library is this then
  abbrev Says : LibraryData → Frame → Next → Type 0
  Says after f (next.Probe place) = Calls what l after t ask (Probe f place)
  Says after f (next.Done place) = Calls what l after t ask (Back place 0 0 true)

  searching_kept : (after : LibraryData) (m : Memory) (f : Frame) (n : Next) → after.slots ≡ l.slots → after.rooms.rounds ≡ l.rooms.rounds → Says after f n → Kept l t u what ask (searching after m f n)
  searching_kept after m f (next.Probe place) e r h = denied_kept _ _ (answered _ _ _ e (omega (arith, r)) h)
  searching_kept after m f (next.Done place) e r h = answered _ _ _ e (omega (arith, r)) h

  -- a probe is of elements that are left
  probe_says : (after : LibraryData) (f : Frame) → ((place : ℕ) → HasElements f → Calls what l after t ask (Probe f place)) → ((place : ℕ) → Calls what l after t ask (Back place 0 0 true)) → Says after f (probe f)
  unfolding probe
  probe_says after f goes ends =
      elim (nat_lt f.lo f.hi) as (λ b. nat_lt f.lo f.hi ≡ b → Says after f (cond b (next.Probe (element f (middle f))) (next.Done 0))) [
        | true ↦ λ h. goes (element f (middle f)) (grind (arith, nat_tests))
        | false ↦ λ h. ends 0
      ] refl

  -- what begins a call
  abbrev Begins : Type 0
  Begins = (after : LibraryData) (f : Frame) (place : ℕ) → ask.depth < 16 → HasElements f → ControlsBegun f.control l after t → Calls what l after t ask (Probe f place)

  first_probe : (m : Memory) (f : Frame) → f.control ≡ None → nat_lt f.lo f.hi ≡ true → ask.depth < 16 → Begins → Kept l t u what ask (searching_on l m (probing f))
  unfolding probe
  first_probe m f none some few begins =
      let left : HasElements f = grind (arith, nat_tests) in
      let same_controls : ControlsBegun f.control l l t = subst (λ o. ControlsBegun o l l t) (sym none) refl in
      subst (λ b. Kept l t u what ask (searching l m f (cond b (next.Probe (element f (middle f))) (next.Done 0)))) (sym some) (searching_kept l m f (next.Probe (element f (middle f))) refl refl (begins l f (element f (middle f)) few left same_controls))

  unless_full : (m : Memory) (f : Frame) (b : Bool) → f.control ≡ None → nat_lt f.lo f.hi ≡ true → nat_le 16 ask.depth ≡ b → Begins → Kept l t u what ask (cond b (Bad Depth) (searching_on l m (probing f)))
  unless_full m f true none some e begins = refusing Depth
  unless_full m f false none some e begins = first_probe m f none some (grind (arith, nat_tests)) begins

  some_left : (n : ℕ) (b : Bool) → (n == 0) ≡ b → b ≡ false → nat_lt 0 n ≡ true
  some_left n b e f = grind (arith, nat_tests)

  search_if : (m : Memory) (back : ℕ) (b : Bool) → (a3 ask == 0) ≡ b → Begins → Kept l t u what ask (cond b (answer l m ask back 0) (cond (nat_le 16 ask.depth) (Bad Depth) (searching_on l m (probing (new_frame ask back)))))
  search_if m back true e begins = same _ _ _ refl refl tt
  search_if m back false e begins = unless_full m (new_frame ask back) (nat_le 16 ask.depth) refl (some_left (a3 ask) false e refl) refl begins

  search_kept : (m : Memory) (back : ℕ) → Begins → Kept l t u what ask (search_for l m ask back)
  unfolding search_for
  search_kept m back begins = search_if m back (a3 ask == 0) refl begins

  -- a return to the door goes on with the innermost search, or ends the innermost call
  abbrev Goes : Frame → Type 0
  Goes f = (g : Frame) (place : ℕ) → f.control ≡ None → g.control ≡ None → HasElements g → Calls what l l t ask (Probe g place)

  abbrev Ends : Frame → Type 0
  Ends f = (after : LibraryData) (place : ℕ) → ControlsDone f.control l after → Calls what l after t ask (Back place 0 0 true)

  searched_says : (f : Frame) (answer : ℤ) → f.control ≡ None → Goes f → Ends f → Says l ((searched f answer).0) ((searched f answer).1)
  unfolding searched
  searched_says f (negsuc n) none goes ends = probe_says l (record f { hi = middle f }) (λ place left. goes (record f { hi = middle f }) place none none left) (λ place. ends l place (subst (λ o. ControlsDone o l l) (sym none) refl))
  searched_says f (pos zero) none goes ends = ends l (element f (middle f)) (subst (λ o. ControlsDone o l l) (sym none) refl)
  searched_says f (pos (suc n)) none goes ends = probe_says l (record f { lo = middle f + 1 }) (λ place left. goes (record f { lo = middle f + 1 }) place none none left) (λ place. ends l place (subst (λ o. ControlsDone o l l) (sym none) refl))

  resumed_kept : (m : Memory) (f : Frame) (answer : ℤ) (o : Option ℕ) → f.control ≡ o → Goes f → Ends f → Kept l t u what ask (searching_on (after_routine l o) m (resumed_for o f answer))
  resumed_kept m f answer None e goes ends = searching_kept l m _ _ refl refl (searched_says f answer e goes ends)
  resumed_kept m f answer (Some c) e goes ends = searching_kept (after_routine l (Some c)) m f (next.Done 0) refl refl (ends (after_routine l (Some c)) 0 (subst (λ o. ControlsDone o l (after_routine l (Some c))) (sym e) refl))

  compared_kept : (m : Memory) (o : Option Frame) → ((f : Frame) → o ≡ Some f → Goes f × Ends f) → Kept l t u what ask (compared l m ask o)
  unfolding resumed
  compared_kept m None says = refusing _
  compared_kept m (Some f) says = let s = says f refl in resumed_kept m f (comparison ask) f.control refl s.0 s.1

  read_kept : (m : Memory) (back : ℕ) → Kept l t u what ask (read l m ask back)
  unfolding read
  read_kept m back = if_kept (not (low_32 (a1 ask) == 0)) _ _ (same _ _ _ refl refl tt) (denied_kept _ _ (same _ _ _ refl refl tt))

  output_rooms : (b : Bool) (x y : LibraryData) → x.rooms ≡ l.rooms → y.rooms ≡ l.rooms → (cond b x y).rooms ≡ l.rooms
  output_rooms true x y p q = p
  output_rooms false x y p q = q

  output_same : (b : Bool) (x y : LibraryData) → x.slots ≡ l.slots → y.slots ≡ l.slots → (cond b x y).slots ≡ l.slots
  output_same true x y p q = p
  output_same false x y p q = q

  write_kept : (m : Memory) (back : ℕ) → Kept l t u what ask (write l m ask back)
  unfolding write
  write_kept m back = if_kept (not (low_32 (a1 ask) == 1 || low_32 (a1 ask) == 2)) _ _ (same _ _ _ refl refl tt) (if_kept _ _ _ (same _ _ _ refl refl tt) (denied_kept _ _ (same _ _ _ (output_same _ _ _ refl refl) (output_rooms _ _ _ refl refl) tt)))

  -- what comes of a call of the rooms: one round is drawn at most, and the controls are as they were unless it begins a routine
  abbrev OutcomeFits : Reply → Outcome → Type 0
  OutcomeFits r outcome.Begin = (ask.depth < 16) × (get l.rooms.controls (a1 ask) ≡ None) × (r.rooms.controls ≡ insert l.rooms.controls (a1 ask) (control.Running t))
  OutcomeFits r (outcome.Answer value) = r.rooms.controls ≡ l.rooms.controls
  OutcomeFits r outcome.Sleep = r.rooms.controls ≡ l.rooms.controls
  OutcomeFits r (outcome.Wake mutex) = r.rooms.controls ≡ l.rooms.controls
  OutcomeFits r outcome.Deep = r.rooms.controls ≡ l.rooms.controls
  OutcomeFits r outcome.Waits = r.rooms.controls ≡ l.rooms.controls

  record Replies (r : Reply) : Type 0 where
    rounds : r.rooms.rounds ≤ l.rooms.rounds + 1
    fits : OutcomeFits r r.outcome

  if_replies : (b : Bool) (x y : Reply) → Replies x → Replies y → Replies (cond b x y)
  if_replies true x y p q = p
  if_replies false x y p q = q

  -- an outcome that begins no routine
  abbrev NoBegin : Outcome → Type 0
  NoBegin outcome.Begin = ⊥
  NoBegin (outcome.Answer value) = ⊤
  NoBegin outcome.Sleep = ⊤
  NoBegin (outcome.Wake mutex) = ⊤
  NoBegin outcome.Deep = ⊤
  NoBegin outcome.Waits = ⊤

  plainly : (r : RoomsData) (o : Outcome) → NoBegin o → r.controls ≡ l.rooms.controls → OutcomeFits (told r o) o
  plainly r outcome.Begin n e = absurd n
  plainly r (outcome.Answer value) n e = e
  plainly r outcome.Sleep n e = e
  plainly r (outcome.Wake mutex) n e = e
  plainly r outcome.Deep n e = e
  plainly r outcome.Waits n e = e

  tells : (r : RoomsData) (o : Outcome) → NoBegin o → r.controls ≡ l.rooms.controls → r.rounds ≤ l.rooms.rounds + 1 → Replies (told r o)
  tells r o n e k = record { rounds = k; fits = plainly r o n e }

  unchanged : (o : Outcome) → NoBegin o → Replies (told l.rooms o)
  unchanged o n = tells l.rooms o n refl (omega arith)

  lies_down_replies : (c mutex : ℕ) (holds : Bool) → Replies (lies_down l.rooms t c mutex holds)
  lies_down_replies c mutex holds = if_replies (not holds) _ _ (unchanged _ tt) (if_replies (is_another (get l.rooms.sleepers c) mutex) _ _ (unchanged _ tt) (tells _ outcome.Sleep tt refl (omega arith)))

  cond_wait_replies : (p : Option Phase) (c mutex : ℕ) (holds free : Bool) → Replies (sleeps_or_wakes p l.rooms t c mutex holds free)
  cond_wait_replies (Some phase.Asleep) c mutex holds free = unchanged _ tt
  cond_wait_replies (Some (phase.Woken m)) c mutex holds free = if_replies free _ _ (tells _ _ tt refl (omega arith)) (unchanged _ tt)
  cond_wait_replies (Some phase.AtBarrier) c mutex holds free = lies_down_replies c mutex holds
  cond_wait_replies (Some (phase.Passed round)) c mutex holds free = lies_down_replies c mutex holds
  cond_wait_replies None c mutex holds free = lies_down_replies c mutex holds

  signal_replies : (o : Option Sleepers) (c : ℕ) → Replies (told (signalled l.rooms c o) (outcome.Answer 0))
  signal_replies None c = unchanged _ tt
  signal_replies (Some s) c = tells (signalled l.rooms c (Some s)) _ tt refl (omega arith)

  broadcast_replies : (o : Option Sleepers) (c : ℕ) → Replies (told (all_woken l.rooms c o) (outcome.Answer 0))
  broadcast_replies None c = unchanged _ tt
  broadcast_replies (Some s) c = tells (all_woken l.rooms c (Some s)) _ tt refl (omega arith)

  arrived_replies : (o : Option Barrier) (b : ℕ) → Replies (arrived l.rooms t b o)
  arrived_replies None b = unchanged _ tt
  arrived_replies (Some x) b = if_replies _ _ _ (tells (barriers.joined l.rooms t b x) outcome.Sleep tt refl (omega arith)) (tells (barriers.opened l.rooms b x) (outcome.Answer SERIAL_THREAD) tt refl (omega arith))

  barrier_wait_replies : (p : Option Phase) (b : ℕ) → Replies (arrives_or_passes p l.rooms t b)
  barrier_wait_replies (Some phase.AtBarrier) b = unchanged _ tt
  barrier_wait_replies (Some (phase.Passed round)) b = tells _ _ tt refl (omega arith)
  barrier_wait_replies (Some phase.Asleep) b = arrived_replies (get l.rooms.barriers b) b
  barrier_wait_replies (Some (phase.Woken m)) b = arrived_replies (get l.rooms.barriers b) b
  barrier_wait_replies None b = arrived_replies (get l.rooms.barriers b) b

  destroyed_replies : (o : Option Barrier) (b : ℕ) → Replies (destroyed l.rooms b o)
  destroyed_replies None b = unchanged _ tt
  destroyed_replies (Some x) b = if_replies _ _ _ (unchanged _ tt) (tells (record l.rooms { barriers = remove l.rooms.barriers b }) (outcome.Answer 0) tt refl (omega arith))

  once_replies : (o : Option Control) (free : Bool) → get l.rooms.controls (a1 ask) ≡ o → (free ≡ true → ask.depth < 16) → Replies (begun_unless o l.rooms t (a1 ask) free)
  once_replies (Some control.Done) free e room = unchanged _ tt
  once_replies (Some (control.Running owner)) free e room = unchanged _ tt
  once_replies None true e room = record { rounds = omega arith; fits = (room refl, e, refl) }
  once_replies None false e room = unchanged _ tt

  cond_init_replies : (c attributes : ℕ) → Replies (conditions.cond_init l.rooms c attributes)
  unfolding conditions.cond_init
  cond_init_replies c attributes = if_replies (not (attributes == 0)) _ _ (unchanged (outcome.Answer 22) tt) (if_replies (conditions.has_sleeper l.rooms c) _ _ (unchanged (outcome.Answer 16) tt) (unchanged (outcome.Answer 0) tt))

  cond_destroy_replies : (c : ℕ) → Replies (conditions.cond_destroy l.rooms c)
  unfolding conditions.cond_destroy
  cond_destroy_replies c = if_replies (conditions.has_sleeper l.rooms c) _ _ (unchanged (outcome.Answer 16) tt) (unchanged (outcome.Answer 0) tt)

  wait_replies : (c mutex : ℕ) (holds free : Bool) → Replies (conditions.cond_wait l.rooms t c mutex holds free)
  unfolding conditions.cond_wait
  wait_replies c mutex holds free = cond_wait_replies (phase_of l.rooms t) c mutex holds free

  cond_signal_replies : (c : ℕ) → Replies (conditions.cond_signal l.rooms c)
  unfolding conditions.cond_signal
  cond_signal_replies c = signal_replies (get l.rooms.sleepers c) c

  cond_broadcast_replies : (c : ℕ) → Replies (conditions.cond_broadcast l.rooms c)
  unfolding conditions.cond_broadcast
  cond_broadcast_replies c = broadcast_replies (get l.rooms.sleepers c) c

  barrier_init_replies : (b attributes count : ℕ) → Replies (barriers.barrier_init l.rooms b attributes count)
  unfolding barriers.barrier_init
  barrier_init_replies b attributes count = if_replies (not (attributes == 0) || barriers.low_32 count == 0) _ _ (unchanged (outcome.Answer 22) tt) (if_replies (barriers.is_awaited (get l.rooms.barriers b)) _ _ (unchanged (outcome.Answer 16) tt) (tells (barriers.with_new_round l.rooms b (barriers.low_32 count)) (outcome.Answer 0) tt refl (omega arith)))

  wait_at_barrier_replies : (b : ℕ) → Replies (barriers.barrier_wait l.rooms t b)
  unfolding barriers.barrier_wait
  wait_at_barrier_replies b = barrier_wait_replies (phase_of l.rooms t) b

  barrier_destroy_replies : (b : ℕ) → Replies (barriers.barrier_destroy l.rooms b)
  unfolding barriers.barrier_destroy
  barrier_destroy_replies b = destroyed_replies (get l.rooms.barriers b) b

  row_once_replies : (free : Bool) → (free ≡ true → ask.depth < 16) → Replies (onces.once l.rooms t (a1 ask) free)
  unfolding onces.once
  row_once_replies free room = once_replies (get l.rooms.controls (a1 ask)) free refl room

  row_replies : (name : SyncName) (holds free : Bool) → (free ≡ true → ask.depth < 16) → Replies (rooms.row l.rooms t name (sync_args ask) holds free)
  row_replies name.CondInit holds free room = cond_init_replies (a1 ask) (a2 ask)
  row_replies name.CondDestroy holds free room = cond_destroy_replies (a1 ask)
  row_replies name.CondWait holds free room = wait_replies (a1 ask) (a2 ask) holds free
  row_replies name.CondSignal holds free room = cond_signal_replies (a1 ask)
  row_replies name.CondBroadcast holds free room = cond_broadcast_replies (a1 ask)
  row_replies name.BarrierInit holds free room = barrier_init_replies (a1 ask) (a2 ask) (a3 ask)
  row_replies name.BarrierWait holds free room = wait_at_barrier_replies (a1 ask)
  row_replies name.BarrierDestroy holds free room = barrier_destroy_replies (a1 ask)
  row_replies name.Once holds free room = row_once_replies free room

  comes_kept : (x asleep : LibraryData) (m : Memory) (back : ℕ) (r : Reply) (o : Outcome) → x.slots ≡ l.slots → asleep.slots ≡ l.slots → x.rooms ≡ r.rooms → asleep.rooms ≡ r.rooms → r.rooms.rounds ≤ l.rooms.rounds + 1 → OutcomeFits r o → Begins → Kept l t u what ask (comes_to x asleep m t ask back o)
  comes_kept x asleep m back r (outcome.Answer value) e f p q k h begins = let n = ap (λ (y : RoomsData). y.rounds) p in answered _ _ _ e (omega arith) (ap (λ (y : RoomsData). y.controls) p ∙ h)
  comes_kept x asleep m back r outcome.Sleep e f p q k h begins = let n = ap (λ (y : RoomsData). y.rounds) q in answered _ _ _ f (omega arith) (ap (λ (y : RoomsData). y.controls) q ∙ h)
  comes_kept x asleep m back r (outcome.Wake mutex) e f p q k h begins = let n = ap (λ (y : RoomsData). y.rounds) p in answered _ _ _ e (omega arith) (ap (λ (y : RoomsData). y.controls) p ∙ h)
  comes_kept x asleep m back r outcome.Begin e f p q k h begins = let n = ap (λ (y : RoomsData). y.rounds) p in denied_kept _ _ (answered _ _ _ e (omega arith) (begins x (once_frame ask back) (a2 ask) h.0 (omega arith) (h.1, ap (λ (y : RoomsData). y.controls) p ∙ h.2)))
  comes_kept x asleep m back r outcome.Deep e f p q k h begins = refusing Depth
  comes_kept x asleep m back r outcome.Waits e f p q k h begins = waiting

  never : false ≡ true → ask.depth < 16
  never e = absurd (let h : false ≡ true = e in cc)

  sync_kept : (name : SyncName) (m : Memory) (back : ℕ) → Begins → Kept l t u what ask (sync name l m t ask back)
  unfolding sync
  sync_kept name m back begins = let r = row_replies name false false never in comes_kept _ _ m back (rooms.row l.rooms t name (sync_args ask) false false) _ refl refl refl refl r.rounds r.fits begins

  cond_wait_kept : (m : Memory) (back : ℕ) → Begins → Kept l t u what ask (cond_wait l m t ask back)
  unfolding cond_wait
  cond_wait_kept m back begins = let r = wait_replies (a1 ask) (a2 ask) (is_held_by l (a2 ask) t) (is_takeable l (a2 ask)) in comes_kept _ _ m back (rooms.row l.rooms t name.CondWait (sync_args ask) (is_held_by l (a2 ask) t) (is_takeable l (a2 ask))) _ refl refl refl refl r.rounds r.fits begins

  once_kept : (m : Memory) (back : ℕ) → Begins → Kept l t u what ask (once l m t ask back)
  unfolding once
  once_kept m back begins = let r = row_replies name.Once false (nat_lt ask.depth 16) (λ e. grind (arith, nat_tests, e)) in comes_kept _ _ m back (rooms.row l.rooms t name.Once (sync_args ask) false (nat_lt ask.depth 16)) _ refl refl refl refl r.rounds r.fits begins

  call_kept : (f : Function) (m : Memory) → length l.slots ≡ 64 → Begins → Kept l t u what ask (call_row f l m t ask)
  unfolding self_id
  call_kept PthreadCreate m sized begins = denied_kept (unreadable m ask.rsp 8) _ (create_kept m (word_at m ask.rsp) sized)
  call_kept PthreadJoin m sized begins = denied_kept (unreadable m ask.rsp 8) _ (join_kept m (word_at m ask.rsp))
  call_kept PthreadSelf m sized begins = denied_kept (unreadable m ask.rsp 8) _ (same _ _ _ refl refl tt)
  call_kept MutexInit m sized begins = denied_kept (unreadable m ask.rsp 8) _ (init_kept m (word_at m ask.rsp))
  call_kept MutexLock m sized begins = denied_kept (unreadable m ask.rsp 8) _ (lock_kept m (word_at m ask.rsp))
  call_kept MutexTrylock m sized begins = denied_kept (unreadable m ask.rsp 8) _ (trylock_kept m (word_at m ask.rsp))
  call_kept MutexUnlock m sized begins = denied_kept (unreadable m ask.rsp 8) _ (unlock_kept m (word_at m ask.rsp))
  call_kept MutexDestroy m sized begins = denied_kept (unreadable m ask.rsp 8) _ (destroy_kept m (word_at m ask.rsp))
  call_kept Bsearch m sized begins = denied_kept (unreadable m ask.rsp 8) _ (search_kept m (word_at m ask.rsp) begins)
  call_kept Read m sized begins = denied_kept (unreadable m ask.rsp 8) _ (read_kept m (word_at m ask.rsp))
  call_kept Write m sized begins = denied_kept (unreadable m ask.rsp 8) _ (write_kept m (word_at m ask.rsp))
  call_kept Exit m sized begins = same _ _ _ refl refl tt
  call_kept CondInit m sized begins = denied_kept (unreadable m ask.rsp 8) _ (sync_kept name.CondInit m (word_at m ask.rsp) begins)
  call_kept CondDestroy m sized begins = denied_kept (unreadable m ask.rsp 8) _ (sync_kept name.CondDestroy m (word_at m ask.rsp) begins)
  call_kept CondSignal m sized begins = denied_kept (unreadable m ask.rsp 8) _ (sync_kept name.CondSignal m (word_at m ask.rsp) begins)
  call_kept CondBroadcast m sized begins = denied_kept (unreadable m ask.rsp 8) _ (sync_kept name.CondBroadcast m (word_at m ask.rsp) begins)
  call_kept BarrierInit m sized begins = denied_kept (unreadable m ask.rsp 8) _ (sync_kept name.BarrierInit m (word_at m ask.rsp) begins)
  call_kept BarrierWait m sized begins = denied_kept (unreadable m ask.rsp 8) _ (sync_kept name.BarrierWait m (word_at m ask.rsp) begins)
  call_kept BarrierDestroy m sized begins = denied_kept (unreadable m ask.rsp 8) _ (sync_kept name.BarrierDestroy m (word_at m ask.rsp) begins)
  call_kept CondWait m sized begins = denied_kept (unreadable m ask.rsp 8) _ (cond_wait_kept m (word_at m ask.rsp) begins)
  call_kept Once m sized begins = denied_kept (unreadable m ask.rsp 8) _ (once_kept m (word_at m ask.rsp) begins)

asked_kept : (l : LibraryData) (t u : ℕ) (what : Asked) (ask : Ask) (m : Memory) → length l.slots ≡ 64 → Kept l t u what ask (asked_row what l m t ask)
unfolding end_door call_door
asked_kept l t u (Lib f) ask m sized = call_kept l t u (Lib f) ask f m sized (λ after g place room left controls. record { room = room; left = left; controls = controls })
asked_kept l t u EndDoor ask m sized = ended_kept l t u EndDoor ask m ask.top
asked_kept l t u CallDoor ask m sized = compared_kept l t u CallDoor ask m ask.top (λ f top. (
  λ g place none search left. record { before = f; top = top; left = left; search = search; controls = refl },
  λ after place controls. record { door = refl; frame = f; top = top; controls = controls },
))

pub row_kept : (l : LibraryData) (t u : ℕ) (ask : Ask) (m : Memory) → length l.slots ≡ 64 → Kept l t u ask.what ask (row l m t ask)
unfolding row
row_kept l t u ask m sized = asked_kept l t u ask.what ask m sized

pub row_stays : (l after : LibraryData) (m n : Memory) (t u : ℕ) (ask : Ask) (called : Called) → length l.slots ≡ 64 → row l m t ask ≡ Done after n called → Stays l after t u ask.what ask called
row_stays l after m n t u ask called sized e = (subst (Kept l t u ask.what ask) e (row_kept l t u ask m sized)).is

-- what an answer says of calls, as whoever goes on with it needs it
answer_of : (what : Asked) (l after : LibraryData) (t : ℕ) (ask : Ask) (called : Called) → Calls what l after t ask called → IsAnswer what ask called
answer_of what l after t ask (Back rax rsp rip popped) h = tt
answer_of (Lib f) l after t ask (Probe frame place) h = (h.left, h.room)
answer_of CallDoor l after t ask (Probe frame place) h = (h.left, subst IsSome (sym h.top) refl)
answer_of EndDoor l after t ask (Probe frame place) h = absurd h
answer_of what l after t ask Stay h = tt
answer_of what l after t ask Over h = tt

pub row_answers : (l after : LibraryData) (m n : Memory) (t : ℕ) (ask : Ask) (called : Called) → length l.slots ≡ 64 → row l m t ask ≡ Done after n called → IsAnswer ask.what ask called
row_answers l after m n t ask called sized e = answer_of ask.what l after t ask called (row_stays l after m n t 0 ask called sized e).calls
