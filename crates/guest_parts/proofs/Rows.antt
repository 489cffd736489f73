-- What a row of the library leaves of the thread that asks: it lives on in its slot, unless it ended or the run did, and
-- what is answered to it fits its registers.
use Rattle.std.proofs.Common.{◌≡◌, ◌≢◌, ℕ, zero, suc, ◌+◌, ◌-◌, ◌*◌, ◌%◌, ◌^◌, ◌<◌, ◌⊎◌, inl, inr, Bool, true, false, cond, Option, Some, None, refl, sym, ap, ◌∙◌, subst, arith, slice_index_or, ◌==◌, nat_lt, length}
use Rattle.std.specs.Prelude.{⊤, not, ◌||◌, option_map, min, ℤ, pos, negsuc}
use Rattle.std.specs.FinMap.{get, remove}
use Rattle.std.proofs.lemmas.List.{get_or-set_other}
use Rattle.std.proofs.lemmas.List.Quantifiers.{position-Some}
use Rattle.address_space.specs.Slots.{slot_of, generation_of}
use Rattle.address_space.specs.declared.TheConstants.{CALL_DOOR}
use Rattle.address_space.proofs.Numbers.{slot_back}
use Rattle.elf_image.specs.declared.place.Function.{Function}
use Rattle.elf_image.specs.declared.place.Function.TheVariants.{PthreadCreate, PthreadJoin, PthreadSelf, MutexInit, MutexLock, MutexTrylock, MutexUnlock, MutexDestroy, Bsearch, Read, Write, Exit, CondInit, CondDestroy, CondWait, CondSignal, CondBroadcast, BarrierInit, BarrierWait, BarrierDestroy, Once}
use Rattle.callbacks.specs.declared.Frame.{Frame}
use Rattle.callbacks.specs.declared.Next.{Next}
use Rattle.callbacks.specs.declared.Next.TheVariants as next
use Rattle.callbacks.specs.Frame.{element, middle, probe, resumed, resumed_for, searched}
use Rattle.sync_more.specs.declared.ask.SyncName.{SyncName}
use Rattle.sync_more.specs.declared.ask.SyncName.TheVariants as name
use Rattle.sync_more.specs.declared.ask.Outcome.{Outcome}
use Rattle.sync_more.specs.declared.ask.Outcome.TheVariants as outcome
use Rattle.sync_more.specs.declared.limits.TheConstants.{SERIAL_THREAD}
use Rattle.sync_more.specs.declared.state.Phase.{Phase}
use Rattle.sync_more.specs.declared.state.Phase.TheVariants as phase
use Rattle.sync_more.specs.declared.state.Barrier.{Barrier}
use Rattle.sync_more.specs.declared.state.Control.{Control}
use Rattle.sync_more.specs.declared.state.Control.TheVariants as control
use Rattle.sync_more.specs.Rooms.{Reply, RoomsData, phase_of, told}
use Rattle.sync_more.specs.Row as rooms
use Rattle.sync_more.specs.Conditions as conditions
use Rattle.sync_more.specs.Conditions.{is_another, lies_down, sleeps_or_wakes}
use Rattle.sync_more.specs.Barriers as barriers
use Rattle.sync_more.specs.Barriers.{arrived, arrives_or_passes, destroyed}
use Rattle.sync_more.specs.Once as onces
use Rattle.sync_more.specs.Once.{begun_unless}
use Rattle.tso_memory.specs.Memory.{Memory}
use Rattle.lib_table.specs.declared.answer.BadKind.{BadKind}
use Rattle.lib_table.specs.declared.answer.BadKind.TheVariants.{Access, Depth}
use Rattle.lib_table.specs.declared.answer.Called.{Called}
use Rattle.lib_table.specs.declared.answer.Called.TheVariants.{Probe}
use Rattle.lib_table.specs.declared.ask.Ask.{Ask}
use Rattle.lib_table.specs.declared.ask.Asked.{Asked}
use Rattle.lib_table.specs.declared.ask.Asked.TheVariants.{Lib, EndDoor, CallDoor}
use Rattle.lib_table.specs.declared.life.Life.{Life}
use Rattle.lib_table.specs.declared.life.Life.TheVariants.{Unborn, Live, Ended, Joined}
use Rattle.lib_table.specs.declared.slot.Slot.{Slot}
use Rattle.lib_table.specs.Library.{LibraryData, free_slot, id_of, is_free, is_held, is_held_by, is_running, is_unborn, life_at, life_in, new_slot, number_at, slot_at, with_life, with_slot}
use Rattle.lib_table.specs.Outcome.{RowResult, Done, Waits, Bad, a1, a2, a3, a4, low_32, put_word, returned, sync_args, unless_denied, unreadable, unwritable, word_at}
use Rattle.lib_table.specs.Threads.{born_if, create, ended, end_door, first_rsp, join, joining, self_id}
use Rattle.lib_table.specs.Mutexes.{destroy, init, lock, taken, trylock, unlock}
use Rattle.lib_table.specs.Searches.{after_routine, call_door, compared, comparison, new_frame, probe_rsp, search_for, searching, searching_on}
use Rattle.lib_table.specs.Streams.{read, write}
use Rattle.lib_table.specs.Sync.{comes_to, cond_wait, is_takeable, once, once_frame, sync}
use Rattle.lib_table.specs.Row.{asked_row, call_row, row}
use Rattle.guest_parts.specs.Calls.{FitsRegisters, HasKey, goes_on}

-- ---- slots

free_dead : (life : Life) → is_unborn life ≡ true → is_running life ≡ false
free_dead Unborn e = refl
free_dead (Live a b) e = absurd (let h : false ≡ true = e in cc)
free_dead (Ended v) e = refl
free_dead Joined e = refl

ended_by : (s : Slot) (g value : ℕ) (less same : Bool) → cond less Joined (cond same s.life Unborn) ≡ Ended value → is_running s.life ≡ false
ended_by s g value true same h = absurd (let q : Joined ≡ Ended value = h in cc)
ended_by s g value false true h = ap is_running h
ended_by s g value false false h = absurd (let q : Unborn ≡ Ended value = h in cc)

-- in the slot of an ended thread none lives
ended_dead : (s : Slot) (g value : ℕ) → life_in s g ≡ Ended value → is_running s.life ≡ false
unfolding life_in
ended_dead s g value h = ended_by s g value (nat_lt g s.generation) (g == s.generation) h

below_word : (x : ℕ) → x % 2 ^ 64 < 2 ^ 64
below_word x = omega arith

few_bytes : (a n : ℕ) → min (min a 4096) n < 2 ^ 64
few_bytes a n = omega arith

-- ---- what is told of a row

-- the numbers of a request are those of its types
pub record IsRequest (t : ℕ) (ask : Ask) : Type 0 where
  pub number : t < 2 ^ 32
  pub first : a1 ask < 2 ^ 64
  pub second : a2 ask < 2 ^ 64
  pub key : HasKey ask.top

-- a thread that goes on lives in its slot as before; else it asked for the end of the run, or it ended
pub record Tells (l after : LibraryData) (t : ℕ) (what : Asked) (ask : Ask) (called : Called) : Type 0 where
  pub slot : goes_on called ≡ true → slot_at after (slot_of t) ≡ slot_at l (slot_of t)
  pub over : goes_on called ≡ false → (what ≡ Lib Exit) ⊎ ((what ≡ EndDoor) × (after ≡ with_life l t (Ended ask.rax)))
  pub fits : IsRequest t ask → FitsRegisters called

abbrev After : LibraryData → ℕ → Asked → Ask → RowResult → Type 0
After l t what ask (Done after m called) = Tells l after t what ask called
After l t what ask Waits = ⊤
After l t what ask (Bad kind) = ⊤

record Kept (l : LibraryData) (t : ℕ) (what : Asked) (ask : Ask) (r : RowResult) : Type 0 where
  pub is : After l t what ask r

on_over : (A : Type 0) → true ≡ false → A
on_over A e = absurd (let h : true ≡ false = e in cc)

module _ (l : LibraryData) (t : ℕ) (what : Asked) (ask : Ask) (sized : length l.slots ≡ 64) (live : is_running (slot_at l (slot_of t)).life ≡ true) where
  back : (after : LibraryData) (m : Memory) (value to : ℕ) → slot_at after (slot_of t) ≡ slot_at l (slot_of t) → (IsRequest t ask → value < 2 ^ 64) → Kept l t what ask (Done after m (returned ask to value))
  back after m value to same fits = record { is = record { slot = λ _. same; over = λ e. on_over _ e; fits = λ f. (fits f, below_word (ask.rsp + 8)) } }

  same_slot : (after : LibraryData) → after.slots ≡ l.slots → slot_at after (slot_of t) ≡ slot_at l (slot_of t)
  same_slot after e = ap (λ xs. slice_index_or xs (slot_of t) new_slot) e

  -- a value that is a number of its own
  plain : (after : LibraryData) (m : Memory) (value to : ℕ) → after.slots ≡ l.slots → value < 2 ^ 64 → Kept l t what ask (Done after m (returned ask to value))
  plain after m value to e small = back after m value to (same_slot after e) (λ _. small)

  waiting : Kept l t what ask Waits
  waiting = record { is = tt }

  refusing : (kind : BadKind) → Kept l t what ask (Bad kind)
  refusing kind = record { is = tt }

  if_kept : (b : Bool) (x y : RowResult) → Kept l t what ask x → Kept l t what ask y → Kept l t what ask (cond b x y)
  if_kept true x y p q = p
  if_kept false x y p q = q

  denied_kept : (o : Option ℕ) (r : RowResult) → Kept l t what ask r → Kept l t what ask (unless_denied o r)
  denied_kept None r p = p
  denied_kept (Some x) r p = refusing (Access x)

  -- ---- threads

  -- the slot of a thread that doesn't live is another one
  set_other : (v : ℕ) (slot : Slot) (m : Memory) (to : ℕ) → is_running (slot_at l v).life ≡ false → Kept l t what ask (Done (with_slot l v slot) m (returned ask to 0))
  set_other v slot m to dead =
      let other : slot_of t ≢ v = λ e. (let h : false ≡ true = sym dead ∙ ap (λ x. is_running (slot_at l x).life) (sym e) ∙ live in cc) in
      back (with_slot l v slot) m 0 to (get_or-set_other l.slots v (slot_of t) slot new_slot other) (λ _. omega arith)

  born_kept : (m : Memory) (to start argument : ℕ) (o : Option ℕ) → free_slot l ≡ o → Kept l t what ask (born_if l m ask to (option_map (λ v. (v, with_life l v (Live start argument))) (option_map (number_at l) o)))
  born_kept m to start argument None e = plain l m 11 to refl (omega arith)
  born_kept m to start argument (Some s) e =
      let found = position-Some is_free l.slots s new_slot e in
      let below : s < 64 = subst (λ n. s < n) sized found.0 in
      let at : slot_of (number_at l s) ≡ s = slot_back s (slot_at l s).generation below in
      let dead : is_running (slot_at l (slot_of (number_at l s))).life ≡ false = ap (λ x. is_running (slot_at l x).life) at ∙ free_dead (slot_at l s).life found.1 in
      denied_kept (unwritable m (a1 ask) 8) _ (denied_kept (unwritable m (first_rsp (number_at l s)) 8) _ (set_other (slot_of (number_at l s)) _ _ to dead))

  create_kept : (m : Memory) (to : ℕ) → Kept l t what ask (create l m ask to)
  unfolding create
  create_kept m to = if_kept (not (a2 ask == 0)) _ _ (plain l m 22 to refl (omega arith)) (born_kept m to (a3 ask) (a4 ask) (free_slot l) refl)

  joining_kept : (m : Memory) (to v : ℕ) (life : Life) → life_at l v ≡ life → Kept l t what ask (joining l m t ask to v life)
  joining_kept m to v Unborn e = plain l m 3 to refl (omega arith)
  joining_kept m to v (Live a b) e = if_kept (v == t) _ _ (plain l m 35 to refl (omega arith)) waiting
  joining_kept m to v (Ended value) e =
      let dead = ended_dead (slot_at l (slot_of v)) (generation_of v) value e in
      if_kept (not (a2 ask == 0)) _ _ (denied_kept (unwritable m (a2 ask) 8) _ (set_other (slot_of v) _ _ to dead)) (set_other (slot_of v) _ _ to dead)
  joining_kept m to v Joined e = plain l m 3 to refl (omega arith)

  join_kept : (m : Memory) (to : ℕ) → Kept l t what ask (join l m t ask to)
  unfolding join
  join_kept m to = if_kept (a1 ask == 0) _ _ (plain l m 3 to refl (omega arith)) (joining_kept m to (a1 ask - 1) (life_at l (a1 ask - 1)) refl)

  self_kept : (m : Memory) (to : ℕ) → Kept l t what ask (self_id l m t ask to)
  unfolding self_id
  self_kept m to = back l m (id_of t) to refl (λ f. let n = f.number in omega arith)

  ended_kept : (m : Memory) (o : Option Frame) → what ≡ EndDoor → Kept l t what ask (ended l m t ask o)
  ended_kept m None e = if_kept (t == 0) _ _ (refusing _) (record { is = record { slot = λ h. on_over _ (sym h); over = λ _. inr (e, refl); fits = λ _. tt } })
  ended_kept m (Some f) e = refusing _

  -- ---- mutexes

  init_kept : (m : Memory) (to : ℕ) → Kept l t what ask (init l m ask to)
  unfolding init
  init_kept m to = if_kept (not (a2 ask == 0)) _ _ (plain l m 22 to refl (omega arith)) (if_kept (is_held l (a1 ask)) _ _ (plain l m 16 to refl (omega arith)) (plain l m 0 to refl (omega arith)))

  taken_kept : (m : Memory) (to : ℕ) → Kept l t what ask (taken l m t ask to)
  taken_kept m to = if_kept _ _ _ (plain l m 11 to refl (omega arith)) (plain _ m 0 to refl (omega arith))

  lock_kept : (m : Memory) (to : ℕ) → Kept l t what ask (lock l m t ask to)
  unfolding lock
  lock_kept m to = if_kept _ _ _ waiting (taken_kept m to)

  trylock_kept : (m : Memory) (to : ℕ) → Kept l t what ask (trylock l m t ask to)
  unfolding trylock
  trylock_kept m to = if_kept _ _ _ (plain l m 16 to refl (omega arith)) (taken_kept m to)

  unlock_kept : (m : Memory) (to : ℕ) → Kept l t what ask (unlock l m t ask to)
  unfolding unlock
  unlock_kept m to = if_kept _ _ _ (plain _ m 0 to refl (omega arith)) (plain l m 1 to refl (omega arith))

  destroy_kept : (m : Memory) (to : ℕ) → Kept l t what ask (destroy l m ask to)
  unfolding destroy
  destroy_kept m to = if_kept _ _ _ (plain l m 16 to refl (omega arith)) (plain l m 0 to refl (omega arith))

  -- ---- calls back

  -- the key and the element of the next probe, or the answer, fit registers
  abbrev FitsNext : Frame → Next → Type 0
  FitsNext f (next.Probe place) = (f.key < 2 ^ 64) × (place < 2 ^ 64)
  FitsNext f (next.Done place) = place < 2 ^ 64

  searching_kept : (after : LibraryData) (m : Memory) (f : Frame) (n : Next) → after.slots ≡ l.slots → (IsRequest t ask → FitsNext f n) → Kept l t what ask (searching after m f n)
  searching_kept after m f (next.Probe place) e fits =
      let told : Kept l t what ask (Done after (put_word m (probe_rsp f) CALL_DOOR) (Probe f place)) = record { is = record { slot = λ _. same_slot after e; over = λ h. on_over ((what ≡ Lib Exit) ⊎ ((what ≡ EndDoor) × (after ≡ with_life l t (Ended ask.rax)))) h; fits = fits } } in
      denied_kept (unwritable m (probe_rsp f) 8) _ told
  searching_kept after m f (next.Done place) e fits = record { is = record { slot = λ _. same_slot after e; over = λ h. on_over ((what ≡ Lib Exit) ⊎ ((what ≡ EndDoor) × (after ≡ with_life l t (Ended ask.rax)))) h; fits = λ q. (fits q, below_word (f.rsp + 8)) } }

  probe_fits : (f : Frame) → f.key < 2 ^ 64 → FitsNext f (probe f)
  unfolding probe
  probe_fits f key =
      elim (nat_lt f.lo f.hi) as (λ b. FitsNext f (cond b (next.Probe (element f (middle f))) (next.Done 0))) [
        | true ↦ (key, below_word (f.base + middle f * f.size))
        | false ↦ (let lt : 0 < 2 ^ 64 = omega arith in lt)
      ]

  search_kept : (m : Memory) (to : ℕ) → Kept l t what ask (search_for l m ask to)
  unfolding search_for
  search_kept m to = if_kept _ _ _ (plain l m 0 to refl (omega arith)) (if_kept _ _ _ (refusing Depth) (searching_kept l m (new_frame ask to) (probe (new_frame ask to)) refl (λ f. probe_fits (new_frame ask to) f.first)))

  searched_fits : (f : Frame) (x : ℤ) → f.key < 2 ^ 64 → FitsNext ((searched f x).0) ((searched f x).1)
  unfolding searched
  searched_fits f (negsuc n) key = probe_fits (record f { hi = middle f }) key
  searched_fits f (pos zero) key = below_word (f.base + middle f * f.size)
  searched_fits f (pos (suc n)) key = probe_fits (record f { lo = middle f + 1 }) key

  resumed_kept : (m : Memory) (f : Frame) (x : ℤ) (o : Option ℕ) → (IsRequest t ask → f.key < 2 ^ 64) → Kept l t what ask (searching_on (after_routine l o) m (resumed_for o f x))
  resumed_kept m f x None key = searching_kept l m _ _ refl (λ q. searched_fits f x (key q))
  resumed_kept m f x (Some c) key = searching_kept (after_routine l (Some c)) m f (next.Done 0) refl (λ q. let lt : 0 < 2 ^ 64 = omega arith in lt)

  compared_kept : (m : Memory) (o : Option Frame) → ask.top ≡ o → Kept l t what ask (compared l m ask o)
  unfolding resumed
  compared_kept m None e = refusing _
  compared_kept m (Some f) e = resumed_kept m f (comparison ask) f.control (λ q. subst HasKey e q.key)

  -- ---- input and output

  read_kept : (m : Memory) (to : ℕ) → Kept l t what ask (read l m ask to)
  unfolding read
  read_kept m to = if_kept (not (low_32 (a1 ask) == 0)) _ _ (plain l m 18446744073709551615 to refl (omega arith)) (denied_kept _ _ (plain _ _ _ to refl (few_bytes (a3 ask) (length l.input))))

  output_same : (b : Bool) (x y : LibraryData) → x.slots ≡ l.slots → y.slots ≡ l.slots → (cond b x y).slots ≡ l.slots
  output_same true x y p q = p
  output_same false x y p q = q

  few_written : (x : ℕ) → min x 4096 < 2 ^ 64
  few_written x = omega arith

  write_kept : (m : Memory) (to : ℕ) → Kept l t what ask (write l m ask to)
  unfolding write
  write_kept m to = if_kept (not (low_32 (a1 ask) == 1 || low_32 (a1 ask) == 2)) _ _ (plain l m 18446744073709551615 to refl (omega arith)) (if_kept _ _ _ (plain l m 18446744073709551615 to refl (omega arith)) (denied_kept _ _ (plain _ _ _ to (output_same _ _ _ refl refl) (few_written (a3 ask)))))

  -- ---- condition variables, barriers and once

  -- a value that is answered fits a register
  abbrev FitsOutcome : Outcome → Type 0
  FitsOutcome (outcome.Answer value) = value < 2 ^ 64
  FitsOutcome outcome.Sleep = ⊤
  FitsOutcome (outcome.Wake mutex) = ⊤
  FitsOutcome outcome.Begin = ⊤
  FitsOutcome outcome.Deep = ⊤
  FitsOutcome outcome.Waits = ⊤

  record Replies (r : Reply) : Type 0 where
    pub fits : FitsOutcome r.outcome

  if_replies : (b : Bool) (x y : Reply) → Replies x → Replies y → Replies (cond b x y)
  if_replies true x y p q = p
  if_replies false x y p q = q

  number : (r : RoomsData) (value : ℕ) → value < 2 ^ 64 → Replies (told r (outcome.Answer value))
  number r value small = record { fits = small }

  lies_down_replies : (c mutex : ℕ) (holds : Bool) → Replies (lies_down l.rooms t c mutex holds)
  lies_down_replies c mutex holds = if_replies (not holds) _ _ (number _ 1 (omega arith)) (if_replies (is_another (get l.rooms.sleepers c) mutex) _ _ (number _ 22 (omega arith)) (record { fits = tt }))

  cond_wait_replies : (p : Option Phase) (c mutex : ℕ) (holds free : Bool) → Replies (sleeps_or_wakes p l.rooms t c mutex holds free)
  cond_wait_replies (Some phase.Asleep) c mutex holds free = record { fits = tt }
  cond_wait_replies (Some (phase.Woken m)) c mutex holds free = if_replies free _ _ (record { fits = tt }) (record { fits = tt })
  cond_wait_replies (Some phase.AtBarrier) c mutex holds free = lies_down_replies c mutex holds
  cond_wait_replies (Some (phase.Passed round)) c mutex holds free = lies_down_replies c mutex holds
  cond_wait_replies None c mutex holds free = lies_down_replies c mutex holds

  arrived_replies : (o : Option Barrier) (b : ℕ) → Replies (arrived l.rooms t b o)
  arrived_replies None b = number _ 22 (omega arith)
  arrived_replies (Some x) b = if_replies (nat_lt (length x.waiters) (x.count - 1)) (told (barriers.joined l.rooms t b x) outcome.Sleep) _ (record { fits = tt }) (number (barriers.opened l.rooms b x) SERIAL_THREAD (omega arith))

  barrier_wait_replies : (p : Option Phase) (b : ℕ) → Replies (arrives_or_passes p l.rooms t b)
  barrier_wait_replies (Some phase.AtBarrier) b = record { fits = tt }
  barrier_wait_replies (Some (phase.Passed round)) b = number _ 0 (omega arith)
  barrier_wait_replies (Some phase.Asleep) b = arrived_replies (get l.rooms.barriers b) b
  barrier_wait_replies (Some (phase.Woken m)) b = arrived_replies (get l.rooms.barriers b) b
  barrier_wait_replies None b = arrived_replies (get l.rooms.barriers b) b

  destroyed_replies : (o : Option Barrier) (b : ℕ) → Replies (destroyed l.rooms b o)
  destroyed_replies None b = number _ 22 (omega arith)
  destroyed_replies (Some x) b = if_replies (nat_lt 0 (length x.waiters)) _ _ (number l.rooms 16 (omega arith)) (number (record l.rooms { barriers = remove l.rooms.barriers b }) 0 (omega arith))

  once_replies : (o : Option Control) (free : Bool) → Replies (begun_unless o l.rooms t (a1 ask) free)
  once_replies (Some control.Done) free = number _ 0 (omega arith)
  once_replies (Some (control.Running owner)) free = record { fits = tt }
  once_replies None true = record { fits = tt }
  once_replies None false = record { fits = tt }

  row_replies : (name : SyncName) (holds free : Bool) → Replies (rooms.row l.rooms t name (sync_args ask) holds free)
  unfolding conditions.cond_init conditions.cond_destroy conditions.cond_wait conditions.cond_signal conditions.cond_broadcast barriers.barrier_init barriers.barrier_wait barriers.barrier_destroy onces.once
  row_replies name.CondInit holds free = if_replies (not (a2 ask == 0)) _ _ (number _ 22 (omega arith)) (if_replies (conditions.has_sleeper l.rooms (a1 ask)) _ _ (number _ 16 (omega arith)) (number _ 0 (omega arith)))
  row_replies name.CondDestroy holds free = if_replies (conditions.has_sleeper l.rooms (a1 ask)) _ _ (number _ 16 (omega arith)) (number _ 0 (omega arith))
  row_replies name.CondWait holds free = cond_wait_replies (phase_of l.rooms t) (a1 ask) (a2 ask) holds free
  row_replies name.CondSignal holds free = number _ 0 (omega arith)
  row_replies name.CondBroadcast holds free = number _ 0 (omega arith)
  row_replies name.BarrierInit holds free = if_replies (not (a2 ask == 0) || barriers.low_32 (a3 ask) == 0) _ _ (number _ 22 (omega arith)) (if_replies (barriers.is_awaited (get l.rooms.barriers (a1 ask))) _ _ (number _ 16 (omega arith)) (number _ 0 (omega arith)))
  row_replies name.BarrierWait holds free = barrier_wait_replies (phase_of l.rooms t) (a1 ask)
  row_replies name.BarrierDestroy holds free = destroyed_replies (get l.rooms.barriers (a1 ask)) (a1 ask)
  row_replies name.Once holds free = once_replies (get l.rooms.controls (a1 ask)) free

  comes_kept : (x asleep : LibraryData) (m : Memory) (to : ℕ) (o : Outcome) → x.slots ≡ l.slots → asleep.slots ≡ l.slots → FitsOutcome o → Kept l t what ask (comes_to x asleep m t ask to o)
  comes_kept x asleep m to (outcome.Answer value) e f h = plain x m value to e h
  comes_kept x asleep m to outcome.Sleep e f h = record { is = record { slot = λ _. same_slot asleep f; over = λ q. on_over _ q; fits = λ _. tt } }
  comes_kept x asleep m to (outcome.Wake mutex) e f h = plain _ m 0 to e (omega arith)
  comes_kept x asleep m to outcome.Begin e f h = searching_kept x m (once_frame ask to) (next.Probe (a2 ask)) e (λ q. (let lt : 0 < 2 ^ 64 = omega arith in lt, q.second))
  comes_kept x asleep m to outcome.Deep e f h = refusing Depth
  comes_kept x asleep m to outcome.Waits e f h = waiting

  sync_kept : (name : SyncName) (m : Memory) (to : ℕ) → Kept l t what ask (sync name l m t ask to)
  unfolding sync
  sync_kept name m to = comes_kept _ _ m to _ refl refl (row_replies name false false).fits

  cond_wait_kept : (m : Memory) (to : ℕ) → Kept l t what ask (cond_wait l m t ask to)
  unfolding cond_wait
  cond_wait_kept m to = comes_kept _ _ m to _ refl refl (row_replies name.CondWait (is_held_by l (a2 ask) t) (is_takeable l (a2 ask))).fits

  once_kept : (m : Memory) (to : ℕ) → Kept l t what ask (once l m t ask to)
  unfolding once
  once_kept m to = comes_kept _ _ m to _ refl refl (row_replies name.Once false (nat_lt ask.depth 16)).fits

  -- ---- all requests

  call_kept : (f : Function) (m : Memory) → what ≡ Lib f → Kept l t what ask (call_row f l m t ask)
  call_kept PthreadCreate m e = denied_kept (unreadable m ask.rsp 8) _ (create_kept m (word_at m ask.rsp))
  call_kept PthreadJoin m e = denied_kept (unreadable m ask.rsp 8) _ (join_kept m (word_at m ask.rsp))
  call_kept PthreadSelf m e = denied_kept (unreadable m ask.rsp 8) _ (self_kept m (word_at m ask.rsp))
  call_kept MutexInit m e = denied_kept (unreadable m ask.rsp 8) _ (init_kept m (word_at m ask.rsp))
  call_kept MutexLock m e = denied_kept (unreadable m ask.rsp 8) _ (lock_kept m (word_at m ask.rsp))
  call_kept MutexTrylock m e = denied_kept (unreadable m ask.rsp 8) _ (trylock_kept m (word_at m ask.rsp))
  call_kept MutexUnlock m e = denied_kept (unreadable m ask.rsp 8) _ (unlock_kept m (word_at m ask.rsp))
  call_kept MutexDestroy m e = denied_kept (unreadable m ask.rsp 8) _ (destroy_kept m (word_at m ask.rsp))
  call_kept Bsearch m e = denied_kept (unreadable m ask.rsp 8) _ (search_kept m (word_at m ask.rsp))
  call_kept Read m e = denied_kept (unreadable m ask.rsp 8) _ (read_kept m (word_at m ask.rsp))
  call_kept Write m e = denied_kept (unreadable m ask.rsp 8) _ (write_kept m (word_at m ask.rsp))
  call_kept Exit m e = record { is = record { slot = λ h. on_over _ (sym h); over = λ _. inl e; fits = λ _. tt } }
  call_kept CondInit m e = denied_kept (unreadable m ask.rsp 8) _ (sync_kept name.CondInit m (word_at m ask.rsp))
  call_kept CondDestroy m e = denied_kept (unreadable m ask.rsp 8) _ (sync_kept name.CondDestroy m (word_at m ask.rsp))
  call_kept CondSignal m e = denied_kept (unreadable m ask.rsp 8) _ (sync_kept name.CondSignal m (word_at m ask.rsp))
  call_kept CondBroadcast m e = denied_kept (unreadable m ask.rsp 8) _ (sync_kept name.CondBroadcast m (word_at m ask.rsp))
  call_kept BarrierInit m e = denied_kept (unreadable m ask.rsp 8) _ (sync_kept name.BarrierInit m (word_at m ask.rsp))
  call_kept BarrierWait m e = denied_kept (unreadable m ask.rsp 8) _ (sync_kept name.BarrierWait m (word_at m ask.rsp))
  call_kept BarrierDestroy m e = denied_kept (unreadable m ask.rsp 8) _ (sync_kept name.BarrierDestroy m (word_at m ask.rsp))
  call_kept CondWait m e = denied_kept (unreadable m ask.rsp 8) _ (cond_wait_kept m (word_at m ask.rsp))
  call_kept Once m e = denied_kept (unreadable m ask.rsp 8) _ (once_kept m (word_at m ask.rsp))

  asked_kept : (asked : Asked) (m : Memory) → what ≡ asked → Kept l t what ask (asked_row asked l m t ask)
  unfolding end_door call_door
  asked_kept (Lib f) m e = call_kept f m e
  asked_kept EndDoor m e = ended_kept m ask.top e
  asked_kept CallDoor m e = compared_kept m ask.top refl

pub row_tells : (l after : LibraryData) (m n : Memory) (t : ℕ) (ask : Ask) (called : Called) → length l.slots ≡ 64 → is_running (slot_at l (slot_of t)).life ≡ true → row l m t ask ≡ Done after n called → Tells l after t ask.what ask called
unfolding row
row_tells l after m n t ask called sized live e = (subst (Kept l t ask.what ask) e (asked_kept l t ask.what ask sized live ask.what m refl)).is
