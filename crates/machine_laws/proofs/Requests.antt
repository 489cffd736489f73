-- What each request does to the lives of threads.
use Rattle.std.proofs.Common.{◌≡◌, ◌≢◌, ℕ, ◌-◌, Bool, true, false, cond, Option, Some, None, refl, subst, arith, ◌==◌, ◌||◌, not, nat_le}
use Rattle.std.specs.Prelude.{⊤, option_map}
use Rattle.elf_image.specs.declared.place.Function.{Function}
use Rattle.elf_image.specs.declared.place.Function.TheVariants.{PthreadCreate, PthreadJoin, PthreadSelf, MutexInit, MutexLock, MutexTrylock, MutexUnlock, MutexDestroy, Bsearch, Read, Write, Exit, CondInit, CondDestroy, CondWait, CondSignal, CondBroadcast, BarrierInit, BarrierWait, BarrierDestroy, Once}
use Rattle.tso_memory.specs.Memory.{Memory}
use Rattle.callbacks.specs.declared.Frame.{Frame}
use Rattle.callbacks.specs.declared.Next.{Next}
use Rattle.callbacks.specs.declared.Next.TheVariants as next
use Rattle.lib_table.specs.declared.answer.BadKind.{BadKind}
use Rattle.lib_table.specs.declared.answer.BadKind.TheVariants.{Access, Door}
use Rattle.lib_table.specs.declared.answer.Called.{Called}
use Rattle.lib_table.specs.declared.answer.Called.TheVariants.{Over}
use Rattle.lib_table.specs.declared.ask.Ask.{Ask}
use Rattle.lib_table.specs.declared.ask.Asked.{Asked}
use Rattle.lib_table.specs.declared.ask.Asked.TheVariants.{Lib, EndDoor, CallDoor}
use Rattle.lib_table.specs.declared.life.Life.{Life}
use Rattle.lib_table.specs.declared.life.Life.TheVariants.{Unborn, Live, Ended, Joined}
use Rattle.lib_table.specs.Library.{LibraryData, is_held, life_at, next_number, with_joined, with_life}
use Rattle.lib_table.specs.Outcome.{RowResult, Done, Waits, Bad, a1, a2, a3, a4, low_32, unless_denied, unwritable, unreadable, word_at}
use Rattle.lib_table.specs.Threads.{create, born_if, first_rsp, join, joining, joined, self_id, end_door, ended}
use Rattle.lib_table.specs.Mutexes.{init, lock, trylock, unlock, destroy, taken}
use Rattle.lib_table.specs.Searches.{after_routine, search_for, searching, call_door, compared}
use Rattle.lib_table.specs.Streams.{read, write}
use Rattle.lib_table.specs.Sync.{comes_to, cond_wait, once, once_frame, sync}
use Rattle.lib_table.specs.Row.{row, asked_row, call_row}
use Rattle.sync_more.specs.declared.ask.SyncName.{SyncName}
use Rattle.sync_more.specs.declared.ask.SyncName.TheVariants as name
use Rattle.sync_more.specs.declared.ask.Outcome.{Outcome}
use Rattle.sync_more.specs.declared.ask.Outcome.TheVariants as outcome
use Rattle.machine_laws.specs.Lives.{LifeChange, Keeps, Bears, Ends, Joins, HasCause, lives_after}

-- a request of thread t changed the lives so
pub record Changed (l : LibraryData) (t : ℕ) (ask : Ask) (after : LibraryData) : Type 0 where
  pub change : LifeChange
  pub cause : HasCause l t ask change
  pub slots : after.slots ≡ (lives_after l t ask change).slots

abbrev Changes : LibraryData → ℕ → Ask → RowResult → Type 0
Changes l t ask (Done after m called) = Changed l t ask after
Changes l t ask Waits = ⊤
Changes l t ask (Bad kind) = ⊤

record Kept (l : LibraryData) (t : ℕ) (ask : Ask) (r : RowResult) : Type 0 where
  is : Changes l t ask r

module _ (l : LibraryData) (t : ℕ) (ask : Ask) where
  keeps : (after : LibraryData) (m : Memory) (called : Called) → after.slots ≡ l.slots → Kept l t ask (Done after m called)
  keeps after m called e = record { is = record { change = Keeps; cause = tt; slots = e } }

  waiting : Kept l t ask Waits
  waiting = record { is = tt }

  refusing : (kind : BadKind) → Kept l t ask (Bad kind)
  refusing kind = record { is = tt }

  if_kept : (b : Bool) (x y : RowResult) → Kept l t ask x → Kept l t ask y → Kept l t ask (cond b x y)
  if_kept true x y p q = p
  if_kept false x y p q = q

  denied_kept : (o : Option ℕ) (r : RowResult) → Kept l t ask r → Kept l t ask (unless_denied o r)
  denied_kept None r p = p
  denied_kept (Some x) r p = refusing (Access x)

  -- ---- threads

  born_kept : (m : Memory) (back : ℕ) (o : Option ℕ) → next_number l ≡ o → ask.what ≡ Lib PthreadCreate → Kept l t ask (born_if l m ask back (option_map (λ u. (u, with_life l u (Live (a3 ask) (a4 ask)))) o))
  born_kept m back None e w = keeps _ _ _ refl
  born_kept m back (Some u) e w = denied_kept (unwritable m (a1 ask) 8) _ (denied_kept (unwritable m (first_rsp u) 8) _ (record { is = record { change = Bears u; cause = (w, e); slots = refl } }))

  create_kept : (m : Memory) (back : ℕ) → ask.what ≡ Lib PthreadCreate → Kept l t ask (create l m ask back)
  unfolding create
  create_kept m back w = if_kept (not (a2 ask == 0)) _ _ (keeps _ _ _ refl) (born_kept m back (next_number l) refl w)

  joined_by : (m : Memory) (called : Called) (u value : ℕ) → ask.what ≡ Lib PthreadJoin → life_at l u ≡ Ended value → Kept l t ask (Done (with_joined l u) m called)
  joined_by m called u value w e = record { is = record { change = Joins u; cause = (value, w, e); slots = refl } }

  joined_kept : (m : Memory) (back u value : ℕ) → ask.what ≡ Lib PthreadJoin → life_at l u ≡ Ended value → Kept l t ask (joined l m ask back u value)
  joined_kept m back u value w e = if_kept (not (a2 ask == 0)) _ _ (denied_kept (unwritable m (a2 ask) 8) _ (joined_by _ _ u value w e)) (joined_by _ _ u value w e)

  joining_kept : (m : Memory) (back u : ℕ) (life : Life) → ask.what ≡ Lib PthreadJoin → life_at l u ≡ life → Kept l t ask (joining l m t ask back u life)
  joining_kept m back u Unborn w e = keeps _ _ _ refl
  joining_kept m back u (Live a b) w e = if_kept (u == t) _ _ (keeps _ _ _ refl) (waiting)
  joining_kept m back u (Ended value) w e = joined_kept m back u value w e
  joining_kept m back u Joined w e = keeps _ _ _ refl

  join_kept : (m : Memory) (back : ℕ) → ask.what ≡ Lib PthreadJoin → Kept l t ask (join l m t ask back)
  unfolding join
  join_kept m back w = if_kept (a1 ask == 0) _ _ (keeps _ _ _ refl) (joining_kept m back (a1 ask - 1) (life_at l (a1 ask - 1)) w refl)

  not_0 : (t == 0) ≡ false → t ≢ 0
  not_0 h = grind arith

  ended_kept : (m : Memory) (o : Option Frame) → ask.what ≡ EndDoor → ask.top ≡ o → Kept l t ask (ended l m t ask o)
  ended_kept m None w e = unless_first (t == 0) refl
    where
      unless_first : (first : Bool) → (t == 0) ≡ first → Kept l t ask (cond first (Bad Door) (Done (with_life l t (Ended ask.rax)) m Over))
      unless_first true h = refusing Door
      unless_first false h = record { is = record { change = Ends; cause = (w, e, not_0 h); slots = refl } }
  ended_kept m (Some f) w e = refusing _

  -- ---- mutexes

  init_kept : (m : Memory) (back : ℕ) → Kept l t ask (init l m ask back)
  unfolding init
  init_kept m back = if_kept (not (a2 ask == 0)) _ _ (keeps _ _ _ refl) (if_kept (is_held l (a1 ask)) _ _ (keeps _ _ _ refl) (keeps _ _ _ refl))

  taken_kept : (m : Memory) (back : ℕ) → Kept l t ask (taken l m t ask back)
  taken_kept m back = if_kept _ _ _ (keeps _ _ _ refl) (keeps _ _ _ refl)

  lock_kept : (m : Memory) (back : ℕ) → Kept l t ask (lock l m t ask back)
  unfolding lock
  lock_kept m back = if_kept _ _ _ (waiting) (taken_kept m back)

  trylock_kept : (m : Memory) (back : ℕ) → Kept l t ask (trylock l m t ask back)
  unfolding trylock
  trylock_kept m back = if_kept _ _ _ (keeps _ _ _ refl) (taken_kept m back)

  unlock_kept : (m : Memory) (back : ℕ) → Kept l t ask (unlock l m t ask back)
  unfolding unlock
  unlock_kept m back = if_kept _ _ _ (keeps _ _ _ refl) (keeps _ _ _ refl)

  destroy_kept : (m : Memory) (back : ℕ) → Kept l t ask (destroy l m ask back)
  unfolding destroy
  destroy_kept m back = if_kept _ _ _ (keeps _ _ _ refl) (keeps _ _ _ refl)

  -- ---- calls back

  searching_kept : (after : LibraryData) (m : Memory) (f : Frame) (n : Next) → after.slots ≡ l.slots → Kept l t ask (searching after m f n)
  searching_kept after m f (next.Probe place) e = denied_kept _ _ (keeps _ _ _ e)
  searching_kept after m f (next.Done place) e = keeps _ _ _ e

  search_kept : (m : Memory) (back : ℕ) → Kept l t ask (search_for l m ask back)
  unfolding search_for
  search_kept m back = if_kept (a3 ask == 0) _ _ (keeps _ _ _ refl) (if_kept (nat_le 16 ask.depth) _ _ (refusing _) (searching_kept l m _ _ refl))

  routine_slots : (o : Option ℕ) → (after_routine l o).slots ≡ l.slots
  routine_slots None = refl
  routine_slots (Some c) = refl

  compared_kept : (m : Memory) (o : Option Frame) → Kept l t ask (compared l m ask o)
  compared_kept m None = refusing _
  compared_kept m (Some f) = searching_kept (after_routine l f.control) m _ _ (routine_slots f.control)

  -- ---- input and output

  read_kept : (m : Memory) (back : ℕ) → Kept l t ask (read l m ask back)
  unfolding read
  read_kept m back = if_kept (not (low_32 (a1 ask) == 0)) _ _ (keeps _ _ _ refl) (denied_kept _ _ (keeps _ _ _ refl))

  output_same : (b : Bool) (x y : LibraryData) → x.slots ≡ l.slots → y.slots ≡ l.slots → (cond b x y).slots ≡ l.slots
  output_same true x y p q = p
  output_same false x y p q = q

  write_kept : (m : Memory) (back : ℕ) → Kept l t ask (write l m ask back)
  unfolding write
  write_kept m back = if_kept (not (low_32 (a1 ask) == 1 || low_32 (a1 ask) == 2)) _ _ (keeps _ _ _ refl) (if_kept _ _ _ (keeps _ _ _ refl) (denied_kept _ _ (keeps _ _ _ (output_same _ _ _ refl refl))))

  -- ---- waiting in common

  comes_kept : (x asleep : LibraryData) (m : Memory) (back : ℕ) (o : Outcome) → x.slots ≡ l.slots → asleep.slots ≡ l.slots → Kept l t ask (comes_to x asleep m t ask back o)
  comes_kept x asleep m back (outcome.Answer value) e f = keeps _ _ _ e
  comes_kept x asleep m back outcome.Sleep e f = keeps _ _ _ f
  comes_kept x asleep m back (outcome.Wake mutex) e f = keeps _ _ _ e
  comes_kept x asleep m back outcome.Begin e f = searching_kept x m (once_frame ask back) (next.Probe (a2 ask)) e
  comes_kept x asleep m back outcome.Deep e f = refusing _
  comes_kept x asleep m back outcome.Waits e f = waiting

  sync_kept : (name : SyncName) (m : Memory) (back : ℕ) → Kept l t ask (sync name l m t ask back)
  unfolding sync
  sync_kept name m back = comes_kept _ _ m back _ refl refl

  cond_wait_kept : (m : Memory) (back : ℕ) → Kept l t ask (cond_wait l m t ask back)
  unfolding cond_wait
  cond_wait_kept m back = comes_kept _ _ m back _ refl refl

  once_kept : (m : Memory) (back : ℕ) → Kept l t ask (once l m t ask back)
  unfolding once
  once_kept m back = comes_kept _ _ m back _ refl refl

  -- ---- all requests

  call_kept : (f : Function) (m : Memory) → ask.what ≡ Lib f → Kept l t ask (call_row f l m t ask)
  unfolding self_id
  call_kept PthreadCreate m w = denied_kept (unreadable m ask.rsp 8) _ (create_kept m (word_at m ask.rsp) w)
  call_kept PthreadJoin m w = denied_kept (unreadable m ask.rsp 8) _ (join_kept m (word_at m ask.rsp) w)
  call_kept PthreadSelf m w = denied_kept (unreadable m ask.rsp 8) _ (keeps _ _ _ refl)
  call_kept MutexInit m w = denied_kept (unreadable m ask.rsp 8) _ (init_kept m (word_at m ask.rsp))
  call_kept MutexLock m w = denied_kept (unreadable m ask.rsp 8) _ (lock_kept m (word_at m ask.rsp))
  call_kept MutexTrylock m w = denied_kept (unreadable m ask.rsp 8) _ (trylock_kept m (word_at m ask.rsp))
  call_kept MutexUnlock m w = denied_kept (unreadable m ask.rsp 8) _ (unlock_kept m (word_at m ask.rsp))
  call_kept MutexDestroy m w = denied_kept (unreadable m ask.rsp 8) _ (destroy_kept m (word_at m ask.rsp))
  call_kept Bsearch m w = denied_kept (unreadable m ask.rsp 8) _ (search_kept m (word_at m ask.rsp))
  call_kept Read m w = denied_kept (unreadable m ask.rsp 8) _ (read_kept m (word_at m ask.rsp))
  call_kept Write m w = denied_kept (unreadable m ask.rsp 8) _ (write_kept m (word_at m ask.rsp))
  call_kept Exit m w = keeps _ _ _ refl
  call_kept CondInit m w = denied_kept (unreadable m ask.rsp 8) _ (sync_kept name.CondInit m (word_at m ask.rsp))
  call_kept CondDestroy m w = denied_kept (unreadable m ask.rsp 8) _ (sync_kept name.CondDestroy m (word_at m ask.rsp))
  call_kept CondSignal m w = denied_kept (unreadable m ask.rsp 8) _ (sync_kept name.CondSignal m (word_at m ask.rsp))
  call_kept CondBroadcast m w = denied_kept (unreadable m ask.rsp 8) _ (sync_kept name.CondBroadcast m (word_at m ask.rsp))
  call_kept BarrierInit m w = denied_kept (unreadable m ask.rsp 8) _ (sync_kept name.BarrierInit m (word_at m ask.rsp))
  call_kept BarrierWait m w = denied_kept (unreadable m ask.rsp 8) _ (sync_kept name.BarrierWait m (word_at m ask.rsp))
  call_kept BarrierDestroy m w = denied_kept (unreadable m ask.rsp 8) _ (sync_kept name.BarrierDestroy m (word_at m ask.rsp))
  call_kept CondWait m w = denied_kept (unreadable m ask.rsp 8) _ (cond_wait_kept m (word_at m ask.rsp))
  call_kept Once m w = denied_kept (unreadable m ask.rsp 8) _ (once_kept m (word_at m ask.rsp))

  asked_kept : (what : Asked) (m : Memory) → ask.what ≡ what → Kept l t ask (asked_row what l m t ask)
  unfolding end_door call_door
  asked_kept (Lib f) m w = call_kept f m w
  asked_kept EndDoor m w = ended_kept m ask.top w refl
  asked_kept CallDoor m w = compared_kept m ask.top

  row_kept : (m : Memory) → Kept l t ask (row l m t ask)
  unfolding row
  row_kept m = asked_kept ask.what m refl

-- what a request that was carried out did to the lives
pub row_changes : (l after : LibraryData) (m n : Memory) (t : ℕ) (ask : Ask) (called : Called) → row l m t ask ≡ Done after n called → Changed l t ask after
row_changes l after m n t ask called e = (subst (Kept l t ask) e (row_kept l t ask m)).is

pub row_told : (l after : LibraryData) (m n : Memory) (t : ℕ) (ask : Ask) (called : Called) → row l m t ask ≡ Done after n called → (x : LifeChange) × HasCause l t ask x × (after.slots ≡ (lives_after l t ask x).slots)
row_told l after m n t ask called e = let h = row_changes l after m n t ask called e in (h.change, h.cause, h.slots)
