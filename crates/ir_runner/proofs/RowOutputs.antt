-- A library's row leaves what was written before at the front of both outputs.
use Rattle.std.proofs.Common.{◌≡◌, ℕ, ◌+◌, Bool, true, false, cond, List, [], ◌++◌, Option, Some, None, refl, sym, ap, ◌∙◌, subst}
use Rattle.std.specs.Prelude.{◌==◌, ◌||◌, not, nat_le, nat_lt, length, min, option_map, ⊤}
use Rattle.std.proofs.lemmas.List.{append-nil, append_assoc}
use Rattle.elf_image.specs.declared.place.Function.{Function}
use Rattle.elf_image.specs.declared.place.Function.TheVariants.{PthreadCreate, PthreadJoin, PthreadSelf, MutexInit, MutexLock, MutexTrylock, MutexUnlock, MutexDestroy, Bsearch, Read, Write, Exit, CondInit, CondDestroy, CondWait, CondSignal, CondBroadcast, BarrierInit, BarrierWait, BarrierDestroy, Once}
use Rattle.tso_memory.specs.Memory.{Memory, bytes_from}
use Rattle.callbacks.specs.declared.Frame.{Frame}
use Rattle.callbacks.specs.declared.Next.{Next}
use Rattle.callbacks.specs.declared.Next.TheVariants as next
use Rattle.callbacks.specs.Frame.{resumed}
use Rattle.sync_more.specs.declared.ask.SyncName.{SyncName}
use Rattle.sync_more.specs.declared.ask.SyncName.TheVariants as name
use Rattle.sync_more.specs.declared.ask.Outcome.{Outcome}
use Rattle.sync_more.specs.declared.ask.Outcome.TheVariants as outcome
use Rattle.lib_table.specs.declared.answer.BadKind.{BadKind}
use Rattle.lib_table.specs.declared.answer.Called.{Called}
use Rattle.lib_table.specs.declared.ask.Ask.{Ask}
use Rattle.lib_table.specs.declared.ask.Asked.{Asked}
use Rattle.lib_table.specs.declared.ask.Asked.TheVariants.{Lib, EndDoor, CallDoor}
use Rattle.lib_table.specs.declared.life.Life.{Life}
use Rattle.lib_table.specs.declared.life.Life.TheVariants.{Unborn, Live, Ended, Joined}
use Rattle.lib_table.specs.declared.limits.TheConstants.{MAX_BYTES, MAX_FRAMES, MAX_OUTPUT}
use Rattle.lib_table.specs.Library.{LibraryData, is_held, life_at, next_number, with_life}
use Rattle.lib_table.specs.Outcome.{RowResult, Done, Waits, Bad, a1, a2, a3, a4, low_32, unless_denied, unreadable, unwritable, word_at}
use Rattle.lib_table.specs.Threads.{born_if, create, end_door, ended, first_rsp, join, joined, joining, self_id}
use Rattle.lib_table.specs.Sync.{comes_to, cond_wait, once, sync}
use Rattle.lib_table.specs.Mutexes.{destroy, init, lock, taken, trylock, unlock}
use Rattle.lib_table.specs.Searches.{after_routine, call_door, compared, comparison, search_for, searching, searching_on}
use Rattle.lib_table.specs.Streams.{appended, read, write}
use Rattle.lib_table.specs.Row.{asked_row, call_row, row}

-- what was written stays at the front
pub record Grows (l after : LibraryData) : Type 0 where
  pub more1 : List ℕ
  pub more2 : List ℕ
  pub out1 : after.out1 ≡ l.out1 ++ more1
  pub out2 : after.out2 ≡ l.out2 ++ more2

pub grows_same : (l after : LibraryData) → after.out1 ≡ l.out1 → after.out2 ≡ l.out2 → Grows l after
grows_same l after e f = record { more1 = []; more2 = []; out1 = e ∙ sym (append-nil l.out1); out2 = f ∙ sym (append-nil l.out2) }

pub grows_then : (l m n : LibraryData) → Grows l m → Grows m n → Grows l n
grows_then l m n g h = record {
  more1 = g.more1 ++ h.more1;
  more2 = g.more2 ++ h.more2;
  out1 = h.out1 ∙ ap (λ x. x ++ h.more1) g.out1 ∙ append_assoc l.out1 g.more1 h.more1;
  out2 = h.out2 ∙ ap (λ x. x ++ h.more2) g.out2 ∙ append_assoc l.out2 g.more2 h.more2;
}

abbrev After : LibraryData → RowResult → Type 0
After l (Done after m called) = Grows l after
After l Waits = ⊤
After l (Bad kind) = ⊤

record Kept (l : LibraryData) (r : RowResult) : Type 0 where
  is : After l r

module _ (l : LibraryData) (t : ℕ) (ask : Ask) where
  same : (after : LibraryData) (m : Memory) (called : Called) → after.out1 ≡ l.out1 → after.out2 ≡ l.out2 → Kept l (Done after m called)
  same after m called e f = record { is = grows_same l after e f }

  waiting : Kept l Waits
  waiting = record { is = tt }

  refusing : (kind : BadKind) → Kept l (Bad kind)
  refusing kind = record { is = tt }

  if_kept : (b : Bool) (x y : RowResult) → Kept l x → Kept l y → Kept l (cond b x y)
  if_kept true x y p q = p
  if_kept false x y p q = q

  denied_kept : (o : Option ℕ) (r : RowResult) → Kept l r → Kept l (unless_denied o r)
  denied_kept None r p = p
  denied_kept (Some x) r p = refusing _

  born_kept : (m : Memory) (back start argument : ℕ) (o : Option ℕ) → Kept l (born_if l m ask back (option_map (λ v. (v, with_life l v (Live start argument))) o))
  born_kept m back start argument None = same _ _ _ refl refl
  born_kept m back start argument (Some v) = denied_kept (unwritable m (a1 ask) 8) _ (denied_kept (unwritable m (first_rsp v) 8) _ (same _ _ _ refl refl))

  create_kept : (m : Memory) (back : ℕ) → Kept l (create l m ask back)
  unfolding create
  create_kept m back = if_kept (not (a2 ask == 0)) _ _ (same _ _ _ refl refl) (born_kept m back (a3 ask) (a4 ask) (next_number l))

  joined_kept : (m : Memory) (back v value : ℕ) → Kept l (joined l m ask back v value)
  joined_kept m back v value = if_kept (not (a2 ask == 0)) _ _ (denied_kept (unwritable m (a2 ask) 8) _ (same _ _ _ refl refl)) (same _ _ _ refl refl)

  joining_kept : (m : Memory) (back v : ℕ) (life : Life) → Kept l (joining l m t ask back v life)
  joining_kept m back v Unborn = same _ _ _ refl refl
  joining_kept m back v (Live a b) = if_kept (v == t) _ _ (same _ _ _ refl refl) waiting
  joining_kept m back v (Ended value) = joined_kept m back v value
  joining_kept m back v Joined = same _ _ _ refl refl

  join_kept : (m : Memory) (back : ℕ) → Kept l (join l m t ask back)
  unfolding join
  join_kept m back = if_kept (a1 ask == 0) _ _ (same _ _ _ refl refl) (joining_kept m back _ (life_at l _))

  ended_kept : (m : Memory) (o : Option Frame) → Kept l (ended l m t ask o)
  ended_kept m None = if_kept (t == 0) _ _ (refusing _) (same _ _ _ refl refl)
  ended_kept m (Some f) = refusing _

  init_kept : (m : Memory) (back : ℕ) → Kept l (init l m ask back)
  unfolding init
  init_kept m back = if_kept (not (a2 ask == 0)) _ _ (same _ _ _ refl refl) (if_kept (is_held l (a1 ask)) _ _ (same _ _ _ refl refl) (same _ _ _ refl refl))

  taken_kept : (m : Memory) (back : ℕ) → Kept l (taken l m t ask back)
  taken_kept m back = if_kept _ _ _ (same _ _ _ refl refl) (same _ _ _ refl refl)

  lock_kept : (m : Memory) (back : ℕ) → Kept l (lock l m t ask back)
  unfolding lock
  lock_kept m back = if_kept _ _ _ waiting (taken_kept m back)

  trylock_kept : (m : Memory) (back : ℕ) → Kept l (trylock l m t ask back)
  unfolding trylock
  trylock_kept m back = if_kept _ _ _ (same _ _ _ refl refl) (taken_kept m back)

  unlock_kept : (m : Memory) (back : ℕ) → Kept l (unlock l m t ask back)
  unfolding unlock
  unlock_kept m back = if_kept _ _ _ (same _ _ _ refl refl) (same _ _ _ refl refl)

  destroy_kept : (m : Memory) (back : ℕ) → Kept l (destroy l m ask back)
  unfolding destroy
  destroy_kept m back = if_kept _ _ _ (same _ _ _ refl refl) (same _ _ _ refl refl)

  searching_kept : (after : LibraryData) (m : Memory) (f : Frame) (n : Next) → after.out1 ≡ l.out1 → after.out2 ≡ l.out2 → Kept l (searching after m f n)
  searching_kept after m f (next.Probe place) e h = denied_kept _ _ (same _ _ _ e h)
  searching_kept after m f (next.Done place) e h = same _ _ _ e h

  search_kept : (m : Memory) (back : ℕ) → Kept l (search_for l m ask back)
  unfolding search_for
  search_kept m back = if_kept (a3 ask == 0) _ _ (same _ _ _ refl refl) (if_kept (nat_le MAX_FRAMES ask.depth) _ _ (refusing _) (searching_kept l m _ _ refl refl))

  resumed_kept : (m : Memory) (f : Frame) (o : Option ℕ) (s : Frame × Next) → Kept l (searching_on (after_routine l o) m s)
  resumed_kept m f None s = searching_kept l m s.0 s.1 refl refl
  resumed_kept m f (Some c) s = searching_kept (after_routine l (Some c)) m s.0 s.1 refl refl

  compared_kept : (m : Memory) (o : Option Frame) → Kept l (compared l m ask o)
  compared_kept m None = refusing _
  compared_kept m (Some f) = resumed_kept m f f.control (resumed f (comparison ask))

  read_kept : (m : Memory) (back : ℕ) → Kept l (read l m ask back)
  unfolding read
  read_kept m back = if_kept (not (low_32 (a1 ask) == 0)) _ _ (same _ _ _ refl refl) (denied_kept _ _ (same _ _ _ refl refl))

  output_grows : (fd : Bool) (bytes : List ℕ) → Grows l (cond fd (record l { out1 = l.out1 ++ bytes }) (record l { out2 = l.out2 ++ bytes }))
  output_grows true bytes = record { more1 = bytes; more2 = []; out1 = refl; out2 = sym (append-nil l.out2) }
  output_grows false bytes = record { more1 = []; more2 = bytes; out1 = sym (append-nil l.out1); out2 = refl }

  appended_kept : (m : Memory) (back n : ℕ) → Kept l (appended l m ask back n)
  appended_kept m back n = if_kept (nat_lt MAX_OUTPUT (length l.out1 + length l.out2 + n)) _ _ (same _ _ _ refl refl) (denied_kept (unreadable m (a2 ask) n) _ (record { is = output_grows (low_32 (a1 ask) == 1) (bytes_from m (a2 ask) n) }))

  write_kept : (m : Memory) (back : ℕ) → Kept l (write l m ask back)
  unfolding write
  write_kept m back = if_kept (not (low_32 (a1 ask) == 1 || low_32 (a1 ask) == 2)) _ _ (same _ _ _ refl refl) (appended_kept m back (min (a3 ask) MAX_BYTES))

  comes_kept : (x asleep : LibraryData) (m : Memory) (back : ℕ) (o : Outcome) → x.out1 ≡ l.out1 → x.out2 ≡ l.out2 → asleep.out1 ≡ l.out1 → asleep.out2 ≡ l.out2 → Kept l (comes_to x asleep m t ask back o)
  comes_kept x asleep m back (outcome.Answer value) e f g h = same _ _ _ e f
  comes_kept x asleep m back outcome.Sleep e f g h = same _ _ _ g h
  comes_kept x asleep m back (outcome.Wake mutex) e f g h = same _ _ _ e f
  comes_kept x asleep m back outcome.Begin e f g h = denied_kept _ _ (same _ _ _ e f)
  comes_kept x asleep m back outcome.Deep e f g h = refusing _
  comes_kept x asleep m back outcome.Waits e f g h = waiting

  sync_kept : (name : SyncName) (m : Memory) (back : ℕ) → Kept l (sync name l m t ask back)
  unfolding sync
  sync_kept name m back = comes_kept _ _ m back _ refl refl refl refl

  cond_wait_kept : (m : Memory) (back : ℕ) → Kept l (cond_wait l m t ask back)
  unfolding cond_wait
  cond_wait_kept m back = comes_kept _ _ m back _ refl refl refl refl

  once_kept : (m : Memory) (back : ℕ) → Kept l (once l m t ask back)
  unfolding once
  once_kept m back = comes_kept _ _ m back _ refl refl refl refl

  call_kept : (f : Function) (m : Memory) → Kept l (call_row f l m t ask)
  unfolding self_id
  call_kept PthreadCreate m = denied_kept (unreadable m ask.rsp 8) _ (create_kept m (word_at m ask.rsp))
  call_kept PthreadJoin m = denied_kept (unreadable m ask.rsp 8) _ (join_kept m (word_at m ask.rsp))
  call_kept PthreadSelf m = denied_kept (unreadable m ask.rsp 8) _ (same _ _ _ refl refl)
  call_kept MutexInit m = denied_kept (unreadable m ask.rsp 8) _ (init_kept m (word_at m ask.rsp))
  call_kept MutexLock m = denied_kept (unreadable m ask.rsp 8) _ (lock_kept m (word_at m ask.rsp))
  call_kept MutexTrylock m = denied_kept (unreadable m ask.rsp 8) _ (trylock_kept m (word_at m ask.rsp))
  call_kept MutexUnlock m = denied_kept (unreadable m ask.rsp 8) _ (unlock_kept m (word_at m ask.rsp))
  call_kept MutexDestroy m = denied_kept (unreadable m ask.rsp 8) _ (destroy_kept m (word_at m ask.rsp))
  call_kept Bsearch m = denied_kept (unreadable m ask.rsp 8) _ (search_kept m (word_at m ask.rsp))
  call_kept Read m = denied_kept (unreadable m ask.rsp 8) _ (read_kept m (word_at m ask.rsp))
  call_kept Write m = denied_kept (unreadable m ask.rsp 8) _ (write_kept m (word_at m ask.rsp))
  call_kept Exit m = same _ _ _ refl refl
  call_kept CondInit m = denied_kept (unreadable m ask.rsp 8) _ (sync_kept name.CondInit m (word_at m ask.rsp))
  call_kept CondDestroy m = denied_kept (unreadable m ask.rsp 8) _ (sync_kept name.CondDestroy m (word_at m ask.rsp))
  call_kept CondSignal m = denied_kept (unreadable m ask.rsp 8) _ (sync_kept name.CondSignal m (word_at m ask.rsp))
  call_kept CondBroadcast m = denied_kept (unreadable m ask.rsp 8) _ (sync_kept name.CondBroadcast m (word_at m ask.rsp))
  call_kept BarrierInit m = denied_kept (unreadable m ask.rsp 8) _ (sync_kept name.BarrierInit m (word_at m ask.rsp))
  call_kept BarrierWait m = denied_kept (unreadable m ask.rsp 8) _ (sync_kept name.BarrierWait m (word_at m ask.rsp))
  call_kept BarrierDestroy m = denied_kept (unreadable m ask.rsp 8) _ (sync_kept name.BarrierDestroy m (word_at m ask.rsp))
  call_kept CondWait m = denied_kept (unreadable m ask.rsp 8) _ (cond_wait_kept m (word_at m ask.rsp))
  call_kept Once m = denied_kept (unreadable m ask.rsp 8) _ (once_kept m (word_at m ask.rsp))

  asked_kept : (what : Asked) (m : Memory) → Kept l (asked_row what l m t ask)
  unfolding end_door call_door
  asked_kept (Lib f) m = call_kept f m
  asked_kept EndDoor m = ended_kept m ask.top
  asked_kept CallDoor m = compared_kept m ask.top

row_kept : (l : LibraryData) (t : ℕ) (ask : Ask) (m : Memory) → Kept l (row l m t ask)
unfolding row
row_kept l t ask m = asked_kept l t ask ask.what m

-- a request that is carried out appends to the outputs
pub row_grows : (l after : LibraryData) (m n : Memory) (t : ℕ) (ask : Ask) (called : Called) → row l m t ask ≡ Done after n called → Grows l after
row_grows l after m n t ask called e = (subst (Kept l) e (row_kept l t ask m)).is
