-- Which rows wait.
use Rattle.std.proofs.Common.{◌≡◌, ℕ, Bool, true, false, cond, ◌&&◌, Option, Some, None, refl, ap, ◌∙◌, is_none, is_ok, Result, Ok, Err, rules}
use Rattle.elf_image.specs.declared.place.Function.{Function}
use Rattle.elf_image.specs.declared.place.Function.TheVariants.{PthreadCreate, PthreadJoin, PthreadSelf, MutexInit, MutexLock, MutexTrylock, MutexUnlock, MutexDestroy, Bsearch, Read, Write, Exit, CondInit, CondDestroy, CondWait, CondSignal, CondBroadcast, BarrierInit, BarrierWait, BarrierDestroy, Once}
use Rattle.tso_memory.specs.declared.access.Denied.{Denied}
use Rattle.tso_memory.specs.Memory.{Memory, refusal}
use Rattle.callbacks.specs.declared.Frame.{Frame}
use Rattle.callbacks.specs.declared.Next.{Next}
use Rattle.callbacks.specs.declared.Next.TheVariants as next
use Rattle.callbacks.specs.Frame.{resumed}
use Rattle.lib_table.specs.declared.ask.Ask.{Ask}
use Rattle.lib_table.specs.declared.ask.Asked.{Asked}
use Rattle.lib_table.specs.declared.ask.Asked.TheVariants.{Lib, EndDoor, CallDoor}
use Rattle.lib_table.specs.Library.{LibraryData, is_held}
use Rattle.lib_table.specs.Outcome.{RowResult, Waits, a1, unless_denied, unreadable, word_at}
use Rattle.lib_table.specs.Threads.{born_if, create, end_door, ended, self_id}
use Rattle.lib_table.specs.Mutexes.{init, lock, taken, trylock, unlock, destroy}
use Rattle.lib_table.specs.Searches.{after_routine, call_door, compared, comparison, search_for, searching}
use Rattle.lib_table.specs.Streams.{read, write}
use Rattle.lib_table.specs.Row.{asked_row, call_row, function_row, is_waiting, row, waits}

stays-if : (b : Bool) (r s : RowResult) → is_waiting r ≡ false → is_waiting s ≡ false → is_waiting (cond b r s) ≡ false
stays-if true r s p q = p
stays-if false r s p q = q

stays-unless : (o : Option ℕ) (r : RowResult) → is_waiting r ≡ false → is_waiting (unless_denied o r) ≡ false
stays-unless None r p = p
stays-unless (Some x) r p = refl

born-stays : (l : LibraryData) (m : Memory) (ask : Ask) (back : ℕ) (n : Option (ℕ × LibraryData)) → is_waiting (born_if l m ask back n) ≡ false
born-stays l m ask back None = refl
born-stays l m ask back (Some n) = search (stays-unless, rules)

searching-stays : (l : LibraryData) (m : Memory) (f : Frame) (n : Next) → is_waiting (searching l m f n) ≡ false
searching-stays l m f (next.Probe place) = search (stays-unless, rules)
searching-stays l m f (next.Done place) = refl

taken-stays : (l : LibraryData) (m : Memory) (t : ℕ) (ask : Ask) (back : ℕ) → is_waiting (taken l m t ask back) ≡ false
taken-stays l m t ask back = search (stays-if, rules)

lock_waits : (b : Bool) (r : RowResult) → is_waiting r ≡ false → is_waiting (cond b Waits r) ≡ b
lock_waits true r p = refl
lock_waits false r p = p

-- lock waits while the mutex is held
pub lock-waits : (l : LibraryData) (m : Memory) (t : ℕ) (ask : Ask) (back : ℕ) → is_waiting (lock l m t ask back) ≡ is_held l (a1 ask)
unfolding lock
lock-waits l m t ask back = lock_waits (is_held l (a1 ask)) (taken l m t ask back) (taken-stays l m t ask back)

-- no function but join, lock and the calls of condition variables, barriers and once waits
pub others-stay : (f : Function) (l : LibraryData) (m : Memory) (t : ℕ) (ask : Ask) (back : ℕ) → (f ≡ PthreadJoin → ⊥) → (f ≡ MutexLock → ⊥) → (f ≡ CondInit → ⊥) → (f ≡ CondDestroy → ⊥) → (f ≡ CondWait → ⊥) → (f ≡ CondSignal → ⊥) → (f ≡ CondBroadcast → ⊥) → (f ≡ BarrierInit → ⊥) → (f ≡ BarrierWait → ⊥) → (f ≡ BarrierDestroy → ⊥) → (f ≡ Once → ⊥) → is_waiting (function_row f l m t ask back) ≡ false
unfolding create self_id init trylock unlock destroy search_for read write
others-stay PthreadCreate l m t ask back p0 p1 p2 p3 p4 p5 p6 p7 p8 p9 p10 = search (stays-if, born-stays, rules)
others-stay PthreadJoin l m t ask back p0 p1 p2 p3 p4 p5 p6 p7 p8 p9 p10 = absurd (p0 refl)
others-stay PthreadSelf l m t ask back p0 p1 p2 p3 p4 p5 p6 p7 p8 p9 p10 = refl
others-stay MutexInit l m t ask back p0 p1 p2 p3 p4 p5 p6 p7 p8 p9 p10 = search (stays-if, rules)
others-stay MutexLock l m t ask back p0 p1 p2 p3 p4 p5 p6 p7 p8 p9 p10 = absurd (p1 refl)
others-stay MutexTrylock l m t ask back p0 p1 p2 p3 p4 p5 p6 p7 p8 p9 p10 = search (stays-if, taken-stays, rules)
others-stay MutexUnlock l m t ask back p0 p1 p2 p3 p4 p5 p6 p7 p8 p9 p10 = search (stays-if, rules)
others-stay MutexDestroy l m t ask back p0 p1 p2 p3 p4 p5 p6 p7 p8 p9 p10 = search (stays-if, rules)
others-stay Bsearch l m t ask back p0 p1 p2 p3 p4 p5 p6 p7 p8 p9 p10 = search (stays-if, searching-stays, rules)
others-stay Read l m t ask back p0 p1 p2 p3 p4 p5 p6 p7 p8 p9 p10 = search (stays-if, stays-unless, rules)
others-stay Write l m t ask back p0 p1 p2 p3 p4 p5 p6 p7 p8 p9 p10 = search (stays-if, stays-unless, rules)
others-stay Exit l m t ask back p0 p1 p2 p3 p4 p5 p6 p7 p8 p9 p10 = refl
others-stay CondInit l m t ask back p0 p1 p2 p3 p4 p5 p6 p7 p8 p9 p10 = absurd (p2 refl)
others-stay CondDestroy l m t ask back p0 p1 p2 p3 p4 p5 p6 p7 p8 p9 p10 = absurd (p3 refl)
others-stay CondWait l m t ask back p0 p1 p2 p3 p4 p5 p6 p7 p8 p9 p10 = absurd (p4 refl)
others-stay CondSignal l m t ask back p0 p1 p2 p3 p4 p5 p6 p7 p8 p9 p10 = absurd (p5 refl)
others-stay CondBroadcast l m t ask back p0 p1 p2 p3 p4 p5 p6 p7 p8 p9 p10 = absurd (p6 refl)
others-stay BarrierInit l m t ask back p0 p1 p2 p3 p4 p5 p6 p7 p8 p9 p10 = absurd (p7 refl)
others-stay BarrierWait l m t ask back p0 p1 p2 p3 p4 p5 p6 p7 p8 p9 p10 = absurd (p8 refl)
others-stay BarrierDestroy l m t ask back p0 p1 p2 p3 p4 p5 p6 p7 p8 p9 p10 = absurd (p9 refl)
others-stay Once l m t ask back p0 p1 p2 p3 p4 p5 p6 p7 p8 p9 p10 = absurd (p10 refl)

waits_unless : (o : Option ℕ) (r : RowResult) → is_waiting (unless_denied o r) ≡ (is_waiting r && is_none o)
waits_unless None r = elim (is_waiting r) as (λ b. b ≡ (b && true)) [ true ↦ refl | false ↦ refl ]
waits_unless (Some x) r = elim (is_waiting r) as (λ b. false ≡ (b && false)) [ true ↦ refl | false ↦ refl ]

call_waits : (f : Function) (l : LibraryData) (m : Memory) (t : ℕ) (ask : Ask) → is_waiting (call_row f l m t ask) ≡ (is_waiting (function_row f l m t ask (word_at m ask.rsp)) && is_none (unreadable m ask.rsp 8))
call_waits Exit l m t ask = refl
call_waits f l m t ask = waits_unless (unreadable m ask.rsp 8) _

-- a call waits where its return address can be read and its function waits
pub waits-call : (l : LibraryData) (m : Memory) (t : ℕ) (ask : Ask) (f : Function) → ask.what ≡ Lib f → waits l m t ask ≡ (is_waiting (function_row f l m t ask (word_at m ask.rsp)) && is_none (unreadable m ask.rsp 8))
unfolding row
waits-call l m t ask f e = ap (λ (w : Asked). is_waiting (asked_row w l m t ask)) e ∙ call_waits f l m t ask

compared-stays : (l : LibraryData) (m : Memory) (ask : Ask) (o : Option Frame) → is_waiting (compared l m ask o) ≡ false
compared-stays l m ask None = refl
compared-stays l m ask (Some f) = searching-stays (after_routine l f.control) m (resumed f (comparison ask)).0 (resumed f (comparison ask)).1

ended-stays : (l : LibraryData) (m : Memory) (t : ℕ) (ask : Ask) (o : Option Frame) → is_waiting (ended l m t ask o) ≡ false
ended-stays l m t ask None = search (stays-if, rules)
ended-stays l m t ask (Some f) = refl

-- no door waits
pub waits-end : (l : LibraryData) (m : Memory) (t : ℕ) (ask : Ask) → ask.what ≡ EndDoor → waits l m t ask ≡ false
unfolding row end_door
waits-end l m t ask e = ap (λ (w : Asked). is_waiting (asked_row w l m t ask)) e ∙ ended-stays l m t ask ask.top

pub waits-back : (l : LibraryData) (m : Memory) (t : ℕ) (ask : Ask) → ask.what ≡ CallDoor → waits l m t ask ≡ false
unfolding row call_door
waits-back l m t ask e = ap (λ (w : Asked). is_waiting (asked_row w l m t ask)) e ∙ compared-stays l m ask ask.top

-- an access is allowed where nothing is refused
pub is_ok-refusal : {A : Type 0} (r : Result A Denied) → is_ok r ≡ is_none (refusal r)
is_ok-refusal (Ok v) = refl
is_ok-refusal (Err d) = refl
