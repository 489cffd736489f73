-- Condition variables, barriers and one-time initialisation: POSIX pthread_cond_init, destroy, wait, signal and broadcast, pthread_barrier_init, wait and destroy, and pthread_once. Who waits where is told by the table of `sync_more`; here stands what it makes of mutexes, of memory and of the call.
use Rattle.std.specs.Prelude.{ℕ, ◌&&◌, Bool, true, false, not, nat_lt, if◌then◌else◌, ◌+◌, ◌-◌, ◌%◌, ◌^◌, Option, Some, option_map}
use Rattle.std.specs.FinMap.{len}
use Rattle.tso_memory.specs.Memory.{Memory}
use Rattle.callbacks.specs.declared.Frame.{Frame}
use Rattle.callbacks.specs.declared.Next.TheVariants as next
use Rattle.sync_more.specs.declared.ask.SyncName.{SyncName}
use Rattle.sync_more.specs.declared.ask.SyncName.TheVariants.{CondInit, CondDestroy, CondWait, CondSignal, CondBroadcast, BarrierInit, BarrierWait, BarrierDestroy, Once}
use Rattle.sync_more.specs.declared.ask.Outcome.{Outcome}
use Rattle.sync_more.specs.declared.ask.Outcome.TheVariants as outcome
use Rattle.sync_more.specs.Rooms.{Reply}
use Rattle.sync_more.specs.Row as rooms
use Rattle.lib_table.specs.declared.ask.Ask.{Ask}
use Rattle.lib_table.specs.declared.answer.Called.TheVariants.{Stay}
use Rattle.lib_table.specs.declared.answer.BadKind.{BadKind}
use Rattle.lib_table.specs.declared.answer.BadKind.TheVariants.{Access, Depth}
use Rattle.lib_table.specs.declared.limits.TheConstants.{MAX_FRAMES, MAX_HELD}
use Rattle.lib_table.specs.Library.{LibraryData, is_held, is_held_by, with_held, without_held, with_rooms}
use Rattle.lib_table.specs.Outcome.{RowResult, Done, Waits, Bad, a1, a2, sync_args, returned, unwritable}
use Rattle.lib_table.specs.Searches.{searching}

-- the frame of pthread_once(a1, a2): its one call is that of the routine a2
abbrev pub once_frame : Ask → ℕ → Frame
once_frame ask back = record { key = 0; base = 0; lo = 0; hi = 1; size = 0; compar = a2 ask; rsp = ask.rsp; back = back; control = Some (a1 ask) }

-- What an outcome comes to: l is the library with the rooms as they are then, and `asleep` the library where the thread came to sleep. A thread that is woken takes the mutex a2: it is the one that it let go of, since it stayed at its call.
abbrev pub comes_to : LibraryData → LibraryData → Memory → ℕ → Ask → ℕ → Outcome → RowResult
comes_to l asleep m t ask back (outcome.Answer value) = Done l m (returned ask back value)
comes_to l asleep m t ask back outcome.Sleep = Done asleep m Stay
comes_to l asleep m t ask back (outcome.Wake mutex) = Done (with_held l (a2 ask) t) m (returned ask back 0)
comes_to l asleep m t ask back outcome.Begin = searching l m (once_frame ask back) (next.Probe (a2 ask))
comes_to l asleep m t ask back outcome.Deep = Bad Depth
comes_to l asleep m t ask back outcome.Waits = Waits

abbrev pub replied : LibraryData → Memory → ℕ → Ask → ℕ → Reply → RowResult
replied l m t ask back reply = comes_to (with_rooms l reply.rooms) (with_rooms l reply.rooms) m t ask back reply.outcome

-- a thread that comes to sleep at a condition variable lets go of its mutex
abbrev pub replied_letting_go : LibraryData → Memory → ℕ → Ask → ℕ → Reply → RowResult
replied_letting_go l m t ask back reply = comes_to (with_rooms l reply.rooms) (without_held (with_rooms l reply.rooms) (a2 ask)) m t ask back reply.outcome

-- a call that asks for no mutex and begins no routine
abbrev pub is_simple_name : SyncName → Bool
is_simple_name CondInit = true
is_simple_name CondDestroy = true
is_simple_name CondWait = false
is_simple_name CondSignal = true
is_simple_name CondBroadcast = true
is_simple_name BarrierInit = true
is_simple_name BarrierWait = true
is_simple_name BarrierDestroy = true
is_simple_name Once = false

-- what comes of such a call: it returns a value, the thread waits from now on, or it waits still
abbrev pub is_simple : Outcome → Bool
is_simple (outcome.Answer value) = true
is_simple outcome.Sleep = true
is_simple (outcome.Wake mutex) = false
is_simple outcome.Begin = false
is_simple outcome.Deep = false
is_simple outcome.Waits = true

-- the thread goes on with its mutex
abbrev pub is_wake : Outcome → Bool
is_wake (outcome.Answer value) = false
is_wake outcome.Sleep = false
is_wake (outcome.Wake mutex) = true
is_wake outcome.Begin = false
is_wake outcome.Deep = false
is_wake outcome.Waits = false

unfoldable pub sync : SyncName → LibraryData → Memory → ℕ → Ask → ℕ → RowResult
sync name l m t ask back = replied l m t ask back (rooms.row l.rooms t name (sync_args ask) false false)

-- no thread holds the mutex, and one more may be held
abbrev pub is_takeable : LibraryData → ℕ → Bool
is_takeable l a = not (is_held l a) && nat_lt (len l.held) MAX_HELD

-- pthread_cond_wait(a1, a2)
unfoldable pub cond_wait : LibraryData → Memory → ℕ → Ask → ℕ → RowResult
cond_wait l m t ask back = replied_letting_go l m t ask back (rooms.row l.rooms t CondWait (sync_args ask) (is_held_by l (a2 ask) t) (is_takeable l (a2 ask)))

-- why a routine can't be begun, if it can't: 16 calls are under way, or its return address can't be written
abbrev pub obstacle : Memory → Ask → Option BadKind
obstacle m ask = if nat_lt ask.depth MAX_FRAMES then option_map (λ x. Access x) (unwritable m ((ask.rsp + (2 ^ 64 - 16)) % 2 ^ 64) 8) else Some Depth

-- pthread_once(a1, a2)
unfoldable pub once : LibraryData → Memory → ℕ → Ask → ℕ → RowResult
once l m t ask back = replied l m t ask back (rooms.row l.rooms t Once (sync_args ask) false (nat_lt ask.depth MAX_FRAMES))
