-- The table of the nine calls.
use Rattle.std.specs.Prelude.{ℕ, Bool, List, slice_index}
use Rattle.sync_more.specs.declared.ask.SyncName.{SyncName}
use Rattle.sync_more.specs.declared.ask.SyncName.TheVariants.{CondInit, CondDestroy, CondWait, CondSignal, CondBroadcast, BarrierInit, BarrierWait, BarrierDestroy, Once}
use Rattle.sync_more.specs.Rooms.{RoomsData, Reply, is_waiting}
use Rattle.sync_more.specs.Conditions.{cond_init, cond_destroy, cond_wait, cond_signal, cond_broadcast}
use Rattle.sync_more.specs.Barriers.{barrier_init, barrier_wait, barrier_destroy}
use Rattle.sync_more.specs.Once.{once}

-- the arguments of a call: rdi, rsi, rdx
abbrev pub a1 : List ℕ → ℕ
a1 args = slice_index args 0

abbrev pub a2 : List ℕ → ℕ
a2 args = slice_index args 1

abbrev pub a3 : List ℕ → ℕ
a3 args = slice_index args 2

-- What comes of a call of thread t. Of pthread_cond_wait `holds` says that t holds the mutex, and `free` that none does and t may take it; of pthread_once `free` says that t may begin a routine.
abbrev pub row : RoomsData → ℕ → SyncName → List ℕ → Bool → Bool → Reply
row r t CondInit args holds free = cond_init r (a1 args) (a2 args)
row r t CondDestroy args holds free = cond_destroy r (a1 args)
row r t CondWait args holds free = cond_wait r t (a1 args) (a2 args) holds free
row r t CondSignal args holds free = cond_signal r (a1 args)
row r t CondBroadcast args holds free = cond_broadcast r (a1 args)
row r t BarrierInit args holds free = barrier_init r (a1 args) (a2 args) (a3 args)
row r t BarrierWait args holds free = barrier_wait r t (a1 args)
row r t BarrierDestroy args holds free = barrier_destroy r (a1 args)
row r t Once args holds free = once r t (a1 args) free

-- the call can't be carried out before another thread goes on
abbrev pub waits : RoomsData → ℕ → SyncName → List ℕ → Bool → Bool → Bool
waits r t name args holds free = is_waiting (row r t name args holds free).outcome
