-- The library's table: what comes of each request, by the function that is called or the door that is returned to.
use Rattle.std.specs.Prelude.{ℕ, Bool, true, false}
use Rattle.elf_image.specs.declared.place.Function.{Function}
use Rattle.elf_image.specs.declared.place.Function.TheVariants.{PthreadCreate, PthreadJoin, PthreadSelf, MutexInit, MutexLock, MutexTrylock, MutexUnlock, MutexDestroy, Bsearch, Read, Write, Exit, CondInit, CondDestroy, CondWait, CondSignal, CondBroadcast, BarrierInit, BarrierWait, BarrierDestroy, Once}
use Rattle.tso_memory.specs.Memory.{Memory}
use Rattle.lib_table.specs.declared.ask.Ask.{Ask}
use Rattle.lib_table.specs.declared.ask.Asked.{Asked}
use Rattle.lib_table.specs.declared.ask.Asked.TheVariants.{Lib, EndDoor, CallDoor}
use Rattle.lib_table.specs.declared.answer.Called.TheVariants.{Over}
use Rattle.lib_table.specs.Library.{LibraryData}
use Rattle.lib_table.specs.Outcome.{RowResult, Done, Waits, Bad, unless_denied, unreadable, word_at}
use Rattle.lib_table.specs.Threads.{create, join, self_id, end_door}
use Rattle.lib_table.specs.Mutexes.{init, lock, trylock, unlock, destroy}
use Rattle.lib_table.specs.Searches.{search_for, call_door}
use Rattle.lib_table.specs.Streams.{read, write}
use Rattle.lib_table.specs.Sync.{sync, cond_wait, once}
use Rattle.sync_more.specs.declared.ask.SyncName.TheVariants as name

-- a function that returns to this address
abbrev pub function_row : Function → LibraryData → Memory → ℕ → Ask → ℕ → RowResult
function_row PthreadCreate l m t ask back = create l m ask back
function_row PthreadJoin l m t ask back = join l m t ask back
function_row PthreadSelf l m t ask back = self_id l m t ask back
function_row MutexInit l m t ask back = init l m ask back
function_row MutexLock l m t ask back = lock l m t ask back
function_row MutexTrylock l m t ask back = trylock l m t ask back
function_row MutexUnlock l m t ask back = unlock l m t ask back
function_row MutexDestroy l m t ask back = destroy l m ask back
function_row Bsearch l m t ask back = search_for l m ask back
function_row Read l m t ask back = read l m ask back
function_row Write l m t ask back = write l m ask back
function_row Exit l m t ask back = Done l m Over
function_row CondInit l m t ask back = sync name.CondInit l m t ask back
function_row CondDestroy l m t ask back = sync name.CondDestroy l m t ask back
function_row CondWait l m t ask back = cond_wait l m t ask back
function_row CondSignal l m t ask back = sync name.CondSignal l m t ask back
function_row CondBroadcast l m t ask back = sync name.CondBroadcast l m t ask back
function_row BarrierInit l m t ask back = sync name.BarrierInit l m t ask back
function_row BarrierWait l m t ask back = sync name.BarrierWait l m t ask back
function_row BarrierDestroy l m t ask back = sync name.BarrierDestroy l m t ask back
function_row Once l m t ask back = once l m t ask back

-- each function but exit first reads its return address, the eight bytes at rsp; exit ends the run
abbrev pub call_row : Function → LibraryData → Memory → ℕ → Ask → RowResult
call_row Exit l m t ask = Done l m Over
call_row f l m t ask = unless_denied (unreadable m ask.rsp 8) (function_row f l m t ask (word_at m ask.rsp))

abbrev pub asked_row : Asked → LibraryData → Memory → ℕ → Ask → RowResult
asked_row (Lib f) l m t ask = call_row f l m t ask
asked_row EndDoor l m t ask = end_door l m t ask
asked_row CallDoor l m t ask = call_door l m ask

-- what comes of the request of thread t
unfoldable pub row : LibraryData → Memory → ℕ → Ask → RowResult
row l m t ask = asked_row ask.what l m t ask

abbrev pub is_waiting : RowResult → Bool
is_waiting (Done l m called) = false
is_waiting Waits = true
is_waiting (Bad kind) = false

-- the request can't be carried out before another thread goes on
abbrev pub waits : LibraryData → Memory → ℕ → Ask → Bool
waits l m t ask = is_waiting (row l m t ask)
