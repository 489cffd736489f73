-- A request that was carried out: what it answers, and what is left of the library and of the memory.
use Rattle.std.specs.Prelude.{◌≡◌, ℕ, ◌-◌, ◌^◌, ◌<◌, Bool, true, false, not, Option, Some, None, ⊤}
use Rattle.elf_image.specs.declared.place.Function.{Function}
use Rattle.elf_image.specs.declared.place.Function.TheVariants.{MutexLock, MutexTrylock, Write, CondInit, CondDestroy, CondWait, CondSignal, CondBroadcast, BarrierInit, BarrierWait, BarrierDestroy, Once}
use Rattle.tso_memory.specs.Memory.{Memory}
use Rattle.callbacks.specs.declared.Frame.{Frame}
use Rattle.sync_more.specs.Rooms.{RoomsData}
use Rattle.sync_more.specs.Once.{is_running}
use Rattle.lib_table.specs.declared.ask.Ask.{Ask}
use Rattle.lib_table.specs.declared.ask.Asked.{Asked}
use Rattle.lib_table.specs.declared.ask.Asked.TheVariants.{Lib, EndDoor, CallDoor}
use Rattle.lib_table.specs.declared.answer.Stepped.{Stepped}
use Rattle.lib_table.specs.declared.answer.Stepped.TheVariants as stepped
use Rattle.lib_table.specs.Library.{LibraryData, HasNumbers, is_live, is_held}
use Rattle.lib_table.specs.Outcome.{RowResult, Done, Waits, Bad, a1}

-- what came of a request, where this was answered, and this library and memory are left
abbrev pub told : Stepped → LibraryData → Memory → RowResult
told (stepped.Done called) l m = Done l m called
told stepped.Waits l m = Waits
told (stepped.Bad kind) l m = Bad kind

abbrev pub is_done : Stepped → Bool
is_done (stepped.Done called) = true
is_done stepped.Waits = false
is_done (stepped.Bad kind) = false

-- the search, if there is one, has elements left
abbrev pub HasLeft : Option Frame → Type 0
HasLeft None = ⊤
HasLeft (Some f) = f.lo < f.hi

-- the routine of a control that was begun and didn't return runs
abbrev pub HasRunning : RoomsData → Option ℕ → Type 0
HasRunning r None = ⊤
HasRunning r (Some control) = is_running r control ≡ true

abbrev pub RunsRoutine : RoomsData → Option Frame → Type 0
RunsRoutine r None = ⊤
RunsRoutine r (Some f) = HasRunning r f.control

-- A request that a machine can make: of a live thread, whose search has elements left or whose routine's control is running, where each free slot has a number and a further round can be drawn.
pub record CanAsk (l : LibraryData) (t : ℕ) (ask : Ask) : Type 0 where
  pub live : is_live l t ≡ true
  pub left : HasLeft ask.top
  pub running : RunsRoutine l.rooms ask.top
  pub numbers : HasNumbers l
  pub rounds : l.rooms.rounds < 2 ^ 64 - 1

-- to write, to take a mutex that none holds, and to wait in common
abbrev pub function_takes_memory : Function → LibraryData → Ask → Bool
function_takes_memory MutexLock l ask = not (is_held l (a1 ask))
function_takes_memory MutexTrylock l ask = not (is_held l (a1 ask))
function_takes_memory Write l ask = true
function_takes_memory CondInit l ask = true
function_takes_memory CondDestroy l ask = true
function_takes_memory CondWait l ask = true
function_takes_memory CondSignal l ask = true
function_takes_memory CondBroadcast l ask = true
function_takes_memory BarrierInit l ask = true
function_takes_memory BarrierWait l ask = true
function_takes_memory BarrierDestroy l ask = true
function_takes_memory Once l ask = true
function_takes_memory f l ask = false

-- a request that may take memory
abbrev pub takes_memory : Asked → LibraryData → Ask → Bool
takes_memory (Lib f) l ask = function_takes_memory f l ask
takes_memory EndDoor l ask = false
takes_memory CallDoor l ask = false
