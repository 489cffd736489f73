-- What all threads share but the blocks, and what a thread's step changes of it.
use Rattle.std.specs.Prelude.{ℕ, ◌+◌, Bool, true, false, ◌&&◌, List, slice_index_or, Option, Some, None}
use Rattle.std.specs.List.{list_all}
use Rattle.address_space.specs.Slots.{slot_of}
use Rattle.elf_image.specs.declared.place.Function.TheVariants as function
use Rattle.lib_table.specs.declared.answer.BadKind.{BadKind}
use Rattle.lib_table.specs.declared.answer.BadKind.TheVariants.{Access}
use Rattle.lib_table.specs.declared.answer.Stepped.{Stepped}
use Rattle.lib_table.specs.declared.answer.Stepped.TheVariants as stepped
use Rattle.lib_table.specs.declared.ask.Ask.{Ask}
use Rattle.lib_table.specs.declared.ask.Asked.{Asked}
use Rattle.lib_table.specs.declared.ask.Asked.TheVariants.{Lib, EndDoor, CallDoor}
use Rattle.lib_table.specs.Library.{LibraryData, thread_in}
use Rattle.lib_table.specs.Outcome.{RowResult, Done, Waits, Bad, a1, low_32}
use Rattle.lib_table.specs.Row.{row, waits}
use Rattle.miss_report.specs.declared.miss.Miss.{Miss}
use Rattle.tso_memory.specs.declared.access.Access.{Access as Right}
use Rattle.tso_memory.specs.declared.access.Access.TheVariants as access
use Rattle.tso_memory.specs.declared.change.Change as memory_change
use Rattle.tso_memory.specs.declared.write.Width as memory_width
use Rattle.tso_memory.specs.Buffer.{pending, size_of}
use Rattle.tso_memory.specs.Memory.{may, first_denied, number_from}
use Rattle.tso_memory.specs.Tso as tso
use Rattle.tso_memory.specs.Tso.{TsoState, buffer_of, is_none_waiting, seen_by, memory_number}
use Rattle.x86_model.specs.declared.want.Want.{Want}
use Rattle.x86_model.specs.declared.want.Want.TheVariants as wants
use Rattle.machine_model.specs.Conversions.{memory_width_of, memory_change_of, kind_of, asked_at}
use Rattle.machine_model.specs.declared.ending.RunEnd.{RunEnd}
use Rattle.machine_model.specs.declared.ending.RunEnd.TheVariants as end
use Rattle.machine_model.specs.State.{Core, Machine, slots}
use Rattle.machine_model.specs.Step.{ask_of}

-- memory with the waiting writes, the library, how many steps were made, and how the run ended, if it did
pub record SharedState : Type 0 where
  pub tso : TsoState
  pub library : LibraryData
  pub steps : ℕ
  pub ending : Option RunEnd

-- the plain machine without its cores
abbrev pub shared_of : Machine → SharedState
shared_of m = record { tso = m.tso; library = m.library; steps = m.steps; ending = m.ending }

-- so many steps later
abbrev pub passed : SharedState → ℕ → SharedState
passed s n = record s { steps = s.steps + n }

-- the run ends at a step that can't be made
abbrev pub failed : SharedState → ℕ → ℕ → BadKind → SharedState
failed s t rip kind = record s { ending = Some (end.Fault t rip kind) }

-- ---- what a step needs

-- what a thread's next step needs of what is shared: nothing, or an access to memory, empty lists, or the library
pub data Need : Type 0 where
  Nothing : Need
  Loads : (a : ℕ) (w : memory_width.Width) → Need
  Stores : (a : ℕ) (w : memory_width.Width) (value : ℕ) → Need
  Fences : Need
  Locks : (a : ℕ) (w : memory_width.Width) (change : memory_change.Change) → Need
  Asks : (ask : Ask) → Need
  Fails : (kind : BadKind) → Need

-- by what the thread wants
abbrev pub need_of : Core → Want → Need
need_of core (wants.Private next) = Nothing
need_of core (wants.Load a w) = Loads a (memory_width_of w)
need_of core (wants.Store a w value next) = Stores a (memory_width_of w) value
need_of core (wants.Fence next) = Fences
need_of core (wants.Locked a w change) = Locks a (memory_width_of w) (memory_change_of change)
need_of core (wants.Call f) = Asks (ask_of core (Lib f))
need_of core (wants.Door d) = Asks (ask_of core (asked_at d))
need_of core (wants.Bad kind) = Fails (kind_of kind)

-- ---- what a step leaves

-- the first byte of an access that lacks the right, if one does
abbrev pub refused_in : SharedState → Right → ℕ → ℕ → Option ℕ
refused_in s right a n = first_denied (may s.tso.memory right) a n

abbrev pub unless_refused : SharedState → ℕ → ℕ → SharedState → Option ℕ → SharedState
unless_refused s t rip after None = after
unless_refused s t rip after (Some x) = failed s t rip (Access x)

-- `exit` ends the run with the low 32 bits of its argument
abbrev pub exit_in : Ask → Asked → Option RunEnd
exit_in ask (Lib function.Exit) = Some (end.Exit (low_32 (a1 ask)))
exit_in ask (Lib f) = None
exit_in ask EndDoor = None
exit_in ask CallDoor = None

abbrev pub after_row : SharedState → ℕ → ℕ → Ask → RowResult → SharedState
after_row s t rip ask (Done library memory answer) = record s { library = library; tso = record s.tso { memory = memory }; ending = exit_in ask ask.what }
after_row s t rip ask Waits = s
after_row s t rip ask (Bad kind) = failed s t rip kind

-- what is shared after the step of thread t, whose instruction, door or library place is at rip
abbrev pub after_need : Need → SharedState → ℕ → ℕ → SharedState
after_need Nothing s t rip = s
after_need (Loads a w) s t rip = unless_refused s t rip s (refused_in s access.Load a (size_of w))
after_need (Stores a w value) s t rip = unless_refused s t rip (record s { tso = tso.stored s.tso (slot_of t) (pending a w value) }) (refused_in s access.Store a (size_of w))
after_need Fences s t rip = s
after_need (Locks a w change) s t rip = unless_refused s t rip (record s { tso = tso.exchanged s.tso (size_of w) a change }) (refused_in s access.Locked a (size_of w))
after_need (Asks ask) s t rip = after_row s t rip ask (row s.library s.tso.memory t ask)
after_need (Fails kind) s t rip = failed s t rip kind

-- ---- what a step answers

abbrev pub unless_denied : ℕ → Option ℕ → Option ℕ
unless_denied v None = Some v
unless_denied v (Some x) = None

-- what a load of thread t answers: none where it is refused
abbrev pub loaded_value : SharedState → ℕ → ℕ → ℕ → Option ℕ
loaded_value s t a n = unless_denied (number_from (seen_by s.tso (slot_of t)) n a) (refused_in s access.Load a n)

-- what a locked access answers: what memory itself held, or none where it is refused
abbrev pub locked_value : SharedState → ℕ → ℕ → Option ℕ
locked_value s a n = unless_denied (memory_number s.tso n a) (refused_in s access.Locked a n)

-- the oldest waiting write of a slot's thread goes to memory
abbrev pub flushed_in : SharedState → ℕ → SharedState
flushed_in s slot = record s { tso = tso.flushed s.tso slot (buffer_of s.tso slot) }

abbrev pub ended_by : SharedState → RunEnd → SharedState
ended_by s e = record s { ending = Some e }

-- a miss ends a strict run
abbrev pub missed_in : Bool → SharedState → Miss → SharedState
missed_in true s miss = ended_by s (end.Miss miss)
missed_in false s miss = s

-- ---- waiting

-- the thread waits at the request of its mark; one without a mark doesn't
abbrev pub waits_by : SharedState → ℕ → Option Ask → Bool
waits_by s t None = false
waits_by s t (Some ask) = waits s.library s.tso.memory t ask

-- the thread that lives in a slot, if one does, waits at the request of its mark
abbrev pub stuck_by : SharedState → Option ℕ → Option Ask → Bool
stuck_by s None mark = true
stuck_by s (Some t) mark = waits_by s t mark

abbrev pub is_stuck_in : SharedState → List (Option Ask) → ℕ → Bool
is_stuck_in s marks slot = stuck_by s (thread_in s.library slot) (slice_index_or marks slot None)

-- each live thread waits at the request of its mark, and no write waits
abbrev pub are_stuck : SharedState → List (Option Ask) → Bool
are_stuck s marks = list_all (is_stuck_in s marks) slots && list_all is_none_waiting s.tso.buffers

-- whether a request has to wait
abbrev pub has_to_wait : Stepped → Bool
has_to_wait (stepped.Done called) = false
has_to_wait stepped.Waits = true
has_to_wait (stepped.Bad kind) = false

-- what an answer leaves of the steps and the ending, where the library and the memory are already as it says
abbrev pub settled_by : Stepped → SharedState → ℕ → ℕ → ℕ → Ask → SharedState
settled_by (stepped.Done called) s n t rip ask = record (passed s n) { ending = exit_in ask ask.what }
settled_by stepped.Waits s n t rip ask = s
settled_by (stepped.Bad kind) s n t rip ask = failed (passed s n) t rip kind
