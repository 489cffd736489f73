-- One step of the plain machine: what an entry of a journal does to it.
use Rattle.std.specs.Prelude.{ℕ, zero, suc, ◌+◌, ◌-◌, ◌%◌, ◌^◌, Bool, true, false, ◌&&◌, not, ◌==◌, nat_lt, nat_le, if◌then◌else◌, List, [], ◌∷◌, ◌++◌, length, take, replicate, slice_get, slice_set, find, Option, Some, None, option_and_then, is_none}
use Rattle.std.specs.List.{list_all}
use Rattle.elf_image.specs.declared.place.Function.TheVariants as function
use Rattle.elf_image.specs.Layout.{ImageData}
use Rattle.callbacks.specs.declared.Frame.{Frame}
use Rattle.address_space.specs.Addresses.{top}
use Rattle.address_space.specs.Slots.{slot_of}
use Rattle.lib_table.specs.declared.answer.BadKind.{BadKind}
use Rattle.lib_table.specs.declared.answer.BadKind.TheVariants.{Access}
use Rattle.lib_table.specs.declared.answer.Called.{Called}
use Rattle.lib_table.specs.declared.answer.Called.TheVariants.{Back, Probe, Over, Stay}
use Rattle.lib_table.specs.declared.ask.Ask.{Ask}
use Rattle.lib_table.specs.declared.ask.Asked.{Asked}
use Rattle.lib_table.specs.declared.ask.Asked.TheVariants.{Lib, EndDoor, CallDoor}
use Rattle.lib_table.specs.declared.slot.Birth.{Birth}
use Rattle.lib_table.specs.Library.{LibraryData, birth, is_running, slot_at}
use Rattle.lib_table.specs.Outcome.{RowResult, Done, Waits, Bad, low_32}
use Rattle.lib_table.specs.Row.{row, is_waiting}
use Rattle.miss_report.specs.declared.miss.Miss.{Miss as MissData}
use Rattle.tso_memory.specs.declared.access.Access.{Access as Right}
use Rattle.tso_memory.specs.declared.access.Access.TheVariants as access
use Rattle.tso_memory.specs.declared.change.Change as memory_change
use Rattle.tso_memory.specs.declared.write.PendingWrite.{PendingWrite}
use Rattle.tso_memory.specs.Buffer.{pending, size_of}
use Rattle.tso_memory.specs.Memory.{may, first_denied, number_from}
use Rattle.tso_memory.specs.Tso as tso
use Rattle.tso_memory.specs.Tso.{seen_by, is_none_waiting, memory_number}
use Rattle.x86_model.specs.declared.cpu.Cpu.{Cpu}
use Rattle.x86_model.specs.declared.want.Want.{Want}
use Rattle.x86_model.specs.declared.want.Want.TheVariants as wants
use Rattle.x86_model.specs.Registers.{reg}
use Rattle.x86_model.specs.Thread as thread
use Rattle.x86_model.specs.Want.{want}
use Rattle.basic_blocks.specs.Places.{is_code_place}
use Rattle.machine_model.specs.declared.ending.RunEnd.{RunEnd}
use Rattle.machine_model.specs.declared.ending.RunEnd.TheVariants as end
use Rattle.journal_pack.specs.declared.entry.Entry.{Entry}
use Rattle.journal_pack.specs.declared.entry.Entry.TheVariants.{Ev, Tick, Flush, Wait, Miss, Grow, Over as OverLimit, Full, Dead}
use Rattle.journal_pack.specs.Entry.{private_of, thread_of}
use Rattle.machine_model.specs.CaseData.{CaseData}
use Rattle.machine_model.specs.Conversions.{memory_width_of, memory_change_of, kind_of, asked_at}
use Rattle.machine_model.specs.State.{Core, no_core, Machine, core_at, with_core, list_at, with_list, is_live, thread_in, slots}

-- ---- words for what a step leaves: s is a slot, t the number of a thread

abbrev pub cpu_at : Machine → ℕ → Cpu
cpu_at m s = (core_at m s).cpu

-- the registers of a slot's thread become these
abbrev pub with_cpu : Machine → ℕ → Cpu → Machine
with_cpu m s cpu = with_core m s (record (core_at m s) { cpu = cpu })

-- so many steps later
abbrev pub later : Machine → ℕ → Machine
later m n = record m { steps = m.steps + n }

abbrev pub ended : Machine → RunEnd → Machine
ended m e = record m { ending = Some e }

-- the run ends at a thread's step that can't be made; nothing else changes
abbrev pub faulted : Machine → ℕ → Cpu → BadKind → Machine
faulted m t cpu kind = ended (with_cpu m (slot_of t) cpu) (end.Fault t cpu.rip kind)

-- an instruction has what it asked of memory
abbrev pub answered : Cpu → ℕ → Cpu
answered cpu v = record cpu { mid = Some v }

-- the first of so many bytes from an address that lacks a right
abbrev pub refused : Machine → Right → ℕ → ℕ → Option ℕ
refused m right a n = first_denied (may m.tso.memory right) a n

-- ---- memory: t is the thread, cpu what it works on, and the last argument the first refused address, if there is one

abbrev pub loaded : Machine → ℕ → Cpu → ℕ → ℕ → Option ℕ → Machine
loaded m t cpu a n None = with_cpu m (slot_of t) (answered cpu (number_from (seen_by m.tso (slot_of t)) n a))
loaded m t cpu a n (Some x) = faulted m t cpu (Access x)

-- the write joins the thread's list; memory stays as it was
abbrev pub stored : Machine → ℕ → Cpu → PendingWrite → Cpu → Option ℕ → Machine
stored m t cpu write next None = with_list (with_cpu m (slot_of t) next) (slot_of t) (list_at m (slot_of t) ++ write ∷ [])
stored m t cpu write next (Some x) = faulted m t cpu (Access x)

-- memory itself is read and written in one step
abbrev pub exchanged : Machine → ℕ → Cpu → ℕ → ℕ → memory_change.Change → Option ℕ → Machine
exchanged m t cpu a n change None = record (with_cpu m (slot_of t) (answered cpu (memory_number m.tso n a))) { tso = tso.exchanged m.tso n a change }
exchanged m t cpu a n change (Some x) = faulted m t cpu (Access x)

-- the oldest write of a slot's thread goes to memory; none does where none waits
abbrev pub flushed : Machine → ℕ → List PendingWrite → Option Machine
flushed m s [] = None
flushed m s (write ∷ writes) = Some (record m { tso = tso.flushed m.tso s (write ∷ writes) })

-- ---- the library

-- a request: the arguments are rdi, rsi, rdx, rcx and r8 (System V x86-64 psABI, section 3.2.3)
abbrev pub ask_of : Core → Asked → Ask
ask_of core what = record { what = what; args = reg core.cpu 7 ∷ reg core.cpu 6 ∷ reg core.cpu 2 ∷ reg core.cpu 1 ∷ reg core.cpu 8 ∷ []; rsp = reg core.cpu 4; rax = reg core.cpu 0; depth = length core.frames; top = slice_get core.frames (length core.frames - 1) }

-- what comes of a thread's request
abbrev pub row_at : Machine → ℕ → Core → Asked → RowResult
row_at m t core what = row m.library m.tso.memory t (ask_of core what)

-- the calls back without the innermost
abbrev pub without_top : List Frame → List Frame
without_top frames = take (length frames - 1) frames

-- rax, rsp and rip
abbrev pub returned : Cpu → ℕ → ℕ → ℕ → Cpu
returned cpu rax rsp rip = record cpu { regs = slice_set (slice_set cpu.regs 0 rax) 4 rsp; rip = rip }

-- a comparator gets the key and an element; the routine of a control gets nothing
abbrev pub called_with : Option ℕ → List ℕ → ℕ → ℕ → List ℕ
called_with None regs key place = slice_set (slice_set regs 7 key) 6 place
called_with (Some control) regs key place = regs

-- the function of a frame is called, 16 bytes further down the stack
abbrev pub probing : Cpu → Frame → ℕ → Cpu
probing cpu frame place = record cpu { regs = slice_set (called_with frame.control cpu.regs frame.key place) 4 ((frame.rsp + (2 ^ 64 - 16)) % 2 ^ 64); rip = frame.compar }

-- a return of a comparator goes on with the search that is there, a call begins one
abbrev pub frames_before : Asked → List Frame → List Frame
frames_before CallDoor frames = without_top frames
frames_before EndDoor frames = frames
frames_before (Lib f) frames = frames

-- the thread after its request was carried out; one that stays is at the call with all registers as they were
abbrev pub called : Core → Asked → Called → Core
called core what (Back rax rsp rip false) = record core { cpu = returned core.cpu rax rsp rip }
called core what (Back rax rsp rip true) = record { cpu = returned core.cpu rax rsp rip; frames = without_top core.frames }
called core what (Probe frame place) = record { cpu = probing core.cpu frame place; frames = frames_before what core.frames ++ frame ∷ [] }
called core what Stay = core
called core what Over = core

-- `exit` ends the run with the low 32 bits of its argument
abbrev pub exit_by : Core → Asked → Option RunEnd
exit_by core (Lib function.Exit) = Some (end.Exit (low_32 (reg core.cpu 7)))
exit_by core (Lib f) = None
exit_by core EndDoor = None
exit_by core CallDoor = None

-- a thread lives in a slot
abbrev pub is_in_use : LibraryData → ℕ → Bool
is_in_use l s = is_running (slot_at l s).life

-- the slot in which a thread lives after a request and none did before: `pthread_create` bore it
abbrev pub newborn : LibraryData → LibraryData → Option ℕ
newborn before after = find (λ s. is_in_use after s && not (is_in_use before s)) slots

-- a thread is born in a slot: it calls its start function with its argument, below which it finds its return address; all else is 0
abbrev pub born_core : ℕ → Option Birth → Core
born_core s None = no_core
born_core s (Some b) = record { cpu = record thread.start { regs = slice_set (slice_set (replicate 16 0) 7 b.argument) 4 (top s - 8); rip = b.start }; frames = [] }

abbrev pub with_birth : Machine → Option ℕ → Machine
with_birth m None = m
with_birth m (Some s) = with_core m s (born_core s (birth m.library s))

-- thread t's request is carried out; one that waits is no step
abbrev pub served : Machine → ℕ → Core → Asked → RowResult → Option Machine
served m t core what (Done library memory answer) = Some (with_birth (record (with_core m (slot_of t) (called core what answer)) { library = library; tso = record m.tso { memory = memory }; ending = exit_by core what }) (newborn m.library library))
served m t core what Waits = None
served m t core what (Bad kind) = Some (faulted m t core.cpu kind)

abbrev pub serving : Machine → ℕ → Core → Asked → Option Machine
serving m t core what = if is_none_waiting (list_at m (slot_of t)) then served m t core what (row_at m t core what) else None

-- ---- wants

-- the registers after a private step
abbrev pub privately : Want → Option Cpu
privately (wants.Private next) = Some next
privately (wants.Load a w) = None
privately (wants.Store a w value next) = None
privately (wants.Fence next) = None
privately (wants.Locked a w change) = None
privately (wants.Call f) = None
privately (wants.Door d) = None
privately (wants.Bad kind) = None

-- the registers after k private steps, or none where one of them wouldn't be private
unfoldable pub after_private : ImageData → ℕ → Cpu → Option Cpu
after_private image zero cpu = Some cpu
after_private image (suc k) cpu = option_and_then (λ next. privately (want image next)) (after_private image k cpu)

-- what is asked of the library, if that is what a thread wants
abbrev pub asked_by : Want → Option Asked
asked_by (wants.Private next) = None
asked_by (wants.Load a w) = None
asked_by (wants.Store a w value next) = None
asked_by (wants.Fence next) = None
asked_by (wants.Locked a w change) = None
asked_by (wants.Call f) = Some (Lib f)
asked_by (wants.Door d) = Some (asked_at d)
asked_by (wants.Bad kind) = None

-- the thread of a number works on this, with the calls back that it has under way
abbrev pub core_with : Machine → ℕ → Cpu → Core
core_with m t cpu = record (core_at m (slot_of t)) { cpu = cpu }

-- The step that isn't private. Fence, locked and library steps need that no own write waits.
abbrev pub carried_out : Want → Machine → ℕ → Cpu → Option Machine
carried_out (wants.Private next) m t cpu = None
carried_out (wants.Load a w) m t cpu = let n = size_of (memory_width_of w) in Some (loaded m t cpu a n (refused m access.Load a n))
carried_out (wants.Store a w value next) m t cpu = let n = size_of (memory_width_of w) in Some (stored m t cpu (pending a (memory_width_of w) value) next (refused m access.Store a n))
carried_out (wants.Fence next) m t cpu = if is_none_waiting (list_at m (slot_of t)) then Some (with_cpu m (slot_of t) next) else None
carried_out (wants.Locked a w change) m t cpu = let n = size_of (memory_width_of w) in if is_none_waiting (list_at m (slot_of t)) then Some (exchanged m t cpu a n (memory_change_of change) (refused m access.Locked a n)) else None
carried_out (wants.Call f) m t cpu = serving m t (core_with m t cpu) (Lib f)
carried_out (wants.Door d) m t cpu = serving m t (core_with m t cpu) (asked_at d)
carried_out (wants.Bad kind) m t cpu = Some (faulted m t cpu (kind_of kind))

-- thread t stands at a call that waits for another thread
abbrev pub waits_for : Machine → ℕ → Core → Option Asked → Bool
waits_for m t core None = false
waits_for m t core (Some what) = is_waiting (row_at m t core what)

abbrev pub waits_at : ImageData → Machine → ℕ → Cpu → Bool
waits_at image m t cpu = waits_for m t (core_with m t cpu) (asked_by (want image cpu))

-- the thread that lives in a slot, if one does, stands at a call that waits
abbrev pub is_stuck : ImageData → Machine → ℕ → Option ℕ → Bool
is_stuck image m s None = true
is_stuck image m s (Some t) = waits_at image m t (cpu_at m s)

-- no thread can go on: each that lives stands at a call that waits, and no write does
abbrev pub is_deadlocked : ImageData → Machine → Bool
is_deadlocked image m = list_all (λ s. is_stuck image m s (thread_in m s)) slots && list_all is_none_waiting m.tso.buffers

-- ---- entries

-- the slot of the thread that an entry names; 64 for `Dead`, which names none
abbrev pub slot_named : Option ℕ → ℕ
slot_named None = 64
slot_named (Some t) = slot_of t

abbrev pub slot_in : Entry → ℕ
slot_in e = slot_named (thread_of e)

-- a miss ends a strict run
abbrev pub missed : Bool → Machine → MissData → Machine
missed true m miss = ended m (end.Miss miss)
missed false m miss = m

-- Each entry, where cpu is what its thread works on after the entry's private steps.
abbrev pub step_from : CaseData → Machine → Entry → Cpu → Option Machine
step_from c m (Ev t k) cpu = if nat_lt (m.steps + k) c.limit then carried_out (want c.image cpu) (later m (k + 1)) t cpu else None
step_from c m (Tick t k) cpu = if nat_lt 0 k && nat_lt (m.steps + k) c.limit then Some (later (with_cpu m (slot_of t) cpu) k) else None
step_from c m (Flush t) cpu = flushed m (slot_of t) (list_at m (slot_of t))
step_from c m (Wait t k) cpu = if nat_lt 0 k && nat_lt (m.steps + k) c.limit && is_none_waiting (list_at m (slot_of t)) && waits_at c.image m t cpu then Some (later (with_cpu m (slot_of t) cpu) k) else None
step_from c m (Miss t k source target) cpu = if nat_lt (m.steps + k) c.limit && cpu.last == source && cpu.rip == target && is_code_place c.image target then Some (missed c.strict (later (with_cpu m (slot_of t) cpu) (k + 1)) (record { thread = t; source = source; target = target })) else None
step_from c m (Grow t a) cpu = if not c.strict && is_code_place c.image a then Some m else None
step_from c m (OverLimit t k) cpu = if nat_le c.limit (m.steps + k) then Some (ended (later (with_cpu m (slot_of t) cpu) k) end.Steps) else None
step_from c m (Full t) cpu = if not c.strict && is_code_place c.image cpu.rip then Some (ended m (end.Full t cpu.rip)) else None
step_from c m Dead cpu = if is_deadlocked c.image m then Some (ended m end.Deadlock) else None

-- the thread, if one is named, lives
abbrev pub lives : Machine → Option ℕ → Bool
lives m None = true
lives m (Some t) = is_live m t

-- the run goes on, the thread that the entry names lives, and its private steps are at most 4,096
abbrev pub admits : Machine → Entry → Bool
admits m e = is_none m.ending && lives m (thread_of e) && nat_le (private_of e) 4096

-- the machine after an entry, or none where the entry is no step
unfoldable pub step : CaseData → Machine → Entry → Option Machine
step c m e = if admits m e then option_and_then (step_from c m e) (after_private c.image (private_of e) (cpu_at m (slot_in e))) else None
