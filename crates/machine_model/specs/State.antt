-- The plain machine at one moment: 64 slots for threads, x86-TSO memory, the library.
use Rattle.std.specs.Prelude.{◌≡◌, ℕ, Bool, List, [], length, replicate, slice_index_or, slice_set, Option, None}
use Rattle.std.specs.List.{range_with_len}
use Rattle.callbacks.specs.declared.Frame.{Frame}
use Rattle.elf_image.specs.Layout.{ImageData}
use Rattle.guest_map.specs.Entry.{entry_rsp}
use Rattle.guest_map.specs.Layout.{pieces}
use Rattle.lib_table.specs.Library as library
use Rattle.lib_table.specs.Library.{LibraryData, slot_at}
use Rattle.lib_table.specs.declared.slot.Slot.{Slot}
use Rattle.tso_memory.specs.declared.write.PendingWrite.{PendingWrite}
use Rattle.tso_memory.specs.Tso as tso
use Rattle.tso_memory.specs.Tso.{TsoState, buffer_of, with_buffer}
use Rattle.x86_model.specs.declared.cpu.Cpu.{Cpu}
use Rattle.x86_model.specs.Thread as thread
use Rattle.machine_model.specs.declared.ending.RunEnd.{RunEnd}
use Rattle.machine_model.specs.CaseData.{CaseData}

-- what the instructions of one thread work on, and the calls back from the library that it has under way, the innermost
-- last: searches of `bsearch`, and routines of `pthread_once`
pub record Core : Type 0 where
  pub cpu : Cpu
  pub frames : List Frame

-- what the thread of each slot works on; the memory and the waiting writes of each slot; the library, which keeps the
-- threads' lives by slots; how many steps were made; how the run ended, if it did
pub record Machine : Type 0 where
  pub cores : List Core
  pub tso : TsoState
  pub library : LibraryData
  pub steps : ℕ
  pub ending : Option RunEnd

-- the slots
unfoldable pub slots : List ℕ
slots = range_with_len 0 64

-- ---- one slot: all that is said of its thread is said through these words

abbrev pub no_core : Core
no_core = record { cpu = thread.start; frames = [] }

abbrev pub core_at : Machine → ℕ → Core
core_at m s = slice_index_or m.cores s no_core

abbrev pub with_core : Machine → ℕ → Core → Machine
with_core m s core = record m { cores = slice_set m.cores s core }

-- the writes that aren't in memory yet of a slot's thread, the oldest first
abbrev pub list_at : Machine → ℕ → List PendingWrite
list_at m s = buffer_of m.tso s

abbrev pub with_list : Machine → ℕ → List PendingWrite → Machine
with_list m s writes = record m { tso = with_buffer m.tso s writes }

-- a slot's thread: what it works on, and its generation and life
pub record Thread : Type 0 where
  pub core : Core
  pub slot : Slot

abbrev pub thread_at : Machine → ℕ → Thread
thread_at m s = record { core = core_at m s; slot = slot_at m.library s }

-- ---- lives

-- whether the thread with this number lives
abbrev pub is_live : Machine → ℕ → Bool
is_live m t = library.is_live m.library t

-- the number of the thread that lives in a slot, if one does
abbrev pub thread_in : Machine → ℕ → Option ℕ
thread_in m s = library.thread_in m.library s

-- 64 slots, each with what its thread works on, its life and its waiting writes
pub record IsSized (m : Machine) : Type 0 where
  pub cores : length m.cores ≡ 64
  pub slots : length m.library.slots ≡ 64
  pub lists : length m.tso.buffers ≡ 64

-- ---- before the first step

-- thread 0 at the entry with its stack pointer, all else 0
abbrev pub entering : ImageData → ℕ → Cpu
entering image rsp = record thread.start { regs = slice_set (replicate 16 0) 4 rsp; rip = image.entry }

abbrev pub first_core : CaseData → Core
first_core c = record { cpu = entering c.image (entry_rsp c.args); frames = [] }

-- thread 0 lives in slot 0; the image and 64 stacks are in memory; the library has the input
unfoldable pub start : CaseData → Machine
start c = record { cores = slice_set (replicate 64 no_core) 0 (first_core c); tso = tso.start_of (pieces c.image c.args); library = library.start_of c.input; steps = 0; ending = None }
