-- What a machine shows of its threads.
use Rattle.std.specs.Prelude.{◌≡◌, ℕ, zero, suc, ◌≤◌, ◌<◌, ◌^◌, nat_lt, if◌then◌else◌, true, false, List, [], ◌∷◌, ◌++◌, Option, Some, None}
use Rattle.address_space.specs.Slots.{slot_of}
use Rattle.lib_table.specs.Library.{is_kept, life_at}
use Rattle.lib_table.specs.declared.life.Life.{Life}
use Rattle.lib_table.specs.declared.life.Life.TheVariants as life
use Rattle.tso_memory.specs.declared.write.PendingWrite.{PendingWrite}
use Rattle.x86_model.specs.declared.cpu.Cpu.{Cpu}
use Rattle.machine_model.specs.State.{Machine, list_at}
use Rattle.machine_model.specs.Step.{cpu_at}
use Rattle.replay_machine.specs.declared.view.ThreadView.{ThreadView}
use Rattle.replay_machine.specs.declared.view.ThreadView.TheVariants.{Live, Ended}

-- a thread that lives: where it stands, its registers and flags, and the writes that wait
abbrev pub live_view : Cpu → List PendingWrite → ThreadView
live_view cpu writes = Live cpu.rip cpu.last cpu.mid cpu.regs cpu.flags writes

-- what a thread of a slot shows, by what became of it
abbrev pub view_in : Machine → ℕ → Life → Option ThreadView
view_in m s life.Unborn = None
view_in m s (life.Live start argument) = Some (live_view (cpu_at m s) (list_at m s))
view_in m s (life.Ended value) = Some (Ended value)
view_in m s life.Joined = None

-- what the thread with this number shows; none where it isn't born yet, or was joined
abbrev pub thread_view : Machine → ℕ → Option ThreadView
thread_view m t = view_in m (slot_of t) (life_at m.library t)

-- a thread with its number, where it shows something
abbrev pub numbered : ℕ → Option ThreadView → List (ℕ × ThreadView)
numbered t None = []
numbered t (Some view) = (t, view) ∷ []

-- the live and ended threads with numbers below n, by rising number
unfoldable pub threads_below : Machine → ℕ → List (ℕ × ThreadView)
threads_below m zero = []
threads_below m (suc t) = threads_below m t ++ numbered t (thread_view m t)

-- all of them: numbers are below 2 ^ 32
abbrev pub threads_of : Machine → List (ℕ × ThreadView)
threads_of m = threads_below m (2 ^ 32)

-- the least number, from one on, of a thread that lives or has ended; none where there is no such thread
abbrev pub IsNext : Machine → ℕ → Option ℕ → Type 0
IsNext m from None = (u : ℕ) → from ≤ u → is_kept (life_at m.library u) ≡ false
IsNext m from (Some t) = (from ≤ t) × (is_kept (life_at m.library t) ≡ true) × ((u : ℕ) → from ≤ u → u < t → is_kept (life_at m.library u) ≡ false)

-- the lesser of two numbers, where the first may be missing
abbrev pub lesser : Option ℕ → ℕ → ℕ
lesser None t = t
lesser (Some u) t = if nat_lt u t then u else t
