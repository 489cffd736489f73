-- What the machine keeps, and a store that finds no room.
use Rattle.std.specs.Prelude.{◌≡◌, ℕ, ◌<◌, ◌^◌, Bool, false, nat_le, length, Option, Some, None, IfNone, option_map}
use Rattle.lib_table.specs.declared.ask.Asked.{Asked}
use Rattle.lib_table.specs.Steps.{CanAsk}
use Rattle.x86_model.specs.declared.cpu.Cpu.{Cpu}
use Rattle.x86_model.specs.declared.want.Want.{Want}
use Rattle.x86_model.specs.declared.want.Want.TheVariants.{Private, Load, Store, Fence, Locked, Call, Door, Bad}
use Rattle.x86_model.specs.Want.{want}
use Rattle.address_space.specs.Slots.{slot_of}
use Rattle.elf_image.specs.Layout.{ImageData}
use Rattle.journal_pack.specs.declared.entry.Entry.{Entry}
use Rattle.journal_pack.specs.declared.entry.Entry.TheVariants as entry
use Rattle.machine_model.specs.State.{Machine, list_at}
use Rattle.machine_model.specs.Step.{after_private, ask_of, core_with, cpu_at, slot_in}
use Rattle.journal_pack.specs.Entry.{private_of}

-- a machine whose numbers fit
pub record IsSound (m : Machine) : Type 0 where
  pub cores : length m.cores ≡ 64
  pub slots : length m.library.slots ≡ 64
  pub steps : IfNone m.ending (m.steps < 2 ^ 63)

-- whatever the thread asks of the library can be asked
abbrev pub CanServe : Machine → ℕ → Type 0
CanServe m t = (cpu : Cpu) (what : Asked) → CanAsk m.library t (ask_of (core_with m t cpu) what)

-- how many writes of a thread may wait before one more finds no room
abbrev pub most_waiting : ℕ
most_waiting = 64

-- the thread stores, and as many writes of its slot wait as may
abbrev pub overfills : Machine → ℕ → Want → Bool
overfills m s (Private next) = false
overfills m s (Load a w) = false
overfills m s (Store a w value next) = nat_le most_waiting (length (list_at m s))
overfills m s (Fence next) = false
overfills m s (Locked a w change) = false
overfills m s (Call f) = false
overfills m s (Door d) = false
overfills m s (Bad kind) = false

-- what a thread with these registers wants after k private steps, if it has them
abbrev pub wanted_after : ImageData → ℕ → Cpu → Option Want
wanted_after image k cpu = option_map (want image) (after_private image k cpu)

-- the entry is such a store, where this is what its thread wants after the private steps
abbrev pub overfills_by : Machine → Entry → Want → Bool
overfills_by m (entry.Ev t k) wanted = overfills m (slot_of t) wanted
overfills_by m (entry.Tick t k) wanted = false
overfills_by m (entry.Flush t) wanted = false
overfills_by m (entry.Wait t k) wanted = false
overfills_by m (entry.Miss t k source target) wanted = false
overfills_by m (entry.Grow t a) wanted = false
overfills_by m (entry.Over t k) wanted = false
overfills_by m (entry.Full t) wanted = false
overfills_by m entry.Dead wanted = false

abbrev pub crowds : Machine → Entry → Option Want → Bool
crowds m e None = false
crowds m e (Some wanted) = overfills_by m e wanted

-- the entry is a store of a thread with 64 waiting writes
abbrev pub is_crowded : ImageData → Machine → Entry → Bool
is_crowded image m e = crowds m e (wanted_after image (private_of e) (cpu_at m (slot_in e)))
