-- What the plain, slow program keeps beside the machine.
use Rattle.std.specs.Prelude.{◌≡◌, ℕ, ◌<◌, ◌≤◌, ◌^◌, Bool, true, false, All, List, length, take, Option, Some, None, IsSome, IfNone, ⊤}
use Rattle.guest_map.specs.Layout.{FaultsAt}
use Rattle.lib_table.specs.declared.ask.Asked.{Asked}
use Rattle.lib_table.specs.Steps.{CanAsk}
use Rattle.x86_model.specs.declared.cpu.Cpu.{Cpu}
use Rattle.journal_pack.specs.declared.entry.Entry.{Entry}
use Rattle.machine_plain.specs.declared.machine.PlainFault.{PlainFault}
use Rattle.machine_plain.specs.declared.machine.PlainFault.TheVariants.{Lay, Crowded, Memory}
use Rattle.machine_model.specs.CaseData.{CaseData}
use Rattle.machine_model.specs.State.{Machine, list_at}
use Rattle.machine_model.specs.Step.{ask_of, core_with}
use Rattle.machine_model.specs.Play.{play}

-- a machine whose numbers fit
pub record IsPlain (m : Machine) : Type 0 where
  pub cores : length m.cores ≡ 64
  pub slots : length m.library.slots ≡ 64
  pub steps : IfNone m.ending (m.steps < 2 ^ 63)

-- the machine after an entry, where it was one
abbrev pub stepped_to : Bool → Machine → Option Machine
stepped_to true m = Some m
stepped_to false m = None

-- on the way a thread has 64 waiting writes or more
pub record IsCrowded (c : CaseData) (journal : List Entry) : Type 0 where
  pub entries : ℕ
  pub machine : Machine
  pub thread : ℕ
  pub played : play c (take entries journal) ≡ Some machine
  pub full : 64 ≤ length (list_at machine thread)

-- why there is no first machine
abbrev pub FaultsAtStart : CaseData → PlainFault → Type 0
FaultsAtStart c (Lay fault) = FaultsAt c.image c.args fault
FaultsAtStart c Crowded = ⊥
FaultsAtStart c (Memory e) = ⊤

-- a thread has 64 waiting writes or more, where that is the fault
abbrev pub IsFull : Machine → ℕ → PlainFault → Type 0
IsFull m t (Lay fault) = ⊥
IsFull m t Crowded = 64 ≤ length (list_at m t)
IsFull m t (Memory e) = ⊤

-- whatever the thread asks of the library can be asked
abbrev pub CanServe : Machine → ℕ → Type 0
CanServe m t = (cpu : Cpu) (what : Asked) → CanAsk m.library t (ask_of (core_with m t cpu) what)

-- why a journal isn't played to its end
abbrev pub FaultsIn : CaseData → List Entry → PlainFault → Type 0
FaultsIn c journal (Lay fault) = FaultsAt c.image c.args fault
FaultsIn c journal Crowded = IsCrowded c journal
FaultsIn c journal (Memory e) = ⊤
