-- What an entry leaves of the thread that it names.
use Rattle.std.specs.Prelude.{◌≡◌, ℕ, ◌≤◌, Bool, true, false, length, List, [], ◌∷◌, Option, Some, None}
use Rattle.callbacks.specs.declared.Frame.{Frame}
use Rattle.lib_table.specs.Library.{LibraryData}
use Rattle.tso_memory.specs.declared.write.PendingWrite.{PendingWrite}
use Rattle.basic_blocks.specs.Reach.{is_among}
use Rattle.journal_pack.specs.declared.entry.Entry.{Entry}
use Rattle.journal_pack.specs.Entry.{private_of, thread_of}
use Rattle.address_space.specs.Slots.{slot_of}
use Rattle.miss_report.specs.declared.miss.Miss.{Miss as MissData}
use Rattle.tso_memory.specs.declared.access.Access.{Access as Right}
use Rattle.tso_memory.specs.Buffer.{size_of}
use Rattle.x86_forms.specs.declared.operands.Width.{Width}
use Rattle.machine_model.specs.Conversions.{memory_width_of}
use Rattle.machine_model.specs.declared.ending.RunEnd.{RunEnd}
use Rattle.machine_model.specs.declared.ending.RunEnd.TheVariants as end
use Rattle.machine_model.specs.CaseData.{CaseData}
use Rattle.machine_model.specs.State.{IsSized, Machine, core_at, list_at}
use Rattle.machine_model.specs.Step.{cpu_at, lives, refused, slot_in, step_from}
use Rattle.machine_model.specs.Gated.{Both, Latest, Spot, Stand, entered, gated_steps, spot_at, spot_last, stand_at}

-- there is a core, a list of waiting writes and a spot for each slot
pub record IsWhole (b : Both) : Type 0 where
  pub machine : IsSized b.machine
  pub spots : length b.gate.spots ≡ 64

-- k private steps lead the thread of a slot there
abbrev pub IsAhead : CaseData → Both → ℕ → ℕ → Stand → Type 0
IsAhead c b s k d = gated_steps c.image b.gate.grown k (stand_at b s) ≡ Some d

-- where the next step of a thread is made: at these addresses of its block, or between blocks
abbrev pub IsEntered : CaseData → Both → Stand → List ℕ → Type 0
IsEntered c b d left = entered c.image b.gate.grown d.cpu.rip d.left ≡ Some left

-- an entry is a step that runs only what is grown: d is where its private steps lead, m the machine after it, and spot what it leaves of its thread's spot
pub record IsMade (c : CaseData) (b : Both) (e : Entry) (d : Stand) (m : Machine) (spot : Spot) : Type 0 where
  pub going : b.machine.ending ≡ None
  pub live : lives b.machine (thread_of e) ≡ true
  pub few : private_of e ≤ 4096
  pub ahead : IsAhead c b (slot_in e) (private_of e) d
  pub made : step_from c b.machine e d.cpu ≡ Some m
  pub last : spot_last c.image b.gate.grown e (cpu_at m (slot_in e)) (spot_at b.gate (slot_in e)) d ≡ Some spot

-- what a thread's slot has: where the thread stands, its calls back, its waiting writes, and what its entries were lately
pub record Standing (b : Both) (s : ℕ) (at : Stand) (calls : List Frame) (list : List PendingWrite) (lately : Latest) : Type 0 where
  pub stand : stand_at b s ≡ at
  pub frames : (core_at b.machine s).frames ≡ calls
  pub writes : list_at b.machine s ≡ list
  pub latest : (spot_at b.gate s).latest ≡ lately

-- how far the run is, and the library
pub record Clock (b : Both) (count : ℕ) (end : Option RunEnd) (table : LibraryData) : Type 0 where
  pub steps : b.machine.steps ≡ count
  pub ending : b.machine.ending ≡ end
  pub library : b.machine.library ≡ table

-- the calls back and the waiting writes of a thread
abbrev pub frames_at : Both → ℕ → List Frame
frames_at b t = (core_at b.machine (slot_of t)).frames

abbrev pub writes_at : Both → ℕ → List PendingWrite
writes_at b t = list_at b.machine (slot_of t)

-- a miss ends a strict run
abbrev pub miss_end : Bool → MissData → Option RunEnd
miss_end true miss = Some (end.Miss miss)
miss_end false miss = None

-- the first byte of an access that lacks the right, if one does
abbrev pub refusal : Both → Right → ℕ → Width → Option ℕ
refusal b right a w = refused b.machine right a (size_of (memory_width_of w))

-- no place stands twice in a list
abbrev pub HasNoRepeats : List ℕ → Type 0
HasNoRepeats [] = Unit {0}
HasNoRepeats (x ∷ xs) = (is_among xs x ≡ false) × HasNoRepeats xs
