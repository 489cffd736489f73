-- Which entries a turn adds to a journal, and how many steps of instructions they make.
use Rattle.std.specs.Prelude.{◌≡◌, ℕ, ◌+◌, List, [], ◌∷◌, ◌++◌, All, Option, Some, None}
use Rattle.address_space.specs.Slots.{slot_of}
use Rattle.elf_image.specs.Layout.{ImageData}
use Rattle.x86_model.specs.declared.cpu.Cpu.{Cpu}
use Rattle.x86_model.specs.declared.want.Want.{Want}
use Rattle.x86_model.specs.declared.want.Want.TheVariants as wants
use Rattle.x86_model.specs.Want.{want}
use Rattle.journal_pack.specs.declared.entry.Entry.{Entry}
use Rattle.journal_pack.specs.declared.entry.Entry.TheVariants.{Ev, Tick, Flush, Wait, Miss, Grow, Over, Full, Dead}
use Rattle.machine_model.specs.CaseData.{CaseData}
use Rattle.machine_model.specs.Comes.{or_stay}
use Rattle.machine_model.specs.Gated.{Both, advance, begin}
use Rattle.machine_model.specs.State.{Machine}
use Rattle.machine_model.specs.Step.{after_private, cpu_at}
use Rattle.machine_laws.specs.Others.{AreOf}

-- ---- entries

-- entries of thread t were added
pub record Adds (t : ℕ) (before after : List Entry) : Type 0 where
  pub entries : List Entry
  pub journal : after ≡ before ++ entries
  pub own : AreOf t entries

-- an entry of thread t that makes no step
abbrev pub IsFree : ℕ → Entry → Type 0
IsFree t (Ev u k) = ⊥
IsFree t (Tick u k) = ⊥
IsFree t (Flush u) = u ≡ t
IsFree t (Wait u k) = ⊥
IsFree t (Miss u k source target) = ⊥
IsFree t (Grow u a) = u ≡ t
IsFree t (Over u k) = ⊥
IsFree t (Full u) = ⊥
IsFree t Dead = ⊥

-- such entries were added
pub record AddsFree (t : ℕ) (before after : List Entry) : Type 0 where
  pub entries : List Entry
  pub journal : after ≡ before ++ entries
  pub free : All (IsFree t) entries

-- a miss after k private steps was added, with such entries before and after it
pub record AddsMiss (t k : ℕ) (before after : List Entry) : Type 0 where
  pub mid : List Entry
  pub first : AddsFree t before mid
  pub source : ℕ
  pub target : ℕ
  pub free : AddsFree t (mid ++ Miss t k source target ∷ []) after

-- ---- steps of instructions

-- an event makes a step of an instruction, unless the library answers it
abbrev pub event_steps : Want → ℕ
event_steps (wants.Private next) = 1
event_steps (wants.Load a w) = 1
event_steps (wants.Store a w value next) = 1
event_steps (wants.Fence next) = 1
event_steps (wants.Locked a w change) = 1
event_steps (wants.Call f) = 0
event_steps (wants.Door d) = 0
event_steps (wants.Bad kind) = 1

abbrev pub event_by : ImageData → Option Cpu → ℕ
event_by image None = 0
event_by image (Some cpu) = event_steps (want image cpu)

-- the private steps that an entry tells, and one more for an event that the library doesn't answer
abbrev pub entry_steps : ImageData → Machine → Entry → ℕ
entry_steps image m (Ev t k) = k + event_by image (after_private image k (cpu_at m (slot_of t)))
entry_steps image m (Tick t k) = k
entry_steps image m (Flush t) = 0
entry_steps image m (Wait t k) = k
entry_steps image m (Miss t k source target) = k
entry_steps image m (Grow t a) = 0
entry_steps image m (Over t k) = k
entry_steps image m (Full t) = 0
entry_steps image m Dead = 0

unfoldable pub steps_from : CaseData → Both → List Entry → ℕ
steps_from c b [] = 0
steps_from c b (e ∷ es) = entry_steps c.image b.machine e + steps_from c (or_stay b (advance c b e)) es

-- of a whole journal
abbrev pub instruction_steps : CaseData → List Entry → ℕ
instruction_steps c journal = steps_from c (begin c) journal
