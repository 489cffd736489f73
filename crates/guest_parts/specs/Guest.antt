-- A guest with its thread after a journal.
use Rattle.std.specs.Prelude.{◌≡◌, ℕ, ◌≤◌, true, List, ◌∷◌, length, Some, None, IsSome}
use Rattle.address_space.specs.Slots.{slot_of}
use Rattle.callbacks.specs.declared.Frame.{Frame}
use Rattle.guest_state.specs.declared.virtual_state.Virtual.{Virtual}
use Rattle.journal_pack.specs.declared.entry.Entry.{Entry}
use Rattle.journal_pack.specs.declared.entry.Entry.TheVariants.{Flush, Grow}
use Rattle.machine_model.specs.CaseData.{CaseData}
use Rattle.machine_model.specs.State.{is_live}
use Rattle.machine_model.specs.Gated.{Both, Stand, advance, rest_of, stand_at}
use Rattle.machine_model.specs.Own.{IsAhead, IsWhole, frames_at, writes_at}
use Rattle.guest_parts.specs.Standing.{Position, StandsIn}

-- What a guest keeps of its thread: its virtual registers; where it is; the instruction that was finished last before
-- that; its calls back; its private steps since its last entry; and the age of each of its waiting writes, the oldest first.
pub record GuestData : Type 0 where
  pub state : Virtual
  pub at : Position
  pub last : ℕ
  pub frames : List Frame
  pub k : ℕ
  pub ages : List ℕ

-- Thread t is k private steps past its last entry, at d, and the guest stands with it there.
pub record IsWith (c : CaseData) (b : Both) (t : ℕ) (g : GuestData) (d : Stand) : Type 0 where
  pub ahead : IsAhead c b (slot_of t) g.k d
  pub few : g.k ≤ 4096
  pub stands : StandsIn c.image b.gate.grown g.at g.last g.state d
  pub frames : frames_at b t ≡ g.frames
  pub ages : length g.ages ≡ length (writes_at b t)

-- the run goes on, and thread t lives
pub record IsGoing (b : Both) (t : ℕ) : Type 0 where
  pub whole : IsWhole b
  pub going : b.machine.ending ≡ None
  pub live : is_live b.machine t ≡ true

-- Entry e may come. After it the run goes on and thread t lives, and this guest, which told its private steps, stands with it.
pub record LeavesWith (c : CaseData) (b : Both) (t : ℕ) (e : Entry) (g : GuestData) : Type 0 where
  pub next : Both
  pub comes : advance c b e ≡ Some next
  pub going : IsGoing next t
  pub told : g.k ≡ 0
  pub with : IsWith c next t g (stand_at next (slot_of t))
  pub grown : next.gate.grown ≡ b.gate.grown

-- entry e may come, and ends the run
pub record LeavesEnded (c : CaseData) (b : Both) (e : Entry) : Type 0 where
  pub next : Both
  pub comes : advance c b e ≡ Some next
  pub ended : IsSome next.machine.ending

-- A write of thread t goes to memory. Nothing else changes of the thread, which is still as far past its last entry.
pub record LeavesFlushed (c : CaseData) (b : Both) (t : ℕ) (g : GuestData) (d : Stand) : Type 0 where
  pub next : Both
  pub comes : advance c b (Flush t) ≡ Some next
  pub going : IsGoing next t
  pub with : IsWith c next t (record g { ages = rest_of g.ages }) d
  pub grown : next.gate.grown ≡ b.gate.grown
  pub steps : next.machine.steps ≡ b.machine.steps

-- Thread t grows a place. Nothing changes of the thread or the machine, and its guest stands with it as before.
pub record LeavesGrown (c : CaseData) (b : Both) (t a : ℕ) (g : GuestData) (d : Stand) : Type 0 where
  pub next : Both
  pub comes : advance c b (Grow t a) ≡ Some next
  pub going : IsGoing next t
  pub with : IsWith c next t g d
  pub grown : next.gate.grown ≡ a ∷ b.gate.grown
  pub machine : next.machine ≡ b.machine
