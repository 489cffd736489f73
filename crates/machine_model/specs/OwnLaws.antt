-- What each kind of entry leaves of the thread that it names, said as one statement a kind.
use Rattle.std.specs.Prelude.{◌≡◌, ℕ, ◌+◌, List, [], ◌∷◌, ◌++◌, Some, None, true}
use Rattle.address_space.specs.Slots.{slot_of}
use Rattle.lib_table.specs.declared.answer.BadKind.{BadKind}
use Rattle.lib_table.specs.declared.answer.BadKind.TheVariants.{Access}
use Rattle.lib_table.specs.declared.answer.Called.{Called}
use Rattle.lib_table.specs.declared.ask.Asked.{Asked}
use Rattle.lib_table.specs.Library.{LibraryData}
use Rattle.lib_table.specs.Outcome.{Done, Bad}
use Rattle.tso_memory.specs.declared.access.Access.TheVariants as access
use Rattle.tso_memory.specs.declared.write.PendingWrite.{PendingWrite}
use Rattle.tso_memory.specs.Buffer.{pending, size_of}
use Rattle.tso_memory.specs.Memory.{Memory, number_from}
use Rattle.tso_memory.specs.Tso.{seen_by, memory_number}
use Rattle.x86_forms.specs.declared.operands.Width.{Width}
use Rattle.x86_model.specs.declared.cpu.Cpu.{Cpu}
use Rattle.x86_model.specs.declared.want.BadStep.{BadStep}
use Rattle.x86_model.specs.declared.want.Change.{Change}
use Rattle.x86_model.specs.declared.want.Want.TheVariants as wants
use Rattle.x86_model.specs.Want.{want}
use Rattle.journal_pack.specs.declared.entry.Entry.TheVariants.{Ev, Tick, Flush, Wait, Miss, Grow, Over, Full}
use Rattle.machine_model.specs.declared.ending.RunEnd.TheVariants as end
use Rattle.machine_model.specs.CaseData.{CaseData}
use Rattle.machine_model.specs.Conversions.{memory_width_of, kind_of}
use Rattle.machine_model.specs.State.{list_at}
use Rattle.machine_model.specs.Step.{answered, asked_by, called, core_with, cpu_at, ended, exit_by, is_in_use, row_at}
use Rattle.machine_model.specs.Gated.{Both, Growing, Other, Stand, advance, after_flush, onward, spot_at, stand_at}
use Rattle.machine_model.specs.Own.{Clock, IsAhead, IsEntered, IsWhole, Standing, frames_at, miss_end, refusal, writes_at}

-- private steps alone
abbrev pub TickLeaves : Type 0
TickLeaves = (c : CaseData) (b n : Both) (t k : ℕ) (d : Stand) → IsWhole b → advance c b (Tick t k) ≡ Some n → IsAhead c b (slot_of t) k d → Standing n (slot_of t) d (frames_at b t) (writes_at b t) Other × Clock n (b.machine.steps + k) None b.machine.library × (n.gate.grown ≡ b.gate.grown)

-- private steps up to a call that waits
abbrev pub WaitLeaves : Type 0
WaitLeaves = (c : CaseData) (b n : Both) (t k : ℕ) (d : Stand) → IsWhole b → advance c b (Wait t k) ≡ Some n → IsAhead c b (slot_of t) k d → Standing n (slot_of t) d (frames_at b t) (writes_at b t) Other × Clock n (b.machine.steps + k) None b.machine.library × (n.gate.grown ≡ b.gate.grown)

-- the steps that were left
abbrev pub OverLeaves : Type 0
OverLeaves = (c : CaseData) (b n : Both) (t k : ℕ) (d : Stand) → IsWhole b → advance c b (Over t k) ≡ Some n → IsAhead c b (slot_of t) k d → Standing n (slot_of t) d (frames_at b t) (writes_at b t) Other × Clock n (b.machine.steps + k) (Some end.Steps) b.machine.library × (n.gate.grown ≡ b.gate.grown)

-- a miss
abbrev pub MissLeaves : Type 0
MissLeaves = (c : CaseData) (b n : Both) (t k source target : ℕ) (d : Stand) → IsWhole b → advance c b (Miss t k source target) ≡ Some n → IsAhead c b (slot_of t) k d → Standing n (slot_of t) (record { cpu = d.cpu; left = [] }) (frames_at b t) (writes_at b t) (Growing target) × Clock n (b.machine.steps + (k + 1)) (miss_end c.strict (record { thread = t; source = source; target = target })) b.machine.library × (n.gate.grown ≡ b.gate.grown)

-- growth leaves the machine as it is
abbrev pub GrowLeaves : Type 0
GrowLeaves = (c : CaseData) (b n : Both) (t a : ℕ) → IsWhole b → advance c b (Grow t a) ≡ Some n → (n.machine ≡ b.machine) × (spot_at n.gate (slot_of t) ≡ spot_at b.gate (slot_of t)) × (n.gate.grown ≡ a ∷ b.gate.grown)

-- no place may be grown any more
abbrev pub FullLeaves : Type 0
FullLeaves = (c : CaseData) (b n : Both) (t : ℕ) → advance c b (Full t) ≡ Some n → n.machine ≡ ended b.machine (end.Full t (cpu_at b.machine (slot_of t)).rip)

-- the oldest write goes to memory
abbrev pub FlushLeaves : Type 0
FlushLeaves = (c : CaseData) (b n : Both) (t : ℕ) (w : PendingWrite) (ws : List PendingWrite) → IsWhole b → advance c b (Flush t) ≡ Some n → list_at b.machine (slot_of t) ≡ w ∷ ws → Standing n (slot_of t) (stand_at b (slot_of t)) (frames_at b t) ws (after_flush (spot_at b.gate (slot_of t)).latest) × Clock n b.machine.steps None b.machine.library × (n.gate.grown ≡ b.gate.grown)

-- a flush needs a write that waits
abbrev pub FlushNeeds : Type 0
FlushNeeds = (c : CaseData) (b n : Both) (t : ℕ) → advance c b (Flush t) ≡ Some n → (w : PendingWrite) × (ws : List PendingWrite) × (list_at b.machine (slot_of t) ≡ w ∷ ws)

-- a load
abbrev pub LoadLeaves : Type 0
LoadLeaves = (c : CaseData) (b n : Both) (t k a : ℕ) (w : Width) (d : Stand) (left : List ℕ) → IsWhole b → advance c b (Ev t k) ≡ Some n → IsAhead c b (slot_of t) k d → IsEntered c b d left → want c.image d.cpu ≡ wants.Load a w → refusal b access.Load a w ≡ None → Standing n (slot_of t) (record { cpu = answered d.cpu (number_from (seen_by b.machine.tso (slot_of t)) (size_of (memory_width_of w)) a); left = left }) (frames_at b t) (writes_at b t) Other × Clock n (b.machine.steps + (k + 1)) None b.machine.library × (n.gate.grown ≡ b.gate.grown)

-- a store
abbrev pub StoreLeaves : Type 0
StoreLeaves = (c : CaseData) (b n : Both) (t k a value : ℕ) (w : Width) (next : Cpu) (d : Stand) (left : List ℕ) → IsWhole b → advance c b (Ev t k) ≡ Some n → IsAhead c b (slot_of t) k d → IsEntered c b d left → want c.image d.cpu ≡ wants.Store a w value next → refusal b access.Store a w ≡ None → Standing n (slot_of t) (record { cpu = next; left = onward next.mid left }) (frames_at b t) (writes_at b t ++ pending a (memory_width_of w) value ∷ []) Other × Clock n (b.machine.steps + (k + 1)) None b.machine.library × (n.gate.grown ≡ b.gate.grown)

-- a fence
abbrev pub FenceLeaves : Type 0
FenceLeaves = (c : CaseData) (b n : Both) (t k : ℕ) (next : Cpu) (d : Stand) (left : List ℕ) → IsWhole b → advance c b (Ev t k) ≡ Some n → IsAhead c b (slot_of t) k d → IsEntered c b d left → want c.image d.cpu ≡ wants.Fence next → Standing n (slot_of t) (record { cpu = next; left = onward next.mid left }) (frames_at b t) (writes_at b t) Other × Clock n (b.machine.steps + (k + 1)) None b.machine.library × (n.gate.grown ≡ b.gate.grown)

-- a locked access
abbrev pub LockedLeaves : Type 0
LockedLeaves = (c : CaseData) (b n : Both) (t k a : ℕ) (w : Width) (change : Change) (d : Stand) (left : List ℕ) → IsWhole b → advance c b (Ev t k) ≡ Some n → IsAhead c b (slot_of t) k d → IsEntered c b d left → want c.image d.cpu ≡ wants.Locked a w change → refusal b access.Locked a w ≡ None → Standing n (slot_of t) (record { cpu = answered d.cpu (memory_number b.machine.tso (size_of (memory_width_of w)) a); left = left }) (frames_at b t) (writes_at b t) Other × Clock n (b.machine.steps + (k + 1)) None b.machine.library × (n.gate.grown ≡ b.gate.grown)

-- a request of the library
abbrev pub CallLeaves : Type 0
CallLeaves = (c : CaseData) (b n : Both) (t k : ℕ) (d : Stand) (left : List ℕ) (what : Asked) (library : LibraryData) (memory : Memory) (answer : Called) → IsWhole b → advance c b (Ev t k) ≡ Some n → IsAhead c b (slot_of t) k d → IsEntered c b d left → asked_by (want c.image d.cpu) ≡ Some what → row_at b.machine t (core_with b.machine t d.cpu) what ≡ Done library memory answer → is_in_use b.machine.library (slot_of t) ≡ true
    → Standing n (slot_of t) (record { cpu = (called (core_with b.machine t d.cpu) what answer).cpu; left = onward (called (core_with b.machine t d.cpu) what answer).cpu.mid left }) (called (core_with b.machine t d.cpu) what answer).frames (writes_at b t) Other × Clock n (b.machine.steps + (k + 1)) (exit_by (core_with b.machine t d.cpu) what) library × (n.gate.grown ≡ b.gate.grown)

-- a step that can't be made
abbrev pub BadEnds : Type 0
BadEnds = (c : CaseData) (b n : Both) (t k : ℕ) (d : Stand) (left : List ℕ) (kind : BadStep) → advance c b (Ev t k) ≡ Some n → IsAhead c b (slot_of t) k d → IsEntered c b d left → want c.image d.cpu ≡ wants.Bad kind → Clock n (b.machine.steps + (k + 1)) (Some (end.Fault t d.cpu.rip (kind_of kind))) b.machine.library

-- a load without the right
abbrev pub LoadEnds : Type 0
LoadEnds = (c : CaseData) (b n : Both) (t k a x : ℕ) (w : Width) (d : Stand) (left : List ℕ) → advance c b (Ev t k) ≡ Some n → IsAhead c b (slot_of t) k d → IsEntered c b d left → want c.image d.cpu ≡ wants.Load a w → refusal b access.Load a w ≡ Some x → Clock n (b.machine.steps + (k + 1)) (Some (end.Fault t d.cpu.rip (Access x))) b.machine.library

-- a store without the right
abbrev pub StoreEnds : Type 0
StoreEnds = (c : CaseData) (b n : Both) (t k a value x : ℕ) (w : Width) (next : Cpu) (d : Stand) (left : List ℕ) → advance c b (Ev t k) ≡ Some n → IsAhead c b (slot_of t) k d → IsEntered c b d left → want c.image d.cpu ≡ wants.Store a w value next → refusal b access.Store a w ≡ Some x → Clock n (b.machine.steps + (k + 1)) (Some (end.Fault t d.cpu.rip (Access x))) b.machine.library

-- a locked access without the right
abbrev pub LockedEnds : Type 0
LockedEnds = (c : CaseData) (b n : Both) (t k a x : ℕ) (w : Width) (change : Change) (d : Stand) (left : List ℕ) → advance c b (Ev t k) ≡ Some n → IsAhead c b (slot_of t) k d → IsEntered c b d left → want c.image d.cpu ≡ wants.Locked a w change → refusal b access.Locked a w ≡ Some x → Clock n (b.machine.steps + (k + 1)) (Some (end.Fault t d.cpu.rip (Access x))) b.machine.library

-- a request that is bad
abbrev pub CallEnds : Type 0
CallEnds = (c : CaseData) (b n : Both) (t k : ℕ) (d : Stand) (left : List ℕ) (what : Asked) (kind : BadKind) → advance c b (Ev t k) ≡ Some n → IsAhead c b (slot_of t) k d → IsEntered c b d left → asked_by (want c.image d.cpu) ≡ Some what → row_at b.machine t (core_with b.machine t d.cpu) what ≡ Bad kind → Clock n (b.machine.steps + (k + 1)) (Some (end.Fault t d.cpu.rip kind)) b.machine.library
