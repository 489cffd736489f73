-- What each kind of entry leaves of a guest and its thread, said as one statement a kind.
use Rattle.std.specs.Prelude.{◌≡◌, ℕ, ◌+◌, ◌^◌, ◌<◌, ◌≤◌, true, false, List, [], ◌∷◌, ◌++◌, length, Some, None}
use Rattle.address_space.specs.Slots.{slot_of}
use Rattle.guest_state.specs.declared.virtual_state.Virtual.{Virtual}
use Rattle.ir_meaning.specs.Does.{answered}
use Rattle.ir_syntax.specs.declared.block.Block.{Block}
use Rattle.ir_syntax.specs.declared.block.Part.{Part}
use Rattle.x86_forms.specs.Widths.{bits_in}
use Rattle.x86_forms.specs.declared.operands.Width.{Width}
use Rattle.x86_model.specs.declared.cpu.Cpu.{Cpu}
use Rattle.x86_model.specs.declared.want.BadStep.{BadStep}
use Rattle.x86_model.specs.declared.want.Change.{Change}
use Rattle.x86_model.specs.declared.want.Want.TheVariants as wants
use Rattle.x86_model.specs.Want.{want}
use Rattle.tso_memory.specs.declared.access.Access.TheVariants as access
use Rattle.tso_memory.specs.Buffer.{size_of}
use Rattle.tso_memory.specs.Memory.{number_from}
use Rattle.tso_memory.specs.Tso.{is_none_waiting, memory_number, seen_by}
use Rattle.journal_pack.specs.declared.entry.Entry.TheVariants.{Ev, Tick, Wait, Over, Miss, Full}
use Rattle.basic_blocks.specs.Places.{is_code_place}
use Rattle.basic_blocks.specs.Reach.{is_among}
use Rattle.machine_model.specs.Conversions.{memory_width_of}
use Rattle.machine_model.specs.CaseData.{CaseData}
use Rattle.machine_model.specs.Step.{waits_at}
use Rattle.machine_model.specs.Gated.{Both, Stand, entered, most_grown, onward}
use Rattle.machine_model.specs.Own.{refusal, writes_at}
use Rattle.machine_model.specs.Ready.{HasGrown}
use Rattle.guest_parts.specs.Standing.{Position, Between, Inside, StandsIn}
use Rattle.guest_parts.specs.Requests.{GoesOnWith, stand_by}
use Rattle.guest_parts.specs.Guest.{GuestData, IsGoing, IsWith, LeavesEnded, LeavesFlushed, LeavesGrown, LeavesWith}

-- one step more is below the limit
abbrev pub HasRoom : CaseData → Both → GuestData → Type 0
HasRoom c b g = b.machine.steps + g.k < c.limit

-- the thread's next step is made at these addresses of its block
abbrev pub EntersAt : CaseData → Both → Stand → List ℕ → Type 0
EntersAt c b d left = entered c.image b.gate.grown d.cpu.rip d.left ≡ Some left

-- the private steps are told
abbrev pub told : GuestData → GuestData
told g = record g { k = 0 }

abbrev pub TickTells : Type 0
TickTells = (c : CaseData) (b : Both) (t : ℕ) (g : GuestData) (d : Stand) → IsGoing b t → IsWith c b t g d → 0 < g.k → HasRoom c b g → LeavesWith c b t (Tick t g.k) (told g)

abbrev pub WaitTells : Type 0
WaitTells = (c : CaseData) (b : Both) (t : ℕ) (g : GuestData) (d : Stand) → IsGoing b t → IsWith c b t g d → 0 < g.k → HasRoom c b g → is_none_waiting (writes_at b t) ≡ true → waits_at c.image b.machine t d.cpu ≡ true → LeavesWith c b t (Wait t g.k) (told g)

abbrev pub OverEnds : Type 0
OverEnds = (c : CaseData) (b : Both) (t : ℕ) (g : GuestData) (d : Stand) → IsGoing b t → IsWith c b t g d → c.limit ≤ b.machine.steps + g.k → LeavesEnded c b (Over t g.k)

abbrev pub FlushKeeps : Type 0
FlushKeeps = (c : CaseData) (b : Both) (t : ℕ) (g : GuestData) (d : Stand) → IsGoing b t → IsWith c b t g d → 0 < length (writes_at b t) → LeavesFlushed c b t g d

-- At an ungrown code place between blocks, unless the thread stands there right after a miss of its own.
abbrev pub Misses : CaseData → Both → ℕ → GuestData → ℕ → Type 0
Misses c b t g a = (g.at ≡ Between a) × (is_code_place c.image a ≡ true) × (is_among b.gate.grown a ≡ false) × HasGrown c.image b (slot_of t)

abbrev pub MissTells : Type 0
MissTells = (c : CaseData) (b : Both) (t : ℕ) (g : GuestData) (d : Stand) (a : ℕ) → IsGoing b t → IsWith c b t g d → HasRoom c b g → Misses c b t g a → c.strict ≡ false → LeavesWith c b t (Miss t g.k g.last a) (told g)

abbrev pub MissEnds : Type 0
MissEnds = (c : CaseData) (b : Both) (t : ℕ) (g : GuestData) (d : Stand) (a : ℕ) → IsGoing b t → IsWith c b t g d → HasRoom c b g → Misses c b t g a → c.strict ≡ true → LeavesEnded c b (Miss t g.k g.last a)

abbrev pub GrowKeeps : Type 0
GrowKeeps = (c : CaseData) (b : Both) (t : ℕ) (g : GuestData) (d : Stand) (a : ℕ) → IsGoing b t → IsWith c b t g d → c.strict ≡ false → is_code_place c.image a ≡ true → is_among b.gate.grown a ≡ false → length b.gate.grown < most_grown → LeavesGrown c b t a g d

abbrev pub FullEnds : Type 0
FullEnds = (c : CaseData) (b : Both) (t : ℕ) (g : GuestData) (d : Stand) (a : ℕ) → IsGoing b t → IsWith c b t g d → g.k ≡ 0 → g.at ≡ Between a → c.strict ≡ false → is_code_place c.image a ≡ true → is_among b.gate.grown a ≡ false → length b.gate.grown ≡ most_grown → LeavesEnded c b (Full t)

abbrev pub LoadAnswers : Type 0
LoadAnswers = (c : CaseData) (b : Both) (t : ℕ) (g : GuestData) (d : Stand) → IsGoing b t → IsWith c b t g d → HasRoom c b g → (blk : Block) (n : ℕ) (p : Part) (a : ℕ) (u : Virtual) (width : Width) (left : List ℕ) (x : ℕ) → want c.image d.cpu ≡ wants.Load a width → EntersAt c b d left → GoesOnWith c.image b.gate.grown p blk n g.last (bits_in width) left u d → refusal b access.Load a width ≡ None → x ≡ number_from (seen_by b.machine.tso (slot_of t)) (size_of (memory_width_of width)) a → x < 2 ^ bits_in width
    → LeavesWith c b t (Ev t g.k) (record g { state = answered p.end x u; at = Inside blk (n + 1); k = 0 })

abbrev pub LoadEnds : Type 0
LoadEnds = (c : CaseData) (b : Both) (t : ℕ) (g : GuestData) (d : Stand) → IsGoing b t → IsWith c b t g d → HasRoom c b g → (a x : ℕ) (width : Width) (left : List ℕ) → want c.image d.cpu ≡ wants.Load a width → EntersAt c b d left → refusal b access.Load a width ≡ Some x → LeavesEnded c b (Ev t g.k)

abbrev pub LockedAnswers : Type 0
LockedAnswers = (c : CaseData) (b : Both) (t : ℕ) (g : GuestData) (d : Stand) → IsGoing b t → IsWith c b t g d → HasRoom c b g → (blk : Block) (n : ℕ) (p : Part) (a : ℕ) (u : Virtual) (width : Width) (change : Change) (left : List ℕ) (x : ℕ) → want c.image d.cpu ≡ wants.Locked a width change → EntersAt c b d left → GoesOnWith c.image b.gate.grown p blk n g.last (bits_in width) left u d → is_none_waiting (writes_at b t) ≡ true → refusal b access.Locked a width ≡ None → x ≡ memory_number b.machine.tso (size_of (memory_width_of width)) a → x < 2 ^ bits_in width
    → LeavesWith c b t (Ev t g.k) (record g { state = answered p.end x u; at = Inside blk (n + 1); k = 0 })

abbrev pub LockedEnds : Type 0
LockedEnds = (c : CaseData) (b : Both) (t : ℕ) (g : GuestData) (d : Stand) → IsGoing b t → IsWith c b t g d → HasRoom c b g → (a x : ℕ) (width : Width) (change : Change) (left : List ℕ) → want c.image d.cpu ≡ wants.Locked a width change → EntersAt c b d left → is_none_waiting (writes_at b t) ≡ true → refusal b access.Locked a width ≡ Some x → LeavesEnded c b (Ev t g.k)

abbrev pub StoreWaits : Type 0
StoreWaits = (c : CaseData) (b : Both) (t : ℕ) (g : GuestData) (d : Stand) → IsGoing b t → IsWith c b t g d → HasRoom c b g → (at : Position) (last : ℕ) (u : Virtual) (a value : ℕ) (width : Width) (next : Cpu) (left : List ℕ) → want c.image d.cpu ≡ wants.Store a width value next → EntersAt c b d left → StandsIn c.image b.gate.grown at last u (stand_by next (onward next.mid left)) → refusal b access.Store a width ≡ None
    → LeavesWith c b t (Ev t g.k) (record g { state = u; at = at; last = last; k = 0; ages = g.ages ++ 0 ∷ [] })

abbrev pub StoreEnds : Type 0
StoreEnds = (c : CaseData) (b : Both) (t : ℕ) (g : GuestData) (d : Stand) → IsGoing b t → IsWith c b t g d → HasRoom c b g → (a value x : ℕ) (width : Width) (next : Cpu) (left : List ℕ) → want c.image d.cpu ≡ wants.Store a width value next → EntersAt c b d left → refusal b access.Store a width ≡ Some x → LeavesEnded c b (Ev t g.k)

abbrev pub FencePasses : Type 0
FencePasses = (c : CaseData) (b : Both) (t : ℕ) (g : GuestData) (d : Stand) → IsGoing b t → IsWith c b t g d → HasRoom c b g → (at : Position) (last : ℕ) (u : Virtual) (next : Cpu) (left : List ℕ) → want c.image d.cpu ≡ wants.Fence next → EntersAt c b d left → StandsIn c.image b.gate.grown at last u (stand_by next (onward next.mid left)) → is_none_waiting (writes_at b t) ≡ true
    → LeavesWith c b t (Ev t g.k) (record g { state = u; at = at; last = last; k = 0 })

abbrev pub BadEnds : Type 0
BadEnds = (c : CaseData) (b : Both) (t : ℕ) (g : GuestData) (d : Stand) → IsGoing b t → IsWith c b t g d → HasRoom c b g → (left : List ℕ) (kind : BadStep) → want c.image d.cpu ≡ wants.Bad kind → EntersAt c b d left → LeavesEnded c b (Ev t g.k)
