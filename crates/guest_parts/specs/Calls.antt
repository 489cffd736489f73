-- A call of the library, or a return to a door: what the guest asks, what the answer makes of it, and what the entry leaves
-- of guest and thread.
use Rattle.std.specs.Prelude.{◌≡◌, ◌≢◌, ℕ, ◌-◌, ◌^◌, ◌<◌, ◌⊎◌, Bool, true, false, List, [], ◌∷◌, ◌++◌, length, slice_get, slice_index, slice_set, Option, Some, None, ⊤}
use Rattle.address_space.specs.Slots.{slot_of}
use Rattle.callbacks.specs.declared.Frame.{Frame}
use Rattle.elf_image.specs.declared.place.Function.{Function}
use Rattle.elf_image.specs.declared.place.Function.TheVariants as function
use Rattle.elf_image.specs.Layout.{ImageData, function_at}
use Rattle.lib_table.specs.declared.answer.BadKind.{BadKind}
use Rattle.lib_table.specs.declared.answer.Called.{Called}
use Rattle.lib_table.specs.declared.answer.Called.TheVariants.{Back, Probe, Over, Stay}
use Rattle.lib_table.specs.declared.ask.Ask.{Ask}
use Rattle.lib_table.specs.declared.ask.Asked.{Asked}
use Rattle.lib_table.specs.declared.ask.Asked.TheVariants.{Lib, EndDoor}
use Rattle.lib_table.specs.Library.{LibraryData}
use Rattle.lib_table.specs.Outcome.{Done, Bad}
use Rattle.lib_table.specs.Row.{row, waits}
use Rattle.lib_table.specs.Searches.{probe_rsp}
use Rattle.tso_memory.specs.Memory.{Memory}
use Rattle.tso_memory.specs.Tso.{is_none_waiting}
use Rattle.x86_model.specs.declared.want.Door.{Door}
use Rattle.x86_model.specs.Want.{door_at, want}
use Rattle.journal_pack.specs.declared.entry.Entry.{Entry}
use Rattle.journal_pack.specs.declared.entry.Entry.TheVariants.{Ev, Wait}
use Rattle.machine_model.specs.CaseData.{CaseData}
use Rattle.machine_model.specs.Conversions.{asked_at}
use Rattle.machine_model.specs.State.{is_live, list_at, thread_in}
use Rattle.machine_model.specs.Step.{ask_of, asked_by, called_with, core_with, frames_before, waits_at, without_top}
use Rattle.machine_model.specs.Gated.{Both, Stand, advance}
use Rattle.machine_model.specs.Own.{IsWhole, writes_at}
use Rattle.machine_model.specs.Serial.{AtEvent, Point, Turn, flush_some, rule_at}
use Rattle.guest_parts.specs.Standing.{Between}
use Rattle.guest_parts.specs.Guest.{GuestData, IsGoing, IsWith, LeavesEnded, LeavesWith}
use Rattle.guest_parts.specs.Entries.{EntersAt, HasRoom}
use Rattle.guest_parts.specs.Points.{Acts, point_at, turn_of, waiting_of}

-- ---- what is asked

-- a door comes before a place of a library function
abbrev pub asked_of : Option Door → Option Function → Option Asked
asked_of (Some d) f = Some (asked_at d)
asked_of None (Some f) = Some (Lib f)
asked_of None None = None

-- what a thread asks of the library at an address: the door or the function that is there
abbrev pub asked_in : ImageData → ℕ → Option Asked
asked_in image a = asked_of (door_at a) (function_at a image.entries)

-- The request of a thread with these registers and calls back: the arguments are rdi, rsi, rdx, rcx and r8 (System V x86-64
-- psABI, section 3.2.3).
abbrev pub request_by : List ℕ → List Frame → Asked → Ask
request_by regs frames what = record { what = what; args = slice_index regs 7 ∷ slice_index regs 6 ∷ slice_index regs 2 ∷ slice_index regs 1 ∷ slice_index regs 8 ∷ []; rsp = slice_index regs 4; rax = slice_index regs 0; depth = length frames; top = slice_get frames (length frames - 1) }

abbrev pub request_of : GuestData → Asked → Ask
request_of g what = request_by g.state.regs g.frames what

-- between blocks at an address where this is asked
abbrev pub IsAtCall : CaseData → GuestData → ℕ → Asked → Type 0
IsAtCall c g a what = (g.at ≡ Between a) × (asked_in c.image a ≡ Some what)

-- ---- what an answer makes of a guest

-- rax and rsp after a return; before a function of the guest runs, the key and the element in rdi and rsi for a comparator,
-- and rsp 16 below that of the frame
abbrev pub regs_after : Called → List ℕ → List ℕ
regs_after (Back rax rsp rip popped) regs = slice_set (slice_set regs 0 rax) 4 rsp
regs_after (Probe frame place) regs = slice_set (called_with frame.control regs frame.key place) 4 (probe_rsp frame)
regs_after Stay regs = regs
regs_after Over regs = regs

-- the calls back that are under way then
abbrev pub frames_after : Asked → Called → List Frame → List Frame
frames_after what (Back rax rsp rip true) frames = without_top frames
frames_after what (Back rax rsp rip false) frames = frames
frames_after what (Probe frame place) frames = frames_before what frames ++ frame ∷ []
frames_after what Stay frames = frames
frames_after what Over frames = frames

-- where it goes on, after a request at an address
abbrev pub place_after : Called → ℕ → ℕ
place_after (Back rax rsp rip popped) a = rip
place_after (Probe frame place) a = frame.compar
place_after Stay a = a
place_after Over a = a

-- the guest between blocks, after its request at an address was carried out
abbrev pub guest_after : GuestData → ℕ → Asked → Called → GuestData
guest_after g a what called = record g { state = record g.state { regs = regs_after called g.state.regs }; at = Between (place_after called a); frames = frames_after what called g.frames; k = 0 }

-- the thread goes on after an answer, unless it ended or the run did
abbrev pub goes_on : Called → Bool
goes_on (Back rax rsp rip popped) = true
goes_on (Probe frame place) = true
goes_on Stay = true
goes_on Over = false

-- what an answer writes to registers fits them
abbrev pub FitsRegisters : Called → Type 0
FitsRegisters (Back rax rsp rip popped) = (rax < 2 ^ 64) × (rsp < 2 ^ 64)
FitsRegisters (Probe frame place) = (frame.key < 2 ^ 64) × (place < 2 ^ 64)
FitsRegisters Stay = ⊤
FitsRegisters Over = ⊤

-- the key of the innermost call back, if there is one, fits a register
abbrev pub HasKey : Option Frame → Type 0
HasKey None = ⊤
HasKey (Some f) = f.key < 2 ^ 64

-- ---- what the entry leaves

-- Entry e may come. After it the run goes on, thread t ended, and no thread lives in its slot.
pub record LeavesGone (c : CaseData) (b : Both) (t : ℕ) (e : Entry) : Type 0 where
  pub next : Both
  pub comes : advance c b e ≡ Some next
  pub whole : IsWhole next
  pub going : next.machine.ending ≡ None
  pub gone : is_live next.machine t ≡ false
  pub free : thread_in next.machine (slot_of t) ≡ None
  pub grown : next.gate.grown ≡ b.gate.grown

-- the guest's request is its thread's, at no addresses of a block; it isn't private
pub record AsksWith (c : CaseData) (b : Both) (t : ℕ) (g : GuestData) (d : Stand) (a : ℕ) (what : Asked) : Type 0 where
  pub rip : d.cpu.rip ≡ a
  pub enters : EntersAt c b d []
  pub wants : asked_by (want c.image d.cpu) ≡ Some what
  pub asks : ask_of (core_with b.machine t d.cpu) what ≡ request_of g what
  pub waits : waits_at c.image b.machine t d.cpu ≡ waits b.machine.library b.machine.tso.memory t (request_of g what)

abbrev pub CallAsks : Type 0
CallAsks = (c : CaseData) (b : Both) (t : ℕ) (g : GuestData) (d : Stand) (a : ℕ) (what : Asked) → IsWith c b t g d → IsAtCall c g a what → AsksWith c b t g d a what

-- a request is what the turn of its thread comes to, while private steps are left to it
abbrev pub CallStops : Type 0
CallStops = (c : CaseData) (b : Both) (t : ℕ) (g : GuestData) (d : Stand) (a : ℕ) (what : Asked) → IsWith c b t g d → IsAtCall c g a what → HasRoom c b g → g.k ≢ 4096 → rule_at c b (point_at g.k d) ≡ AtEvent

-- the entry may come where no own write waits, and the request doesn't wait for another thread
abbrev pub CallComes : Type 0
CallComes = (c : CaseData) (b : Both) (t : ℕ) (g : GuestData) (d : Stand) (a : ℕ) (what : Asked) → IsGoing b t → IsWith c b t g d → HasRoom c b g → IsAtCall c g a what → is_none_waiting (writes_at b t) ≡ true → waits b.machine.library b.machine.tso.memory t (request_of g what) ≡ false
    → (n : Both) × (advance c b (Ev t g.k) ≡ Some n)

-- the guest goes on with the answer: it returns, a function of its own runs, or it stays where it is
abbrev pub CallAnswers : Type 0
CallAnswers = (c : CaseData) (b : Both) (t : ℕ) (g : GuestData) (d : Stand) (a : ℕ) (what : Asked) → IsGoing b t → IsWith c b t g d → HasRoom c b g → IsAtCall c g a what → is_none_waiting (writes_at b t) ≡ true → (library : LibraryData) (memory : Memory) (called : Called) → row b.machine.library b.machine.tso.memory t (request_of g what) ≡ Done library memory called → goes_on called ≡ true → FitsRegisters called
    → LeavesWith c b t (Ev t g.k) (guest_after g a what called)

-- `exit` ends the run, and the return of a start function ends its thread; no other request is answered so
abbrev pub CallEnds : Type 0
CallEnds = (c : CaseData) (b : Both) (t : ℕ) (g : GuestData) (d : Stand) (a : ℕ) (what : Asked) → IsGoing b t → IsWith c b t g d → HasRoom c b g → IsAtCall c g a what → is_none_waiting (writes_at b t) ≡ true → (library : LibraryData) (memory : Memory) → row b.machine.library b.machine.tso.memory t (request_of g what) ≡ Done library memory Over
    → ((what ≡ Lib function.Exit) × LeavesEnded c b (Ev t g.k)) ⊎ ((what ≡ EndDoor) × LeavesGone c b t (Ev t g.k))

-- a bad request ends the run
abbrev pub CallFaults : Type 0
CallFaults = (c : CaseData) (b : Both) (t : ℕ) (g : GuestData) (d : Stand) (a : ℕ) (what : Asked) → IsGoing b t → IsWith c b t g d → HasRoom c b g → IsAtCall c g a what → is_none_waiting (writes_at b t) ≡ true → (kind : BadKind) → row b.machine.library b.machine.tso.memory t (request_of g what) ≡ Bad kind → LeavesEnded c b (Ev t g.k)

-- What the library answers fits the thread's registers, where the thread's number and the key of its innermost call back
-- are numbers of their types.
abbrev pub AnswersFit : Type 0
AnswersFit = (c : CaseData) (b : Both) (t : ℕ) (g : GuestData) (d : Stand) (a : ℕ) (what : Asked) → IsGoing b t → IsWith c b t g d → IsAtCall c g a what → t < 2 ^ 32 → HasKey (request_of g what).top → (library : LibraryData) (memory : Memory) (called : Called) → row b.machine.library b.machine.tso.memory t (request_of g what) ≡ Done library memory called → FitsRegisters called

-- ---- in a turn

-- A request of the library, which doesn't wait, once all writes of its thread that waited are in memory. The waiting writes
-- that are left have the ages that they had.
abbrev pub CallActs : Type 0
CallActs = (c : CaseData) (t : ℕ) (q : Point) (s : Turn) (b : Both) (journal : List Entry) (ages : List ℕ) (what : Asked) → asked_by (want c.image q.stand.cpu) ≡ Some what → flush_some c t (length (list_at s.both.machine (slot_of t))) s ≡ Some (turn_of b journal ages) → (n : Both) → waits_at c.image b.machine t q.stand.cpu ≡ false → advance c b (Ev t q.k) ≡ Some n
    → Acts c t q s AtEvent (turn_of n (journal ++ Ev t q.k ∷ []) ages)

-- one that waits, right after the thread's last entry
abbrev pub StayActs : Type 0
StayActs = (c : CaseData) (t : ℕ) (q : Point) (s : Turn) (b : Both) (journal : List Entry) (ages : List ℕ) (what : Asked) → asked_by (want c.image q.stand.cpu) ≡ Some what → flush_some c t (length (list_at s.both.machine (slot_of t))) s ≡ Some (turn_of b journal ages) → q.k ≡ 0 → waits_at c.image b.machine t q.stand.cpu ≡ true
    → Acts c t q s AtEvent (waiting_of b journal ages)

-- one that waits, after private steps, which are told
abbrev pub WaitActs : Type 0
WaitActs = (c : CaseData) (t : ℕ) (q : Point) (s : Turn) (b : Both) (journal : List Entry) (ages : List ℕ) (what : Asked) → asked_by (want c.image q.stand.cpu) ≡ Some what → flush_some c t (length (list_at s.both.machine (slot_of t))) s ≡ Some (turn_of b journal ages) → (n : Both) → 0 < q.k → waits_at c.image b.machine t q.stand.cpu ≡ true → advance c b (Wait t q.k) ≡ Some n
    → Acts c t q s AtEvent (waiting_of n (journal ++ Wait t q.k ∷ []) ages)
