-- The journal of a serial run: rounds in which the slots 0 to 63 come in turn, each with the thread that lives in it.
use Rattle.std.specs.Prelude.{◌≡◌, ℕ, zero, suc, ◌+◌, ◌-◌, ◌*◌, Bool, true, false, ◌&&◌, ◌||◌, not, ◌==◌, nat_le, nat_lt, if◌then◌else◌, List, [], ◌∷◌, ◌++◌, filter, length, map, replicate, slice_index_or, slice_set, Option, Some, None, is_none, option_and_then}
use Rattle.address_space.specs.Slots.{slot_of}
use Rattle.elf_image.specs.Layout.{ImageData}
use Rattle.x86_model.specs.declared.cpu.Cpu.{Cpu}
use Rattle.x86_model.specs.declared.want.Want.{Want}
use Rattle.x86_model.specs.declared.want.Want.TheVariants as wants
use Rattle.x86_model.specs.Want.{want}
use Rattle.basic_blocks.specs.Places.{is_code_place}
use Rattle.basic_blocks.specs.Reach.{is_among, IsReach}
use Rattle.journal_pack.specs.declared.entry.Entry.{Entry}
use Rattle.journal_pack.specs.declared.entry.Entry.TheVariants.{Ev, Tick, Flush, Wait, Miss, Grow, Over, Full, Dead}
use Rattle.machine_model.specs.declared.ending.RunEnd.{RunEnd}
use Rattle.machine_model.specs.CaseData.{CaseData}
use Rattle.machine_model.specs.State.{is_live, list_at, slots, thread_in}
use Rattle.machine_model.specs.Step.{privately, waits_at}
use Rattle.machine_model.specs.Play.{walk}
use Rattle.machine_model.specs.Gated.{Both, Stand, advance, begin, gated_step, is_between, most_grown, rest_of, stand_at}

-- a turn makes so many entries that cost of its budget, and a write waits for so many turns of its thread
pub record Rules : Type 0 where
  pub turn : ℕ
  pub hold : ℕ

-- for each place, the places that are reached from it
abbrev pub Reaches : Type 0
Reaches = ℕ → List ℕ

abbrev pub AreReaches : ImageData → Reaches → Type 0
AreReaches image reach = (a : ℕ) → IsReach image (a ∷ []) (reach a)

-- ---- a turn under way

-- The machine and the gate, all entries so far, the age of each waiting write of the thread, the oldest first, and
-- whether the thread came to a call that waits.
pub record Turn : Type 0 where
  pub both : Both
  pub journal : List Entry
  pub ages : List ℕ
  pub waiting : Bool

-- a thread some private steps after its last entry
pub record Point : Type 0 where
  pub k : ℕ
  pub stand : Stand

abbrev pub point_of : Both → ℕ → Point
point_of b t = record { k = 0; stand = stand_at b (slot_of t) }

-- an entry is made, if it may come
abbrev pub with_entry : Entry → Turn → Both → Turn
with_entry e s n = record s { both = n; journal = s.journal ++ e ∷ [] }

abbrev pub arrived : Entry → Turn → Option Both → Option Turn
arrived e s None = None
arrived e s (Some n) = Some (with_entry e s n)

unfoldable pub make : CaseData → Entry → Turn → Option Turn
make c e s = arrived e s (advance c s.both e)

-- ---- private steps

-- the first of the four rules of a turn that holds at a point, or none
pub data Rule : Type 0 where
  AtLimit : Rule
  AtMiss : Rule
  AtMost : Rule
  AtEvent : Rule
  GoesOn : Rule

-- the next step is private or isn't
abbrev pub by_want : Option Cpu → Rule
by_want None = AtEvent
by_want (Some next) = GoesOn

-- it stands at the start of a code place that isn't grown
abbrev pub is_missing : ImageData → List ℕ → Stand → Bool
is_missing image grown d = is_code_place image d.cpu.rip && is_between d.left && not (is_among grown d.cpu.rip)

abbrev pub by_most : CaseData → Point → Bool → Rule
by_most c p true = AtMost
by_most c p false = by_want (privately (want c.image p.stand.cpu))

abbrev pub by_miss : CaseData → Point → Bool → Rule
by_miss c p true = AtMiss
by_miss c p false = by_most c p (p.k == 4096)

abbrev pub by_limit : CaseData → Both → Point → Bool → Rule
by_limit c b p true = AtLimit
by_limit c b p false = by_miss c p (is_missing c.image b.gate.grown p.stand)

unfoldable pub rule_at : CaseData → Both → Point → Rule
rule_at c b p = by_limit c b p (nat_le c.limit (b.machine.steps + p.k))

-- one private step more, where no rule holds
abbrev pub point_on : ℕ → Option Stand → Option Point
point_on k None = None
point_on k (Some d) = Some (record { k = k; stand = d })

abbrev pub next_by : CaseData → Both → Point → Rule → Option Point
next_by c b p AtLimit = None
next_by c b p AtMiss = None
next_by c b p AtMost = None
next_by c b p AtEvent = None
next_by c b p GoesOn = point_on (p.k + 1) (gated_step c.image b.gate.grown p.stand)

unfoldable pub next_point : CaseData → Both → Point → Option Point
next_point c b p = next_by c b p (rule_at c b p)

abbrev pub on_to : (Point → Point) → Point → Option Point → Point
on_to on p None = p
on_to on p (Some q) = on q

-- the first point at which a rule holds, at most n private steps further
unfoldable pub stop_from : CaseData → Both → ℕ → Point → Point
stop_from c b zero p = p
stop_from c b (suc n) p = on_to (stop_from c b n) p (next_point c b p)

-- ---- entries of a turn

-- the oldest waiting write goes to memory
abbrev pub flush : CaseData → ℕ → Turn → Option Turn
flush c t s = make c (Flush t) (record s { ages = rest_of s.ages })

unfoldable pub flush_some : CaseData → ℕ → ℕ → Turn → Option Turn
flush_some c t zero s = Some s
flush_some c t (suc n) s = option_and_then (flush_some c t n) (flush c t s)

-- how many writes go to memory before a step that isn't private, of so many
abbrev pub flushed_before : Want → ℕ → ℕ
flushed_before (wants.Private next) n = 0
flushed_before (wants.Load a w) n = 0
flushed_before (wants.Store a w value next) n = if nat_le 64 n then 1 else 0
flushed_before (wants.Fence next) n = n
flushed_before (wants.Locked a w change) n = n
flushed_before (wants.Call f) n = n
flushed_before (wants.Door d) n = n
flushed_before (wants.Bad kind) n = 0

-- a write that is stored is new
abbrev pub with_new : Want → List ℕ → List ℕ
with_new (wants.Private next) ages = ages
with_new (wants.Load a w) ages = ages
with_new (wants.Store a w value next) ages = ages ++ 0 ∷ []
with_new (wants.Fence next) ages = ages
with_new (wants.Locked a w change) ages = ages
with_new (wants.Call f) ages = ages
with_new (wants.Door d) ages = ages
with_new (wants.Bad kind) ages = ages

-- a call that waits ends the turn; the private steps before it are told
abbrev pub told_waiting : CaseData → ℕ → ℕ → Turn → Option Turn
told_waiting c t zero s = Some (record s { waiting = true })
told_waiting c t (suc k) s = make c (Wait t (suc k)) (record s { waiting = true })

abbrev pub event_by : CaseData → ℕ → Point → Turn → Bool → Option Turn
event_by c t p s true = told_waiting c t p.k s
event_by c t p s false = make c (Ev t p.k) (record s { ages = with_new (want c.image p.stand.cpu) s.ages })

abbrev pub event : CaseData → ℕ → Point → Turn → Option Turn
event c t p s = event_by c t p s (waits_at c.image s.both.machine t p.stand.cpu)

-- growth of places in order
unfoldable pub grow_all : CaseData → ℕ → List ℕ → Turn → Option Turn
grow_all c t [] s = Some s
grow_all c t (a ∷ more) s = option_and_then (grow_all c t more) (make c (Grow t a) s)

abbrev pub ungrown : List ℕ → List ℕ → List ℕ
ungrown grown places = filter (λ a. not (is_among grown a)) places

-- all that isn't grown of what is reached, where it fits
abbrev pub grow_if : CaseData → ℕ → List ℕ → Turn → Bool → Option Turn
grow_if c t more s true = grow_all c t more s
grow_if c t more s false = Some s

abbrev pub grow_reach : CaseData → ℕ → List ℕ → Turn → Option Turn
grow_reach c t places s =
    let more = ungrown s.both.gate.grown places in grow_if c t more s (nat_le (length s.both.gate.grown + length more) most_grown)

-- after a miss: the run ends where it is strict or no place may be grown any more
abbrev pub full_or : CaseData → Reaches → ℕ → ℕ → Turn → Bool → Option Turn
full_or c reach t g s true = make c (Full t) s
full_or c reach t g s false = option_and_then (grow_reach c t (reach g)) (make c (Grow t g) s)

abbrev pub after_miss : CaseData → Reaches → ℕ → ℕ → Bool → Turn → Option Turn
after_miss c reach t g true s = Some s
after_miss c reach t g false s = full_or c reach t g s (length s.both.gate.grown == most_grown)

abbrev pub miss : CaseData → Reaches → ℕ → Point → Turn → Option Turn
miss c reach t p s = option_and_then (after_miss c reach t p.stand.cpu.rip c.strict) (make c (Miss t p.k p.stand.cpu.last p.stand.cpu.rip) s)

-- what a thread does at a point where a rule holds
abbrev pub act : CaseData → Reaches → ℕ → Point → Turn → Rule → Option Turn
act c reach t p s AtLimit = make c (Over t p.k) s
act c reach t p s AtMiss = miss c reach t p s
act c reach t p s AtMost = make c (Tick t p.k) s
act c reach t p s AtEvent = option_and_then (event c t p) (flush_some c t (flushed_before (want c.image p.stand.cpu) (length (list_at s.both.machine (slot_of t)))) s)
act c reach t p s GoesOn = None

-- ---- turns

-- the run has an ending, the thread doesn't live any more, or it came to a call that waits
abbrev pub is_over : ℕ → Turn → Bool
is_over t s = s.waiting || not (is_none s.both.machine.ending) || not (is_live s.both.machine t)

abbrev pub unless_over : (Turn → Option Turn) → Turn → Bool → Option Turn
unless_over on s true = Some s
unless_over on s false = on s

-- from a point on, with what is left of the budget
unfoldable pub turn_from : CaseData → Reaches → ℕ → ℕ → Point → Turn → Option Turn
turn_from c reach t zero p s = Some s
turn_from c reach t (suc n) p s =
    let q = stop_from c s.both (4096 - p.k) p in
    option_and_then (λ x. unless_over (λ y. turn_from c reach t n (point_of y.both t) y) x (is_over t x)) (act c reach t q s (rule_at c s.both q))

-- the oldest writes go to memory while they are too old
abbrev pub flush_if : CaseData → ℕ → (Turn → Option Turn) → Turn → Bool → Option Turn
flush_if c t on s true = option_and_then on (flush c t s)
flush_if c t on s false = Some s

unfoldable pub flush_old : CaseData → ℕ → ℕ → List ℕ → Turn → Option Turn
flush_old c t hold [] s = Some s
flush_old c t hold (a ∷ ages) s = flush_if c t (flush_old c t hold ages) s (nat_lt hold a)

-- each waiting write is one turn older
abbrev pub aged : Turn → Turn
aged s = record s { ages = map (λ a. a + 1) s.ages }

abbrev pub settled : CaseData → ℕ → ℕ → Turn → Option RunEnd → Option Turn
settled c t hold s None = flush_old c t hold (aged s).ages (aged s)
settled c t hold s (Some e) = Some s

abbrev pub settle : CaseData → ℕ → ℕ → Turn → Option Turn
settle c t hold s = settled c t hold s s.both.machine.ending

-- a turn from a point on
unfoldable pub turn : CaseData → Reaches → Rules → ℕ → Point → Turn → Option Turn
turn c reach r t p s = option_and_then (settle c t r.hold) (turn_from c reach t r.turn p s)

-- ---- rounds

-- a run under way: the machine and the gate, all entries so far, and for each slot the ages of its thread's waiting writes
pub record Run : Type 0 where
  pub both : Both
  pub journal : List Entry
  pub ages : List (List ℕ)

abbrev pub turn_in : Run → ℕ → Turn
turn_in run s = record { both = run.both; journal = run.journal; ages = slice_index_or run.ages s []; waiting = false }

abbrev pub run_after : Run → ℕ → Turn → Run
run_after run s x = record { both = x.both; journal = x.journal; ages = slice_set run.ages s x.ages }

abbrev pub turn_of : CaseData → Reaches → Rules → Run → ℕ → Option ℕ → Option Run
turn_of c reach r run s None = Some run
turn_of c reach r run s (Some t) = option_and_then (λ x. Some (run_after run s x)) (turn c reach r t (point_of run.both t) (turn_in run s))

abbrev pub turn_unless : CaseData → Reaches → Rules → Run → ℕ → Option RunEnd → Option Run
turn_unless c reach r run s None = turn_of c reach r run s (thread_in run.both.machine s)
turn_unless c reach r run s (Some e) = Some run

-- the turn of the thread that lives in a slot, if the run goes on and one does
unfoldable pub one_turn : CaseData → Reaches → Rules → Run → ℕ → Option Run
one_turn c reach r run s = turn_unless c reach r run s run.both.machine.ending

abbrev pub with_dead : Run → Option Both → Option Run
with_dead run None = None
with_dead run (Some n) = Some (record run { both = n; journal = run.journal ++ Dead ∷ [] })

-- `Dead` follows a round without an entry
abbrev pub dead_if : CaseData → Run → Bool → Option Run
dead_if c run true = with_dead run (advance c run.both Dead)
dead_if c run false = Some run

unfoldable pub round : CaseData → Reaches → Rules → Run → Option Run
round c reach r run = option_and_then (λ after. dead_if c after (length after.journal == length run.journal)) (walk (one_turn c reach r) run slots)

-- rounds up to an ending, at most n
abbrev pub rounds_on : (Run → Option Run) → Run → Option RunEnd → Option Run
rounds_on on run None = on run
rounds_on on run (Some e) = Some run

unfoldable pub rounds : CaseData → Reaches → Rules → ℕ → Run → Option Run
rounds c reach r zero run = Some run
rounds c reach r (suc n) run = rounds_on (λ x. option_and_then (rounds c reach r n) (round c reach r x)) run run.both.machine.ending

abbrev pub at_start : CaseData → Run
at_start c = record { both = begin c; journal = []; ages = replicate 64 [] }

abbrev pub serial_by : CaseData → Reaches → Rules → Option Run
serial_by c reach r = rounds c reach r (2 * c.limit + 65537) (at_start c)

-- the journal of the serial run
abbrev pub is_serial_by : Option Run → List Entry → Type 0
is_serial_by None journal = ⊥
is_serial_by (Some run) journal = journal ≡ run.journal

abbrev pub IsSerial : CaseData → Rules → List Entry → Type 0
IsSerial c r journal = (reach : Reaches) → AreReaches c.image reach → is_serial_by (serial_by c reach r) journal
