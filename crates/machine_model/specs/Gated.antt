-- Journals that run only what is grown: a walk over a journal with the set of grown places and each thread's position.
use Rattle.std.specs.Prelude.{◌≡◌, ℕ, zero, suc, ◌+◌, ◌≤◌, Bool, true, false, ◌&&◌, not, ◌==◌, ◌⊎◌, nat_lt, if◌then◌else◌, List, [], ◌∷◌, length, count_by, replicate, slice_index_or, slice_set, Option, Some, None, option_and_then, IsTrue, ⊤}
use Rattle.elf_image.specs.Layout.{ImageData}
use Rattle.x86_model.specs.declared.cpu.Cpu.{Cpu}
use Rattle.x86_model.specs.Want.{want}
use Rattle.journal_pack.specs.declared.entry.Entry.{Entry}
use Rattle.journal_pack.specs.declared.entry.Entry.TheVariants.{Ev, Tick, Flush, Wait, Miss, Grow, Over, Full, Dead}
use Rattle.machine_model.specs.CaseData.{CaseData}
use Rattle.machine_model.specs.State.{Machine, list_at, start, thread_at}
use Rattle.basic_blocks.specs.Places.{is_code_place}
use Rattle.journal_pack.specs.Entry.{private_of}
use Rattle.machine_model.specs.Step.{cpu_at, privately, slot_in, step}
use Rattle.address_space.specs.Slots.{slot_of}
use Rattle.basic_blocks.specs.Span.{span}
use Rattle.basic_blocks.specs.Reach.{is_among, IsReach}

-- how many places may be grown
abbrev pub most_grown : ℕ
most_grown = 65536

-- What a thread's entries were lately: its latest entry other than `Flush` and `Grow` is no miss; it is a miss of this
-- target; it is one, and all entries since are `Grow`.
pub data Latest : Type 0 where
  Other : Latest
  Missed : (target : ℕ) → Latest
  Growing : (target : ℕ) → Latest

-- a thread's position, which is the addresses that are left of its block, the one of its next step first, or none between
-- blocks; and what its entries were lately
pub record Spot : Type 0 where
  pub left : List ℕ
  pub latest : Latest

pub record Gate : Type 0 where
  pub grown : List ℕ
  pub spots : List Spot

-- a thread is born between blocks
abbrev pub no_spot : Spot
no_spot = record { left = []; latest = Other }

abbrev pub spot_at : Gate → ℕ → Spot
spot_at g t = slice_index_or g.spots t no_spot

-- ---- steps in blocks

-- what a thread works on, and the addresses that are left of its block
pub record Stand : Type 0 where
  pub cpu : Cpu
  pub left : List ℕ

abbrev pub is_between : List ℕ → Bool
is_between [] = true
is_between (x ∷ xs) = false

abbrev pub rest_of : List ℕ → List ℕ
rest_of [] = []
rest_of (x ∷ xs) = xs

-- a step at a code place: at the first address of a grown block, or at the next address of the one under way
abbrev pub within_block : ImageData → List ℕ → ℕ → List ℕ → Option (List ℕ)
within_block image grown rip [] = if is_among grown rip then Some (span image rip) else None
within_block image grown rip (x ∷ xs) = if x == rip then Some (x ∷ xs) else None

-- door and library steps are made between blocks
abbrev pub between_blocks : List ℕ → Option (List ℕ)
between_blocks [] = Some []
between_blocks (x ∷ xs) = None

-- where a step is made, or none where none may be
abbrev pub entered : ImageData → List ℕ → ℕ → List ℕ → Option (List ℕ)
entered image grown rip left = if is_code_place image rip then within_block image grown rip left else between_blocks left

-- an instruction that waits for its second step isn't finished; one that is finished leads to the next address
abbrev pub onward : Option ℕ → List ℕ → List ℕ
onward None left = rest_of left
onward (Some v) left = left

abbrev pub moved_on : Option Cpu → List ℕ → Option Stand
moved_on None left = None
moved_on (Some next) left = Some (record { cpu = next; left = onward next.mid left })

-- one private step
abbrev pub gated_step : ImageData → List ℕ → Stand → Option Stand
gated_step image grown s = option_and_then (moved_on (privately (want image s.cpu))) (entered image grown s.cpu.rip s.left)

unfoldable pub gated_steps : ImageData → List ℕ → ℕ → Stand → Option Stand
gated_steps image grown zero s = Some s
gated_steps image grown (suc k) s = option_and_then (gated_step image grown) (gated_steps image grown k s)

-- ---- entries

-- a flush comes between a miss and its growths
abbrev pub after_flush : Latest → Latest
after_flush Other = Other
after_flush (Missed target) = Missed target
after_flush (Growing target) = Missed target

-- a second miss needs a step in between
abbrev pub may_miss : Latest → ℕ → Bool
may_miss Other k = true
may_miss (Missed target) k = nat_lt 0 k
may_miss (Growing target) k = nat_lt 0 k

abbrev pub spot_with : List ℕ → Latest → Spot
spot_with left latest = record { left = left; latest = latest }

-- What an entry leaves of its thread's spot, or none where it may not come: s is where its private steps led, and after
-- what the thread works on after the whole entry. Nothing follows a fault, so its position doesn't matter.
abbrev pub spot_last : ImageData → List ℕ → Entry → Cpu → Spot → Stand → Option Spot
spot_last image grown (Ev t k) after spot s = option_and_then (λ left. Some (spot_with (onward after.mid left) Other)) (entered image grown s.cpu.rip s.left)
spot_last image grown (Tick t k) after spot s = Some (spot_with s.left Other)
spot_last image grown (Flush t) after spot s = Some (spot_with s.left (after_flush spot.latest))
spot_last image grown (Wait t k) after spot s = Some (spot_with s.left Other)
spot_last image grown (Miss t k source target) after spot s = if is_between s.left && not (is_among grown target) && may_miss spot.latest k then Some (spot_with [] (Growing target)) else None
spot_last image grown (Grow t a) after spot s = if not (is_among grown a) && nat_lt (length grown) most_grown then Some spot else None
spot_last image grown (Over t k) after spot s = Some (spot_with s.left Other)
spot_last image grown (Full t) after spot s = if length grown == most_grown && is_between s.left && not (is_among grown s.cpu.rip) then Some (spot_with [] Other) else None
spot_last image grown Dead after spot s = Some spot

abbrev pub spot_after : ImageData → List ℕ → Entry → Cpu → Cpu → Spot → Option Spot
spot_after image grown e before after spot = option_and_then (spot_last image grown e after spot) (gated_steps image grown (private_of e) (record { cpu = before; left = spot.left }))

abbrev pub grown_by : Entry → List ℕ → List ℕ
grown_by (Ev t k) grown = grown
grown_by (Tick t k) grown = grown
grown_by (Flush t) grown = grown
grown_by (Wait t k) grown = grown
grown_by (Miss t k source target) grown = grown
grown_by (Grow t a) grown = a ∷ grown
grown_by (Over t k) grown = grown
grown_by (Full t) grown = grown
grown_by Dead grown = grown

abbrev pub gate_with : Entry → Gate → Spot → Gate
gate_with e g spot = record { grown = grown_by e g.grown; spots = slice_set g.spots (slot_in e) spot }

-- the gate after an entry, by what its thread works on before and after it
unfoldable pub pass : ImageData → Entry → Cpu → Cpu → Gate → Option Gate
pass image e before after g = option_and_then (λ spot. Some (gate_with e g spot)) (spot_after image g.grown e before after (spot_at g (slot_in e)))

-- ---- growth

-- a is in the reach of g, and that reach and the grown places together aren't too many
pub record IsWithinReach (image : ImageData) (grown : List ℕ) (g a : ℕ) : Type 0 where
  pub places : List ℕ
  pub reach : IsReach image (g ∷ []) places
  pub member : IsTrue (is_among places a)
  pub fits : length grown + count_by (λ p. not (is_among grown p)) places ≤ most_grown

-- Grown is the target of the thread's latest miss, with nothing but growth since, or, once that is grown, its reach.
abbrev pub IsGrowth : ImageData → List ℕ → ℕ → Latest → Type 0
IsGrowth image grown a Other = ⊥
IsGrowth image grown a (Missed g) = ⊥
IsGrowth image grown a (Growing g) = (a ≡ g) ⊎ (IsTrue (is_among grown g) × IsWithinReach image grown g a)

-- the rule of growth for an entry; the others have none
abbrev pub IsAllowed : ImageData → Gate → Entry → Type 0
IsAllowed image g (Ev t k) = ⊤
IsAllowed image g (Tick t k) = ⊤
IsAllowed image g (Flush t) = ⊤
IsAllowed image g (Wait t k) = ⊤
IsAllowed image g (Miss t k source target) = ⊤
IsAllowed image g (Grow t a) = IsGrowth image g.grown a (spot_at g (slot_of t)).latest
IsAllowed image g (Over t k) = ⊤
IsAllowed image g (Full t) = ⊤
IsAllowed image g Dead = ⊤

-- ---- whole journals

-- the machine and the gate side by side
pub record Both : Type 0 where
  pub machine : Machine
  pub gate : Gate

abbrev pub with_gate : Machine → Gate → Both
with_gate m g = record { machine = m; gate = g }

abbrev pub with_machine : CaseData → Both → Entry → Machine → Option Both
with_machine c b e m = option_and_then (λ g. Some (with_gate m g)) (pass c.image e (cpu_at b.machine (slot_in e)) (cpu_at m (slot_in e)) b.gate)

-- an entry that is a step and may come
unfoldable pub advance : CaseData → Both → Entry → Option Both
advance c b e = option_and_then (with_machine c b e) (step c b.machine e)

abbrev pub first_gate : CaseData → Gate
first_gate c = record { grown = c.first; spots = replicate 64 no_spot }

unfoldable pub begin : CaseData → Both
begin c = with_gate (start c) (first_gate c)

-- the walk leads from b along the entries to n, and each growth is allowed
unfoldable pub Leads : CaseData → Both → List Entry → Both → Type 0
Leads c b [] n = b ≡ n
Leads c b (e ∷ es) n = (x : Both) × (advance c b e ≡ Some x) × IsAllowed c.image b.gate e × Leads c x es n

-- a played journal that runs only what is grown
abbrev pub IsGated : CaseData → List Entry → Type 0
IsGated c journal = (n : Both) × Leads c (begin c) journal n

-- ---- one thread in a walk

-- every grown place stays grown
abbrev pub Within : List ℕ → List ℕ → Type 0
Within old new = (a : ℕ) → is_among old a ≡ true → is_among new a ≡ true

-- where a thread stands
abbrev pub stand_at : Both → ℕ → Stand
stand_at b t = record { cpu = cpu_at b.machine t; left = (spot_at b.gate t).left }

-- nothing of a thread changed, and places were grown at most
pub record Untouched (old new : Both) (t : ℕ) : Type 0 where
  pub thread : thread_at new.machine t ≡ thread_at old.machine t
  pub writes : list_at new.machine t ≡ list_at old.machine t
  pub spot : spot_at new.gate t ≡ spot_at old.gate t
  pub grown : Within old.gate.grown new.gate.grown
