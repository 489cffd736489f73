-- The shared state as its readers see it: the case, the journal, the grown blocks, the marks, and room for entries. All
-- else follows from the journal by the plain machine.
use Rattle.std.specs.Prelude.{◌≡◌, ℕ, ◌-◌, ◌≤◌, ◌^◌, Bool, true, not, ◌&&◌, ◌||◌, ◌==◌, if◌then◌else◌, List, [], ◌∷◌, ◌++◌, length, map, slice_index_or, slice_set, Option, Some, None, is_some, Result, Ok, Err, IsSome, refl}
use Rattle.std.specs.List.{list_all}
use Rattle.std.specs.FinMap as map
use Rattle.std.specs.FinMap.{FinMap}
use Rattle.std.specs.Ordering.{nat_cmp}
use Rattle.std.specs.Coded.{Coded, code_by, coded×, coded_list, coded_option, coded_ℕ}
use Rattle.std.specs.declared.alloc.Global.{Global}
use Rattle.std.specs.declared.sync.Arc.{Arc}
use Rattle.address_space.specs.Slots.{slot_of}
use Rattle.elf_image.specs.Layout.{ImageData}
use Rattle.lib_table.specs.declared.ask.Ask.{Ask}
use Rattle.lib_table.specs.contracts.ask.Ask as ask_row
use Rattle.basic_blocks.specs.Reach.{is_among}
use Rattle.journal_pack.specs.declared.entry.Entry.{Entry}
use Rattle.journal_pack.specs.contracts.entry.Entry as entry_row
use Rattle.x86_model.specs.declared.cpu.Cpu.{Cpu}
use Rattle.x86_model.specs.Want.{want}
use Rattle.machine_model.specs.contracts.case.Case as case_row
use Rattle.machine_model.specs.CaseData.{CaseData}
use Rattle.machine_model.specs.State.{Machine, core_at, is_live, slots}
use Rattle.machine_model.specs.Step.{after_private, core_with, cpu_at, is_deadlocked, is_in_use, slot_in}
use Rattle.machine_model.specs.Gated.{Both, Leads, begin}
use Rattle.machine_model.specs.Comes.{MayCome, both_of}
use Rattle.hall_core.specs.declared.hall.HallGrow.{HallGrow}
use Rattle.hall_core.specs.declared.hall.HallGrow.TheVariants.{Grown, Memory}
use Rattle.hall_core.specs.Shared.{Need, Asks, SharedState, need_of, shared_of}

-- a mark is the request at which a slot's thread waits
pub record HallData (B : Type 0) : Type 0 where
  pub case : CaseData
  pub journal : List Entry
  pub blocks : FinMap nat_cmp B
  pub marks : List (Option Ask)
  pub spare : ℕ

abbrev pub hall_code : {B : Type 0} → Coded B → Coded (HallData B)
hall_code {B} b =
    code_by (CaseData × (List Entry × (FinMap nat_cmp B × (List (Option Ask) × ℕ))))
    (coded× case_row.the_row.coded (coded× (coded_list entry_row.the_row.coded) (coded× (map.code coded_ℕ b) (coded× (coded_list (coded_option ask_row.the_row.coded)) coded_ℕ))))
    (λ h. (h.case, (h.journal, (h.blocks, (h.marks, h.spare)))))
    (λ p. record { case = p.0; journal = p.1.0; blocks = p.1.1.0; marks = p.1.1.1.0; spare = p.1.1.1.1 }) (λ _. refl)

-- ---- what follows from the journal

-- the plain machine and the gate after the journal
abbrev pub both : {B : Type 0} → HallData B → Both
both h = both_of h.case h.journal

abbrev pub machine : {B : Type 0} → HallData B → Machine
machine h = (both h).machine

-- the places that are grown
abbrev pub grown : {B : Type 0} → HallData B → List ℕ
grown h = (both h).gate.grown

-- ---- changes

abbrev pub mark_in : List (Option Ask) → ℕ → Option Ask
mark_in marks s = slice_index_or marks s None

-- the request at which the thread of a slot waits
abbrev pub mark_at : {B : Type 0} → HallData B → ℕ → Option Ask
mark_at h s = mark_in h.marks s

abbrev pub with_mark : {B : Type 0} → HallData B → ℕ → Option Ask → HallData B
with_mark h s mark = record h { marks = slice_set h.marks s mark }

-- one entry more, whose thread isn't marked any more
abbrev pub added : {B : Type 0} → HallData B → Entry → HallData B
added h e = record (with_mark h (slot_in e) None) { journal = h.journal ++ e ∷ []; spare = h.spare - 1 }

abbrev pub with_block : {B : Type 0} → HallData B → ℕ → B → HallData B
with_block h a b = record h { blocks = map.insert h.blocks a b }

-- ---- what the type keeps

-- the thread of a slot lives, and its next step asks this of the library
pub record StandsAt (image : ImageData) (m : Machine) (s : ℕ) (ask : Ask) : Type 0 where
  pub live : is_in_use m.library s ≡ true
  pub asks : need_of (core_at m s) (want image (cpu_at m s)) ≡ Asks ask

-- a block for each grown place and for no other
pub record AreGrown {B : Type 0} (places : List ℕ) (blocks : FinMap nat_cmp B) : Type 0 where
  pub each : (a : ℕ) → is_some (map.get blocks a) ≡ is_among places a
  pub count : map.len blocks ≡ length places

-- The journal is played and gated, what is shared is what the machine has after it, each grown block is right at its place,
-- and a marked thread stands at the request of its mark.
pub record IsHall {B : Type 0} (fits : ImageData → ℕ → B → Type 0) (h : HallData B) (s : SharedState) : Type 0 where
  pub leads : Leads h.case (begin h.case) h.journal (both h)
  pub shared : shared_of (machine h) ≡ s
  pub grown : AreGrown (grown h) h.blocks
  pub right : (a : ℕ) (b : B) → map.get h.blocks a ≡ Some b → fits h.case.image a b
  pub marks : (s : ℕ) (ask : Ask) → mark_at h s ≡ Some ask → StandsAt h.case.image (machine h) s ask
  pub marked : length h.marks ≡ 64
  pub limit : h.case.limit ≤ 2 ^ 27

-- ---- conditions of calls

-- thread t lives, its next k steps are private, and the one after them needs this
pub record Needs {B : Type 0} (h : HallData B) (t k : ℕ) (need : Need) : Type 0 where
  pub live : is_live (machine h) t ≡ true
  pub cpu : Cpu
  pub there : after_private h.case.image k (cpu_at (machine h) (slot_of t)) ≡ Some cpu
  pub wants : need_of (core_with (machine h) t cpu) (want h.case.image cpu) ≡ need

-- and it is at this address after the private steps
pub record NeedsAt {B : Type 0} (h : HallData B) (t k rip : ℕ) (need : Need) : Type 0 where
  pub needs : Needs h t k need
  pub at : needs.cpu.rip ≡ rip

-- the entry may come after the journal
abbrev pub Comes : {B : Type 0} → HallData B → Entry → Type 0
Comes h e = MayCome h.case h.journal e

-- ---- answers

-- each live thread is marked, and none can go on
abbrev pub is_dead : {B : Type 0} → HallData B → Bool
is_dead h = list_all (λ s. not (is_in_use (machine h).library s) || is_some (mark_at h s)) slots && is_deadlocked h.case.image (machine h)

-- what growing a place answers, where this block (if any) is grown there: the block handed in comes back exactly where one
-- is; want of memory is free
abbrev pub GrowOutcome : {B : Type 0} → Option B → Arc B Global → Result (Unit {0}) (HallGrow B) → Type 0
GrowOutcome there b (Ok u) = there ≡ None
GrowOutcome there b (Err (Grown back)) = IsSome there × (back ≡ b)
GrowOutcome there b (Err (Memory e)) = there ≡ None

-- ---- the first blocks

abbrev pub Placed : Type 0 → Type 0
Placed B = ℕ × Arc B Global

abbrev pub places_of : {B : Type 0} → List (Placed B) → List ℕ
places_of blocks = map (λ p. p.0) blocks

-- the block with this place
abbrev pub block_in : {B : Type 0} → List (Placed B) → ℕ → Option B
block_in [] a = None
block_in (p ∷ ps) a = if p.0 == a then Some p.1.value else block_in ps a

-- these blocks are grown, and no other
pub record AreFilled {B : Type 0} (placed : List (Placed B)) (blocks : FinMap nat_cmp B) : Type 0 where
  pub each : (a : ℕ) → map.get blocks a ≡ block_in placed a
  pub count : map.len blocks ≡ length placed

-- each block is right at its place
abbrev pub FitTheirPlaces : {B : Type 0} → (ImageData → ℕ → B → Type 0) → ImageData → List (Placed B) → Type 0
FitTheirPlaces fits image placed = (a : ℕ) (b : _) → block_in placed a ≡ Some b → fits image a b
