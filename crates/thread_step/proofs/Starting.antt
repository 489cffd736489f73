-- A guest before its thread's first entry.
use Rattle.std.proofs.Common.{◌≡◌, ℕ, zero, suc, ◌-◌, ◌<◌, ◌^◌, List, [], ◌∷◌, ◌++◌, inl, length, replicate, Option, Some, None, slice_index_or, slice_set, refl, sym, subst, ap, arith, ◌∙◌}
use Rattle.std.specs.Prelude.{slice_index}
use Rattle.std.proofs.lemmas.List.{length-set}
use Rattle.std.proofs.lemmas.Option.{none-some}
use Rattle.address_space.specs.Slots.{slot_of}
use Rattle.guest_map.specs.Entry.{entry_rsp}
use Rattle.guest_state.specs.Virtual as virtual
use Rattle.guest_state.specs.declared.virtual_state.Virtual.{Virtual}
use Rattle.ir_syntax.specs.declared.block.Block.{Block}
use Rattle.lib_table.specs.Library as library
use Rattle.lib_table.specs.Library.{birth, live_number, new_slot, number_at, slot_at}
use Rattle.lib_table.specs.declared.slot.Birth.{Birth}
use Rattle.lib_table.specs.declared.slot.Slot.{Slot}
use Rattle.lift_table.specs.Follow.{Agrees}
use Rattle.lift_table.proofs.LiftNumbers.{set_below}
use Rattle.x86_model.specs.Thread as thread
use Rattle.x86_model.specs.declared.cpu.Cpu.{Cpu}
use Rattle.machine_model.specs.CaseData.{CaseData}
use Rattle.machine_model.specs.Comes.{both_of, walk_on}
use Rattle.machine_model.specs.Gated.{Both, Leads, Spot, Stand, begin, gated_steps, no_spot, spot_at, stand_at}
use Rattle.machine_model.specs.State.{Core, core_at, list_at, start, thread_in}
use Rattle.machine_model.proofs.NamesRounds.{thread_at_slot}
use Rattle.machine_model.proofs.Own.{whole_from}
use Rattle.address_space.specs.Addresses.{top}
use Rattle.elf_image.specs.Layout.{ImageData}
use Rattle.hall_core.specs.Hall.{HallData, both, machine}
use Rattle.guest_steps.specs.declared.own.Own.{Own}
use Rattle.guest_steps.specs.declared.own.Position.TheVariants.{Between}
use Rattle.guest_steps.specs.Ages.{AreAges}
use Rattle.guest_steps.specs.Kept.{AreKept, KeptData, Table}
use Rattle.thread_step.specs.Guest.{IsNewborn, starting_core}
use Rattle.guest_steps.specs.Own.{IsUnder, position_of}
use Rattle.thread_step.specs.Turned.{Ready}
use Rattle.guest_parts.specs.Standing.{StandsBetween, StandsIn}

-- ---- an empty table

none_item : (items : List (Option KeptData)) (i : ℕ) (x : KeptData) → slice_index_or (items ++ None ∷ []) i None ≡ Some x → slice_index_or items i None ≡ Some x
none_item [] zero x e = e
none_item [] (suc i) x e = e
none_item (y ∷ ys) zero x e = e
none_item (y ∷ ys) (suc i) x e = none_item ys i x e

pub none_more : (image : ImageData) (grown : List ℕ) (items : List (Option KeptData)) → AreKept image grown items → AreKept image grown (items ++ None ∷ [])
none_more image grown items h = λ i x e. h i x (none_item items i x e)

pub none_kept : (image : ImageData) (grown : List ℕ) → AreKept image grown []
none_kept image grown = λ i x e. absurd (none-some x e)

-- ---- the first registers

same_all : {A : Type 0} (n k : ℕ) (x : A) → slice_index_or (replicate n x) k x ≡ x
same_all zero k x = refl
same_all (suc n) zero x = refl
same_all (suc n) (suc k) x = same_all n k x

all_low : (k : ℕ) → slice_index (replicate 16 0) k < 2 ^ 64
all_low k = let e : slice_index (replicate 16 0) k ≡ 0 = same_all 16 k 0 in omega (arith, e)

agrees_with : (v : Virtual) (regs : List ℕ) (cpu : Cpu) → v ≡ virtual.start → cpu ≡ record thread.start { regs = regs; rip = cpu.rip } → length regs ≡ 16 → ((k : ℕ) → slice_index regs k < 2 ^ 64) → Agrees None (record v { regs = regs }) cpu
unfolding virtual.start thread.start
agrees_with v regs cpu e f count each =
    subst (λ (z : Virtual). Agrees None (record z { regs = regs }) cpu) (sym e) (subst (λ (z : Cpu). Agrees None (record virtual.start { regs = regs }) z) (sym f) (record {
      regs = refl;
      flags = refl;
      mid = refl;
      count = count;
      each = each;
      temps = refl;
    }))

pub first_agrees : (v : Virtual) (c : CaseData) (slot rsp : ℕ) (b : Option Birth) → v ≡ virtual.start → b ≡ None → rsp ≡ entry_rsp c.args → rsp < 2 ^ 64 → Agrees None (record v { regs = slice_set v.regs 4 rsp }) (starting_core c slot b).cpu
unfolding virtual.start thread.start
first_agrees v c slot rsp b e none is low =
    let regs : List ℕ = slice_set (replicate 16 0) 4 rsp in
    let there : slice_set v.regs 4 rsp ≡ regs = ap (λ (z : Virtual). slice_set z.regs 4 rsp) e in
    let core : (starting_core c slot b).cpu ≡ record thread.start { regs = regs; rip = c.image.entry } = ap (λ z. (starting_core c slot z).cpu) none ∙ ap (λ z. record thread.start { regs = slice_set (replicate 16 0) 4 z; rip = c.image.entry }) (sym is) in
    subst (λ z. Agrees None (record v { regs = z }) (starting_core c slot b).cpu) (sym there)
    (subst (λ z. Agrees None (record v { regs = regs }) z) (sym core)
    (agrees_with v regs (record thread.start { regs = regs; rip = c.image.entry }) e refl (length-set (replicate 16 0) 4 rsp) (set_below (replicate 16 0) 4 rsp (2 ^ 64) low all_low)))

born_with : (v : Virtual) (c : CaseData) (slot rsp : ℕ) (o : Option Birth) (b : Birth) → v ≡ virtual.start → o ≡ Some b → rsp ≡ top slot - 8 → rsp < 2 ^ 64 → b.argument < 2 ^ 64 → Agrees None (record v { regs = slice_set (slice_set v.regs 7 b.argument) 4 rsp }) (starting_core c slot o).cpu
unfolding virtual.start thread.start
born_with v c slot rsp o b e some is low small =
    let one : List ℕ = slice_set (replicate 16 0) 7 b.argument in
    let regs : List ℕ = slice_set one 4 rsp in
    let there : slice_set (slice_set v.regs 7 b.argument) 4 rsp ≡ regs = ap (λ (z : Virtual). slice_set (slice_set z.regs 7 b.argument) 4 rsp) e in
    let core : (starting_core c slot o).cpu ≡ record thread.start { regs = regs; rip = b.start } = ap (λ z. (starting_core c slot z).cpu) some ∙ ap (λ z. record thread.start { regs = slice_set one 4 z; rip = b.start }) (sym is) in
    subst (λ z. Agrees None (record v { regs = z }) (starting_core c slot o).cpu) (sym there)
    (subst (λ z. Agrees None (record v { regs = regs }) z) (sym core)
    (agrees_with v regs (record thread.start { regs = regs; rip = b.start }) e refl (length-set one 4 rsp ∙ length-set (replicate 16 0) 7 b.argument) (set_below one 4 rsp (2 ^ 64) low (set_below (replicate 16 0) 7 b.argument (2 ^ 64) small all_low))))

pub born_agrees : (v : Virtual) (c : CaseData) (slot rsp argument : ℕ) (o : Option Birth) (b : Birth) → v ≡ virtual.start → o ≡ Some b → rsp ≡ top slot - 8 → rsp < 2 ^ 64 → argument ≡ b.argument → argument < 2 ^ 64 → Agrees None (record v { regs = slice_set (slice_set v.regs 7 argument) 4 rsp }) (starting_core c slot o).cpu
born_agrees v c slot rsp argument o b e some is low same small = subst (λ z. Agrees None (record v { regs = slice_set (slice_set v.regs 7 z) 4 rsp }) (starting_core c slot o).cpu) (sym same) (born_with v c slot rsp o b e some is low (omega (arith, same, small)))

-- ---- the guest of a new thread

starts_last : (c : CaseData) (slot : ℕ) (b : Option Birth) → (starting_core c slot b).cpu.last ≡ 0
unfolding thread.start
starts_last c slot None = refl
starts_last c slot (Some b) = refl

starts_frames : (c : CaseData) (slot : ℕ) (b : Option Birth) → (starting_core c slot b).frames ≡ []
starts_frames c slot None = refl
starts_frames c slot (Some b) = refl

pub ready_new : (h : HallData Block) (slot t place : ℕ) (own : Own) (table : Table) → slot < 64 → IsNewborn h slot → Leads h.case (begin h.case) h.journal (both h) → (machine h).ending ≡ None → thread_in (machine h) slot ≡ Some t → Agrees None own.state (starting_core h.case slot (birth (machine h).library slot)).cpu → place ≡ (starting_core h.case slot (birth (machine h).library slot)).cpu.rip → own.at ≡ Between place → own.last ≡ 0 → own.frames.items ≡ [] → own.k ≡ 0 → own.ages ≡ [] → AreKept h.case.image (both h).gate.grown table → Ready h t own table (stand_at (both h) (slot_of t))
unfolding gated_steps
ready_new h slot t place own table low new leads going lives agrees at is last frames k ages kept =
    let b = birth (machine h).library slot in
    let there = thread_at_slot (machine h) slot t low lives in
    let core : core_at (machine h) (slot_of t) ≡ starting_core h.case slot b = ap (core_at (machine h)) there.0 ∙ new.core in
    let spot : spot_at (both h).gate (slot_of t) ≡ no_spot = ap (spot_at (both h).gate) there.0 ∙ new.spot in
    let writes : list_at (machine h) (slot_of t) ≡ [] = ap (list_at (machine h)) there.0 ∙ new.writes in
    let d : Stand = stand_at (both h) (slot_of t) in
    let between : StandsBetween place own.last own.state d = record {
      left = ap (λ (s : Spot). s.left) spot;
      agrees = (at ∙ ap (λ (z : Core). z.cpu.rip) (sym core), subst (λ (z : Core). Agrees None own.state z.cpu) (sym core) agrees);
      finished = ap (λ (z : Core). z.cpu.last) core ∙ starts_last h.case slot b ∙ sym last;
    } in
    record {
      along = record {
        going = record { whole = whole_from h.case (both h) h.journal leads; going = going; live = there.1 };
        with = record {
          ahead = ap (λ n. gated_steps h.case.image (both h).gate.grown n d) k;
          few = omega (arith, k);
          stands = subst (λ p. StandsIn h.case.image (both h).gate.grown (position_of p) own.last own.state d) (sym is) between;
          frames = ap (λ (z : Core). z.frames) core ∙ starts_frames h.case slot b ∙ sym frames;
          ages = ap length ages ∙ sym (ap length writes);
        };
        under = subst (IsUnder h.case.image) (sym is) tt;
        kept = kept;
      };
      grown = inl (ap (λ (s : Spot). s.latest) spot);
      fresh = subst (AreAges 255) (sym ages) tt;
    }

-- ---- before a run's first entry

no_journal : (c : CaseData) → both_of c [] ≡ begin c
unfolding both_of walk_on
no_journal c = refl

slot_life : (input : List ℕ) (n : ℕ) → slot_at (library.start_of input) (suc n) ≡ new_slot
slot_life input n = same_all 63 n new_slot

first_slot : (c : CaseData) (slot t : ℕ) → thread_in (start c) slot ≡ Some t → slot ≡ 0
unfolding start
first_slot c zero t e = refl
first_slot c (suc n) t e = absurd (none-some t (sym (ap (λ (s : Slot). live_number (number_at (library.start_of c.input) (suc n)) s.life) (slot_life c.input n)) ∙ e))

newborn_zero : (c : CaseData) → (core_at (begin c).machine 0 ≡ starting_core c 0 (birth (begin c).machine.library 0)) × (list_at (begin c).machine 0 ≡ []) × (spot_at (begin c).gate 0 ≡ no_spot)
unfolding begin start
newborn_zero c = (refl, refl, refl)

alive_first : (c : CaseData) (slot t : ℕ) → thread_in (begin c).machine slot ≡ Some t → slot ≡ 0
unfolding begin
alive_first c slot t e = first_slot c slot t e

pub newborn_first : (h : HallData Block) (slot t : ℕ) → h.journal ≡ [] → thread_in (machine h) slot ≡ Some t → IsNewborn h slot
newborn_first h slot t none lives =
    let is : both h ≡ begin h.case = ap (both_of h.case) none ∙ no_journal h.case in
    let zero_is : slot ≡ 0 = alive_first h.case slot t (subst (λ (b : Both). thread_in b.machine slot ≡ Some t) is lives) in
    let z = newborn_zero h.case in
    subst (IsNewborn h) (sym zero_is) (record {
      core = subst (λ (b : Both). core_at b.machine 0 ≡ starting_core h.case 0 (birth b.machine.library 0)) (sym is) z.0;
      writes = subst (λ (b : Both). list_at b.machine 0 ≡ []) (sym is) z.1;
      spot = subst (λ (b : Both). spot_at b.gate 0 ≡ no_spot) (sym is) z.2;
    })
