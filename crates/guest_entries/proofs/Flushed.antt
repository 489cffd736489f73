-- Writes of a thread that went to memory, one after the other.
use Rattle.std.proofs.Common.{◌≡◌, ℕ, zero, suc, ◌+◌, ◌-◌, ◌<◌, ◌≤◌, Bool, true, false, if◌then◌else◌, nat_le, List, [], ◌∷◌, ◌++◌, length, Some, None, refl, sym, ap, ◌∙◌, subst, arith}
use Rattle.std.specs.Prelude.{option_and_then}
use Rattle.std.proofs.lemmas.Bool.Decides.{nat_tests}
use Rattle.std.proofs.lemmas.List.{get_or-set_other}
use Rattle.std.proofs.lemmas.Option.{option_and_then_some, same_Some}
use Rattle.address_space.specs.Slots.{slot_of}
use Rattle.ir_syntax.specs.declared.block.Block.{Block}
use Rattle.journal_pack.specs.declared.entry.Entry.TheVariants.{Flush}
use Rattle.machine_model.specs.CaseData.{CaseData}
use Rattle.machine_model.specs.Gated.{Both, Stand, rest_of}
use Rattle.machine_model.specs.Own.{writes_at}
use Rattle.machine_model.specs.Serial.{Turn, flush, flush_some}
use Rattle.hall_core.specs.Hall.{Comes, HallData, added, both}
use Rattle.hall_core.proofs.Moved.{both_added}
use Rattle.guest_parts.specs.Guest.{GuestData, IsGoing, IsWith, LeavesFlushed}
use Rattle.guest_parts.specs.Points.{turn_of}
use Rattle.guest_parts.proofs.Turns.{made}
use Rattle.guest_entries.specs.Entered.{FlushedBy, FlushedSome, turn_in}

-- ---- what is said of each guest of a thread

-- a guest stands with its thread
abbrev pub Stands : HallData Block → ℕ → List ℕ → Type 0
Stands h t ages = (g : GuestData) × (d : Stand) × IsGoing (both h) t × IsWith h.case (both h) t g d × (g.ages ≡ ages)

-- whatever guest stands with the thread: one write went to memory
abbrev pub OneBy : HallData Block → HallData Block → ℕ → List ℕ → List ℕ → Type 0
OneBy h n t ages rest = (g : GuestData) (d : Stand) → IsGoing (both h) t → IsWith h.case (both h) t g d → g.ages ≡ ages → FlushedBy h n t g rest d

-- all but those that wait now did
abbrev pub SomeBy : HallData Block → HallData Block → ℕ → List ℕ → List ℕ → Type 0
SomeBy h n t old ages = (g : GuestData) (d : Stand) → IsGoing (both h) t → IsWith h.case (both h) t g d → g.ages ≡ old → FlushedSome h n t (length old - length ages) g ages d

-- ---- one write

pub flush_comes : (h : HallData Block) (t : ℕ) (g : GuestData) (d : Stand) → LeavesFlushed h.case (both h) t g d → Comes h (Flush t)
flush_comes h t g d l = record { next = l.next; step = l.comes; allowed = tt }

flushed_added : (h : HallData Block) (t : ℕ) (g : GuestData) (d : Stand) → LeavesFlushed h.case (both h) t g d → FlushedBy h (added h (Flush t)) t g (rest_of g.ages) d
unfolding flush_comes
flushed_added h t g d l =
    let at : both (added h (Flush t)) ≡ l.next = both_added h (Flush t) (flush_comes h t g d l) in
    record {
      case = refl;
      going = subst (λ (b : Both). IsGoing b t) (sym at) l.going;
      with = subst (λ (b : Both). IsWith h.case b t (record g { ages = rest_of g.ages }) d) (sym at) l.with;
      grown = ap (λ (b : Both). b.gate.grown) at ∙ l.grown;
      steps = ap (λ (b : Both). b.machine.steps) at ∙ l.steps;
      is_flush = made h.case (Flush t) (both h) l.next h.journal (rest_of g.ages) l.comes ∙ ap (λ (b : Both). Some (turn_of b (h.journal ++ Flush t ∷ []) (rest_of g.ages))) (sym at);
      marks = λ s ne. get_or-set_other h.marks (slot_of t) s None None ne;
    }

pub flushed_by : (h n : HallData Block) (t : ℕ) (g : GuestData) (ages : List ℕ) (d : Stand) → n ≡ added h (Flush t) → ages ≡ rest_of g.ages → LeavesFlushed h.case (both h) t g d → FlushedBy h n t g ages d
flushed_by h n t g ages d same rest l = subst (λ (x : HallData Block). FlushedBy h x t g ages d) (sym same) (subst (λ (more : List ℕ). FlushedBy h (added h (Flush t)) t g more d) (sym rest) (flushed_added h t g d l))

-- ---- several

flush_after : (c : CaseData) (t k : ℕ) (s y x : Turn) → flush_some c t k s ≡ Some y → flush c t y ≡ Some x → flush_some c t (suc k) s ≡ Some x
unfolding flush_some
flush_after c t zero s y x p q =
    let same : s ≡ y = same_Some s y p in
    ap (option_and_then (λ z. Some z)) (subst (λ z. flush c t z ≡ Some x) (sym same) q)
flush_after c t (suc k) s y x p q =
    option_and_then_some (flush_some c t k) (flush c t s) y p (λ z one more.
    ap (option_and_then (flush_some c t (suc k))) one ∙ flush_after c t k z y x more q)

with_ages : (c : CaseData) (b : Both) (t : ℕ) (g : GuestData) (d : Stand) (ages : List ℕ) → IsWith c b t g d → length ages ≡ length (writes_at b t) → IsWith c b t (record g { ages = ages }) d
with_ages c b t g d ages w e = record { ahead = w.ahead; few = w.few; stands = w.stands; frames = w.frames; ages = e }

pub none_flushed : (h : HallData Block) (t : ℕ) (g : GuestData) (ages : List ℕ) (d : Stand) → IsGoing (both h) t → IsWith h.case (both h) t g d → g.ages ≡ ages → FlushedSome h h t 0 g ages d
unfolding flush_some
none_flushed h t g ages d going w same = record {
  case = refl;
  going = going;
  with = with_ages h.case (both h) t g d ages w (ap length (sym same) ∙ w.ages);
  grown = refl;
  steps = refl;
  are_flushes = ap (λ x. Some (turn_in h x)) same;
  marks = λ s ne. refl;
}

one_more : (h n m : HallData Block) (t k : ℕ) (g : GuestData) (ages rest : List ℕ) (d : Stand) → FlushedSome h n t k g ages d → FlushedBy n m t (record g { ages = ages }) rest d → FlushedSome h m t (suc k) g rest d
one_more h n m t k g ages rest d s f = record {
  case = f.case ∙ s.case;
  going = f.going;
  with = subst (λ (c : CaseData). IsWith c (both m) t (record g { ages = rest }) d) s.case f.with;
  grown = f.grown ∙ s.grown;
  steps = f.steps ∙ s.steps;
  are_flushes = flush_after h.case t k (turn_in h g.ages) (turn_in n ages) (turn_in m rest) s.are_flushes (subst (λ (c : CaseData). flush c t (turn_in n ages) ≡ Some (turn_in m rest)) s.case f.is_flush);
  marks = λ u ne. f.marks u ne ∙ s.marks u ne;
}

-- ---- from the start of a loop on

pub starts : (h : HallData Block) (t : ℕ) (ages : List ℕ) → SomeBy h h t ages ages
starts h t ages = λ g d going w same. let none : 0 ≡ length ages - length ages = omega arith in subst (λ k. FlushedSome h h t k g ages d) none (none_flushed h t g ages d going w same)

-- where a guest stood with the thread before, one does now
pub stands_on : (h n : HallData Block) (t : ℕ) (old ages : List ℕ) → SomeBy h n t old ages → Stands h t old → Stands n t ages
stands_on h n t old ages f s =
    let x = f s.0 s.1 s.2 s.3 s.4 in
    (record s.0 { ages = ages }, s.1, x.going, subst (λ (c : CaseData). IsWith c (both n) t (record s.0 { ages = ages }) s.1) (sym x.case) x.with, refl)

-- as many writes wait as have an age
pub some_wait : (h : HallData Block) (t : ℕ) (ages : List ℕ) → Stands h t ages → 0 < length ages → 0 < length (writes_at (both h) t)
some_wait h t ages s lt =
    let n : length ages ≡ length (writes_at (both h) t) = ap length (sym s.4) ∙ s.3.ages in
    omega (arith, n, lt)

pub flushes_on : (h n m : HallData Block) (t : ℕ) (old ages rest : List ℕ) → length rest + 1 ≡ length ages → length ages ≤ length old → SomeBy h n t old ages → OneBy n m t ages rest → SomeBy h m t old rest
flushes_on h n m t old ages rest fewer le f one = λ g d going w same.
    let x = f g d going w same in
    let y = one (record g { ages = ages }) d x.going (subst (λ (c : CaseData). IsWith c (both n) t (record g { ages = ages }) d) (sym x.case) x.with) refl in
    let k : suc (length old - length ages) ≡ length old - length rest = omega (arith, fewer, le) in
    subst (λ j. FlushedSome h m t j g rest d) k (one_more h n m t (length old - length ages) g ages rest d x y)

pub rest_count : (ages : List ℕ) → 0 < length ages → length (rest_of ages) + 1 ≡ length ages
rest_count [] lt = absurd (omega (arith, lt))
rest_count (a ∷ ages) lt = omega arith

-- ---- where 64 writes wait

one_flushed : (h n : HallData Block) (t : ℕ) (g : GuestData) (rest : List ℕ) (d : Stand) → FlushedBy h n t g rest d → FlushedSome h n t 1 g rest d
unfolding flush_some
one_flushed h n t g rest d f = record {
  case = f.case;
  going = f.going;
  with = f.with;
  grown = f.grown;
  steps = f.steps;
  are_flushes = ap (option_and_then (λ z. Some z)) f.is_flush;
  marks = f.marks;
}

is_full : (n : ℕ) → 64 ≤ n → nat_le 64 n ≡ true
is_full n h = grind (arith, nat_tests)

has_space : (n : ℕ) → n < 64 → nat_le 64 n ≡ false
has_space n h = grind (arith, nat_tests)

pub full_room : (h n : HallData Block) (t : ℕ) (old rest : List ℕ) → 64 ≤ length old → OneBy h n t old rest → (g : GuestData) (d : Stand) → IsGoing (both h) t → IsWith h.case (both h) t g d → g.ages ≡ old → FlushedSome h n t (if nat_le 64 (length old) then 1 else 0) g rest d
full_room h n t old rest full one = λ g d going w same. subst (λ (b : Bool). FlushedSome h n t (if b then 1 else 0) g rest d) (sym (is_full (length old) full)) (one_flushed h n t g rest d (one g d going w same))

pub there_is_room : (h : HallData Block) (t : ℕ) (old : List ℕ) → length old < 64 → (g : GuestData) (d : Stand) → IsGoing (both h) t → IsWith h.case (both h) t g d → g.ages ≡ old → FlushedSome h h t (if nat_le 64 (length old) then 1 else 0) g old d
there_is_room h t old few = λ g d going w same. subst (λ (b : Bool). FlushedSome h h t (if b then 1 else 0) g old d) (sym (has_space (length old) few)) (none_flushed h t g old d going w same)
