-- How an engine's count rises in a worker's turn, by the steps of the slot's entries and those that its thread made since.
use Rattle.std.proofs.Common.{◌≡◌, ℕ, ◌+◌, ◌-◌, Some, sym, subst, ap, ◌∙◌, arith}
use Rattle.address_space.specs.Slots.{slot_of}
use Rattle.turn_lock.specs.declared.pass.Pass.{Pass}
use Rattle.guest_parts.specs.Running.{Rises}
use Rattle.guest_parts.proofs.Runs.{rises_none}
use Rattle.guest_steps.proofs.Striding.{rises_then}
use Rattle.guest_entries.specs.Steps.{instruction_steps}
use Rattle.thread_step.specs.Context.{GoesOn, HallOf, Saw}
use Rattle.thread_step.specs.Costs.{Spends}
use Rattle.thread_step.specs.Counts.{slot_steps}
use Rattle.thread_step.proofs.Counting.{rises_less}
use Rattle.thread_step.proofs.Furthering.{all_own}
use Rattle.thread_step.proofs.SlotCounts.{slot_rises, slot_stays}

-- ---- two states

steps_same : (s : ℕ) (h n : HallOf) → n.case ≡ h.case → n.journal ≡ h.journal → slot_steps n.case s n.journal ≡ slot_steps h.case s h.journal
steps_same s h n case journal = ap (λ c. slot_steps c s n.journal) case ∙ ap (slot_steps h.case s) journal

-- what a pass saw is one case and one journal
pub seen_steps : (p : Pass HallOf) (s : ℕ) (h n : HallOf) → Saw p h → Saw p n → slot_steps n.case s n.journal ≡ slot_steps h.case s h.journal
seen_steps p s h n old new = steps_same s h n (same_case h n (sym old.case ∙ new.case)) (sym new.journal ∙ old.journal)
  where
    same_case : (h n : HallOf) → Some h.case ≡ Some n.case → n.case ≡ h.case
    same_case h n e = cc

-- entries of other slots
pub goes_steps : (s : ℕ) (h n : HallOf) → GoesOn s h n → slot_steps n.case s n.journal ≡ slot_steps h.case s h.journal
goes_steps s h n g = ap (λ c. slot_steps c s n.journal) g.case ∙ ap (slot_steps h.case s) g.journal ∙ slot_stays h.case s h.journal g.entries g.others

-- entries of the slot's thread
pub spends_steps : (s t most few : ℕ) (old new : HallOf) → slot_of t ≡ s → new.case ≡ old.case → Spends t most few old.journal new.journal → slot_steps new.case s new.journal + instruction_steps old.case old.journal ≡ slot_steps old.case s old.journal + instruction_steps old.case new.journal
spends_steps s t most few old new slot case p =
    let all = slot_rises old.case s old.journal p.entries (all_own s t p.entries slot p.spent.own) in
    let here = ap (λ c. slot_steps c s new.journal) case ∙ ap (slot_steps old.case s) p.journal in
    let whole = ap (instruction_steps old.case) p.journal in
    omega (arith, all, here, whole)

-- ---- the engine's count

-- nothing was made since
pub seen_rises : (p : Pass HallOf) (s a k : ℕ) (h n : HallOf) → Saw p h → Saw p n → Rises a a ((slot_steps n.case s n.journal + k) - (slot_steps h.case s h.journal + k))
seen_rises p s a k h n old new = let same = seen_steps p s h n old new in rises_none a _ (omega (arith, same))

-- entries of other slots alone
pub looked_rises : (p : Pass HallOf) (s a k last : ℕ) (h m n : HallOf) → last ≡ k → GoesOn s h m → Saw p m → Saw p n → Rises a a ((slot_steps n.case s n.journal + last) - (slot_steps h.case s h.journal + k))
looked_rises p s a k last h m n told goes old new =
    let same = seen_steps p s m n old new in
    let others = goes_steps s h m goes in
    rises_none a _ (omega (arith, told, same, others))

-- private steps, entries of other slots, and then one step of the thread
pub step_rises : (p : Pass HallOf) (s t most few a b e k mid last : ℕ) (h taken new n : HallOf) → slot_of t ≡ s → GoesOn s h taken → new.case ≡ taken.case → Spends t most few taken.journal new.journal → Saw p new → Saw p n → Rises a b (mid - k) → Rises b e ((instruction_steps taken.case new.journal + last) - (instruction_steps taken.case taken.journal + mid)) → Rises a e ((slot_steps n.case s n.journal + last) - (slot_steps h.case s h.journal + k))
step_rises p s t most few a b e k mid last h taken new n slot goes case spends saw same first then =
    let seen = seen_steps p s new n saw same in
    let own = spends_steps s t most few taken new slot case spends in
    let others = goes_steps s h taken goes in
    let old = instruction_steps taken.case taken.journal in
    let start : Rises a b ((old + mid) - (old + k)) = rises_less a b (mid - k) ((old + mid) - (old + k)) (omega arith) first in
    let all = rises_then a b e (old + k) (old + mid) (instruction_steps taken.case new.journal + last) start then in
    rises_less a e ((instruction_steps taken.case new.journal + last) - (old + k)) _ (omega (arith, seen, own, others)) all

-- two steps one after the other
pub rises_on : (s u a b e k mid last : ℕ) (h m n : HallOf) → u ≡ s → Rises a b ((slot_steps m.case s m.journal + mid) - (slot_steps h.case s h.journal + k)) → Rises b e ((slot_steps n.case u n.journal + last) - (slot_steps m.case u m.journal + mid)) → Rises a e ((slot_steps n.case s n.journal + last) - (slot_steps h.case s h.journal + k))
rises_on s u a b e k mid last h m n same p q = rises_then a b e (slot_steps h.case s h.journal + k) (slot_steps m.case s m.journal + mid) (slot_steps n.case s n.journal + last) p (subst (λ z. Rises b e ((slot_steps n.case z n.journal + last) - (slot_steps m.case z m.journal + mid))) same q)

-- before or after a step that makes none
pub rises_before : (s u a b k mid last : ℕ) (h m n : HallOf) → u ≡ s → mid ≡ k → slot_steps m.case s m.journal ≡ slot_steps h.case s h.journal → Rises a b ((slot_steps n.case u n.journal + last) - (slot_steps m.case u m.journal + mid)) → Rises a b ((slot_steps n.case s n.journal + last) - (slot_steps h.case s h.journal + k))
rises_before s u a b k mid last h m n same told steps q = rises_less a b _ _ (omega (arith, told, steps)) (subst (λ z. Rises a b ((slot_steps n.case z n.journal + last) - (slot_steps m.case z m.journal + mid))) same q)

pub rises_after : (s u a b k mid last : ℕ) (h m n : HallOf) → u ≡ s → last ≡ mid → slot_steps n.case u n.journal ≡ slot_steps m.case u m.journal → Rises a b ((slot_steps m.case s m.journal + mid) - (slot_steps h.case s h.journal + k)) → Rises a b ((slot_steps n.case s n.journal + last) - (slot_steps h.case s h.journal + k))
rises_after s u a b k mid last h m n same told steps q =
    let here = subst (λ z. slot_steps n.case z n.journal ≡ slot_steps m.case z m.journal) same steps in
    rises_less a b _ _ (omega (arith, told, here)) q
