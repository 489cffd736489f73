-- A gated journal, entry by entry.
use Rattle.std.proofs.Common.{◌≡◌, ℕ, suc, ◌+◌, ◌^◌, ◌<◌, ◌≤◌, ◌↔◌, Bool, true, false, List, [], ◌∷◌, ◌++◌, Some, None, refl, sym, ap, ◌∙◌, subst, arith, length, take, drop, get_or, add-one}
use Rattle.std.specs.Prelude.{IsTrue, option_and_then}
use Rattle.std.proofs.lemmas.List.{take_all}
use Rattle.std.proofs.lemmas.Option.{none-some, same_Some}
use Rattle.x86_model.specs.declared.cpu.Cpu.{Cpu}
use Rattle.journal_pack.specs.declared.entry.Entry.{Entry}
use Rattle.machine_plain.specs.declared.machine.PlainFault.{PlainFault}
use Rattle.machine_model.specs.CaseData.{CaseData}
use Rattle.machine_model.specs.State.{Machine, is_live}
use Rattle.machine_model.specs.Step.{cpu_at, slot_in, step}
use Rattle.machine_model.specs.Gated.{Gate, Both, with_gate, with_machine, advance, begin, pass, IsAllowed, Leads, IsGated}
use Rattle.machine_plain.specs.Plain.{CanServe, FaultsIn, IsFull}
use Rattle.machine_plain.specs.PlainGates.{led_to}
use Rattle.machine_model.proofs.Gates.{halfway, leads_more, leads_play, leads_same}
use Rattle.machine_plain.proofs.PlainPlay.{next_taken, split_at, fault_on_the_way, played_serves}

-- ---- one entry

pub advanced : (c : CaseData) (b : Both) (e : Entry) (m : Machine) (g : Gate) (before after : Cpu) (ok : Bool) → Some m ≡ step c b.machine e → before ≡ cpu_at b.machine (slot_in e) → after ≡ cpu_at m (slot_in e) → led_to ok g ≡ pass c.image e before after b.gate → led_to ok (with_gate m g) ≡ advance c b e
unfolding advance
advanced c b e m g before after ok stepped from to passed =
    both ok m g ∙ ap (option_and_then (λ g. Some (with_gate m g))) (passed ∙ ap (λ x. pass c.image e x after b.gate) from ∙ ap (λ x. pass c.image e (cpu_at b.machine (slot_in e)) x b.gate) to) ∙ ap (option_and_then (with_machine c b e)) stepped
  where
    both : (ok : Bool) (m : Machine) (g : Gate) → led_to ok (with_gate m g) ≡ option_and_then (λ g. Some (with_gate m g)) (led_to ok g)
    both true m g = refl
    both false m g = refl

pub no_step : (c : CaseData) (b : Both) (e : Entry) → None ≡ step c b.machine e → None ≡ advance c b e
unfolding advance
no_step c b e stuck = ap (option_and_then (with_machine c b e)) stuck

-- ---- the whole journal

pub gated_nothing : (c : CaseData) (journal : List Entry) (w : Both) → w ≡ begin c → Leads c (begin c) (take 0 journal) w
unfolding Leads
gated_nothing c [] w e = sym e
gated_nothing c (x ∷ journal) w e = sym e

pub gated_next : (c : CaseData) (journal : List Entry) (i : ℕ) (d : Entry) (w n : Both) → Leads c (begin c) (take i journal) w → i < length journal → IsAllowed c.image w.gate (get_or journal i d) → Some n ≡ advance c w (get_or journal i d) → Leads c (begin c) (take (i + 1) journal) n
gated_next c journal i d w n led lt allowed step =
    let e : take (i + 1) journal ≡ take i journal ++ get_or journal i d ∷ [] = ap (λ x. take x journal) (add-one i) ∙ next_taken journal i d lt in
    rw e (leads_more c (begin c) w n (take i journal) (get_or journal i d) led (sym step) allowed)

-- what a gated journal has at an entry
record Comes (c : CaseData) (w : Both) (e : Entry) : Type 0 where
  next : Both
  steps : advance c w e ≡ Some next
  allowed : IsAllowed c.image w.gate e

comes : (c : CaseData) (journal : List Entry) (i : ℕ) (d : Entry) (w : Both) → Leads c (begin c) (take i journal) w → i < length journal → IsGated c journal → Comes c w (get_or journal i d)
unfolding Leads
comes c journal i d w led lt g =
    let h = halfway c (begin c) g.0 (take i journal) (get_or journal i d ∷ drop (suc i) journal) (subst (λ x. Leads c (begin c) x g.0) (split_at journal i d lt) g.1) in
    let same : h.middle ≡ w = leads_same c (begin c) h.middle w (take i journal) h.before led in
    subst (λ x. Comes c x (get_or journal i d)) same (record { next = h.after.0; steps = h.after.1; allowed = h.after.2 })

no_way : (X : Type 0) → (X → ⊥) → IsTrue false ↔ X
no_way X h = (λ e. let none : false ≡ true = e in cc, λ x. absurd (h x))

pub not_allowed : (c : CaseData) (journal : List Entry) (i : ℕ) (d : Entry) (w : Both) → Leads c (begin c) (take i journal) w → i < length journal → IsTrue false ↔ IsAllowed c.image w.gate (get_or journal i d) → IsTrue false ↔ IsGated c journal
not_allowed c journal i d w led lt h =
    no_way _ (λ g. let none : false ≡ true = h.1 (comes c journal i d w led lt g).allowed in cc)

pub not_advanced : (c : CaseData) (journal : List Entry) (i : ℕ) (d : Entry) (w : Both) → Leads c (begin c) (take i journal) w → i < length journal → None ≡ advance c w (get_or journal i d) → IsTrue false ↔ IsGated c journal
not_advanced c journal i d w led lt stuck =
    no_way _ (λ g. let x = comes c journal i d w led lt g in none-some x.next (stuck ∙ x.steps))

pub gated_all : (c : CaseData) (journal : List Entry) (i : ℕ) (w : Both) → Leads c (begin c) (take i journal) w → length journal ≤ i → IsTrue true ↔ IsGated c journal
gated_all c journal i w led le =
    (λ h. (w, subst (λ x. Leads c (begin c) x w) (take_all i journal le) led), λ g. refl)

pub gated_fault : (c : CaseData) (journal : List Entry) (i : ℕ) (w : Both) (t : ℕ) (fault : PlainFault) → Leads c (begin c) (take i journal) w → IsFull w.machine t fault → FaultsIn c journal fault
gated_fault c journal i w t fault led full = fault_on_the_way c journal i w.machine t fault (leads_play c w (take i journal) led) full

pub gated_serves : (c : CaseData) (journal : List Entry) (i : ℕ) (w : Both) → Leads c (begin c) (take i journal) w → c.limit ≤ 2 ^ 27 → w.machine.ending ≡ None → (t : ℕ) → is_live w.machine t ≡ true → CanServe w.machine t
gated_serves c journal i w led limit going t live = played_serves c journal i w.machine (leads_play c w (take i journal) led) limit going t live
