-- A hall with one entry more is a hall.
use Rattle.std.proofs.Common.{◌≡◌, ◌≢◌, ℕ, ◌≤◌, List, [], ◌∷◌, ◌++◌, length, Option, Some, None, refl, sym, ap, ◌∙◌, subst, inl, inr, slice_set}
use Rattle.std.specs.FinMap.{FinMap}
use Rattle.std.specs.FinMap as map
use Rattle.std.specs.Ordering.{nat_cmp}
use Rattle.std.proofs.lemmas.Bool.{cases_eq, cases_lt}
use Rattle.std.proofs.lemmas.List.{get_or-set_same, get_or-set_other, get_or_past, length-set}
use Rattle.std.proofs.lemmas.Option.{none-some}
use Rattle.elf_image.specs.Layout.{ImageData}
use Rattle.lib_table.specs.declared.ask.Ask.{Ask}
use Rattle.x86_model.specs.Want.{want}
use Rattle.journal_pack.specs.declared.entry.Entry.{Entry}
use Rattle.machine_model.specs.CaseData.{CaseData}
use Rattle.machine_model.specs.State.{Core, Machine, Thread, core_at, thread_at}
use Rattle.machine_model.specs.Step.{slot_in, step}
use Rattle.machine_model.specs.Gated.{Both, Leads, begin, grown_by}
use Rattle.machine_model.proofs.Comes.{both_more}
use Rattle.machine_model.proofs.Costs.{came}
use Rattle.machine_model.proofs.Gates.{grown_after, leads_more}
use Rattle.machine_model.proofs.Independence.{HasSlots, threads_stay}
use Rattle.machine_model.proofs.Own.{whole_from}
use Rattle.lib_table.specs.Library.{is_running}
use Rattle.hall_core.specs.Shared.{SharedState, need_of, shared_of}
use Rattle.hall_core.specs.Hall.{AreGrown, Comes, HallData, IsHall, StandsAt, added, both, grown, machine, mark_in}

-- ---- marks

-- a mark that is there after one was taken away was there before, and is another slot's
kept_mark : (marks : List (Option Ask)) (s u : ℕ) (ask : Ask) → mark_in (slice_set marks s None) u ≡ Some ask → (u ≢ s) × (mark_in marks u ≡ Some ask)
kept_mark marks s u ask h =
    elim (cases_eq u s) [
      | inl e ↦ absurd (none-some _ (gone s u ask e h))
      | inr ne ↦ (ne, sym (get_or-set_other marks s u None None ne) ∙ h)
    ]
  where
    gone : (s u : ℕ) (ask : Ask) → u ≡ s → mark_in (slice_set marks s None) u ≡ Some ask → None ≡ Some ask
    gone s u ask e h =
        let q : mark_in (slice_set marks s None) s ≡ Some ask = subst (λ x. mark_in (slice_set marks s None) x ≡ Some ask) e h in
        elim (cases_lt s (length marks)) [
          | inl lt ↦ sym (get_or-set_same marks s None None lt) ∙ q
          | inr le ↦ sym (get_or_past (slice_set marks s None) s None (subst (λ x. x ≤ s) (sym (length-set marks s None)) le)) ∙ q
        ]

stands_by : (image : ImageData) (m n : Machine) (s : ℕ) (ask : Ask) → thread_at n s ≡ thread_at m s → StandsAt image m s ask → StandsAt image n s ask
stands_by image m n s ask same h =
    let core : core_at n s ≡ core_at m s = ap (λ (x : Thread). x.core) same in
    record {
      live = ap (λ (x : Thread). is_running x.slot.life) same ∙ h.live;
      asks = ap (λ (x : Core). need_of x (want image x.cpu)) core ∙ h.asks;
    }

-- a marked thread stands where it stood after an entry of another slot
pub stands_stays : (c : CaseData) (m n : Machine) (e : Entry) (s : ℕ) (ask : Ask) → HasSlots m → step c m e ≡ Some n → s ≢ slot_in e → StandsAt c.image m s ask → StandsAt c.image n s ask
stands_stays c m n e s ask sized p ne h = stands_by c.image m n s ask (threads_stay c m n e sized p s ne h.live) h

-- ---- one entry more

module _ {B : Type 0} where
  pub both_added : (h : HallData B) (e : Entry) → (comes : Comes h e) → both (added h e) ≡ comes.next
  both_added h e comes = both_more h.case h.journal e comes.next comes.step

  pub moved_with : (fits : ImageData → ℕ → B → Type 0) (h : HallData B) (s : SharedState) (e : Entry) (blocks : FinMap nat_cmp B) → IsHall fits h s → Comes h e → AreGrown (grown_by e (grown h)) blocks → ((a : ℕ) (b : B) → map.get blocks a ≡ Some b → fits h.case.image a b) → IsHall fits (record (added h e) { blocks = blocks }) (shared_of (machine (added h e)))
  moved_with fits h s e blocks is comes filled right =
      let at = both_added h e comes in
      let stepped = (came h.case (both h) comes.next e comes.step).stepped in
      let sized = (whole_from h.case (both h) h.journal is.leads).machine.slots in
      record {
        leads = subst (λ (x : Both). Leads h.case (begin h.case) (h.journal ++ e ∷ []) x) (sym at) (leads_more h.case (begin h.case) (both h) comes.next h.journal e is.leads comes.step comes.allowed);
        shared = refl;
        grown = subst (λ (x : List ℕ). AreGrown x blocks) (sym (ap (λ (x : Both). x.gate.grown) at ∙ grown_after h.case (both h) comes.next e comes.step)) filled;
        right = right;
        marks = λ u ask m.
            let kept = kept_mark h.marks (slot_in e) u ask m in
            subst (λ (x : Both). StandsAt h.case.image x.machine u ask) (sym at) (stands_stays h.case (machine h) comes.next.machine e u ask sized stepped kept.0 (is.marks u ask kept.1));
        marked = length-set h.marks (slot_in e) None ∙ is.marked;
        limit = is.limit;
      }

  -- an entry that grows nothing
  pub moved : (fits : ImageData → ℕ → B → Type 0) (h : HallData B) (s after : SharedState) (e : Entry) → IsHall fits h s → (comes : Comes h e) → grown_by e (grown h) ≡ grown h → shared_of comes.next.machine ≡ after → IsHall fits (added h e) after
  moved fits h s after e is comes same shared =
      let there : shared_of (machine (added h e)) ≡ after = ap (λ (x : Both). shared_of x.machine) (both_added h e comes) ∙ shared in
      subst (IsHall fits (added h e)) there (moved_with fits h s e h.blocks is comes (subst (λ (x : List ℕ). AreGrown x h.blocks) (sym same) is.grown) is.right)
