-- A guest and its thread, after entries of other slots.
use Rattle.std.proofs.Common.{◌≡◌, ℕ, ◌<◌, inl, inr, false, List, [], ◌∷◌, ◌++◌, Option, Some, None, IsSome, refl, sym, subst, ap, ◌∙◌, ◌==◌}
use Rattle.std.proofs.lemmas.List.{append_cancel_left, append-nil}
use Rattle.std.proofs.lemmas.List.Elements.{filter-append}
use Rattle.std.proofs.lemmas.Option.{none-some}
use Rattle.journal_pack.specs.declared.entry.Entry.{Entry}
use Rattle.lib_table.specs.Library.{is_unborn, life_at}
use Rattle.turn_lock.specs.declared.pass.Pass.{Pass}
use Rattle.turn_lock.specs.Journal as story
use Rattle.turn_lock.specs.Words.{pass_case, pass_number, pass_seen}
use Rattle.machine_model.specs.declared.ending.RunEnd.{RunEnd}
use Rattle.machine_model.specs.CaseData.{CaseData}
use Rattle.machine_model.specs.Gated.{Both, Leads, Stand, begin}
use Rattle.machine_model.specs.Play.{own}
use Rattle.machine_model.specs.Ready.{HasGrown}
use Rattle.machine_model.specs.State.{thread_in}
use Rattle.machine_model.specs.Step.{slot_in}
use Rattle.machine_model.proofs.Gates.{grows, halfway, leads_same}
use Rattle.machine_model.proofs.Own.{made_of, whole_from}
use Rattle.machine_laws.specs.Others.{IsBorn, IsSame, Leaves}
use Rattle.machine_laws.proofs.Leaving.{entries_law}
use Rattle.hall_core.specs.Hall.{both, machine}
use Rattle.thread_step.specs.declared.guest.Guest.{Guest}
use Rattle.thread_step.specs.Context.{GoesOn, HallOf, Runs, Saw, case_in, journal_in}
use Rattle.thread_step.specs.Guest.{IsReady}
use Rattle.thread_step.proofs.OtherGuests.{grown_same, leads_walks, ready_born, ready_same, stands_same}
use Rattle.guest_steps.specs.Ages.{AreAges}
use Rattle.guest_steps.specs.Ahead.{Strode}
use Rattle.thread_step.proofs.SlotTurn.{none_is, ready_on, still_born}

-- ---- entries

-- where as many entries of a number are in the whole as in its beginning, the rest has none
pub none_more : (s : ℕ) (seen rest : List Entry) → own s (seen ++ rest) ≡ own s seen → own s rest ≡ []
none_more s seen rest e = append_cancel_left (own s seen) (own s rest) [] (sym (filter-append (λ x. slot_in x == s) seen rest) ∙ e ∙ sym (append-nil (own s seen)))

-- where a run goes on, it went on before
pub going_before : (c : CaseData) (b n : Both) (es : List Entry) → Leads c b es n → n.machine.ending ≡ None → b.machine.ending ≡ None
unfolding Leads
going_before c b n [] p on = ap (λ (x : Both). x.machine.ending) p ∙ on
going_before c b n (e ∷ es) p on = (made_of c b p.0 e p.1).is.going

-- what a pass saw, and what is taken with it
pub goes_on : (p : Pass HallOf) (h new : HallOf) → Saw p h → pass_case case_in p ≡ Some new.case → story.StartsWith new.journal (pass_seen journal_in p) → story.own slot_in (pass_number p) new.journal ≡ story.own slot_in (pass_number p) (pass_seen journal_in p) → Leads new.case (begin new.case) new.journal (both new) → GoesOn (pass_number p) h new
goes_on p h new saw case begins same leads =
    let is : new.case ≡ h.case = same_case h new (sym saw.case ∙ case) in
    let journal : new.journal ≡ h.journal ++ begins.0 = begins.1 ∙ ap (λ j. j ++ begins.0) saw.journal in
    record {
      case = is;
      before = saw.leads;
      entries = begins.0;
      journal = journal;
      others = none_more (pass_number p) h.journal begins.0 (ap (own (pass_number p)) (sym journal) ∙ same ∙ ap (own (pass_number p)) saw.journal);
      after = leads;
    }
  where
    same_case : (h new : HallOf) → Some h.case ≡ Some new.case → new.case ≡ h.case
    same_case h new e = cc

module _ (s : ℕ) (low : s < 64) (h new : HallOf) (g : GoesOn s h new) where
  whole_run : Leads h.case (begin h.case) new.journal (both new)
  whole_run = subst (λ c. Leads c (begin c) new.journal (both new)) g.case g.after

  further : Leads h.case (both h) g.entries (both new)
  further =
      let half = halfway h.case (begin h.case) (both new) h.journal g.entries (subst (λ j. Leads h.case (begin h.case) j (both new)) g.journal whole_run) in
      subst (λ b. Leads h.case b g.entries (both new)) (leads_same h.case (begin h.case) half.middle (both h) h.journal half.before g.before) half.after

  law : Leaves (both h) (both new) s
  law = entries_law h.case h.journal g.entries (both h) (both new) s g.before (leads_walks h.case (both h) (both new) g.entries further) g.others low

  pub was_going : (machine new).ending ≡ None → (machine h).ending ≡ None
  was_going on = going_before h.case (both h) (both new) g.entries further on

  still : (u : ℕ) → is_unborn (life_at (machine h).library u) ≡ false → is_unborn (life_at (machine new).library u) ≡ false
  still u = still_born h.case h.journal g.entries (both h) (both new) u g.before (subst (λ j. Leads h.case (begin h.case) j (both new)) g.journal whole_run)

  -- a guest of the slot that was ready is ready, where the run goes on
  pub ready_stays : (x : Guest) → x.slot ≡ s → (machine new).ending ≡ None → IsReady h x → IsReady new x
  ready_stays x at on r = elim law [
    | inl same ↦ ready_same h new x g.case (grows h.case (both h) (both new) g.entries further) (subst (IsSame (both h) (both new)) (sym at) same) (whole_from h.case (both new) new.journal whole_run) (was_going on) still r
    | inr born ↦ ready_born h new x g.entries (subst (IsBorn (both h) (both new)) (sym at) born) (was_going on) g.before further r g.case still
  ]

  -- a thread that ran with its guest runs with it still, where the run goes on
  pub runs_on : (t : ℕ) (x : Guest) → x.slot ≡ s → (machine new).ending ≡ None → Runs h t x → Runs new t x
  runs_on t x at on r = elim law [
    | inl same ↦ by_same t x on r (subst (IsSame (both h) (both new)) (sym at) same)
    | inr born ↦ absurd (none-some t (sym born.before ∙ ap (thread_in (machine h)) (sym at) ∙ r.lives))
  ]
    where
      by_same : (t : ℕ) (x : Guest) → (machine new).ending ≡ None → Runs h t x → IsSame (both h) (both new) x.slot → Runs new t x
      by_same t x on r same =
          let more = grows h.case (both h) (both new) g.entries further in
          let lives = same.thread ∙ r.lives in
          let w = stands_same h new x g.case more same t r.stand (whole_from h.case (both new) new.journal whole_run) on r.low lives (record { along = r.ready.along; fresh = r.ready.fresh }) in
          record {
            low = r.low;
            slot = r.slot;
            begun = r.begun;
            lives = lives;
            going = on;
            stand = r.stand;
            ready = record {
              along = w.along;
              grown = subst (HasGrown new.case.image (both new)) (sym r.slot) (grown_same h new x g.case more same (subst (HasGrown h.case.image (both h)) r.slot r.ready.grown));
              fresh = w.fresh;
            };
          }

-- nothing is asked of a guest once the run has an ending
pub ended_ready : (new : HallOf) (g : Guest) → g.slot < 64 → IsSome (machine new).ending → IsReady new g
ended_ready new g low ended =
    let no : (machine new).ending ≡ None → ⊥ = λ going. none_is (machine new).ending ended going in
    record {
      stands = record {
        low = low;
        begun = λ u going lives is. absurd (no going);
        new = λ u going lives other. absurd (no going);
        told = λ going alone. absurd (no going);
        none = λ going alone. absurd (no going);
        born = λ u going is. absurd (no going);
      };
      grown = λ u going lives. absurd (no going);
    }

-- a guest of the slot that was ready is ready
pub ready_after : (s : ℕ) (h new : HallOf) (x : Guest) → x.slot ≡ s → GoesOn s h new → IsReady h x → IsReady new x
ready_after s h new x at g r = by_ending (machine new).ending refl
  where
    low : s < 64
    low = subst (λ z. z < 64) at r.stands.low

    by_ending : (o : Option RunEnd) → (machine new).ending ≡ o → IsReady new x
    by_ending None e = ready_stays s low h new g x at e r
    by_ending (Some end) e = ended_ready new x r.stands.low (subst IsSome (sym e) refl)

-- a guest whose thread runs is ready
pub runs_ready : (h : HallOf) (t : ℕ) (g : Guest) → Runs h t g → IsReady h g
runs_ready h t g r = ready_on h t g r.slot r.low r.begun r.stand r.ready

-- private steps leave a guest with its thread
pub runs_ahead : (h : HallOf) (t : ℕ) (g new : Guest) (d e : Stand) → Runs h t g → new.slot ≡ g.slot → new.thread ≡ g.thread → Strode h.case (both h) t g.own new.own new.table.items d e → Runs h t new
runs_ahead h t g new d e r slot begun s = record {
  low = subst (λ z. z < 64) (sym slot) r.low;
  slot = r.slot ∙ sym slot;
  begun = begun ∙ r.begun;
  lives = ap (thread_in (machine h)) slot ∙ r.lives;
  going = r.going;
  stand = e;
  ready = record { along = s.along; grown = r.ready.grown; fresh = subst (AreAges 255) (sym s.ages) r.ready.fresh };
}
