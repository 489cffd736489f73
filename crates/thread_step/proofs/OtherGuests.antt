-- Guests of other slots, after entries of a thread.
use Rattle.std.proofs.Common.{◌≡◌, ◌≢◌, ℕ, ◌<◌, inl, inr, Bool, true, false, List, [], ◌∷◌, Some, None, refl, sym, subst, ap, ◌∙◌, ◌&&◌, not, length, ◌⊎◌}
use Rattle.std.specs.Prelude.{option_and_then}
use Rattle.std.proofs.lemmas.Option.{none-some}
use Rattle.address_space.specs.Slots.{slot_of}
use Rattle.elf_image.specs.Layout.{ImageData}
use Rattle.guest_state.specs.declared.virtual_state.Virtual.{Virtual}
use Rattle.ir_syntax.specs.declared.block.Block.{Block}
use Rattle.journal_pack.specs.declared.entry.Entry.{Entry}
use Rattle.lib_table.specs.declared.life.Life.{Life}
use Rattle.lib_table.specs.declared.life.Life.TheVariants.{Ended, Joined, Live, Unborn}
use Rattle.lib_table.specs.Library.{birth, is_running, is_unborn, life_at}
use Rattle.basic_blocks.specs.Places.{is_code_place}
use Rattle.basic_blocks.specs.Reach.{is_among}
use Rattle.machine_model.specs.CaseData.{CaseData}
use Rattle.machine_model.specs.Play.{walk}
use Rattle.machine_model.specs.Gated.{Both, Leads, Spot, Stand, Within, advance, begin, gated_steps, is_between, spot_at, stand_at}
use Rattle.machine_model.specs.Own.{IsWhole}
use Rattle.machine_model.specs.Ready.{HasGrown}
use Rattle.machine_model.specs.Serial.{is_missing}
use Rattle.machine_model.specs.State.{Core, core_at, is_live, list_at, thread_in}
use Rattle.machine_model.proofs.Gates.{grows, halfway, leads_same, steps_grow}
use Rattle.machine_model.proofs.NamesRounds.{thread_at_slot}
use Rattle.machine_model.proofs.Own.{whole_from}
use Rattle.machine_laws.specs.Others.{IsBorn, IsSame}
use Rattle.machine_laws.proofs.Leaving.{thread_law}
use Rattle.machine_laws.proofs.Spans.{ended_after, joined_after, live_there}
use Rattle.hall_core.specs.Hall.{HallData, both, machine}
use Rattle.guest_parts.specs.Guest.{IsWith}
use Rattle.guest_parts.specs.Standing as standing
use Rattle.guest_parts.specs.Standing.{StandsIn}
use Rattle.thread_step.specs.declared.guest.Guest.{Guest}
use Rattle.thread_step.specs.Guest.{HasNone, IsNewborn, IsReady, StandsWith, starting_core}
use Rattle.guest_steps.specs.Own.{IsUnder, data_of}
use Rattle.guest_steps.specs.Kept.{AreKept}
use Rattle.guest_entries.specs.Steps.{Adds}
use Rattle.guest_entries.proofs.Missing.{kept_within}
use Rattle.thread_step.proofs.SlotTurn.{still_born}

-- ---- growth takes nothing away

stands_still : (image : ImageData) (old new : List ℕ) (at : standing.Position) (last : ℕ) (v : Virtual) (d : Stand) → Within old new → StandsIn image old at last v d → StandsIn image new at last v d
stands_still image old new (standing.Between a) last v d more h = h
stands_still image old new (standing.Inside b n) last v d more h = record {
  inside = h.inside;
  lifted = h.lifted;
  grown_place = more b.at h.grown_place;
  matches = h.matches;
  left = h.left;
  finished = h.finished;
  typed = h.typed;
}

missing_less : (image : ImageData) (old new : List ℕ) (d : Stand) → Within old new → is_missing image old d ≡ false → is_missing image new d ≡ false
missing_less image old new d w h = by_parts (is_code_place image d.cpu.rip) (is_between d.left) (is_among old d.cpu.rip) (is_among new d.cpu.rip) (w d.cpu.rip) h
  where
    by_parts : (code out a b : Bool) → (a ≡ true → b ≡ true) → (code && out && not a) ≡ false → (code && out && not b) ≡ false
    by_parts false out a b f h = refl
    by_parts true false a b f h = refl
    by_parts true true true b f h = ap not (f refl)
    by_parts true true false b f h = absurd (let e : true ≡ false = h in cc)

-- ---- a slot that is as it was

module _ (h new : HallData Block) (g : Guest) (case : new.case ≡ h.case) (more : Within (both h).gate.grown (both new).gate.grown) (same : IsSame (both h) (both new) g.slot) where
  stand_same : stand_at (both new) g.slot ≡ stand_at (both h) g.slot
  stand_same = ap (λ (x : Core). record { cpu = x.cpu; left = (spot_at (both new).gate g.slot).left }) same.core ∙ ap (λ (x : Spot). record { cpu = (core_at (machine h) g.slot).cpu; left = x.left }) same.spot

  with_same : (t : ℕ) (d : Stand) → slot_of t ≡ g.slot → IsWith h.case (both h) t (data_of g.own) d → IsWith h.case (both new) t (data_of g.own) d
  with_same t d slot w = record {
    ahead = subst (λ s. gated_steps h.case.image (both new).gate.grown g.own.k (stand_at (both new) s) ≡ Some d) (sym slot) (steps_grow h.case.image (both h).gate.grown (both new).gate.grown more g.own.k (stand_at (both new) g.slot) d (ap (gated_steps h.case.image (both h).gate.grown g.own.k) stand_same ∙ subst (λ s. gated_steps h.case.image (both h).gate.grown g.own.k (stand_at (both h) s) ≡ Some d) slot w.ahead));
    few = w.few;
    stands = stands_still h.case.image (both h).gate.grown (both new).gate.grown (data_of g.own).at g.own.last g.own.state d more w.stands;
    frames = ap (λ s. (core_at (machine new) s).frames) slot ∙ ap (λ (x : Core). x.frames) same.core ∙ ap (λ s. (core_at (machine h) s).frames) (sym slot) ∙ w.frames;
    ages = w.ages ∙ sym (ap (λ s. length (list_at (machine new) s)) slot ∙ ap length same.writes ∙ ap (λ s. length (list_at (machine h) s)) (sym slot));
  }

  pub stands_same : (t : ℕ) (d : Stand) → IsWhole (both new) → (machine new).ending ≡ None → g.slot < 64 → thread_in (machine new) g.slot ≡ Some t → StandsWith h t g d → StandsWith new t g d
  stands_same t d whole going low lives s =
      let there = thread_at_slot (machine new) g.slot t low lives in
      record {
        along = record {
          going = record { whole = whole; going = going; live = there.1 };
          with = subst (λ (c : CaseData). IsWith c (both new) t (data_of g.own) d) (sym case) (with_same t d there.0 s.along.with);
          under = subst (λ (c : CaseData). IsUnder c.image g.own.at) (sym case) s.along.under;
          kept = subst (λ (c : CaseData). AreKept c.image (both new).gate.grown g.table.items) (sym case) (kept_within h.case.image (both h).gate.grown (both new).gate.grown g.table.items more s.along.kept);
        };
        fresh = s.fresh;
      }

  new_same : IsNewborn h g.slot → IsNewborn new g.slot
  new_same n = record {
    core = same.core ∙ n.core ∙ ap (starting_core h.case g.slot) (sym same.birth) ∙ ap (λ c. starting_core c g.slot (birth (machine new).library g.slot)) (sym case);
    writes = same.writes ∙ n.writes;
    spot = same.spot ∙ n.spot;
  }

  pub grown_same : HasGrown h.case.image (both h) g.slot → HasGrown new.case.image (both new) g.slot
  grown_same (inl other) = inl (ap (λ (x : Spot). x.latest) same.spot ∙ other)
  grown_same (inr there) = inr (ap (λ (c : CaseData). is_missing c.image (both new).gate.grown (stand_at (both new) g.slot)) case ∙ missing_less h.case.image (both h).gate.grown (both new).gate.grown (stand_at (both new) g.slot) more (ap (is_missing h.case.image (both h).gate.grown) stand_same ∙ there))

  none_same : HasNone new g → HasNone h g
  none_same alone t lives = alone t (same.thread ∙ lives)

  pub ready_same : IsWhole (both new) → (machine h).ending ≡ None → ((t : ℕ) → is_unborn (life_at (machine h).library t) ≡ false → is_unborn (life_at (machine new).library t) ≡ false) → IsReady h g → IsReady new g
  ready_same whole on stays r =
      let there : (t : ℕ) → thread_in (machine new) g.slot ≡ Some t → thread_in (machine h) g.slot ≡ Some t = λ t lives. sym same.thread ∙ lives in
      record {
        stands = record {
          low = r.stands.low;
          begun = λ t going lives is. let s = r.stands.begun t on (there t lives) is in (s.0, stands_same t s.0 whole going r.stands.low lives s.1);
          new = λ t going lives other. new_same (r.stands.new t on (there t lives) other);
          told = λ going alone. r.stands.told on (none_same alone);
          none = λ going alone. r.stands.none on (none_same alone);
          born = λ t going is. stays t (r.stands.born t on is);
        };
        grown = λ t going lives. grown_same (r.grown t on (there t lives));
      }

-- ---- a slot in which a thread was born

-- the thread was unborn before
life_was : (c : CaseData) (before es : List Entry) (b n : Both) (u : ℕ) (life : Life) → life_at b.machine.library u ≡ life → Leads c (begin c) before b → Leads c b es n → thread_in b.machine (slot_of u) ≡ None → is_live n.machine u ≡ true → is_unborn life ≡ true
life_was c before es b n u Unborn e p q none live = refl
life_was c before es b n u (Live start argument) e p q none live = absurd (none-some u (sym none ∙ live_there b.machine.library u (ap is_running e)))
life_was c before es b n u (Ended value) e p q none live = absurd (by (ended_after c before es b n u value p q e))
  where
    by : (life_at n.machine.library u ≡ Ended value) ⊎ (life_at n.machine.library u ≡ Joined) → ⊥
    by (inl x) = let no : true ≡ false = sym live ∙ ap is_running x in cc
    by (inr x) = let no : true ≡ false = sym live ∙ ap is_running x in cc
life_was c before es b n u Joined e p q none live = absurd (let no : true ≡ false = sym live ∙ ap is_running (joined_after c before es b n u p q e) in cc)

module _ (h new : HallData Block) (g : Guest) (es : List Entry) (born : IsBorn (both h) (both new) g.slot) (on : (machine h).ending ≡ None) (leads : Leads h.case (begin h.case) h.journal (both h)) (then : Leads h.case (both h) es (both new)) (r : IsReady h g) where
  alone_before : HasNone h g
  alone_before t lives is = none-some t (sym born.before ∙ lives)

  -- the guest didn't begin it
  not_begun : (t : ℕ) → thread_in (machine new) g.slot ≡ Some t → g.thread ≡ Some t → ⊥
  not_begun t lives is =
      let there = thread_at_slot (machine new) g.slot t r.stands.low lives in
      let was = life_was h.case h.journal es (both h) (both new) t (life_at (machine h).library t) refl leads then (ap (thread_in (machine h)) there.0 ∙ born.before) there.1 in
      let no : true ≡ false = sym was ∙ r.stands.born t on is in cc

  pub ready_born : new.case ≡ h.case → ((t : ℕ) → is_unborn (life_at (machine h).library t) ≡ false → is_unborn (life_at (machine new).library t) ≡ false) → IsReady new g
  ready_born case stays =
      let fresh : IsNewborn new g.slot = record { core = born.core ∙ ap (starting_core new.case g.slot) (sym born.birth); writes = born.writes; spot = born.spot } in
      record {
        stands = record {
          low = r.stands.low;
          begun = λ t going lives is. absurd (not_begun t lives is);
          new = λ t going lives other. fresh;
          told = λ going alone. r.stands.told on alone_before;
          none = λ going alone. r.stands.none on alone_before;
          born = λ t going is. stays t (r.stands.born t on is);
        };
        grown = λ t going lives. inl (ap (λ (x : Spot). x.latest) born.spot);
      }

-- ---- after entries of a thread of another slot

pub leads_walks : (c : CaseData) (b n : Both) (es : List Entry) → Leads c b es n → walk (advance c) b es ≡ Some n
unfolding Leads walk
leads_walks c b n [] p = ap (λ x. Some x) p
leads_walks c b n (e ∷ es) p = ap (option_and_then (λ x. walk (advance c) x es)) p.1 ∙ leads_walks c p.0 n es p.3

pub others_ready : (h new : HallData Block) (t : ℕ) (g : Guest) → new.case ≡ h.case → (machine h).ending ≡ None → Leads h.case (begin h.case) h.journal (both h) → Leads h.case (begin h.case) new.journal (both new) → Adds t h.journal new.journal → g.slot ≢ slot_of t → IsReady h g → IsReady new g
others_ready h new t g case on leads all adds other r =
    let whole = subst (λ j. Leads h.case (begin h.case) j (both new)) adds.journal all in
    let half = halfway h.case (begin h.case) (both new) h.journal adds.entries whole in
    let middle = leads_same h.case (begin h.case) half.middle (both h) h.journal half.before leads in
    let then = subst (λ b. Leads h.case b adds.entries (both new)) middle half.after in
    let stays : (u : ℕ) → is_unborn (life_at (machine h).library u) ≡ false → is_unborn (life_at (machine new).library u) ≡ false = λ u. still_born h.case h.journal adds.entries (both h) (both new) u leads whole in
    elim (thread_law h.case h.journal adds.entries (both h) (both new) t g.slot leads (leads_walks h.case (both h) (both new) adds.entries then) adds.own r.stands.low other) [
      | inl same ↦ ready_same h new g case (grows h.case (both h) (both new) adds.entries then) same (whole_from h.case (both new) new.journal all) on stays r
      | inr born ↦ ready_born h new g adds.entries born on leads then r case stays
    ]
