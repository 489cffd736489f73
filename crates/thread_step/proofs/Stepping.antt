-- One step of a worker's turn: what an entry leaves of a guest whose thread runs.
use Rattle.std.proofs.Common.{◌≡◌, ℕ, ◌<◌, ◌≤◌, inl, Bool, true, false, List, [], ◌∷◌, ◌+◌, length, Some, None, Result, Ok, Err, arith, refl, sym, subst, ap, ◌∙◌}
use Rattle.std.specs.declared.alloc.AllocError.{AllocError}
use Rattle.address_space.specs.Slots.{slot_of}
use Rattle.lib_table.specs.Library.{life_at}
use Rattle.machine_model.specs.Gated.{Leads, Stand, begin, stand_at}
use Rattle.machine_model.specs.Ready.{HasGrown}
use Rattle.tso_memory.specs.declared.write.PendingWrite.{PendingWrite}
use Rattle.machine_model.specs.Own.{writes_at}
use Rattle.machine_model.specs.State.{is_live, list_at, thread_in}
use Rattle.machine_model.proofs.Gates.{halfway, leads_same}
use Rattle.machine_model.proofs.Own.{whole_from}
use Rattle.machine_model.proofs.Reaches.{are_reaches, reach_of}
use Rattle.hall_core.specs.Hall.{both, machine}
use Rattle.guest_parts.specs.Guest.{IsWith}
use Rattle.guest_parts.specs.Points.{point_at, waiting_of}
use Rattle.guest_steps.specs.declared.own.Own.{Own}
use Rattle.guest_steps.specs.Ages.{AreAges}
use Rattle.guest_steps.specs.Kept.{AreKept, Table}
use Rattle.guest_steps.specs.Own.{IsUnder, data_of}
use Rattle.guest_entries.specs.Entered.{SettledBy, turn_in}
use Rattle.guest_entries.proofs.Adding.{settle_free}
use Rattle.guest_entries.specs.Steps.{Adds}
use Rattle.thread_step.specs.declared.guest.Guest.{Guest}
use Rattle.thread_step.specs.Context.{HallOf, Runs}
use Rattle.thread_step.specs.Costs.{Spends, costs}
use Rattle.thread_step.specs.Guest.{IsReady, IsStanding}
use Rattle.thread_step.specs.Turned.{Broke, EntryIs, Ready, Stayed, Went}
use Rattle.thread_step.proofs.Budget.{act_costs}
use Rattle.thread_step.proofs.Lives.{LivesOrNone, lives_there, none_left, own_lives}
use Rattle.thread_step.proofs.SlotTurn.{gone_ready, live_born, standing, still_born}
use Rattle.thread_step.proofs.Spending.{acts_spends, acts_waits, free_spends}
use Rattle.thread_step.proofs.Whole.{entry_adds, from_held, older}

-- ---- what was added

pub step_adds : (o : Result Bool AllocError) (h new : HallOf) (t : ℕ) (before after : Own) (table : Table) (d : Stand) → EntryIs o h new t before after table d → Adds t h.journal new.journal
step_adds (Ok true) h new t before after table d q = entry_adds h new t (point_at q.one.k q.one.stop) before.ages (waiting_of (both new) new.journal after.ages) q.one.rule q.one.acts refl
step_adds (Ok false) h new t before after table d q = entry_adds h new t (point_at q.one.k q.one.stop) before.ages (turn_in new after.ages) q.one.rule q.one.acts refl
step_adds (Err e) h new t before after table d q = q.adds

pub step_case : (o : Result Bool AllocError) (h new : HallOf) (t : ℕ) (before after : Own) (table : Table) (d : Stand) → EntryIs o h new t before after table d → new.case ≡ h.case
step_case (Ok true) h new t before after table d q = q.one.case
step_case (Ok false) h new t before after table d q = q.one.case
step_case (Err e) h new t before after table d q = q.case

-- what was spent
pub went_spends : (h new : HallOf) (t : ℕ) (before after : Own) (table : Table) (d : Stand) → Went h new t before after table d → Spends t 1 0 h.journal new.journal
went_spends h new t before after table d q = acts_spends h.case (reach_of h.case.image) t (point_at q.one.k q.one.stop) (turn_in h before.ages) (turn_in new after.ages) q.one.rule (q.one.acts (reach_of h.case.image) (are_reaches h.case.image)) refl

pub stayed_spends : (h new : HallOf) (t : ℕ) (before after : Own) (table : Table) (d : Stand) → Stayed h new t before after table d → Spends t 0 1 h.journal new.journal
stayed_spends h new t before after table d q = acts_waits h.case (reach_of h.case.image) t (point_at q.one.k q.one.stop) (turn_in h before.ages) (waiting_of (both new) new.journal after.ages) q.one.rule (q.one.acts (reach_of h.case.image) (are_reaches h.case.image)) refl refl

pub went_costs : (h new : HallOf) (t : ℕ) (before after : Own) (table : Table) (d : Stand) → Went h new t before after table d → (machine new).ending ≡ None → costs new.journal ≡ costs h.journal + 1
went_costs h new t before after table d q going = act_costs h.case (reach_of h.case.image) t (point_at q.one.k q.one.stop) (turn_in h before.ages) (turn_in new after.ages) q.one.rule (q.one.acts (reach_of h.case.image) (are_reaches h.case.image)) refl going

-- no write waits where the thread does
pub stayed_empty : (h new : HallOf) (t s : ℕ) (before after : Own) (table : Table) (d : Stand) → slot_of t ≡ s → Stayed h new t before after table d → list_at (machine new) s ≡ []
stayed_empty h new t s before after table d slot q = subst (λ z. list_at (machine new) z ≡ []) slot (no_items (writes_at (both new) t) (sym q.ready.along.with.ages ∙ ap length q.none))
  where
    no_items : (xs : List PendingWrite) → length xs ≡ 0 → xs ≡ []
    no_items [] e = refl
    no_items (x ∷ xs) e = absurd (omega arith)

-- ---- the guest after it

module _ (h new : HallOf) (t : ℕ) (g after : Guest) (r : Runs h t g) (slot : after.slot ≡ g.slot) (begun : after.thread ≡ g.thread) where
  its_slot : slot_of t ≡ after.slot
  its_slot = r.slot ∙ sym slot

  low : after.slot < 64
  low = subst (λ s. s < 64) (sym slot) r.low

  its_thread : after.thread ≡ Some t
  its_thread = begun ∙ r.begun

  runs_by : (d : Stand) → Ready new t after.own after.table.items d → Runs new t after
  runs_by d ready = record {
    low = low;
    slot = its_slot;
    begun = its_thread;
    lives = ap (thread_in (machine new)) (sym its_slot) ∙ lives_there (machine new) t ready.along.going.live;
    going = ready.along.going.going;
    stand = d;
    ready = ready;
  }

  pub steps_on : Went h new t g.own after.own after.table.items r.stand → (machine new).ending ≡ None → is_live (machine new) t ≡ true → Runs new t after
  steps_on q going live = runs_by (stand_at (both new) (slot_of t)) (q.on going live)

  pub waits : Stayed h new t g.own after.own after.table.items r.stand → Runs new t after
  waits q = runs_by (stand_at (both new) (slot_of t)) q.ready

  pub breaks : Broke h new t g.own after.own after.table.items r.stand → IsStanding new after
  breaks q = standing new t after its_slot low its_thread q.stand (record { along = q.along; fresh = q.fresh })

  pub goes : Went h new t g.own after.own after.table.items r.stand → Leads h.case (begin h.case) h.journal (both h) → Leads new.case (begin new.case) new.journal (both new) → (machine new).ending ≡ None → is_live (machine new) t ≡ false → IsReady new after
  goes q leads whole going dead =
      let adds = step_adds (Ok false) h new t g.own after.own after.table.items r.stand q in
      let all = subst (λ c. Leads c (begin c) new.journal (both new)) q.one.case whole in
      let split = subst (λ j. Leads h.case (begin h.case) j (both new)) adds.journal all in
      let half = halfway h.case (begin h.case) (both new) h.journal adds.entries split in
      let then = subst (λ b. Leads h.case b adds.entries (both new)) (leads_same h.case (begin h.case) half.middle (both h) h.journal half.before leads) half.after in
      let live = r.ready.along.going.live in
      let one : LivesOrNone (both new) t = own_lives h.case (both h) (both new) t adds.entries (whole_from h.case (both h) h.journal leads) then adds.own (inl live) in
      gone_ready new t after its_slot low its_thread (none_left (both new) t one dead) (still_born h.case h.journal adds.entries (both h) (both new) t leads split (live_born (life_at (machine h).library t) live)) q.one.told (q.gone going dead)

-- ---- a turn's end

module _ (h held new : HallOf) (t hold : ℕ) (g : Guest) (ages : List ℕ) (r : Runs h t g) (is : held ≡ record h { spare = held.spare }) (few : hold ≤ 255) (young : AreAges hold ages) (q : SettledBy held new t hold (data_of g.own) ages r.stand) where
  s : SettledBy h new t hold (data_of g.own) ages r.stand
  s = from_held h held held.spare new t hold (data_of g.own) ages r.stand is q

  pub settled_case : new.case ≡ h.case
  settled_case = s.case

  pub settled_going : (machine new).ending ≡ None
  settled_going = s.going.going

  pub settled_spends : Spends t 0 0 h.journal new.journal
  settled_spends = free_spends t h.journal new.journal (settle_free h.case t hold (turn_in h g.own.ages) (turn_in new ages) s.is_settled)

  pub settled_runs : Runs new t (record g { own = record g.own { ages = ages } })
  settled_runs = record {
    low = r.low;
    slot = r.slot;
    begun = r.begun;
    lives = ap (thread_in (machine new)) (sym r.slot) ∙ lives_there (machine new) t s.going.live;
    going = s.going.going;
    stand = r.stand;
    ready = record {
      along = record {
        going = s.going;
        with = subst (λ c. IsWith c (both new) t (record (data_of g.own) { ages = ages }) r.stand) (sym s.case) s.with;
        under = subst (λ c. IsUnder c.image g.own.at) (sym s.case) r.ready.along.under;
        kept = subst (λ c. AreKept c.image (both new).gate.grown g.table.items) (sym s.case) (subst (λ x. AreKept h.case.image x g.table.items) (sym s.grown) r.ready.along.kept);
      };
      grown = subst (λ c. HasGrown c.image (both new) (slot_of t)) (sym s.case) (s.settled r.ready.grown);
      fresh = older hold 255 ages few young;
    };
  }
