-- What a request needs of the library, and where a marked thread stands.
use Rattle.std.proofs.Common.{◌≡◌, ℕ, ◌<◌, ◌≤◌, ◌==◌, Bool, true, false, cond, length, Some, None, refl, sym, ap, ◌∙◌, subst, arith, inl, inr, slice_set, if◌then◌else◌}
use Rattle.std.proofs.lemmas.Bool.{cases_eq, cases_lt}
use Rattle.std.proofs.lemmas.List.{get_or-set_same, get_or-set_other, get_or_past, length-set}
use Rattle.std.proofs.lemmas.Option.{none-some, same_Some}
use Rattle.address_space.specs.Slots.{slot_of}
use Rattle.elf_image.specs.Layout.{ImageData}
use Rattle.lib_table.specs.declared.ask.Ask.{Ask}
use Rattle.lib_table.specs.declared.ask.Asked.{Asked}
use Rattle.lib_table.specs.declared.ask.Asked.TheVariants.{Lib}
use Rattle.lib_table.specs.declared.answer.Stepped.{Stepped}
use Rattle.lib_table.specs.declared.answer.Stepped.TheVariants as stepped
use Rattle.lib_table.specs.Library.{LibraryData}
use Rattle.lib_table.specs.Row.{is_waiting, row, waits}
use Rattle.lib_table.specs.Steps.{CanAsk, told}
use Rattle.tso_memory.specs.Memory.{Memory}
use Rattle.journal_pack.specs.declared.entry.Entry.{Entry}
use Rattle.journal_pack.specs.declared.entry.Entry.TheVariants.{Ev, Wait}
use Rattle.journal_pack.specs.Entry.{thread_of}
use Rattle.x86_model.specs.declared.cpu.Cpu.{Cpu}
use Rattle.x86_model.specs.declared.want.Want.{Want}
use Rattle.x86_model.specs.declared.want.Want.TheVariants as wants
use Rattle.x86_model.specs.Want.{want}
use Rattle.machine_model.specs.Conversions.{asked_at}
use Rattle.machine_model.specs.State.{Core, core_at, is_live}
use Rattle.machine_model.specs.Step.{after_private, ask_of, asked_by, core_with, cpu_at, is_in_use, lives}
use Rattle.machine_model.specs.Gated.{Both, Leads, Stand, begin, stand_at}
use Rattle.machine_model.proofs.Calls as calls
use Rattle.machine_model.proofs.Calls.{calls_played}
use Rattle.machine_model.proofs.Counts.{numbers_played}
use Rattle.machine_model.proofs.Gates.{leads_play}
use Rattle.machine_model.proofs.Own.{made_of, steps_private, whole_from}
use Rattle.machine_model.proofs.OwnKinds.{wait_own}
use Rattle.machine_model.proofs.Settled.{live_slot}
use Rattle.hall_core.specs.Shared.{Asks, Need, SharedState, has_to_wait, need_of}
use Rattle.hall_core.specs.Hall.{Comes, HallData, IsHall, Needs, NeedsAt, StandsAt, added, both, machine, mark_in, with_mark}
use Rattle.hall_core.proofs.Leaves.{no_steps}
use Rattle.hall_core.proofs.Moved.{both_added}

-- what is asked of the library, by what a thread needs
asked_of : (w : Want) (core : Core) (ask : Ask) → need_of core w ≡ Asks ask → (what : Asked) × (ask_of core what ≡ ask)
asked_of (wants.Private next) core ask e = absurd (cc)
asked_of (wants.Load a w) core ask e = absurd (cc)
asked_of (wants.Store a w value next) core ask e = absurd (cc)
asked_of (wants.Fence next) core ask e = absurd (cc)
asked_of (wants.Locked a w change) core ask e = absurd (cc)
asked_of (wants.Call f) core ask e = (Lib f, same_ask e)
  where
    same_ask : Asks (ask_of core (Lib f)) ≡ Asks ask → ask_of core (Lib f) ≡ ask
    same_ask q = cc
asked_of (wants.Door d) core ask e = (asked_at d, same_ask e)
  where
    same_ask : Asks (ask_of core (asked_at d)) ≡ Asks ask → ask_of core (asked_at d) ≡ ask
    same_ask q = cc
asked_of (wants.Bad kind) core ask e = absurd (cc)

told_waits : (step : Stepped) (l : LibraryData) (m : Memory) → is_waiting (told step l m) ≡ has_to_wait step
told_waits (stepped.Done called) l m = refl
told_waits stepped.Waits l m = refl
told_waits (stepped.Bad kind) l m = refl

-- a request is what a thread needs that wants it
pub asks_so : (w : Want) (core : Core) (what : Asked) → asked_by w ≡ Some what → need_of core w ≡ Asks (ask_of core what)
asks_so (wants.Private next) core what e = absurd (none-some _ e)
asks_so (wants.Load a w) core what e = absurd (none-some _ e)
asks_so (wants.Store a w value next) core what e = absurd (none-some _ e)
asks_so (wants.Fence next) core what e = absurd (none-some _ e)
asks_so (wants.Locked a w change) core what e = absurd (none-some _ e)
asks_so (wants.Call f) core what e = ap (λ (x : Asked). Asks (ask_of core x)) (same_Some _ what e)
asks_so (wants.Door d) core what e = ap (λ (x : Asked). Asks (ask_of core x)) (same_Some _ what e)
asks_so (wants.Bad kind) core what e = absurd (none-some _ e)

module _ {B : Type 0} where
  pub can_ask : (fits : ImageData → ℕ → B → Type 0) (h : HallData B) (s : SharedState) (t k : ℕ) (ask : Ask) → IsHall fits h s → (machine h).ending ≡ None → Needs h t k (Asks ask) → CanAsk s.library t ask
  can_ask fits h s t k ask is going needs =
      let played = leads_play h.case (both h) h.journal is.leads in
      let numbers = numbers_played h.case h.journal (machine h) is.limit played going in
      let a = asked_of (want h.case.image needs.cpu) (core_with (machine h) t needs.cpu) ask needs.wants in
      let can = calls.can_ask (machine h) t needs.cpu a.0 (calls_played h.case h.journal (machine h) played) needs.live numbers.0 numbers.1 in
      subst (λ (x : SharedState). CanAsk x.library t ask) is.shared (subst (CanAsk (machine h).library t) a.1 can)

  -- a request that doesn't have to wait is an entry that may come
  pub may_go : (fits : ImageData → ℕ → B → Type 0) (h : HallData B) (s : SharedState) (t k : ℕ) (ask : Ask) (step : Stepped) (l : LibraryData) (m : Memory) → IsHall fits h s → row s.library s.tso.memory t ask ≡ told step l m → has_to_wait step ≡ false → (waits (machine h).library (machine h).tso.memory t ask ≡ false → Comes h (Ev t k)) → Comes h (Ev t k)
  may_go fits h s t k ask step l m is there goes comes = comes (ap (λ (x : SharedState). waits x.library x.tso.memory t ask) is.shared ∙ ap is_waiting there ∙ told_waits step l m ∙ goes)

  -- ---- marks

  stands_now : (h : HallData B) (t : ℕ) (ask : Ask) → Needs h t 0 (Asks ask) → StandsAt h.case.image (machine h) (slot_of t) ask
  stands_now h t ask needs =
      let same : cpu_at (machine h) (slot_of t) ≡ needs.cpu = no_steps h.case.image _ needs.cpu needs.there in
      record {
        live = live_slot (machine h) t needs.live;
        asks = subst (λ (x : Cpu). need_of (core_with (machine h) t x) (want h.case.image x) ≡ Asks ask) (sym same) needs.wants;
      }

  stands_then : (h : HallData B) (t k : ℕ) (ask : Ask) → Leads h.case (begin h.case) h.journal (both h) → Needs h t k (Asks ask) → Comes h (Wait t k) → StandsAt h.case.image (machine (added h (Wait t k))) (slot_of t) ask
  stands_then h t k ask leads needs comes =
      let e = made_of h.case (both h) comes.next (Wait t k) comes.step in
      let left = wait_own h.case (both h) comes.next t k e.stand (whole_from h.case (both h) h.journal leads) comes.step e.is.ahead in
      let led = steps_private h.case.image (both h).gate.grown k (stand_at (both h) (slot_of t)) e.stand e.is.ahead in
      let cpu : e.stand.cpu ≡ needs.cpu = same_Some e.stand.cpu needs.cpu (sym led ∙ needs.there) in
      let here : cpu_at comes.next.machine (slot_of t) ≡ needs.cpu = ap (λ (x : Stand). x.cpu) left.0.stand ∙ cpu in
      let core : core_at comes.next.machine (slot_of t) ≡ core_with (machine h) t needs.cpu = whole_core (core_at comes.next.machine (slot_of t)) (core_at (machine h) (slot_of t)) needs.cpu here left.0.frames in
      let there : StandsAt h.case.image comes.next.machine (slot_of t) ask = record {
        live = ap (λ l. is_in_use l (slot_of t)) left.1.library ∙ live_slot (machine h) t needs.live;
        asks = ap (λ (x : Core). need_of x (want h.case.image x.cpu)) core ∙ needs.wants;
      } in
      subst (λ (x : Both). StandsAt h.case.image x.machine (slot_of t) ask) (sym (both_added h (Wait t k) comes)) there
    where
      whole_core : (c d : Core) (cpu : Cpu) → c.cpu ≡ cpu → c.frames ≡ d.frames → c ≡ record d { cpu = cpu }
      whole_core c d cpu p q = rw (sym p, sym q) refl

  -- a thread stands at its request after the private steps before it
  pub stands_after : (h n : HallData B) (t k : ℕ) (ask : Ask) → Leads h.case (begin h.case) h.journal (both h) → Needs h t k (Asks ask) → (0 < k → Comes h (Wait t k)) → n ≡ (if k == 0 then h else added h (Wait t k)) → StandsAt n.case.image (machine n) (slot_of t) ask
  stands_after h n t k ask leads needs comes after = subst (λ (x : HallData B). StandsAt x.case.image (machine x) (slot_of t) ask) (sym after) (by (k == 0) refl)
    where
      by : (b : Bool) → (k == 0) ≡ b → (let x : HallData B = cond b h (added h (Wait t k)) in StandsAt x.case.image (machine x) (slot_of t) ask)
      by true e = let z : k ≡ 0 = grind (arith, e) in stands_now h t ask (subst (λ x. Needs h t x (Asks ask)) z needs)
      by false e = let z : 0 < k = grind (arith, e) in stands_then h t k ask leads needs (comes z)

  pub marked : (fits : ImageData → ℕ → B → Type 0) (h : HallData B) (s : SharedState) (u : ℕ) (ask : Ask) → IsHall fits h s → StandsAt h.case.image (machine h) u ask → IsHall fits (with_mark h u (Some ask)) s
  marked fits h s u ask is stands = record {
    leads = is.leads;
    shared = is.shared;
    grown = is.grown;
    right = is.right;
    marks = λ v x m. each v x m;
    marked = length-set h.marks u (Some ask) ∙ is.marked;
    limit = is.limit;
  }
    where
      here : (v : ℕ) (x : Ask) → v ≡ u → mark_in (slice_set h.marks u (Some ask)) v ≡ Some x → StandsAt h.case.image (machine h) v x
      here v x e m =
          let q : mark_in (slice_set h.marks u (Some ask)) u ≡ Some x = subst (λ z. mark_in (slice_set h.marks u (Some ask)) z ≡ Some x) e m in
          elim (cases_lt u (length h.marks)) [
            | inl lt ↦ subst (λ z. StandsAt h.case.image (machine h) z x) (sym e) (subst (StandsAt h.case.image (machine h) u) (same_Some ask x (sym (get_or-set_same h.marks u (Some ask) None lt) ∙ q)) stands)
            | inr le ↦ absurd (none-some _ (sym (get_or_past (slice_set h.marks u (Some ask)) u None (subst (λ z. z ≤ u) (sym (length-set h.marks u (Some ask))) le)) ∙ q))
          ]

      each : (v : ℕ) (x : Ask) → mark_in (slice_set h.marks u (Some ask)) v ≡ Some x → StandsAt h.case.image (machine h) v x
      each v x m =
          elim (cases_eq v u) [
            | inl e ↦ here v x e m
            | inr ne ↦ is.marks v x (sym (get_or-set_other h.marks u v (Some ask) None ne) ∙ m)
          ]

  -- ---- conditions

  -- a live thread that wants this after k private steps
  pub needs_so : (h : HallData B) (t k : ℕ) (cpu : Cpu) (w : Want) (need : Need) → is_live (machine h) t ≡ true → after_private h.case.image k (cpu_at (machine h) (slot_of t)) ≡ Some cpu → want h.case.image cpu ≡ w → need_of (core_with (machine h) t cpu) w ≡ need → NeedsAt h t k cpu.rip need
  needs_so h t k cpu w need live there wanted is = record {
    needs = record {
      live = live;
      cpu = cpu;
      there = there;
      wants = ap (λ (x : Want). need_of (core_with (machine h) t cpu) x) wanted ∙ is;
    };
    at = refl;
  }

  -- the thread of an entry that may come lives
  pub lives_there : (h : HallData B) (e : Entry) → Comes h e → lives (machine h) (thread_of e) ≡ true
  lives_there h e comes = (made_of h.case (both h) comes.next e comes.step).is.live
