-- A hall after each kind of entry, and why its numbers fit.
use Rattle.std.proofs.Common.{◌≡◌, ℕ, ◌+◌, ◌<◌, ◌≤◌, ◌^◌, Bool, true, false, cond, List, ◌∷◌, length, Option, Some, None, refl, sym, ap, ◌∙◌, subst, arith, ◌==◌, ◌&&◌, ◌||◌}
use Rattle.std.specs.FinMap as map
use Rattle.std.specs.FinMap.{FinMap, get-insert, len-insert}
use Rattle.std.specs.Ordering.{nat_cmp}
use Rattle.std.specs.Cmp.{nat_cmp_total, unsigned_tied}
use Rattle.std.specs.Prelude.{is_some, option_map}
use Rattle.std.proofs.lemmas.Option.{cond_some, same_Some}
use Rattle.address_space.specs.Slots.{slot_of}
use Rattle.elf_image.specs.Layout.{ImageData}
use Rattle.basic_blocks.specs.Reach.{is_among}
use Rattle.journal_pack.specs.declared.entry.Entry.{Entry}
use Rattle.journal_pack.specs.declared.entry.Entry.TheVariants.{Ev, Tick, Flush, Wait, Miss, Grow, Over, Full, Dead}
use Rattle.journal_pack.specs.Entry.{private_of}
use Rattle.machine_model.specs.declared.ending.RunEnd.TheVariants as end
use Rattle.machine_model.specs.Step.{cpu_at}
use Rattle.machine_model.specs.Gated.{Both, most_grown}
use Rattle.machine_model.proofs.Counts.{time_played}
use Rattle.machine_model.proofs.Gates.{leads_play}
use Rattle.machine_model.proofs.Own.{lt_of, made_of}
use Rattle.miss_report.specs.declared.miss.Miss.{Miss as MissData}
use Rattle.hall_core.specs.Shared.{Fences, Need, SharedState, after_need, ended_by, flushed_in, missed_in, passed, shared_of}
use Rattle.hall_core.specs.Hall.{AreGrown, Comes, HallData, IsHall, Needs, NeedsAt, added, both, grown, machine, with_block}
use Rattle.hall_core.proofs.Leaves.{dead_shared, event_shared, flush_shared, full_shared, grow_shared, miss_shared, over_shared, tick_shared, wait_shared}
use Rattle.hall_core.proofs.Moved.{both_added, moved, moved_with}

-- what isn't found isn't there
pub none_found : {X Y : Type 0} (f : X → Y) (o : Option X) (r : Option Y) → is_some o ≡ false → option_map f o ≡ r → r ≡ None
none_found f None r e q = sym q
none_found f (Some x) r e q = absurd (cc)

-- ---- numbers

module _ {B : Type 0} where
  -- so many private steps at most
  pub few_steps : (h : HallData B) (e : Entry) → Comes h e → private_of e ≤ 4096
  few_steps h e comes = (made_of h.case (both h) comes.next e comes.step).is.few

  pub goes_on : (h : HallData B) (e : Entry) → Comes h e → (machine h).ending ≡ None
  goes_on h e comes = (made_of h.case (both h) comes.next e comes.step).is.going

  -- while the run goes on, the steps are at most the limit
  pub in_limit : (fits : ImageData → ℕ → B → Type 0) (h : HallData B) (s : SharedState) → IsHall fits h s → (machine h).ending ≡ None → s.steps ≤ 2 ^ 27
  in_limit fits h s is going =
      let time : (machine h).steps ≤ h.case.limit = time_played h.case h.journal (machine h) (leads_play h.case (both h) h.journal is.leads) going in
      let same : (machine h).steps ≡ s.steps = ap (λ (x : SharedState). x.steps) is.shared in
      omega (arith, time, same, is.limit)

  pub steps_fit : (fits : ImageData → ℕ → B → Type 0) (h : HallData B) (s : SharedState) (e : Entry) → IsHall fits h s → Comes h e → s.steps ≤ 2 ^ 27
  steps_fit fits h s e is comes = in_limit fits h s is (goes_on h e comes)

  -- ---- events

  pub event_moved : (fits : ImageData → ℕ → B → Type 0) (h : HallData B) (s : SharedState) (t k rip : ℕ) (need : Need) → IsHall fits h s → NeedsAt h t k rip need → Comes h (Ev t k) → IsHall fits (added h (Ev t k)) (after_need need (passed s (k + 1)) t rip)
  event_moved fits h s t k rip need is at comes =
      let n = at.needs in
      let e = event_shared h.case (both h) comes.next t k n.cpu need comes.step n.there n.wants in
      let shared : shared_of comes.next.machine ≡ after_need need (passed s (k + 1)) t rip = e ∙ ap (λ (x : ℕ). after_need need (passed (shared_of (machine h)) (k + 1)) t x) at.at ∙ ap (λ (x : SharedState). after_need need (passed x (k + 1)) t rip) is.shared in
      moved fits h s (after_need need (passed s (k + 1)) t rip) (Ev t k) is comes refl shared

  pub fence_moved : (fits : ImageData → ℕ → B → Type 0) (h : HallData B) (s : SharedState) (t k : ℕ) → IsHall fits h s → Needs h t k Fences → Comes h (Ev t k) → IsHall fits (added h (Ev t k)) (passed s (k + 1))
  fence_moved fits h s t k is needs comes = event_moved fits h s t k needs.cpu.rip Fences is (record { needs = needs; at = refl }) comes

  -- ---- the other kinds

  pub tick_moved : (fits : ImageData → ℕ → B → Type 0) (h : HallData B) (s : SharedState) (t k : ℕ) → IsHall fits h s → Comes h (Tick t k) → IsHall fits (added h (Tick t k)) (passed s k)
  tick_moved fits h s t k is comes = moved fits h s (passed s k) (Tick t k) is comes refl (tick_shared h.case (both h) comes.next t k comes.step ∙ ap (λ (x : SharedState). passed x k) is.shared)

  pub wait_moved : (fits : ImageData → ℕ → B → Type 0) (h : HallData B) (s : SharedState) (t k : ℕ) → IsHall fits h s → Comes h (Wait t k) → IsHall fits (added h (Wait t k)) (passed s k)
  wait_moved fits h s t k is comes = moved fits h s (passed s k) (Wait t k) is comes refl (wait_shared h.case (both h) comes.next t k comes.step ∙ ap (λ (x : SharedState). passed x k) is.shared)

  pub over_moved : (fits : ImageData → ℕ → B → Type 0) (h : HallData B) (s : SharedState) (t k : ℕ) → IsHall fits h s → Comes h (Over t k) → IsHall fits (added h (Over t k)) (ended_by (passed s k) end.Steps)
  over_moved fits h s t k is comes = moved fits h s (ended_by (passed s k) end.Steps) (Over t k) is comes refl (over_shared h.case (both h) comes.next t k comes.step ∙ ap (λ (x : SharedState). ended_by (passed x k) end.Steps) is.shared)

  pub miss_moved : (fits : ImageData → ℕ → B → Type 0) (h : HallData B) (s : SharedState) (t k source target : ℕ) → IsHall fits h s → Comes h (Miss t k source target) → IsHall fits (added h (Miss t k source target)) (missed_in h.case.strict (passed s (k + 1)) (record { thread = t; source = source; target = target }))
  miss_moved fits h s t k source target is comes =
      let miss : MissData = record { thread = t; source = source; target = target } in
      moved fits h s (missed_in h.case.strict (passed s (k + 1)) miss) (Miss t k source target) is comes refl (miss_shared h.case (both h) comes.next t k source target comes.step ∙ ap (λ (x : SharedState). missed_in h.case.strict (passed x (k + 1)) miss) is.shared)

  pub flush_moved : (fits : ImageData → ℕ → B → Type 0) (h : HallData B) (s : SharedState) (t : ℕ) → IsHall fits h s → Comes h (Flush t) → IsHall fits (added h (Flush t)) (flushed_in s (slot_of t))
  flush_moved fits h s t is comes = moved fits h s (flushed_in s (slot_of t)) (Flush t) is comes refl (flush_shared h.case (both h) comes.next t comes.step ∙ ap (λ (x : SharedState). flushed_in x (slot_of t)) is.shared)

  pub full_moved : (fits : ImageData → ℕ → B → Type 0) (h : HallData B) (s : SharedState) (t place : ℕ) → IsHall fits h s → Comes h (Full t) → (cpu_at (machine h) (slot_of t)).rip ≡ place → IsHall fits (added h (Full t)) (ended_by s (end.Full t place))
  full_moved fits h s t place is comes at = moved fits h s (ended_by s (end.Full t place)) (Full t) is comes refl (full_shared h.case (both h) comes.next t place comes.step at ∙ ap (λ (x : SharedState). ended_by x (end.Full t place)) is.shared)

  pub dead_moved : (fits : ImageData → ℕ → B → Type 0) (h : HallData B) (s : SharedState) → IsHall fits h s → Comes h Dead → IsHall fits (added h Dead) (ended_by s end.Deadlock)
  dead_moved fits h s is comes = moved fits h s (ended_by s end.Deadlock) Dead is comes refl (dead_shared h.case (both h) comes.next comes.step ∙ ap (λ (x : SharedState). ended_by x end.Deadlock) is.shared)

  -- ---- growth

  got : (m : FinMap nat_cmp B) (x y : ℕ) (v : B) → map.get (map.insert m x v) y ≡ cond (y == x) (Some v) (map.get m y)
  got m x y v = get-insert nat_cmp_total m x v y ∙ ap (λ t. cond t (Some v) (map.get m y)) (unsigned_tied y x)

  grown_more : (places : List ℕ) (m : FinMap nat_cmp B) (a : ℕ) (v : B) → map.get m a ≡ None → AreGrown places m → AreGrown (a ∷ places) (map.insert m a v)
  grown_more places m a v new filled = record {
    each = λ x. ap is_some (got m a x v) ∙ chosen x (x == a) ∙ ap (λ b. b || is_among places x) (same_eq x a);
    count = len-insert nat_cmp_total m a v ∙ ap (λ o. cond (is_some o) (map.len m) (map.len m + 1)) new ∙ ap (λ n. n + 1) filled.count ∙ omega arith;
  }
    where
      same_eq : (x a : ℕ) → (x == a) ≡ (a == x)
      same_eq x a = grind arith

      chosen : (x : ℕ) (b : Bool) → is_some (cond b (Some v) (map.get m x)) ≡ (b || is_among places x)
      chosen x true = refl
      chosen x false = filled.each x

  pub grow_moved : (fits : ImageData → ℕ → B → Type 0) (h : HallData B) (s : SharedState) (t a : ℕ) (v : B) → IsHall fits h s → Comes h (Grow t a) → map.get h.blocks a ≡ None → fits h.case.image a v → IsHall fits (with_block (added h (Grow t a)) a v) s
  grow_moved fits h s t a v is comes new right =
      let shared : shared_of (machine (added h (Grow t a))) ≡ s = ap (λ (x : Both). shared_of x.machine) (both_added h (Grow t a) comes) ∙ grow_shared h.case (both h) comes.next t a comes.step ∙ is.shared in
      subst (IsHall fits (with_block (added h (Grow t a)) a v)) shared (moved_with fits h s (Grow t a) (map.insert h.blocks a v) is comes (grown_more (grown h) h.blocks a v new is.grown) each)
    where
      by : (x : ℕ) (b : B) (q : Bool) → (x == a) ≡ q → cond q (Some v) (map.get h.blocks x) ≡ Some b → fits h.case.image x b
      by x b true e p = subst (λ z. fits h.case.image z b) (sym (grind (arith, e))) (subst (fits h.case.image a) (same_Some v b p) right)
      by x b false e p = is.right x b p

      each : (x : ℕ) (b : B) → map.get (map.insert h.blocks a v) x ≡ Some b → fits h.case.image x b
      each x b p = by x b (x == a) refl (sym (got h.blocks a x v) ∙ p)

  -- fewer places are grown than may be
  pub room_for : (fits : ImageData → ℕ → B → Type 0) (h : HallData B) (s : SharedState) (t a : ℕ) → IsHall fits h s → Comes h (Grow t a) → map.len h.blocks < 65536
  room_for fits h s t a is comes =
      let e = made_of h.case (both h) comes.next (Grow t a) comes.step in
      let test = (cond_some _ _ e.spot e.is.last).0 in
      let lt : length (grown h) < most_grown = lt_of (length (grown h)) most_grown (second _ _ test) in
      omega (arith, lt, is.grown.count)
    where
      second : (x y : Bool) → (x && y) ≡ true → y ≡ true
      second true y q = q
      second false y q = absurd (let z : false ≡ true = q in cc)
