-- What the marks and the library tell is that no thread can go on.
use Rattle.std.proofs.Common.{◌≡◌, ℕ, zero, suc, ◌+◌, ◌<◌, ◌≤◌, Bool, true, false, cond, not, ◌&&◌, ◌||◌, List, [], ◌∷◌, Option, Some, None, refl, sym, ap, ◌∙◌, arith}
use Rattle.std.specs.Prelude.{is_some}
use Rattle.std.specs.List.{list_all, range_with_len}
use Rattle.address_space.specs.Slots.{slot_of}
use Rattle.elf_image.specs.Layout.{ImageData}
use Rattle.lib_table.specs.declared.ask.Ask.{Ask}
use Rattle.lib_table.specs.declared.ask.Asked.TheVariants.{Lib}
use Rattle.lib_table.specs.Library.{thread_in}
use Rattle.lib_table.specs.Row.{waits}
use Rattle.tso_memory.specs.Tso.{is_none_waiting}
use Rattle.x86_model.specs.declared.want.Want.{Want}
use Rattle.x86_model.specs.declared.want.Want.TheVariants as wants
use Rattle.x86_model.specs.Want.{want}
use Rattle.journal_pack.specs.declared.entry.Entry.TheVariants.{Dead}
use Rattle.machine_model.specs.declared.ending.RunEnd.TheVariants as end
use Rattle.machine_model.specs.Conversions.{asked_at}
use Rattle.machine_model.specs.State.{Core, Machine, core_at, slots}
use Rattle.machine_model.specs.Step.{ask_of, asked_by, core_with, cpu_at, ended, is_deadlocked, is_in_use, is_stuck, waits_at, waits_for}
use Rattle.machine_model.specs.Gated.{gate_with, gated_steps, spot_at, stand_at, with_gate}
use Rattle.machine_model.proofs.NamesRounds.{thread_at_slot}
use Rattle.machine_model.proofs.Own.{advance_made}
use Rattle.machine_model.proofs.Slots.{lives_in}
use Rattle.hall_core.specs.Shared.{Asks, SharedState, are_stuck, is_stuck_in, need_of, shared_of, stuck_by}
use Rattle.hall_core.specs.Hall.{Comes, HallData, IsHall, StandsAt, both, is_dead, machine, mark_at}

-- ---- all slots

all_same : (p q : ℕ → Bool) (a n : ℕ) → ((u : ℕ) → a ≤ u → u < a + n → p u ≡ q u) → list_all p (range_with_len a n) ≡ list_all q (range_with_len a n)
all_same p q a zero h = refl
all_same p q a (suc n) h = rw (h a (omega arith) (omega arith), all_same p q (a + 1) n (λ u le lt. h u (omega arith) (omega arith))) refl

and_four : (a b c d : Bool) → ((a && b) && (c && d)) ≡ ((a && c) && (b && d))
and_four true true c d = elim c as (λ x. (x && d) ≡ ((true && x) && d)) [ true ↦ refl | false ↦ refl ]
and_four true false c d = elim c as (λ x. false ≡ ((true && x) && false)) [ true ↦ refl | false ↦ refl ]
and_four false b c d = refl

all_both : (p q : ℕ → Bool) (xs : List ℕ) → list_all (λ u. p u && q u) xs ≡ (list_all p xs && list_all q xs)
all_both p q [] = refl
all_both p q (x ∷ xs) = ap (λ r. (p x && q x) && r) (all_both p q xs) ∙ and_four (p x) (q x) (list_all p xs) (list_all q xs)

and_assoc : (a b c : Bool) → ((a && b) && c) ≡ (a && (b && c))
and_assoc true b c = refl
and_assoc false b c = refl

-- ---- one slot

-- the request that a thread's want is
asks_wait : (w : Want) (m : Machine) (t : ℕ) (core : Core) (ask : Ask) → need_of core w ≡ Asks ask → waits_for m t core (asked_by w) ≡ waits m.library m.tso.memory t ask
asks_wait (wants.Private next) m t core ask e = absurd (cc)
asks_wait (wants.Load a w) m t core ask e = absurd (cc)
asks_wait (wants.Store a w value next) m t core ask e = absurd (cc)
asks_wait (wants.Fence next) m t core ask e = absurd (cc)
asks_wait (wants.Locked a w change) m t core ask e = absurd (cc)
asks_wait (wants.Call f) m t core ask e = ap (λ x. waits m.library m.tso.memory t x) (same_ask e)
  where
    same_ask : Asks (ask_of core (Lib f)) ≡ Asks ask → ask_of core (Lib f) ≡ ask
    same_ask q = cc
asks_wait (wants.Door d) m t core ask e = ap (λ x. waits m.library m.tso.memory t x) (same_ask e)
  where
    same_ask : Asks (ask_of core (asked_at d)) ≡ Asks ask → ask_of core (asked_at d) ≡ ask
    same_ask q = cc
asks_wait (wants.Bad kind) m t core ask e = absurd (cc)

-- a marked thread waits at its mark exactly where the machine says that it is stuck
marked_waits : (image : ImageData) (m : Machine) (u t : ℕ) (ask : Ask) → slot_of t ≡ u → StandsAt image m u ask → waits m.library m.tso.memory t ask ≡ waits_at image m t (cpu_at m u)
marked_waits image m u t ask at h =
    let core : core_with m t (cpu_at m u) ≡ core_at m u = ap (λ (x : ℕ). record (core_at m x) { cpu = cpu_at m u }) at in
    sym (ap (λ (x : Core). waits_for m t x (asked_by (want image (cpu_at m u)))) core ∙ asks_wait (want image (cpu_at m u)) m t (core_at m u) ask h.asks)

stuck_here : (image : ImageData) (m : Machine) (u : ℕ) (who : Option ℕ) (mark : Option Ask) (used : Bool) → u < 64 → thread_in m.library u ≡ who → is_some who ≡ used → ((ask : Ask) → mark ≡ Some ask → StandsAt image m u ask) → stuck_by (shared_of m) who mark ≡ ((not used || is_some mark) && is_stuck image m u who)
stuck_here image m u None mark used low is e stands = ap (λ b. (not b || is_some mark) && true) e
stuck_here image m u (Some t) None used low is e stands = ap (λ b. (not b || false) && is_stuck image m u (Some t)) e
stuck_here image m u (Some t) (Some ask) used low is e stands =
    marked_waits image m u t ask (thread_at_slot m u t low is).0 (stands ask refl) ∙ and_true used (waits_at image m t (cpu_at m u))
  where
    and_true : (b c : Bool) → c ≡ ((not b || true) && c)
    and_true true c = refl
    and_true false c = refl

module _ {B : Type 0} where
  stuck_at : (fits : ImageData → ℕ → B → Type 0) (h : HallData B) (s : SharedState) → IsHall fits h s → (u : ℕ) → u < 64 → is_stuck_in (shared_of (machine h)) h.marks u ≡ ((not (is_in_use (machine h).library u) || is_some (mark_at h u)) && is_stuck h.case.image (machine h) u (thread_in (machine h).library u))
  stuck_at fits h s is u low = stuck_here h.case.image (machine h) u (thread_in (machine h).library u) (mark_at h u) (is_in_use (machine h).library u) low refl (lives_in (machine h).library u) (λ ask e. is.marks u ask e)

  pub dead_here : (fits : ImageData → ℕ → B → Type 0) (h : HallData B) (s : SharedState) → IsHall fits h s → are_stuck s h.marks ≡ is_dead h
  unfolding slots
  dead_here fits h s is =
      let m = machine h in
      let empty = list_all is_none_waiting m.tso.buffers in
      let p : ℕ → Bool = λ u. not (is_in_use m.library u) || is_some (mark_at h u) in
      let q : ℕ → Bool = λ u. is_stuck h.case.image m u (thread_in m.library u) in
      ap (λ (x : SharedState). are_stuck x h.marks) (sym is.shared)
      ∙ ap (λ b. b && empty) (all_same (is_stuck_in (shared_of m) h.marks) (λ u. p u && q u) 0 64 (λ u _ lt. stuck_at fits h s is u (omega arith)) ∙ all_both p q slots)
      ∙ and_assoc (list_all p slots) (list_all q slots) empty

  pub dead_comes : (h : HallData B) → (machine h).ending ≡ None → is_dead h ≡ true → Comes h Dead
  unfolding gated_steps
  dead_comes h going dead =
      let locked : is_deadlocked h.case.image (machine h) ≡ true = second _ _ dead in
      record {
        next = with_gate (ended (machine h) end.Deadlock) (gate_with Dead (both h).gate (spot_at (both h).gate 64));
        step = advance_made h.case (both h) Dead (stand_at (both h) 64) (ended (machine h) end.Deadlock) (spot_at (both h).gate 64) (record {
          going = going;
          live = refl;
          few = omega arith;
          ahead = refl;
          made = ap (λ b. cond b (Some (ended (machine h) end.Deadlock)) None) locked;
          last = refl;
        });
        allowed = tt;
      }
    where
      second : (x y : Bool) → (x && y) ≡ true → y ≡ true
      second true y q = q
      second false y q = absurd (let z : false ≡ true = q in cc)
