-- Numbers fit: how often slots were used, how many rounds were drawn, and how many steps were made.
use Rattle.std.proofs.Common.{◌≡◌, ℕ, zero, suc, ◌+◌, ◌-◌, ◌<◌, ◌≤◌, ◌^◌, Bool, true, false, List, [], ◌∷◌, Option, Some, None, refl, ap, subst, arith, slice_index_or, replicate}
use Rattle.std.specs.Prelude.{nat_lt, nat_le, is_none, ◌&&◌}
use Rattle.std.proofs.lemmas.Bool.Decides.{nat_tests}
use Rattle.std.proofs.lemmas.Option.{option_and_then_some, none-some, same_Some, cond_some}
use Rattle.address_space.specs.Slots.{slot_of, number_in}
use Rattle.lib_table.specs.declared.ask.Asked.{Asked}
use Rattle.lib_table.specs.declared.ask.Asked.TheVariants.{Lib}
use Rattle.lib_table.specs.Library.{LibraryData, HasNumbers, is_unborn, new_slot, slot_at}
use Rattle.lib_table.specs.Outcome.{RowResult, Done, Waits, Bad}
use Rattle.tso_memory.specs.declared.change.Change.{Change}
use Rattle.tso_memory.specs.declared.write.PendingWrite.{PendingWrite}
use Rattle.tso_memory.specs.Buffer.{pending, size_of}
use Rattle.tso_memory.specs.declared.access.Access.TheVariants as access
use Rattle.tso_memory.specs.Tso.{is_none_waiting}
use Rattle.x86_model.specs.declared.cpu.Cpu.{Cpu}
use Rattle.x86_model.specs.declared.want.Want.{Want}
use Rattle.x86_model.specs.declared.want.Want.TheVariants as wants
use Rattle.x86_model.specs.Want.{want}
use Rattle.journal_pack.specs.declared.entry.Entry.{Entry}
use Rattle.journal_pack.specs.declared.entry.Entry.TheVariants.{Ev, Tick, Flush, Wait, Miss, Grow, Over, Full, Dead}
use Rattle.journal_pack.specs.Entry.{private_of, thread_of}
use Rattle.machine_model.specs.declared.ending.RunEnd.{RunEnd}
use Rattle.machine_model.specs.declared.ending.RunEnd.TheVariants as end
use Rattle.lib_table.specs.declared.life.Life.{Life}
use Rattle.lib_table.specs.declared.life.Life.TheVariants.{Unborn, Live, Ended, Joined}
use Rattle.machine_model.specs.CaseData.{CaseData}
use Rattle.machine_model.specs.Conversions.{memory_width_of, memory_change_of, asked_at}
use Rattle.machine_model.specs.State.{Core, Machine, IsSized, is_live, list_at, start, with_core}
use Rattle.machine_model.specs.Step.{loaded, stored, exchanged, flushed, newborn, with_birth, row_at, ask_of, core_with, served, serving, carried_out, later, missed, refused, slot_in, lives, admits, after_private, cpu_at, step_from, step}
use Rattle.machine_model.specs.Play.{play}
use Rattle.machine_model.proofs.Independence.{HasSlots, if_some}
use Rattle.machine_model.proofs.RowLives.{age, stage, row_stays}
use Rattle.machine_model.proofs.Costs.{both_of}
use Rattle.machine_model.proofs.Sizes.{sized_at_start, sized_stays, walked}

-- each slot was used at most a third as often as steps were made, and rounds were drawn no more often
pub record IsCounted (m : Machine) : Type 0 where
  pub slots : (s : ℕ) → age (slot_at m.library s) ≤ m.steps + 1
  pub rounds : m.library.rooms.rounds ≤ m.steps

-- one step's growth
record Grows (m n : Machine) (k : ℕ) : Type 0 where
  slots : (s : ℕ) → age (slot_at n.library s) ≤ age (slot_at m.library s) + k
  rounds : n.library.rooms.rounds ≤ m.library.rooms.rounds + k
  steps : n.steps ≡ m.steps

same_library : (m n : Machine) (k : ℕ) → n.library ≡ m.library → n.steps ≡ m.steps → Grows m n k
same_library m n k e f = record { slots = λ s. let q = ap (λ (l : LibraryData). age (slot_at l s)) e in omega arith; rounds = let q = ap (λ (l : LibraryData). l.rooms.rounds) e in omega arith; steps = f }

grows_loaded : (m : Machine) (t : ℕ) (cpu : Cpu) (a n : ℕ) (o : Option ℕ) → Grows m (loaded m t cpu a n o) 1
grows_loaded m t cpu a n None = same_library m _ 1 refl refl
grows_loaded m t cpu a n (Some x) = same_library m _ 1 refl refl

grows_stored : (m : Machine) (t : ℕ) (cpu : Cpu) (write : PendingWrite) (next : Cpu) (o : Option ℕ) → Grows m (stored m t cpu write next o) 1
grows_stored m t cpu write next None = same_library m _ 1 refl refl
grows_stored m t cpu write next (Some x) = same_library m _ 1 refl refl

grows_exchanged : (m : Machine) (t : ℕ) (cpu : Cpu) (a n : ℕ) (change : Change) (o : Option ℕ) → Grows m (exchanged m t cpu a n change o) 1
grows_exchanged m t cpu a n change None = same_library m _ 1 refl refl
grows_exchanged m t cpu a n change (Some x) = same_library m _ 1 refl refl

grows_birth : (m n : Machine) (o : Option ℕ) → Grows m n 1 → Grows m (with_birth n o) 1
grows_birth m n None g = g
grows_birth m n (Some v) g = record { slots = g.slots; rounds = g.rounds; steps = g.steps }

grows_served : (m n : Machine) (t : ℕ) (core : Core) (what : Asked) (r : RowResult) → HasSlots m → is_live m t ≡ true → row_at m t core what ≡ r → served m t core what r ≡ Some n → Grows m n 1
grows_served m n t core what (Done after memory answer) sized live e p =
    subst (λ x. Grows m x 1) (same_Some _ n p) (grows_birth m _ (newborn m.library after) (record {
      slots = λ s. (row_stays m.library after m.tso.memory memory t s (ask_of core what) answer sized e).older live;
      rounds = (row_stays m.library after m.tso.memory memory t 0 (ask_of core what) answer sized e).rounds;
      steps = refl;
    }))
grows_served m n t core what Waits sized live e p = absurd (none-some n p)
grows_served m n t core what (Bad kind) sized live e p = subst (λ x. Grows m x 1) (same_Some _ n p) (same_library m _ 1 refl refl)

grows_serving : (m n : Machine) (t : ℕ) (core : Core) (what : Asked) → HasSlots m → is_live m t ≡ true → serving m t core what ≡ Some n → Grows m n 1
grows_serving m n t core what sized live p = grows_served m n t core what (row_at m t core what) sized live refl ((if_some (is_none_waiting (list_at m (slot_of t))) _ n p).1)

grows_carried : (w : Want) (m n : Machine) (t : ℕ) (cpu : Cpu) → HasSlots m → is_live m t ≡ true → carried_out w m t cpu ≡ Some n → Grows m n 1
grows_carried (wants.Private next) m n t cpu sized live p = absurd (none-some n p)
grows_carried (wants.Load a w) m n t cpu sized live p = subst (λ x. Grows m x 1) (same_Some _ n p) (grows_loaded m t cpu a (size_of (memory_width_of w)) (refused m access.Load a (size_of (memory_width_of w))))
grows_carried (wants.Store a w value next) m n t cpu sized live p = subst (λ x. Grows m x 1) (same_Some _ n p) (grows_stored m t cpu (pending a (memory_width_of w) value) next (refused m access.Store a (size_of (memory_width_of w))))
grows_carried (wants.Fence next) m n t cpu sized live p = subst (λ x. Grows m x 1) (cond_some (is_none_waiting (list_at m (slot_of t))) _ n p).1 (same_library m _ 1 refl refl)
grows_carried (wants.Locked a w change) m n t cpu sized live p = subst (λ x. Grows m x 1) (cond_some (is_none_waiting (list_at m (slot_of t))) _ n p).1 (grows_exchanged m t cpu a (size_of (memory_width_of w)) (memory_change_of change) (refused m access.Locked a (size_of (memory_width_of w))))
grows_carried (wants.Call f) m n t cpu sized live p = grows_serving m n t (core_with m t cpu) (Lib f) sized live p
grows_carried (wants.Door d) m n t cpu sized live p = grows_serving m n t (core_with m t cpu) (asked_at d) sized live p
grows_carried (wants.Bad kind) m n t cpu sized live p = subst (λ x. Grows m x 1) (same_Some _ n p) (same_library m _ 1 refl refl)

-- ---- entries

-- the library is as it was, and at least as many steps were made
counted_on : (m n : Machine) → n.library ≡ m.library → m.steps ≤ n.steps → IsCounted m → IsCounted n
counted_on m n e more h = record {
  slots = λ s. let q = ap (λ (l : LibraryData). age (slot_at l s)) e in let r = h.slots s in omega arith;
  rounds = let q = ap (λ (l : LibraryData). l.rooms.rounds) e in let r = h.rounds in omega arith;
}

counted_event : (m n : Machine) (k : ℕ) → Grows (later m (k + 1)) n 1 → IsCounted m → IsCounted n
counted_event m n k g h = record {
  slots = λ s. let q = g.slots s in let r = h.slots s in let w = g.steps in omega arith;
  rounds = let q = g.rounds in let r = h.rounds in let w = g.steps in omega arith;
}

counted_missed : (strict : Bool) (m : Machine) (s t : ℕ) (core : Core) (k source target : ℕ) → IsCounted m → IsCounted (missed strict (later (with_core m s core) k) (record { thread = t; source = source; target = target }))
counted_missed true m s t core k source target h = counted_on m _ refl (omega arith) h
counted_missed false m s t core k source target h = counted_on m _ refl (omega arith) h

counted_flushed : (m n : Machine) (s : ℕ) (writes : List PendingWrite) → IsCounted m → flushed m s writes ≡ Some n → IsCounted n
counted_flushed m n s [] h p = absurd (none-some n p)
counted_flushed m n s (w ∷ ws) h p = subst IsCounted (same_Some _ n p) (counted_on m _ refl (omega arith) h)

counted_from : (c : CaseData) (m n : Machine) (e : Entry) (cpu : Cpu) → HasSlots m → lives m (thread_of e) ≡ true → IsCounted m → step_from c m e cpu ≡ Some n → IsCounted n
counted_from c m n (Ev t k) cpu sized live h p = counted_event m n k (grows_carried (want c.image cpu) (later m (k + 1)) n t cpu sized live ((if_some _ _ n p).1)) h
counted_from c m n (Tick t k) cpu sized live h p = subst IsCounted ((cond_some _ _ n p).1) (counted_on m _ refl (omega arith) h)
counted_from c m n (Flush t) cpu sized live h p = counted_flushed m n (slot_of t) (list_at m (slot_of t)) h p
counted_from c m n (Wait t k) cpu sized live h p = subst IsCounted ((cond_some _ _ n p).1) (counted_on m _ refl (omega arith) h)
counted_from c m n (Miss t k source target) cpu sized live h p = subst IsCounted ((cond_some _ _ n p).1) (counted_missed c.strict m (slot_of t) t _ (k + 1) source target h)
counted_from c m n (Grow t a) cpu sized live h p = subst IsCounted ((cond_some _ _ n p).1) h
counted_from c m n (Over t k) cpu sized live h p = subst IsCounted ((cond_some _ _ n p).1) (counted_on m _ refl (omega arith) h)
counted_from c m n (Full t) cpu sized live h p = subst IsCounted ((cond_some _ _ n p).1) (counted_on m _ refl (omega arith) h)
counted_from c m n Dead cpu sized live h p = subst IsCounted ((cond_some _ _ n p).1) (counted_on m _ refl (omega arith) h)

pub counted_stays : (c : CaseData) (m n : Machine) (e : Entry) → HasSlots m → IsCounted m → step c m e ≡ Some n → IsCounted n
unfolding step
counted_stays c m n e sized h p =
    let q = if_some (admits m e) _ n p in
    option_and_then_some (step_from c m e) (after_private c.image (private_of e) (cpu_at m (slot_in e))) n q.1
    (λ cpu w r. counted_from c m n e cpu sized (both_of _ _ (both_of _ _ q.0).0).1 h r)

young : (k s : ℕ) → age (slice_index_or (replicate k new_slot) s new_slot) ≡ 0
young zero s = refl
young (suc k) zero = refl
young (suc k) (suc s) = young k s

first_age : (c : CaseData) (s : ℕ) → age (slot_at (start c).library s) ≤ 1
unfolding start
first_age c zero = omega arith
first_age c (suc s) = let y = young 63 s in omega arith

pub counted_at_start : (c : CaseData) → IsCounted (start c)
unfolding start
counted_at_start c = record { slots = first_age c; rounds = omega arith }

pub counted_played : (c : CaseData) (journal : List Entry) (m : Machine) → play c journal ≡ Some m → IsCounted m
unfolding play
counted_played c journal m p = (walked (λ x. IsSized x × IsCounted x) c (λ x n e h q. (sized_stays c x n e h.0 q, counted_stays c x n e h.0.slots h.1 q)) (start c) m journal (sized_at_start c, counted_at_start c) p).1

-- ---- what follows of numbers

-- while the run goes on, at most as many steps were made as the limit is
abbrev pub InTime : CaseData → Machine → Type 0
InTime c m = m.ending ≡ None → m.steps ≤ c.limit

is_below : (a b : ℕ) → nat_lt a b ≡ true → a < b
is_below a b h = grind (arith, nat_tests, h)

ended_not : (e : RunEnd) {P : Type 0} → Some e ≡ None → P
ended_not e h = absurd (let q : Some e ≡ None = h in cc)

birth_steps : (n : Machine) (o : Option ℕ) → (with_birth n o).steps ≡ n.steps
birth_steps n None = refl
birth_steps n (Some v) = refl

served_steps : (m n : Machine) (t : ℕ) (core : Core) (what : Asked) (r : RowResult) → served m t core what r ≡ Some n → n.steps ≡ m.steps
served_steps m n t core what (Done after memory answer) p = subst (λ x. x.steps ≡ m.steps) (same_Some _ n p) (birth_steps _ (newborn m.library after))
served_steps m n t core what Waits p = absurd (none-some n p)
served_steps m n t core what (Bad kind) p = subst (λ x. x.steps ≡ m.steps) (same_Some _ n p) refl

steps_of : (w : Want) (m n : Machine) (t : ℕ) (cpu : Cpu) → carried_out w m t cpu ≡ Some n → n.steps ≡ m.steps
steps_of (wants.Private next) m n t cpu p = absurd (none-some n p)
steps_of (wants.Load a w) m n t cpu p = subst (λ x. x.steps ≡ m.steps) (same_Some _ n p) (grows_loaded m t cpu a (size_of (memory_width_of w)) (refused m access.Load a (size_of (memory_width_of w)))).steps
steps_of (wants.Store a w value next) m n t cpu p = subst (λ x. x.steps ≡ m.steps) (same_Some _ n p) (grows_stored m t cpu (pending a (memory_width_of w) value) next (refused m access.Store a (size_of (memory_width_of w)))).steps
steps_of (wants.Fence next) m n t cpu p = subst (λ x. x.steps ≡ m.steps) (cond_some (is_none_waiting (list_at m (slot_of t))) _ n p).1 refl
steps_of (wants.Locked a w change) m n t cpu p = subst (λ x. x.steps ≡ m.steps) (cond_some (is_none_waiting (list_at m (slot_of t))) _ n p).1 (grows_exchanged m t cpu a (size_of (memory_width_of w)) (memory_change_of change) (refused m access.Locked a (size_of (memory_width_of w)))).steps
steps_of (wants.Call f) m n t cpu p = served_steps m n t (core_with m t cpu) (Lib f) (row_at m t (core_with m t cpu) (Lib f)) ((if_some (is_none_waiting (list_at m (slot_of t))) _ n p).1)
steps_of (wants.Door d) m n t cpu p = served_steps m n t (core_with m t cpu) (asked_at d) (row_at m t (core_with m t cpu) (asked_at d)) ((if_some (is_none_waiting (list_at m (slot_of t))) _ n p).1)
steps_of (wants.Bad kind) m n t cpu p = subst (λ x. x.steps ≡ m.steps) (same_Some _ n p) refl

time_flushed : (c : CaseData) (m n : Machine) (s : ℕ) (writes : List PendingWrite) → m.steps ≤ c.limit → flushed m s writes ≡ Some n → InTime c n
time_flushed c m n s [] h p = absurd (none-some n p)
time_flushed c m n s (w ∷ ws) h p = subst (InTime c) (same_Some _ n p) (λ _. h)

time_missed : (c : CaseData) (strict : Bool) (m : Machine) (s t : ℕ) (core : Core) (k source target : ℕ) → m.steps + k < c.limit → InTime c (missed strict (later (with_core m s core) (k + 1)) (record { thread = t; source = source; target = target }))
time_missed c true m s t core k source target h = λ _. omega arith
time_missed c false m s t core k source target h = λ _. omega arith

time_from : (c : CaseData) (m n : Machine) (e : Entry) (cpu : Cpu) → m.steps ≤ c.limit → step_from c m e cpu ≡ Some n → InTime c n
time_from c m n (Ev t k) cpu h p = let q = if_some _ _ n p in let b = is_below (m.steps + k) c.limit q.0 in let s = steps_of (want c.image cpu) (later m (k + 1)) n t cpu q.1 in λ _. omega arith
time_from c m n (Tick t k) cpu h p = let q = cond_some _ _ n p in let b = is_below (m.steps + k) c.limit (both_of _ _ q.0).1 in subst (InTime c) q.1 (λ _. omega arith)
time_from c m n (Flush t) cpu h p = time_flushed c m n (slot_of t) (list_at m (slot_of t)) h p
time_from c m n (Wait t k) cpu h p = let q = cond_some _ _ n p in let b = is_below (m.steps + k) c.limit (both_of _ _ (both_of _ _ (both_of _ _ q.0).0).0).1 in subst (InTime c) q.1 (λ _. omega arith)
time_from c m n (Miss t k source target) cpu h p = let q = cond_some _ _ n p in let b = is_below (m.steps + k) c.limit (both_of _ _ (both_of _ _ (both_of _ _ q.0).0).0).0 in subst (InTime c) q.1 (time_missed c c.strict m (slot_of t) t _ k source target b)
time_from c m n (Grow t a) cpu h p = subst (InTime c) ((cond_some _ _ n p).1) (λ _. h)
time_from c m n (Over t k) cpu h p = subst (InTime c) ((cond_some _ _ n p).1) (ended_not end.Steps)
time_from c m n (Full t) cpu h p = subst (InTime c) ((cond_some _ _ n p).1) (λ _. h)
time_from c m n Dead cpu h p = subst (InTime c) ((cond_some _ _ n p).1) (λ _. h)

goes_on : (o : Option RunEnd) (a b : Bool) → (is_none o && a && b) ≡ true → o ≡ None
goes_on None a b h = refl
goes_on (Some e) a b h = absurd (let q : false ≡ true = h in cc)

pub in_time : (c : CaseData) (m n : Machine) (e : Entry) → InTime c m → step c m e ≡ Some n → InTime c n
unfolding step
in_time c m n e h p =
    let q = if_some (admits m e) _ n p in
    option_and_then_some (step_from c m e) (after_private c.image (private_of e) (cpu_at m (slot_in e))) n q.1
    (λ cpu w r. time_from c m n e cpu (h (goes_on m.ending (lives m (thread_of e)) (nat_le (private_of e) 4096) q.0)) r)

time_at_start : (c : CaseData) → InTime c (start c)
unfolding start
time_at_start c = λ _. omega arith

pub time_played : (c : CaseData) (journal : List Entry) (m : Machine) → play c journal ≡ Some m → InTime c m
unfolding play
time_played c journal m p = walked (InTime c) c (in_time c) (start c) m journal (time_at_start c) p

free_stage : (life : Life) → is_unborn life ≡ true → stage life ≡ 0
free_stage Unborn r = refl
free_stage (Live a b) r = absurd (let q : false ≡ true = r in cc)
free_stage (Ended v) r = absurd (let q : false ≡ true = r in cc)
free_stage Joined r = absurd (let q : false ≡ true = r in cc)

pub numbers_by : (m : Machine) → IsCounted m → m.steps ≤ 2 ^ 27 → HasNumbers m.library
unfolding number_in
numbers_by m h few s below free = let a = h.slots s in let f = free_stage (slot_at m.library s).life free in omega arith

pub numbers_played : (c : CaseData) (journal : List Entry) (m : Machine) → c.limit ≤ 2 ^ 27 → play c journal ≡ Some m → m.ending ≡ None → HasNumbers m.library × (m.library.rooms.rounds < 2 ^ 64 - 1)
numbers_played c journal m limit p going =
    let t = time_played c journal m p going in
    let h = counted_played c journal m p in
    let r = h.rounds in
    (numbers_by m h (omega arith), omega arith)
