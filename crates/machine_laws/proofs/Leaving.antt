-- What an entry leaves of the slots that it doesn't name.
use Rattle.std.proofs.Common.{◌≡◌, ◌≢◌, ℕ, ◌+◌, ◌<◌, Bool, true, false, cond, List, [], ◌∷◌, Some, None, refl, sym, ap, ◌∙◌, subst, arith, inl, inr, ◌==◌, not, ◌&&◌, length, length-set, slice_set}
use Rattle.std.proofs.lemmas.List.{get_or-set_other}
use Rattle.std.proofs.lemmas.List.Elements.{All-head, All-tail}
use Rattle.std.proofs.lemmas.Option.{none-some, option_and_then_some, same_Some}
use Rattle.address_space.specs.Slots.{slot_of, generation_of, number_in}
use Rattle.journal_pack.specs.declared.entry.Entry.{Entry}
use Rattle.journal_pack.specs.declared.entry.Entry.TheVariants.{Ev}
use Rattle.journal_pack.specs.Entry.{thread_of}
use Rattle.lib_table.specs.declared.ask.Ask.{Ask}
use Rattle.lib_table.specs.declared.life.Life.{Life}
use Rattle.lib_table.specs.declared.life.Life.TheVariants.{Unborn, Live, Ended, Joined}
use Rattle.lib_table.specs.declared.slot.Birth.{Birth}
use Rattle.lib_table.specs.declared.slot.Slot.{Slot}
use Rattle.lib_table.specs.Library.{LibraryData, birth, born_for, is_running, life_at, live_number, slot_at, thread_in}
use Rattle.lib_table.specs.Outcome.{a3, a4}
use Rattle.x86_model.specs.declared.cpu.Cpu.{Cpu}
use Rattle.machine_model.specs.CaseData.{CaseData}
use Rattle.machine_model.specs.Gated.{Both, Leads, advance, begin, spot_at}
use Rattle.machine_model.specs.InBlocks.{AreSettled}
use Rattle.machine_model.specs.Own.{IsWhole}
use Rattle.machine_model.specs.Play.{own, walk}
use Rattle.machine_model.specs.State.{Core, Machine, core_at, is_live, list_at, no_core, start}
use Rattle.machine_model.specs.Step.{ask_of, born_core, called, core_with, is_in_use, lives, newborn, slot_in, slot_named}
use Rattle.machine_model.proofs.Costs.{came}
use Rattle.machine_model.proofs.Gates.{passes}
use Rattle.machine_model.proofs.Independence.{lists_stay}
use Rattle.machine_model.proofs.Own.{made_of, whole_from, whole_stays}
use Rattle.machine_model.proofs.Settled.{settled_from, settled_stays}
use Rattle.machine_laws.specs.Others.{AreOf, IsBorn, IsSame, Leaves}
use Rattle.machine_laws.proofs.Effects.{Effect, IsQuiet, IsServed, Quiet, Served, effect_of}
use Rattle.machine_laws.proofs.Newborn.{birth_library, core_born, core_stays, is_fresh, newborn_here}
use Rattle.machine_laws.proofs.Requests.{Changed, row_changes}
use Rattle.machine_laws.proofs.SlotMoves.{SlotMoves, IsKept, IsBegun, IsOver, IsFreed, live_next, slot_moves}

-- what holds of a machine and a gate after each gated journal: each part is there, each slot is settled, and thread 0 lives
pub record IsSteady (c : CaseData) (b : Both) : Type 0 where
  pub whole : IsWhole b
  pub settled : AreSettled c.image b
  pub first : slot_at b.machine.library 0 ≡ record { generation = 0; life = Live 0 0 }

-- ---- the slots after a request that was served

pub changed_by : (c : CaseData) (m n : Machine) (t k : ℕ) (cpu : Cpu) (h : Served c m n t k cpu) → Changed m.library t (ask_of (core_with m t cpu) h.what) h.after
changed_by c m n t k cpu h = row_changes m.library h.after m.tso.memory h.memory t (ask_of (core_with m t cpu) h.what) h.answer h.row

pub library_by : (c : CaseData) (m n : Machine) (t k : ℕ) (cpu : Cpu) (h : Served c m n t k cpu) → n.library ≡ h.after
library_by c m n t k cpu h = ap (λ (x : Machine). x.library) (sym h.next) ∙ birth_library _ (newborn m.library h.after)

-- a slot other than the thread's in which none is born
core_kept : (c : CaseData) (m n : Machine) (t k s : ℕ) (cpu : Cpu) (h : Served c m n t k cpu) → s ≢ slot_of t → is_fresh m.library h.after s ≡ false → core_at n s ≡ core_at m s
core_kept c m n t k s cpu h other old =
    ap (λ (x : Machine). core_at x s) (sym h.next)
    ∙ core_stays _ m.library h.after s old
    ∙ get_or-set_other m.cores (slot_of t) s (called (core_with m t cpu) h.what h.answer) no_core other

-- and one in which one is
core_new : (c : CaseData) (m n : Machine) (t k s : ℕ) (cpu : Cpu) (h : Served c m n t k cpu) → length m.library.slots ≡ 64 → length m.cores ≡ 64 → is_live m t ≡ true → s < 64 → is_fresh m.library h.after s ≡ true → core_at n s ≡ born_core s (birth h.after s)
core_new c m n t k s cpu h sized cores live low new =
    let lt : s < length (slice_set m.cores (slot_of t) (called (core_with m t cpu) h.what h.answer)) = omega (arith, low, cores, length-set {A = Core} m.cores (slot_of t) (called (core_with m t cpu) h.what h.answer)) in
    ap (λ (x : Machine). core_at x s) (sym h.next)
    ∙ core_born _ (newborn m.library h.after) s lt (newborn_here m.library h.after t (ask_of (core_with m t cpu) h.what) s sized live (changed_by c m n t k cpu h) low new)

-- ---- a slot by its life

running_slot : (s : Slot) (life : Life) → s.life ≡ life → is_running s.life ≡ is_running life
running_slot s life e = ap is_running e

thread_same : (l after : LibraryData) (s : ℕ) → slot_at after s ≡ slot_at l s → thread_in after s ≡ thread_in l s
thread_same l after s e = ap (λ (x : Slot). live_number (number_in s x.generation) x.life) e

birth_same : (l after : LibraryData) (s : ℕ) → slot_at after s ≡ slot_at l s → birth after s ≡ birth l s
birth_same l after s e = ap (λ (x : Slot). cond (s == 0) None (born_for (number_in s x.generation) x.life)) e

-- a slot in which no thread lives has none
no_thread : (l : LibraryData) (s : ℕ) (slot : Slot) → slot_at l s ≡ slot → is_running slot.life ≡ false → (thread_in l s ≡ None) × (birth l s ≡ None)
no_thread l s slot e dead = (ap (λ (x : Slot). live_number (number_in s x.generation) x.life) e ∙ number_none (number_in s slot.generation) slot.life dead, ap (λ (x : Slot). cond (s == 0) None (born_for (number_in s x.generation) x.life)) e ∙ birth_none (number_in s slot.generation) (s == 0) slot.life dead)
  where
    number_none : (u : ℕ) (life : Life) → is_running life ≡ false → live_number u life ≡ None
    number_none u Unborn h = refl
    number_none u (Live a b) h = absurd (let q : true ≡ false = h in cc)
    number_none u (Ended v) h = refl
    number_none u Joined h = refl

    birth_none : (u : ℕ) (first : Bool) (life : Life) → is_running life ≡ false → cond first None (born_for u life) ≡ None
    birth_none u true life h = refl
    birth_none u false Unborn h = refl
    birth_none u false (Live a b) h = absurd (let q : true ≡ false = h in cc)
    birth_none u false (Ended v) h = refl
    birth_none u false Joined h = refl

same_old : (a b : Bool) → a ≡ b → (a && not b) ≡ false
same_old true true e = refl
same_old true false e = absurd (let q : true ≡ false = e in cc)
same_old false b e = refl

dead_old : (a b : Bool) → a ≡ false → (a && not b) ≡ false
dead_old true b e = absurd (let q : true ≡ false = e in cc)
dead_old false b e = refl

new_true : (a b : Bool) → a ≡ true → b ≡ false → (a && not b) ≡ true
new_true true true p q = absurd (let e : true ≡ false = q in cc)
new_true true false p q = refl
new_true false b p q = absurd (let e : false ≡ true = p in cc)

clash : {P : Type 0} (b : Bool) → b ≡ true → b ≡ false → P
clash b p q = absurd (let e : true ≡ false = sym p ∙ q in cc)

not_0 : (s : ℕ) → s ≢ 0 → (s == 0) ≡ false
not_0 s ne = grind (arith, ne)

-- what the other slots keep beside their library and cores
record Beside (b n : Both) (s : ℕ) : Type 0 where
  writes : list_at n.machine s ≡ list_at b.machine s
  spot : spot_at n.gate s ≡ spot_at b.gate s

beside : (c : CaseData) (b n : Both) (e : Entry) (s : ℕ) → IsWhole b → advance c b e ≡ Some n → s ≢ slot_in e → Beside b n s
beside c b n e s whole p ne =
    let h = came c b n e p in
    record {
      writes = lists_stay c b.machine n.machine e whole.machine.slots h.stepped s ne;
      spot = (passes c.image e _ _ b.gate n.gate h.passed).spot s ne;
    }

-- nothing of another slot changes where the library and the cores stay
quiet_same : (b n : Both) (s u : ℕ) → Beside b n s → Quiet b.machine n.machine u → s ≢ u → IsSame b n s
quiet_same b n s u beside q ne = record {
  thread = ap (λ l. thread_in l s) q.library;
  birth = ap (λ l. birth l s) q.library;
  core = q.cores s ne;
  writes = beside.writes;
  spot = beside.spot;
  slot = λ _. ap (λ l. slot_at l s) q.library;
}

module _ (c : CaseData) (b n : Both) (t k s : ℕ) (cpu : Cpu) (h : Served c b.machine n.machine t k cpu) (steady : IsSteady c b) (going : b.machine.ending ≡ None) (live : is_live b.machine t ≡ true) (low : s < 64) (other : s ≢ slot_of t) (beside : Beside b n s) where
  lib : n.machine.library ≡ h.after
  lib = library_by c b.machine n.machine t k cpu h

  abbrev the_ask : Ask
  the_ask = ask_of (core_with b.machine t cpu) h.what

  same_by : slot_at h.after s ≡ slot_at b.machine.library s → IsSame b n s
  same_by same = record {
    thread = ap (λ l. thread_in l s) lib ∙ thread_same b.machine.library h.after s same;
    birth = ap (λ l. birth l s) lib ∙ birth_same b.machine.library h.after s same;
    core = core_kept c b.machine n.machine t k s cpu h other (same_old (is_in_use h.after s) (is_in_use b.machine.library s) (ap (λ (x : Slot). is_running x.life) same));
    writes = beside.writes;
    spot = beside.spot;
    slot = λ _. ap (λ l. slot_at l s) lib ∙ same;
  }

  freed_by : (value : ℕ) → (slot_at b.machine.library s).life ≡ Ended value → slot_at h.after s ≡ record { generation = (slot_at b.machine.library s).generation + 1; life = Unborn } → IsSame b n s
  freed_by value before now =
      let was = no_thread b.machine.library s (slot_at b.machine.library s) refl (ap is_running before) in
      let is = no_thread h.after s _ now refl in
      record {
        thread = ap (λ l. thread_in l s) lib ∙ is.0 ∙ sym was.0;
        birth = ap (λ l. birth l s) lib ∙ is.1 ∙ sym was.1;
        core = core_kept c b.machine n.machine t k s cpu h other (dead_old (is_in_use h.after s) (is_in_use b.machine.library s) (ap (λ (x : Slot). is_running x.life) now));
        writes = beside.writes;
        spot = beside.spot;
        slot = λ lived. clash (is_in_use b.machine.library s) lived (ap is_running before);
      }

  -- it isn't slot 0, in which thread 0 lives
  not_first : (slot_at b.machine.library s).life ≡ Unborn → s ≢ 0
  not_first before zero =
      let first : is_in_use b.machine.library s ≡ true = ap (is_in_use b.machine.library) zero ∙ ap (λ (x : Slot). is_running x.life) steady.first in
      clash (is_in_use b.machine.library s) first (ap is_running before)

  born_by : (slot_at b.machine.library s).life ≡ Unborn → slot_at h.after s ≡ record { generation = (slot_at b.machine.library s).generation; life = Live (a3 the_ask) (a4 the_ask) } → IsBorn b n s
  born_by before now =
      let dead : is_in_use b.machine.library s ≡ false = ap is_running before in
      let new : is_fresh b.machine.library h.after s ≡ true = new_true (is_in_use h.after s) (is_in_use b.machine.library s) (ap (λ (x : Slot). is_running x.life) now) dead in
      let number : ℕ = number_in s (slot_at b.machine.library s).generation in
      let born : Birth = record { thread = number; start = a3 the_ask; argument = a4 the_ask } in
      let first : (s == 0) ≡ false = not_0 s (not_first before) in
      let birth_is : birth h.after s ≡ Some born = ap (λ (x : Slot). cond (s == 0) None (born_for (number_in s x.generation) x.life)) now ∙ ap (λ x. cond x None (Some born)) first in
      let settled = steady.settled going s low in
      record {
        before = (no_thread b.machine.library s (slot_at b.machine.library s) refl dead).0;
        born = born;
        birth = ap (λ l. birth l s) lib ∙ birth_is;
        thread = ap (λ l. thread_in l s) lib ∙ ap (λ (x : Slot). live_number (number_in s x.generation) x.life) now;
        core = core_new c b.machine n.machine t k s cpu h steady.whole.machine.slots steady.whole.machine.cores live low new ∙ ap (born_core s) birth_is;
        writes = beside.writes ∙ settled.empty dead;
        spot = beside.spot ∙ settled.free dead;
      }

  leaves_by : SlotMoves b.machine.library h.after t the_ask s → Leaves b n s
  leaves_by (IsKept same) = inl (same_by same)
  leaves_by (IsBegun u number here before now what) = inr (born_by before now)
  leaves_by (IsOver own before now what top apart) = absurd (other own)
  leaves_by (IsFreed value before now what) = inl (freed_by value before now)

-- the thread of an event lives
pub event_lives : (m : Machine) (e : Entry) (t k : ℕ) → e ≡ Ev t k → lives m (thread_of e) ≡ true → is_live m t ≡ true
event_lives m e t k event h = subst (λ x. lives m (thread_of x) ≡ true) event h

by_effect : (c : CaseData) (b n : Both) (e : Entry) (s : ℕ) (cpu : Cpu) → IsSteady c b → b.machine.ending ≡ None → lives b.machine (thread_of e) ≡ true → advance c b e ≡ Some n → s < 64 → s ≢ slot_in e → Effect c b.machine n.machine e cpu → Leaves b n s
by_effect c b n e s cpu steady going live p low ne (IsQuiet q) = inl (quiet_same b n s (slot_in e) (beside c b n e s steady.whole p ne) q ne)
by_effect c b n e s cpu steady going live p low ne (IsServed t k event h) =
    let lives = event_lives b.machine e t k event live in
    let other : s ≢ slot_of t = subst (λ x. s ≢ slot_in x) event ne in
    leaves_by c b n t k s cpu h steady going lives low other (beside c b n e s steady.whole p ne) (slot_moves b.machine.library h.after t (ask_of (core_with b.machine t cpu) h.what) s steady.whole.machine.slots lives (changed_by c b.machine n.machine t k cpu h))

-- an entry leaves each slot that it doesn't name as it was, or bears a thread in it
pub leaves_other : (c : CaseData) (b n : Both) (e : Entry) (s : ℕ) → IsSteady c b → advance c b e ≡ Some n → s < 64 → s ≢ slot_in e → Leaves b n s
leaves_other c b n e s steady p low ne =
    let m = made_of c b n e p in
    by_effect c b n e s m.stand.cpu steady m.is.going m.is.live p low ne (effect_of c b.machine n.machine e m.stand.cpu m.is.made)

-- ---- thread 0 lives on

number_0 : (t : ℕ) → 0 ≡ slot_of t → generation_of t ≡ 0 → t ≡ 0
unfolding slot_of generation_of
number_0 t p q = omega (arith, p, q)

-- a live thread of slot 0 is thread 0
live_0 : (l : LibraryData) (t : ℕ) → 0 ≡ slot_of t → is_running (life_at l t) ≡ true → slot_at l 0 ≡ record { generation = 0; life = Live 0 0 } → t ≡ 0
live_0 l t own live first = number_0 t own (sym (live_next l t live) ∙ ap (λ k. (slot_at l k).generation) (sym own) ∙ ap (λ (x : Slot). x.generation) first)

first_by : (c : CaseData) (m n : Machine) (t k : ℕ) (cpu : Cpu) (h : Served c m n t k cpu) → is_live m t ≡ true → slot_at m.library 0 ≡ record { generation = 0; life = Live 0 0 } → SlotMoves m.library h.after t (ask_of (core_with m t cpu) h.what) 0 → slot_at n.library 0 ≡ record { generation = 0; life = Live 0 0 }
first_by c m n t k cpu h live first (IsKept same) = ap (λ l. slot_at l 0) (library_by c m n t k cpu h) ∙ same ∙ first
first_by c m n t k cpu h live first (IsBegun u number here before now what) = clash (is_in_use m.library 0) (ap (λ (x : Slot). is_running x.life) first) (ap is_running before)
first_by c m n t k cpu h live first (IsOver own before now what top apart) = absurd (apart (live_0 m.library t own live first))
first_by c m n t k cpu h live first (IsFreed value before now what) = clash (is_in_use m.library 0) (ap (λ (x : Slot). is_running x.life) first) (ap is_running before)

first_on : (c : CaseData) (b n : Both) (e : Entry) (cpu : Cpu) → IsSteady c b → lives b.machine (thread_of e) ≡ true → Effect c b.machine n.machine e cpu → slot_at n.machine.library 0 ≡ record { generation = 0; life = Live 0 0 }
first_on c b n e cpu steady live (IsQuiet q) = ap (λ l. slot_at l 0) q.library ∙ steady.first
first_on c b n e cpu steady live (IsServed t k event h) =
    let lives = event_lives b.machine e t k event live in
    first_by c b.machine n.machine t k cpu h lives steady.first (slot_moves b.machine.library h.after t (ask_of (core_with b.machine t cpu) h.what) 0 steady.whole.machine.slots lives (changed_by c b.machine n.machine t k cpu h))

pub steady_stays : (c : CaseData) (b n : Both) (e : Entry) → IsSteady c b → advance c b e ≡ Some n → IsSteady c n
steady_stays c b n e steady p =
    let m = made_of c b n e p in
    record {
      whole = whole_stays c b n e steady.whole p;
      settled = settled_stays c b n e steady.whole steady.settled p;
      first = first_on c b n e m.stand.cpu steady m.is.live (effect_of c b.machine n.machine e m.stand.cpu m.is.made);
    }

steady_on : (c : CaseData) (b n : Both) (es : List Entry) → IsSteady c b → Leads c b es n → IsSteady c n
unfolding Leads
steady_on c b n [] steady p = subst (IsSteady c) p steady
steady_on c b n (e ∷ es) steady p = steady_on c p.0 n es (steady_stays c b p.0 e steady p.1) p.3

pub steady_begin : (c : CaseData) → IsSteady c (begin c)
unfolding begin start Leads
steady_begin c = record { whole = whole_from c (begin c) [] refl; settled = settled_from c (begin c) [] refl; first = refl }

-- after each gated journal
pub steady_from : (c : CaseData) (n : Both) (es : List Entry) → Leads c (begin c) es n → IsSteady c n
steady_from c n es p = steady_on c (begin c) n es (steady_begin c) p

-- ---- many entries

leaves_itself : (b : Both) (s : ℕ) → IsSame b b s
leaves_itself b s = record { thread = refl; birth = refl; core = refl; writes = refl; spot = refl; slot = λ _. refl }

same_then : (a b c : Both) (s : ℕ) → IsSame a b s → IsSame b c s → (is_in_use a.machine.library s ≡ true → is_in_use b.machine.library s ≡ true) → IsSame a c s
same_then a b c s p q on = record {
  thread = q.thread ∙ p.thread;
  birth = q.birth ∙ p.birth;
  core = q.core ∙ p.core;
  writes = q.writes ∙ p.writes;
  spot = q.spot ∙ p.spot;
  slot = λ live. q.slot (on live) ∙ p.slot live;
}

born_then : (a b c : Both) (s : ℕ) → IsBorn a b s → IsSame b c s → IsBorn a c s
born_then a b c s p q = record {
  before = p.before;
  born = p.born;
  birth = q.birth ∙ p.birth;
  thread = q.thread ∙ p.thread;
  core = q.core ∙ p.core;
  writes = q.writes ∙ p.writes;
  spot = q.spot ∙ p.spot;
}

then_born : (a b c : Both) (s : ℕ) → IsSame a b s → IsBorn b c s → IsBorn a c s
then_born a b c s p q = record {
  before = sym p.thread ∙ q.before;
  born = q.born;
  birth = q.birth;
  thread = q.thread;
  core = q.core;
  writes = q.writes;
  spot = q.spot;
}

both_then : (a b c : Both) (s : ℕ) → Leaves a b s → Leaves b c s → Leaves a c s
both_then a b c s (inl p) (inl q) = inl (same_then a b c s p q (λ live. ap (λ (x : Slot). is_running x.life) (p.slot live) ∙ live))
both_then a b c s (inl p) (inr q) = inr (then_born a b c s p q)
both_then a b c s (inr p) (inl q) = inr (born_then a b c s p q)
both_then a b c s (inr p) (inr q) = absurd (none-some p.born.thread (sym q.before ∙ p.thread))

cons_nil : {P : Type 0} (x : Entry) (xs : List Entry) → x ∷ xs ≡ [] → P
cons_nil x xs e = absurd (grind arith)

-- without an entry of a slot the first isn't one, nor is one among the rest
own_none : (s : ℕ) (e : Entry) (es : List Entry) → own s (e ∷ es) ≡ [] → (s ≢ slot_in e) × (own s es ≡ [])
own_none s e es none =
    elim (slot_in e == s) as (λ b. (slot_in e == s) ≡ b → cond b (e ∷ own s es) (own s es) ≡ [] → (s ≢ slot_in e) × (own s es ≡ [])) [
      | true ↦ λ _ n. cons_nil e (own s es) n
      | false ↦ λ h n. (grind arith, n)
    ] refl none

leaves_others : (c : CaseData) (b n : Both) (s : ℕ) (es : List Entry) → IsSteady c b → walk (advance c) b es ≡ Some n → own s es ≡ [] → s < 64 → Leaves b n s
unfolding walk
leaves_others c b n s [] steady p none low = inl (subst (λ x. IsSame b x s) (same_Some b n p) (leaves_itself b s))
leaves_others c b n s (e ∷ es) steady p none low =
    let parts = own_none s e es none in
    option_and_then_some (λ x. walk (advance c) x es) (advance c b e) n p (λ x q r.
    both_then b x n s (leaves_other c b x e s steady q low parts.0) (leaves_others c x n s es (steady_stays c b x e steady q) r parts.1 low))

-- entries of one thread are none of another slot
named : (t : ℕ) (e : Entry) → thread_of e ≡ Some t → slot_in e ≡ slot_of t
named t e h = ap slot_named h

pub own_other : (t s : ℕ) (es : List Entry) → AreOf t es → s ≢ slot_of t → own s es ≡ []
own_other t s [] all other = refl
own_other t s (e ∷ es) all other =
    let here = named t e (All-head (λ x. thread_of x ≡ Some t) e es all) in
    let off : (slot_in e == s) ≡ false = ap (λ x. x == s) here ∙ differ (slot_of t) s other in
    rw off (own_other t s es (All-tail (λ x. thread_of x ≡ Some t) e es all) other)
  where
    differ : (a s : ℕ) → s ≢ a → (a == s) ≡ false
    differ a s ne = grind (arith, ne)

-- ---- as the laws have it

pub entry_law : (c : CaseData) (journal : List Entry) (b n : Both) (e : Entry) (s : ℕ) → Leads c (begin c) journal b → advance c b e ≡ Some n → s < 64 → s ≢ slot_in e → Leaves b n s
entry_law c journal b n e s leads p low ne = leaves_other c b n e s (steady_from c b journal leads) p low ne

pub entries_law : (c : CaseData) (journal entries : List Entry) (b n : Both) (s : ℕ) → Leads c (begin c) journal b → walk (advance c) b entries ≡ Some n → own s entries ≡ [] → s < 64 → Leaves b n s
entries_law c journal entries b n s leads p none low = leaves_others c b n s entries (steady_from c b journal leads) p none low

pub thread_law : (c : CaseData) (journal entries : List Entry) (b n : Both) (t s : ℕ) → Leads c (begin c) journal b → walk (advance c) b entries ≡ Some n → AreOf t entries → s < 64 → s ≢ slot_of t → Leaves b n s
thread_law c journal entries b n t s leads p all low ne = entries_law c journal entries b n s leads p (own_other t s entries all ne) low
