-- What an entry leaves of the threads that it doesn't name.
use Rattle.std.proofs.Common.{◌≡◌, ◌≢◌, ℕ, ◌+◌, Bool, true, false, cond, List, [], ◌∷◌, ◌++◌, Option, Some, None, refl, sym, ap, ◌∙◌, subst, slice_set, length}
use Rattle.std.specs.Prelude.{find, not, ◌&&◌}
use Rattle.std.proofs.lemmas.List.{get_or-set_other}
use Rattle.std.proofs.lemmas.Option.{option_and_then_some, none-some, same_Some, cond_some}
use Rattle.lib_table.specs.declared.ask.Asked.{Asked}
use Rattle.lib_table.specs.declared.ask.Asked.TheVariants.{Lib}
use Rattle.address_space.specs.Slots.{slot_of}
use Rattle.lib_table.specs.declared.slot.Slot.{Slot}
use Rattle.lib_table.specs.Library.{LibraryData, slot_at}
use Rattle.journal_pack.specs.Entry.{private_of}
use Rattle.lib_table.specs.Outcome.{RowResult, Done, Waits, Bad}
use Rattle.tso_memory.specs.declared.change.Change.{Change}
use Rattle.tso_memory.specs.declared.write.PendingWrite.{PendingWrite}
use Rattle.tso_memory.specs.Buffer.{pending, size_of}
use Rattle.tso_memory.specs.declared.access.Access.TheVariants as access
use Rattle.tso_memory.specs.Tso.{TsoState, buffer_of, is_none_waiting}
use Rattle.x86_model.specs.declared.cpu.Cpu.{Cpu}
use Rattle.x86_model.specs.declared.want.Want.{Want}
use Rattle.x86_model.specs.declared.want.Want.TheVariants as wants
use Rattle.x86_model.specs.Want.{want}
use Rattle.machine_model.specs.declared.ending.RunEnd.{RunEnd}
use Rattle.journal_pack.specs.declared.entry.Entry.{Entry}
use Rattle.journal_pack.specs.declared.entry.Entry.TheVariants.{Ev, Tick, Flush, Wait, Miss, Grow, Over, Full, Dead}
use Rattle.machine_model.specs.CaseData.{CaseData}
use Rattle.machine_model.specs.Conversions.{memory_width_of, memory_change_of, asked_at}
use Rattle.machine_model.specs.State.{Core, no_core, Machine, Thread, core_at, with_core, list_at, thread_at, slots}
use Rattle.machine_model.specs.Step.{loaded, stored, exchanged, flushed, newborn, is_in_use, with_birth, row_at, ask_of, core_with, served, serving, carried_out, later, missed, refused, slot_in, admits, after_private, cpu_at, step_from, step}
use Rattle.machine_model.proofs.RowLives.{row_stays}

-- what is left of the slots but this one: of each in which a thread lives what its thread works on, its number and life, and
-- of each the waiting writes
pub record Leaves (m n : Machine) (t : ℕ) : Type 0 where
  pub cores : (u : ℕ) → u ≢ t → is_in_use m.library u ≡ true → core_at n u ≡ core_at m u
  pub lives : (u : ℕ) → u ≢ t → is_in_use m.library u ≡ true → slot_at n.library u ≡ slot_at m.library u
  pub lists : (u : ℕ) → u ≢ t → list_at n u ≡ list_at m u

-- there are 64 slots
abbrev pub HasSlots : Machine → Type 0
HasSlots m = length m.library.slots ≡ 64

pub if_some : {A : Type 0} (b : Bool) (o : Option A) (y : A) → cond b o None ≡ Some y → (b ≡ true) × (o ≡ Some y)
if_some true o y e = (refl, e)
if_some false o y e = absurd (none-some y e)

-- the thread's core, some other lists and steps
abbrev with_parts : Machine → ℕ → Core → TsoState → ℕ → Option RunEnd → Machine
with_parts m t core tso steps ending = record { cores = slice_set m.cores t core; tso = tso; library = m.library; steps = steps; ending = ending }

leaves_parts : (m : Machine) (t : ℕ) (core : Core) (tso : TsoState) (steps : ℕ) (ending : Option RunEnd) → ((u : ℕ) → u ≢ t → buffer_of tso u ≡ buffer_of m.tso u) → Leaves m (with_parts m t core tso steps ending) t
leaves_parts m t core tso steps ending lists = record { cores = λ u ne _. get_or-set_other m.cores t u core no_core ne; lives = λ u ne _. refl; lists = lists }

leaves_itself : (m : Machine) (t steps : ℕ) (ending : Option RunEnd) → Leaves m (record m { steps = steps; ending = ending }) t
leaves_itself m t steps ending = record { cores = λ u ne _. refl; lives = λ u ne _. refl; lists = λ u ne. refl }

leaves_core : (m : Machine) (t : ℕ) (core : Core) (steps : ℕ) (ending : Option RunEnd) → Leaves m (with_parts m t core m.tso steps ending) t
leaves_core m t core steps ending = leaves_parts m t core m.tso steps ending (λ u ne. refl)

-- the machine is counted on
uncounted : (m n : Machine) (t k : ℕ) → Leaves (later m k) n t → Leaves m n t
uncounted m n t k l = record { cores = l.cores; lives = l.lives; lists = l.lists }

leaves_loaded : (m : Machine) (t : ℕ) (cpu : Cpu) (a n : ℕ) (o : Option ℕ) → Leaves m (loaded m t cpu a n o) (slot_of t)
leaves_loaded m t cpu a n None = leaves_core m (slot_of t) _ m.steps m.ending
leaves_loaded m t cpu a n (Some x) = leaves_core m (slot_of t) _ m.steps _

leaves_stored : (m : Machine) (t : ℕ) (cpu : Cpu) (write : PendingWrite) (next : Cpu) (o : Option ℕ) → Leaves m (stored m t cpu write next o) (slot_of t)
leaves_stored m t cpu write next None = leaves_parts m (slot_of t) _ _ m.steps m.ending (λ u ne. get_or-set_other m.tso.buffers (slot_of t) u (list_at m (slot_of t) ++ write ∷ []) [] ne)
leaves_stored m t cpu write next (Some x) = leaves_core m (slot_of t) _ m.steps _

leaves_exchanged : (m : Machine) (t : ℕ) (cpu : Cpu) (a n : ℕ) (change : Change) (o : Option ℕ) → Leaves m (exchanged m t cpu a n change o) (slot_of t)
leaves_exchanged m t cpu a n change None = leaves_parts m (slot_of t) _ _ m.steps m.ending (λ u ne. refl)
leaves_exchanged m t cpu a n change (Some x) = leaves_core m (slot_of t) _ m.steps _

pub find_passes : (p : ℕ → Bool) (xs : List ℕ) (v : ℕ) → find p xs ≡ Some v → p v ≡ true
find_passes p [] v e = absurd (none-some v e)
find_passes p (x ∷ xs) v e =
    elim (p x) as (λ b. p x ≡ b → cond b (Some x) (find p xs) ≡ Some v → p v ≡ true) [
      | true ↦ λ h q. subst (λ y. p y ≡ true) (same_Some x v q) h
      | false ↦ λ h q. find_passes p xs v q
    ] refl e

-- a slot in which a thread lives isn't the one in which one is born
not_born : (m : Machine) (after : LibraryData) (u v : ℕ) → newborn m.library after ≡ Some v → is_in_use m.library u ≡ true → u ≢ v
not_born m after u v e live same =
    let p = find_passes (λ x. is_in_use after x && not (is_in_use m.library x)) slots v e in
    clash (is_in_use after v) (is_in_use m.library v) p (ap (λ x. is_in_use m.library x) (sym same) ∙ live)
  where
    clash : (a b : Bool) → (a && not b) ≡ true → b ≡ true → ⊥
    clash true true p q = let e : false ≡ true = p in cc
    clash true false p q = let e : false ≡ true = q in cc
    clash false true p q = let e : false ≡ true = p in cc
    clash false false p q = let e : false ≡ true = p in cc

leaves_birth : (m n : Machine) (t : ℕ) (after : LibraryData) (o : Option ℕ) → newborn m.library after ≡ o → Leaves m n t → Leaves m (with_birth n o) t
leaves_birth m n t after None e l = l
leaves_birth m n t after (Some v) e l = record { cores = λ u ne live. get_or-set_other n.cores v u _ no_core (not_born m after u v e live) ∙ l.cores u ne live; lives = l.lives; lists = l.lists }

leaves_served : (m n : Machine) (t : ℕ) (core : Core) (what : Asked) (r : RowResult) → HasSlots m → row_at m t core what ≡ r → served m t core what r ≡ Some n → Leaves m n (slot_of t)
leaves_served m n t core what (Done after memory answer) sized e p =
    subst (λ x. Leaves m x (slot_of t)) (same_Some _ n p) (leaves_birth m _ (slot_of t) after (newborn m.library after) refl (record {
      cores = λ u ne _. get_or-set_other m.cores (slot_of t) u _ no_core ne;
      lives = λ u ne live. (row_stays m.library after m.tso.memory memory t u (ask_of core what) answer sized e).slot ne live;
      lists = λ u ne. refl;
    }))
leaves_served m n t core what Waits sized e p = absurd (none-some n p)
leaves_served m n t core what (Bad kind) sized e p = subst (λ x. Leaves m x (slot_of t)) (same_Some _ n p) (leaves_core m (slot_of t) _ m.steps _)

leaves_serving : (m n : Machine) (t : ℕ) (core : Core) (what : Asked) → HasSlots m → serving m t core what ≡ Some n → Leaves m n (slot_of t)
leaves_serving m n t core what sized p = leaves_served m n t core what (row_at m t core what) sized refl ((if_some (is_none_waiting (list_at m (slot_of t))) _ n p).1)

leaves_carried : (w : Want) (m n : Machine) (t : ℕ) (cpu : Cpu) → HasSlots m → carried_out w m t cpu ≡ Some n → Leaves m n (slot_of t)
leaves_carried (wants.Private next) m n t cpu sized p = absurd (none-some n p)
leaves_carried (wants.Load a w) m n t cpu sized p = subst (λ x. Leaves m x (slot_of t)) (same_Some _ n p) (leaves_loaded m t cpu a (size_of (memory_width_of w)) (refused m access.Load a (size_of (memory_width_of w))))
leaves_carried (wants.Store a w value next) m n t cpu sized p = subst (λ x. Leaves m x (slot_of t)) (same_Some _ n p) (leaves_stored m t cpu (pending a (memory_width_of w) value) next (refused m access.Store a (size_of (memory_width_of w))))
leaves_carried (wants.Fence next) m n t cpu sized p = subst (λ x. Leaves m x (slot_of t)) (cond_some (is_none_waiting (list_at m (slot_of t))) _ n p).1 (leaves_core m (slot_of t) _ m.steps m.ending)
leaves_carried (wants.Locked a w change) m n t cpu sized p = subst (λ x. Leaves m x (slot_of t)) (cond_some (is_none_waiting (list_at m (slot_of t))) _ n p).1 (leaves_exchanged m t cpu a (size_of (memory_width_of w)) (memory_change_of change) (refused m access.Locked a (size_of (memory_width_of w))))
leaves_carried (wants.Call f) m n t cpu sized p = leaves_serving m n t (core_with m t cpu) (Lib f) sized p
leaves_carried (wants.Door d) m n t cpu sized p = leaves_serving m n t (core_with m t cpu) (asked_at d) sized p
leaves_carried (wants.Bad kind) m n t cpu sized p = subst (λ x. Leaves m x (slot_of t)) (same_Some _ n p) (leaves_core m (slot_of t) _ m.steps _)

leaves_flushed : (m n : Machine) (s : ℕ) (writes : List PendingWrite) → flushed m s writes ≡ Some n → Leaves m n s
leaves_flushed m n s [] p = absurd (none-some n p)
leaves_flushed m n s (w ∷ ws) p = subst (λ x. Leaves m x s) (same_Some _ n p) (record { cores = λ u ne _. refl; lives = λ u ne _. refl; lists = λ u ne. get_or-set_other m.tso.buffers s u ws [] ne })

leaves_missed : (strict : Bool) (m : Machine) (s t : ℕ) (core : Core) (k : ℕ) (source target : ℕ) → Leaves m (missed strict (later (with_core m s core) k) (record { thread = t; source = source; target = target })) s
leaves_missed true m s t core k source target = leaves_core m s core _ _
leaves_missed false m s t core k source target = leaves_core m s core _ m.ending

leaves_from : (c : CaseData) (m n : Machine) (e : Entry) (cpu : Cpu) → HasSlots m → step_from c m e cpu ≡ Some n → Leaves m n (slot_in e)
leaves_from c m n (Ev t k) cpu sized p = uncounted m n (slot_of t) (k + 1) (leaves_carried (want c.image cpu) (later m (k + 1)) n t cpu sized ((if_some _ _ n p).1))
leaves_from c m n (Tick t k) cpu sized p = subst (λ x. Leaves m x (slot_of t)) ((cond_some _ _ n p).1) (leaves_core m (slot_of t) _ _ m.ending)
leaves_from c m n (Flush t) cpu sized p = leaves_flushed m n (slot_of t) (list_at m (slot_of t)) p
leaves_from c m n (Wait t k) cpu sized p = subst (λ x. Leaves m x (slot_of t)) ((cond_some _ _ n p).1) (leaves_core m (slot_of t) _ _ m.ending)
leaves_from c m n (Miss t k source target) cpu sized p = subst (λ x. Leaves m x (slot_of t)) ((cond_some _ _ n p).1) (leaves_missed c.strict m (slot_of t) t _ (k + 1) source target)
leaves_from c m n (Grow t a) cpu sized p = subst (λ x. Leaves m x (slot_of t)) ((cond_some _ _ n p).1) (leaves_itself m (slot_of t) m.steps m.ending)
leaves_from c m n (Over t k) cpu sized p = subst (λ x. Leaves m x (slot_of t)) ((cond_some _ _ n p).1) (leaves_core m (slot_of t) _ _ _)
leaves_from c m n (Full t) cpu sized p = subst (λ x. Leaves m x (slot_of t)) ((cond_some _ _ n p).1) (leaves_itself m (slot_of t) m.steps _)
leaves_from c m n Dead cpu sized p = subst (λ x. Leaves m x 64) ((cond_some _ _ n p).1) (leaves_itself m 64 m.steps _)

-- an entry leaves every other slot in which a thread lives, and every other list of writes, as they were
pub leaves : (c : CaseData) (m n : Machine) (e : Entry) → HasSlots m → step c m e ≡ Some n → Leaves m n (slot_in e)
unfolding step
leaves c m n e sized p =
    option_and_then_some (step_from c m e) (after_private c.image (private_of e) (cpu_at m (slot_in e))) n ((if_some (admits m e) _ n p).1)
    (λ cpu q r. leaves_from c m n e cpu sized r)

abbrev thread_by : Core → Slot → Thread
thread_by core slot = record { core = core; slot = slot }

pub threads_stay : (c : CaseData) (m n : Machine) (e : Entry) → HasSlots m → step c m e ≡ Some n → (u : ℕ) → u ≢ slot_in e → is_in_use m.library u ≡ true → thread_at n u ≡ thread_at m u
threads_stay c m n e sized p u ne live =
    let l = leaves c m n e sized p in
    ap (λ x. thread_by x (slot_at n.library u)) (l.cores u ne live) ∙ ap (thread_by (core_at m u)) (l.lives u ne live)

pub lists_stay : (c : CaseData) (m n : Machine) (e : Entry) → HasSlots m → step c m e ≡ Some n → (u : ℕ) → u ≢ slot_in e → list_at n u ≡ list_at m u
lists_stay c m n e sized p u ne = (leaves c m n e sized p).lists u ne
