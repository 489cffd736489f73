-- What a step does beside its own thread: it serves a request, or leaves the library and every other core as they were.
use Rattle.std.proofs.Common.{◌≡◌, ◌≢◌, ℕ, ◌+◌, Bool, true, false, cond, List, [], ◌∷◌, Option, Some, None, refl, ap, subst, slice_set, ◌⊎◌, inl, inr}
use Rattle.std.proofs.lemmas.List.{get_or-set_other}
use Rattle.std.proofs.lemmas.Option.{none-some, same_Some, cond_some}
use Rattle.address_space.specs.Slots.{slot_of}
use Rattle.journal_pack.specs.declared.entry.Entry.{Entry}
use Rattle.journal_pack.specs.declared.entry.Entry.TheVariants.{Ev, Tick, Flush, Wait, Miss, Grow, Over, Full, Dead}
use Rattle.lib_table.specs.declared.answer.Called.{Called}
use Rattle.lib_table.specs.declared.ask.Asked.{Asked}
use Rattle.lib_table.specs.declared.ask.Asked.TheVariants.{Lib}
use Rattle.lib_table.specs.Library.{LibraryData}
use Rattle.lib_table.specs.Outcome.{RowResult, Done, Waits, Bad}
use Rattle.tso_memory.specs.declared.access.Access.TheVariants as access
use Rattle.tso_memory.specs.declared.change.Change.{Change}
use Rattle.tso_memory.specs.declared.write.PendingWrite.{PendingWrite}
use Rattle.tso_memory.specs.Buffer.{pending, size_of}
use Rattle.tso_memory.specs.Memory.{Memory}
use Rattle.tso_memory.specs.Tso.{TsoState, is_none_waiting}
use Rattle.x86_model.specs.declared.cpu.Cpu.{Cpu}
use Rattle.x86_model.specs.declared.want.Want.{Want}
use Rattle.x86_model.specs.declared.want.Want.TheVariants as wants
use Rattle.x86_model.specs.Want.{want}
use Rattle.machine_model.specs.declared.ending.RunEnd.{RunEnd}
use Rattle.machine_model.specs.CaseData.{CaseData}
use Rattle.machine_model.specs.Conversions.{asked_at, memory_change_of, memory_width_of}
use Rattle.machine_model.specs.State.{Core, Machine, core_at, list_at, no_core, with_core}
use Rattle.machine_model.specs.Step.{asked_by, called, carried_out, core_with, exchanged, exit_by, flushed, later, loaded, missed, newborn, refused, row_at, served, slot_in, step_from, stored, with_birth}
use Rattle.machine_model.proofs.Independence.{if_some}

-- the library and the other cores are as they were
pub record Quiet (m n : Machine) (s : ℕ) : Type 0 where
  pub library : n.library ≡ m.library
  pub cores : (u : ℕ) → u ≢ s → core_at n u ≡ core_at m u

-- a request of thread t was carried out, the k private steps before it among the steps
pub record Served (c : CaseData) (m n : Machine) (t k : ℕ) (cpu : Cpu) : Type 0 where
  pub what : Asked
  pub after : LibraryData
  pub memory : Memory
  pub answer : Called
  pub asks : asked_by (want c.image cpu) ≡ Some what
  pub quiet : is_none_waiting (list_at m (slot_of t)) ≡ true
  pub row : row_at m t (core_with m t cpu) what ≡ Done after memory answer
  pub next : with_birth (record (with_core (later m (k + 1)) (slot_of t) (called (core_with m t cpu) what answer)) { library = after; tso = record m.tso { memory = memory }; ending = exit_by (core_with m t cpu) what }) (newborn m.library after) ≡ n

-- the thread's core, some lists, steps and an ending
abbrev with_parts : Machine → ℕ → Core → TsoState → ℕ → Option RunEnd → Machine
with_parts m s core tso steps ending = record { cores = slice_set m.cores s core; tso = tso; library = m.library; steps = steps; ending = ending }

quiet_parts : (m : Machine) (s : ℕ) (core : Core) (tso : TsoState) (steps : ℕ) (ending : Option RunEnd) → Quiet m (with_parts m s core tso steps ending) s
quiet_parts m s core tso steps ending = record { library = refl; cores = λ u ne. get_or-set_other m.cores s u core no_core ne }

quiet_itself : (m : Machine) (s : ℕ) (tso : TsoState) (steps : ℕ) (ending : Option RunEnd) → Quiet m (record m { tso = tso; steps = steps; ending = ending }) s
quiet_itself m s tso steps ending = record { library = refl; cores = λ u ne. refl }

-- the machine is counted on
uncounted : (m n : Machine) (s k : ℕ) → Quiet (later m k) n s → Quiet m n s
uncounted m n s k q = record { library = q.library; cores = q.cores }

quiet_loaded : (m : Machine) (t : ℕ) (cpu : Cpu) (a n : ℕ) (o : Option ℕ) → Quiet m (loaded m t cpu a n o) (slot_of t)
quiet_loaded m t cpu a n None = quiet_parts m (slot_of t) _ m.tso m.steps m.ending
quiet_loaded m t cpu a n (Some x) = quiet_parts m (slot_of t) _ m.tso m.steps _

quiet_stored : (m : Machine) (t : ℕ) (cpu : Cpu) (write : PendingWrite) (next : Cpu) (o : Option ℕ) → Quiet m (stored m t cpu write next o) (slot_of t)
quiet_stored m t cpu write next None = quiet_parts m (slot_of t) _ _ m.steps m.ending
quiet_stored m t cpu write next (Some x) = quiet_parts m (slot_of t) _ m.tso m.steps _

quiet_exchanged : (m : Machine) (t : ℕ) (cpu : Cpu) (a n : ℕ) (change : Change) (o : Option ℕ) → Quiet m (exchanged m t cpu a n change o) (slot_of t)
quiet_exchanged m t cpu a n change None = quiet_parts m (slot_of t) _ _ m.steps m.ending
quiet_exchanged m t cpu a n change (Some x) = quiet_parts m (slot_of t) _ m.tso m.steps _

quiet_missed : (strict : Bool) (m : Machine) (s t : ℕ) (core : Core) (k source target : ℕ) → Quiet m (missed strict (later (with_core m s core) k) (record { thread = t; source = source; target = target })) s
quiet_missed true m s t core k source target = quiet_parts m s core m.tso _ _
quiet_missed false m s t core k source target = quiet_parts m s core m.tso _ m.ending

abbrev pub Effects : CaseData → Machine → Machine → ℕ → ℕ → Cpu → Type 0
Effects c m n t k cpu = Quiet m n (slot_of t) ⊎ Served c m n t k cpu

served_by : (c : CaseData) (m n : Machine) (t k : ℕ) (cpu : Cpu) (what : Asked) (r : RowResult) → asked_by (want c.image cpu) ≡ Some what → is_none_waiting (list_at m (slot_of t)) ≡ true → row_at m t (core_with m t cpu) what ≡ r → served (later m (k + 1)) t (core_with m t cpu) what r ≡ Some n → Effects c m n t k cpu
served_by c m n t k cpu what (Done after memory answer) asks quiet row p = inr (record { what = what; after = after; memory = memory; answer = answer; asks = asks; quiet = quiet; row = row; next = same_Some _ n p })
served_by c m n t k cpu what Waits asks quiet row p = absurd (none-some n p)
served_by c m n t k cpu what (Bad kind) asks quiet row p = inl (subst (λ x. Quiet m x (slot_of t)) (same_Some _ n p) (quiet_parts m (slot_of t) _ m.tso _ _))

serving_by : (c : CaseData) (m n : Machine) (t k : ℕ) (cpu : Cpu) (what : Asked) → asked_by (want c.image cpu) ≡ Some what → cond (is_none_waiting (list_at m (slot_of t))) (served (later m (k + 1)) t (core_with m t cpu) what (row_at m t (core_with m t cpu) what)) None ≡ Some n → Effects c m n t k cpu
serving_by c m n t k cpu what asks p =
    let h = if_some (is_none_waiting (list_at m (slot_of t))) _ n p in
    served_by c m n t k cpu what (row_at m t (core_with m t cpu) what) asks h.0 refl h.1

abbrev silent : (c : CaseData) (m n : Machine) (t k : ℕ) (cpu : Cpu) → Quiet (later m (k + 1)) n (slot_of t) → Effects c m n t k cpu
silent c m n t k cpu q = inl (uncounted m n (slot_of t) (k + 1) q)

carried_by : (c : CaseData) (m n : Machine) (t k : ℕ) (cpu : Cpu) (w : Want) → want c.image cpu ≡ w → carried_out w (later m (k + 1)) t cpu ≡ Some n → Effects c m n t k cpu
carried_by c m n t k cpu (wants.Private next) e p = absurd (none-some n p)
carried_by c m n t k cpu (wants.Load a w) e p = silent c m n t k cpu (subst (λ x. Quiet (later m (k + 1)) x (slot_of t)) (same_Some _ n p) (quiet_loaded (later m (k + 1)) t cpu a (size_of (memory_width_of w)) (refused m access.Load a (size_of (memory_width_of w)))))
carried_by c m n t k cpu (wants.Store a w value next) e p = silent c m n t k cpu (subst (λ x. Quiet (later m (k + 1)) x (slot_of t)) (same_Some _ n p) (quiet_stored (later m (k + 1)) t cpu (pending a (memory_width_of w) value) next (refused m access.Store a (size_of (memory_width_of w)))))
carried_by c m n t k cpu (wants.Fence next) e p = silent c m n t k cpu (subst (λ x. Quiet (later m (k + 1)) x (slot_of t)) (cond_some (is_none_waiting (list_at m (slot_of t))) _ n p).1 (quiet_parts (later m (k + 1)) (slot_of t) _ m.tso _ m.ending))
carried_by c m n t k cpu (wants.Locked a w change) e p = silent c m n t k cpu (subst (λ x. Quiet (later m (k + 1)) x (slot_of t)) (cond_some (is_none_waiting (list_at m (slot_of t))) _ n p).1 (quiet_exchanged (later m (k + 1)) t cpu a (size_of (memory_width_of w)) (memory_change_of change) (refused m access.Locked a (size_of (memory_width_of w)))))
carried_by c m n t k cpu (wants.Call f) e p = serving_by c m n t k cpu (Lib f) (ap asked_by e) p
carried_by c m n t k cpu (wants.Door d) e p = serving_by c m n t k cpu (asked_at d) (ap asked_by e) p
carried_by c m n t k cpu (wants.Bad kind) e p = silent c m n t k cpu (subst (λ x. Quiet (later m (k + 1)) x (slot_of t)) (same_Some _ n p) (quiet_parts (later m (k + 1)) (slot_of t) _ m.tso _ _))

quiet_flushed : (m n : Machine) (s : ℕ) (writes : List PendingWrite) → flushed m s writes ≡ Some n → Quiet m n s
quiet_flushed m n s [] p = absurd (none-some n p)
quiet_flushed m n s (w ∷ ws) p = subst (λ x. Quiet m x s) (same_Some _ n p) (quiet_itself m s _ m.steps m.ending)

-- an entry is quiet, or an event that serves a request
pub data Effect (c : CaseData) (m n : Machine) (e : Entry) (cpu : Cpu) : Type 0 where
  IsQuiet : (quiet : Quiet m n (slot_in e)) → Effect c m n e cpu
  IsServed : (t k : ℕ) → (event : e ≡ Ev t k) → (served : Served c m n t k cpu) → Effect c m n e cpu

by_event : (c : CaseData) (m n : Machine) (t k : ℕ) (cpu : Cpu) → Effects c m n t k cpu → Effect c m n (Ev t k) cpu
by_event c m n t k cpu (inl q) = IsQuiet q
by_event c m n t k cpu (inr s) = IsServed t k refl s

pub effect_of : (c : CaseData) (m n : Machine) (e : Entry) (cpu : Cpu) → step_from c m e cpu ≡ Some n → Effect c m n e cpu
effect_of c m n (Ev t k) cpu p = by_event c m n t k cpu (carried_by c m n t k cpu (want c.image cpu) refl ((if_some _ _ n p).1))
effect_of c m n (Tick t k) cpu p = IsQuiet (subst (λ x. Quiet m x (slot_of t)) (cond_some _ _ n p).1 (quiet_parts m (slot_of t) _ m.tso _ m.ending))
effect_of c m n (Flush t) cpu p = IsQuiet (quiet_flushed m n (slot_of t) (list_at m (slot_of t)) p)
effect_of c m n (Wait t k) cpu p = IsQuiet (subst (λ x. Quiet m x (slot_of t)) (cond_some _ _ n p).1 (quiet_parts m (slot_of t) _ m.tso _ m.ending))
effect_of c m n (Miss t k source target) cpu p = IsQuiet (subst (λ x. Quiet m x (slot_of t)) (cond_some _ _ n p).1 (quiet_missed c.strict m (slot_of t) t _ (k + 1) source target))
effect_of c m n (Grow t a) cpu p = IsQuiet (subst (λ x. Quiet m x (slot_of t)) (cond_some _ _ n p).1 (quiet_itself m (slot_of t) m.tso m.steps m.ending))
effect_of c m n (Over t k) cpu p = IsQuiet (subst (λ x. Quiet m x (slot_of t)) (cond_some _ _ n p).1 (quiet_parts m (slot_of t) _ m.tso _ _))
effect_of c m n (Full t) cpu p = IsQuiet (subst (λ x. Quiet m x (slot_of t)) (cond_some _ _ n p).1 (quiet_itself m (slot_of t) m.tso m.steps _))
effect_of c m n Dead cpu p = IsQuiet (subst (λ x. Quiet m x 64) (cond_some _ _ n p).1 (quiet_itself m 64 m.tso m.steps _))
