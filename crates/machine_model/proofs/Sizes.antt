-- There are 64 of each: cores, slots, lists of writes and spots.
use Rattle.std.proofs.Common.{◌≡◌, ℕ, ◌+◌, Bool, true, false, List, [], ◌∷◌, Option, Some, None, refl, ◌∙◌, subst, length, length-set, replicate}
use Rattle.std.proofs.lemmas.Option.{option_and_then_some, none-some, same_Some, cond_some}
use Rattle.address_space.specs.Slots.{slot_of}
use Rattle.lib_table.specs.declared.ask.Asked.{Asked}
use Rattle.lib_table.specs.declared.ask.Asked.TheVariants.{Lib}
use Rattle.lib_table.specs.Outcome.{RowResult, Done, Waits, Bad}
use Rattle.tso_memory.specs.declared.change.Change.{Change}
use Rattle.tso_memory.specs.declared.write.PendingWrite.{PendingWrite}
use Rattle.tso_memory.specs.Buffer.{pending, size_of}
use Rattle.tso_memory.specs.declared.access.Access.TheVariants as access
use Rattle.tso_memory.specs.Tso.{is_none_waiting}
use Rattle.x86_model.specs.declared.cpu.Cpu.{Cpu}
use Rattle.x86_model.specs.declared.want.Want.{Want}
use Rattle.x86_model.specs.declared.want.Want.TheVariants as wants
use Rattle.x86_model.specs.Want.{want}
use Rattle.journal_pack.specs.declared.entry.Entry.{Entry}
use Rattle.journal_pack.specs.declared.entry.Entry.TheVariants.{Ev, Tick, Flush, Wait, Miss, Grow, Over, Full, Dead}
use Rattle.journal_pack.specs.Entry.{private_of}
use Rattle.machine_model.specs.CaseData.{CaseData}
use Rattle.machine_model.specs.Conversions.{memory_width_of, memory_change_of, asked_at}
use Rattle.machine_model.specs.State.{Core, Machine, IsSized, first_core, list_at, no_core, start, with_core}
use Rattle.machine_model.specs.Play.{play, walk}
use Rattle.machine_model.specs.Step.{loaded, stored, exchanged, flushed, newborn, with_birth, row_at, ask_of, core_with, served, serving, carried_out, later, missed, refused, slot_in, admits, after_private, cpu_at, step_from, step}
use Rattle.machine_model.proofs.Independence.{HasSlots, if_some}
use Rattle.machine_model.proofs.RowLives.{row_stays}

-- as many of each as before
pub record Same (m n : Machine) : Type 0 where
  pub cores : length n.cores ≡ length m.cores
  pub slots : length n.library.slots ≡ length m.library.slots
  pub lists : length n.tso.buffers ≡ length m.tso.buffers

same_loaded : (m : Machine) (t : ℕ) (cpu : Cpu) (a n : ℕ) (o : Option ℕ) → Same m (loaded m t cpu a n o)
same_loaded m t cpu a n None = record { cores = length-set m.cores (slot_of t) _; slots = refl; lists = refl }
same_loaded m t cpu a n (Some x) = record { cores = length-set m.cores (slot_of t) _; slots = refl; lists = refl }

same_stored : (m : Machine) (t : ℕ) (cpu : Cpu) (write : PendingWrite) (next : Cpu) (o : Option ℕ) → Same m (stored m t cpu write next o)
same_stored m t cpu write next None = record { cores = length-set m.cores (slot_of t) _; slots = refl; lists = length-set m.tso.buffers (slot_of t) _ }
same_stored m t cpu write next (Some x) = record { cores = length-set m.cores (slot_of t) _; slots = refl; lists = refl }

same_exchanged : (m : Machine) (t : ℕ) (cpu : Cpu) (a n : ℕ) (change : Change) (o : Option ℕ) → Same m (exchanged m t cpu a n change o)
same_exchanged m t cpu a n change None = record { cores = length-set m.cores (slot_of t) _; slots = refl; lists = refl }
same_exchanged m t cpu a n change (Some x) = record { cores = length-set m.cores (slot_of t) _; slots = refl; lists = refl }

same_birth : (m n : Machine) (o : Option ℕ) → Same m n → Same m (with_birth n o)
same_birth m n None h = h
same_birth m n (Some s) h = record { cores = length-set n.cores s _ ∙ h.cores; slots = h.slots; lists = h.lists }

same_served : (m n : Machine) (t : ℕ) (core : Core) (what : Asked) (r : RowResult) → HasSlots m → row_at m t core what ≡ r → served m t core what r ≡ Some n → Same m n
same_served m n t core what (Done after memory answer) sized e p =
    subst (λ x. Same m x) (same_Some _ n p) (same_birth m _ (newborn m.library after) (record { cores = length-set m.cores (slot_of t) _; slots = (row_stays m.library after m.tso.memory memory t 0 (ask_of core what) answer sized e).count; lists = refl }))
same_served m n t core what Waits sized e p = absurd (none-some n p)
same_served m n t core what (Bad kind) sized e p = subst (λ x. Same m x) (same_Some _ n p) (record { cores = length-set m.cores (slot_of t) _; slots = refl; lists = refl })

same_serving : (m n : Machine) (t : ℕ) (core : Core) (what : Asked) → HasSlots m → serving m t core what ≡ Some n → Same m n
same_serving m n t core what sized p = same_served m n t core what (row_at m t core what) sized refl ((if_some (is_none_waiting (list_at m (slot_of t))) _ n p).1)

same_carried : (w : Want) (m n : Machine) (t : ℕ) (cpu : Cpu) → HasSlots m → carried_out w m t cpu ≡ Some n → Same m n
same_carried (wants.Private next) m n t cpu sized p = absurd (none-some n p)
same_carried (wants.Load a w) m n t cpu sized p = subst (λ x. Same m x) (same_Some _ n p) (same_loaded m t cpu a (size_of (memory_width_of w)) (refused m access.Load a (size_of (memory_width_of w))))
same_carried (wants.Store a w value next) m n t cpu sized p = subst (λ x. Same m x) (same_Some _ n p) (same_stored m t cpu (pending a (memory_width_of w) value) next (refused m access.Store a (size_of (memory_width_of w))))
same_carried (wants.Fence next) m n t cpu sized p = subst (λ x. Same m x) (cond_some (is_none_waiting (list_at m (slot_of t))) _ n p).1 (record { cores = length-set m.cores (slot_of t) _; slots = refl; lists = refl })
same_carried (wants.Locked a w change) m n t cpu sized p = subst (λ x. Same m x) (cond_some (is_none_waiting (list_at m (slot_of t))) _ n p).1 (same_exchanged m t cpu a (size_of (memory_width_of w)) (memory_change_of change) (refused m access.Locked a (size_of (memory_width_of w))))
same_carried (wants.Call f) m n t cpu sized p = same_serving m n t (core_with m t cpu) (Lib f) sized p
same_carried (wants.Door d) m n t cpu sized p = same_serving m n t (core_with m t cpu) (asked_at d) sized p
same_carried (wants.Bad kind) m n t cpu sized p = subst (λ x. Same m x) (same_Some _ n p) (record { cores = length-set m.cores (slot_of t) _; slots = refl; lists = refl })

same_flushed : (m n : Machine) (s : ℕ) (writes : List PendingWrite) → flushed m s writes ≡ Some n → Same m n
same_flushed m n s [] p = absurd (none-some n p)
same_flushed m n s (w ∷ ws) p = subst (λ x. Same m x) (same_Some _ n p) (record { cores = refl; slots = refl; lists = length-set m.tso.buffers s _ })

same_missed : (strict : Bool) (m : Machine) (s t : ℕ) (core : Core) (k source target : ℕ) → Same m (missed strict (later (with_core m s core) k) (record { thread = t; source = source; target = target }))
same_missed true m s t core k source target = record { cores = length-set m.cores s _; slots = refl; lists = refl }
same_missed false m s t core k source target = record { cores = length-set m.cores s _; slots = refl; lists = refl }

same_core : (m : Machine) (s : ℕ) (core : Core) → Same m (with_core m s core)
same_core m s core = record { cores = length-set m.cores s core; slots = refl; lists = refl }

itself : (m : Machine) → Same m m
itself m = record { cores = refl; slots = refl; lists = refl }

later_same : (m n : Machine) (k : ℕ) → Same (later m k) n → Same m n
later_same m n k h = record { cores = h.cores; slots = h.slots; lists = h.lists }

same_from : (c : CaseData) (m n : Machine) (e : Entry) (cpu : Cpu) → HasSlots m → step_from c m e cpu ≡ Some n → Same m n
same_from c m n (Ev t k) cpu sized p = later_same m n (k + 1) (same_carried (want c.image cpu) (later m (k + 1)) n t cpu sized ((if_some _ _ n p).1))
same_from c m n (Tick t k) cpu sized p = subst (λ x. Same m x) ((cond_some _ _ n p).1) (record { cores = length-set m.cores (slot_of t) _; slots = refl; lists = refl })
same_from c m n (Flush t) cpu sized p = same_flushed m n (slot_of t) (list_at m (slot_of t)) p
same_from c m n (Wait t k) cpu sized p = subst (λ x. Same m x) ((cond_some _ _ n p).1) (record { cores = length-set m.cores (slot_of t) _; slots = refl; lists = refl })
same_from c m n (Miss t k source target) cpu sized p = subst (λ x. Same m x) ((cond_some _ _ n p).1) (same_missed c.strict m (slot_of t) t _ (k + 1) source target)
same_from c m n (Grow t a) cpu sized p = subst (λ x. Same m x) ((cond_some _ _ n p).1) (itself m)
same_from c m n (Over t k) cpu sized p = subst (λ x. Same m x) ((cond_some _ _ n p).1) (record { cores = length-set m.cores (slot_of t) _; slots = refl; lists = refl })
same_from c m n (Full t) cpu sized p = subst (λ x. Same m x) ((cond_some _ _ n p).1) (record { cores = refl; slots = refl; lists = refl })
same_from c m n Dead cpu sized p = subst (λ x. Same m x) ((cond_some _ _ n p).1) (record { cores = refl; slots = refl; lists = refl })

pub same_sizes : (c : CaseData) (m n : Machine) (e : Entry) → HasSlots m → step c m e ≡ Some n → Same m n
unfolding step
same_sizes c m n e sized p =
    option_and_then_some (step_from c m e) (after_private c.image (private_of e) (cpu_at m (slot_in e))) n ((if_some (admits m e) _ n p).1)
    (λ cpu q r. same_from c m n e cpu sized r)

pub slots_stay : (c : CaseData) (m n : Machine) (e : Entry) → HasSlots m → step c m e ≡ Some n → HasSlots n
slots_stay c m n e sized p = (same_sizes c m n e sized p).slots ∙ sized

pub sized_stays : (c : CaseData) (m n : Machine) (e : Entry) → IsSized m → step c m e ≡ Some n → IsSized n
sized_stays c m n e h p = let s = same_sizes c m n e h.slots p in record { cores = s.cores ∙ h.cores; slots = s.slots ∙ h.slots; lists = s.lists ∙ h.lists }

pub sized_at_start : (c : CaseData) → IsSized (start c)
unfolding start
sized_at_start c = record { cores = length-set (replicate 64 no_core) 0 (first_core c); slots = refl; lists = refl }

-- what a walk keeps at each step
pub walked : (P : Machine → Type 0) (c : CaseData) → ((m n : Machine) (e : Entry) → P m → step c m e ≡ Some n → P n) → (m n : Machine) (es : List Entry) → P m → walk (step c) m es ≡ Some n → P n
unfolding walk
walked P c keeps m n [] h p = subst P (same_Some m n p) h
walked P c keeps m n (e ∷ es) h p = option_and_then_some (λ x. walk (step c) x es) (step c m e) n p (λ x q r. walked P c keeps x n es (keeps m x e h q) r)

pub sized_played : (c : CaseData) (journal : List Entry) (m : Machine) → play c journal ≡ Some m → IsSized m
unfolding play
sized_played c journal m p = walked IsSized c (sized_stays c) (start c) m journal (sized_at_start c) p
