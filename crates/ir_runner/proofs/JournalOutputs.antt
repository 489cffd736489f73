-- No entry takes back what was written.
use Rattle.std.proofs.Common.{◌≡◌, ℕ, ◌+◌, Bool, true, false, List, [], ◌∷◌, Option, Some, None, refl, sym, ap, subst}
use Rattle.std.proofs.lemmas.Option.{option_and_then_some, none-some, same_Some, cond_some}
use Rattle.address_space.specs.Slots.{slot_of}
use Rattle.lib_table.specs.declared.ask.Asked.{Asked}
use Rattle.lib_table.specs.declared.ask.Asked.TheVariants.{Lib}
use Rattle.lib_table.specs.Library.{LibraryData}
use Rattle.lib_table.specs.Outcome.{RowResult, Done, Waits, Bad}
use Rattle.tso_memory.specs.declared.access.Access.TheVariants as access
use Rattle.tso_memory.specs.declared.change.Change.{Change}
use Rattle.tso_memory.specs.declared.write.PendingWrite.{PendingWrite}
use Rattle.tso_memory.specs.Buffer.{pending, size_of}
use Rattle.tso_memory.specs.Tso.{is_none_waiting}
use Rattle.x86_model.specs.declared.cpu.Cpu.{Cpu}
use Rattle.x86_model.specs.declared.want.Want.{Want}
use Rattle.x86_model.specs.declared.want.Want.TheVariants as wants
use Rattle.x86_model.specs.Want.{want}
use Rattle.journal_pack.specs.declared.entry.Entry.{Entry}
use Rattle.journal_pack.specs.declared.entry.Entry.TheVariants.{Ev, Tick, Flush, Wait, Miss, Grow, Over, Full, Dead}
use Rattle.journal_pack.specs.Entry.{private_of}
use Rattle.machine_model.specs.CaseData.{CaseData}
use Rattle.machine_model.specs.Conversions.{memory_width_of, memory_change_of, asked_at}
use Rattle.machine_model.specs.Gated.{Both, Leads}
use Rattle.machine_model.specs.State.{Core, Machine, list_at, with_core}
use Rattle.machine_model.specs.Step.{admits, after_private, ask_of, carried_out, core_with, cpu_at, exchanged, flushed, later, loaded, missed, newborn, refused, row_at, served, serving, slot_in, step, step_from, stored, with_birth}
use Rattle.machine_model.proofs.Costs.{came}
use Rattle.machine_model.proofs.Independence.{if_some}
use Rattle.ir_runner.proofs.RowOutputs.{Grows, grows_same, grows_then, row_grows}

-- what was written stays at the front, where the library became this
abbrev pub Writes : Machine → Machine → Type 0
Writes m n = Grows m.library n.library

record Keeps (m n : Machine) : Type 0 where
  is : Writes m n

still : (m n : Machine) → n.library ≡ m.library → Keeps m n
still m n e = record { is = grows_same m.library n.library (ap (λ (l : LibraryData). l.out1) e) (ap (λ (l : LibraryData). l.out2) e) }

keeps_loaded : (m : Machine) (t : ℕ) (cpu : Cpu) (a n : ℕ) (o : Option ℕ) → Keeps m (loaded m t cpu a n o)
keeps_loaded m t cpu a n None = still m _ refl
keeps_loaded m t cpu a n (Some x) = still m _ refl

keeps_stored : (m : Machine) (t : ℕ) (cpu : Cpu) (write : PendingWrite) (next : Cpu) (o : Option ℕ) → Keeps m (stored m t cpu write next o)
keeps_stored m t cpu write next None = still m _ refl
keeps_stored m t cpu write next (Some x) = still m _ refl

keeps_exchanged : (m : Machine) (t : ℕ) (cpu : Cpu) (a n : ℕ) (change : Change) (o : Option ℕ) → Keeps m (exchanged m t cpu a n change o)
keeps_exchanged m t cpu a n change None = still m _ refl
keeps_exchanged m t cpu a n change (Some x) = still m _ refl

keeps_birth : (m n : Machine) (o : Option ℕ) → Keeps m n → Keeps m (with_birth n o)
keeps_birth m n None k = k
keeps_birth m n (Some v) k = record { is = k.is }

keeps_served : (m n : Machine) (t : ℕ) (core : Core) (what : Asked) (r : RowResult) → row_at m t core what ≡ r → served m t core what r ≡ Some n → Keeps m n
keeps_served m n t core what (Done after memory answer) e p =
    subst (Keeps m) (same_Some _ n p) (keeps_birth m _ (newborn m.library after) (record { is = row_grows m.library after m.tso.memory memory t (ask_of core what) answer e }))
keeps_served m n t core what Waits e p = absurd (none-some n p)
keeps_served m n t core what (Bad kind) e p = subst (Keeps m) (same_Some _ n p) (still m _ refl)

keeps_serving : (m n : Machine) (t : ℕ) (core : Core) (what : Asked) → serving m t core what ≡ Some n → Keeps m n
keeps_serving m n t core what p = keeps_served m n t core what (row_at m t core what) refl ((if_some (is_none_waiting (list_at m (slot_of t))) _ n p).1)

keeps_carried : (w : Want) (m n : Machine) (t : ℕ) (cpu : Cpu) → carried_out w m t cpu ≡ Some n → Keeps m n
keeps_carried (wants.Private next) m n t cpu p = absurd (none-some n p)
keeps_carried (wants.Load a w) m n t cpu p = subst (Keeps m) (same_Some _ n p) (keeps_loaded m t cpu a (size_of (memory_width_of w)) (refused m access.Load a (size_of (memory_width_of w))))
keeps_carried (wants.Store a w value next) m n t cpu p = subst (Keeps m) (same_Some _ n p) (keeps_stored m t cpu (pending a (memory_width_of w) value) next (refused m access.Store a (size_of (memory_width_of w))))
keeps_carried (wants.Fence next) m n t cpu p = subst (Keeps m) (cond_some (is_none_waiting (list_at m (slot_of t))) _ n p).1 (still m _ refl)
keeps_carried (wants.Locked a w change) m n t cpu p = subst (Keeps m) (cond_some (is_none_waiting (list_at m (slot_of t))) _ n p).1 (keeps_exchanged m t cpu a (size_of (memory_width_of w)) (memory_change_of change) (refused m access.Locked a (size_of (memory_width_of w))))
keeps_carried (wants.Call f) m n t cpu p = keeps_serving m n t (core_with m t cpu) (Lib f) p
keeps_carried (wants.Door d) m n t cpu p = keeps_serving m n t (core_with m t cpu) (asked_at d) p
keeps_carried (wants.Bad kind) m n t cpu p = subst (Keeps m) (same_Some _ n p) (still m _ refl)

keeps_missed : (strict : Bool) (m : Machine) (s t : ℕ) (core : Core) (k source target : ℕ) → Keeps m (missed strict (later (with_core m s core) k) (record { thread = t; source = source; target = target }))
keeps_missed true m s t core k source target = still m _ refl
keeps_missed false m s t core k source target = still m _ refl

keeps_flushed : (m n : Machine) (s : ℕ) (writes : List PendingWrite) → flushed m s writes ≡ Some n → Keeps m n
keeps_flushed m n s [] p = absurd (none-some n p)
keeps_flushed m n s (w ∷ ws) p = subst (Keeps m) (same_Some _ n p) (still m _ refl)

keeps_from : (c : CaseData) (m n : Machine) (e : Entry) (cpu : Cpu) → step_from c m e cpu ≡ Some n → Keeps m n
keeps_from c m n (Ev t k) cpu p = record { is = (keeps_carried (want c.image cpu) (later m (k + 1)) n t cpu ((if_some _ _ n p).1)).is }
keeps_from c m n (Tick t k) cpu p = subst (Keeps m) ((cond_some _ _ n p).1) (still m _ refl)
keeps_from c m n (Flush t) cpu p = keeps_flushed m n (slot_of t) (list_at m (slot_of t)) p
keeps_from c m n (Wait t k) cpu p = subst (Keeps m) ((cond_some _ _ n p).1) (still m _ refl)
keeps_from c m n (Miss t k source target) cpu p = subst (Keeps m) ((cond_some _ _ n p).1) (keeps_missed c.strict m (slot_of t) t _ (k + 1) source target)
keeps_from c m n (Grow t a) cpu p = subst (Keeps m) ((cond_some _ _ n p).1) (still m _ refl)
keeps_from c m n (Over t k) cpu p = subst (Keeps m) ((cond_some _ _ n p).1) (still m _ refl)
keeps_from c m n (Full t) cpu p = subst (Keeps m) ((cond_some _ _ n p).1) (still m _ refl)
keeps_from c m n Dead cpu p = subst (Keeps m) ((cond_some _ _ n p).1) (still m _ refl)

keeps_step : (c : CaseData) (m n : Machine) (e : Entry) → step c m e ≡ Some n → Keeps m n
unfolding step
keeps_step c m n e p =
    let q = if_some (admits m e) _ n p in
    option_and_then_some (step_from c m e) (after_private c.image (private_of e) (cpu_at m (slot_in e))) n q.1 (λ cpu w r. keeps_from c m n e cpu r)

-- along entries the outputs grow
pub leads_write : (c : CaseData) (b n : Both) (entries : List Entry) → Leads c b entries n → Writes b.machine n.machine
unfolding Leads
leads_write c b n [] p = grows_same b.machine.library n.machine.library (ap (λ (x : Both). x.machine.library.out1) (sym p)) (ap (λ (x : Both). x.machine.library.out2) (sym p))
leads_write c b n (e ∷ entries) p =
    grows_then b.machine.library (p.0).machine.library n.machine.library (keeps_step c b.machine (p.0).machine e (came c b p.0 e p.1).stepped).is (leads_write c p.0 n entries p.3)
