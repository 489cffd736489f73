-- What each kind of entry leaves of what is shared.
use Rattle.std.proofs.Common.{◌≡◌, ℕ, ◌+◌, Bool, true, false, cond, List, [], ◌∷◌, Option, Some, None, refl, sym, ap, ◌∙◌, subst}
use Rattle.std.proofs.lemmas.Option.{none-some, same_Some, cond_some}
use Rattle.address_space.specs.Slots.{slot_of}
use Rattle.elf_image.specs.declared.place.Function.TheVariants as function
use Rattle.lib_table.specs.declared.ask.Asked.{Asked}
use Rattle.lib_table.specs.declared.ask.Asked.TheVariants.{Lib, EndDoor, CallDoor}
use Rattle.lib_table.specs.Outcome.{RowResult, Done, Waits, Bad}
use Rattle.miss_report.specs.declared.miss.Miss.{Miss as MissData}
use Rattle.tso_memory.specs.declared.change.Change.{Change}
use Rattle.tso_memory.specs.declared.write.PendingWrite.{PendingWrite}
use Rattle.tso_memory.specs.declared.access.Access.TheVariants as access
use Rattle.tso_memory.specs.Buffer.{size_of}
use Rattle.tso_memory.specs.Tso as tso
use Rattle.tso_memory.specs.Tso.{buffer_of}
use Rattle.elf_image.specs.Layout.{ImageData}
use Rattle.x86_model.specs.declared.cpu.Cpu.{Cpu}
use Rattle.x86_model.specs.declared.want.Want.{Want}
use Rattle.x86_model.specs.declared.want.Want.TheVariants as wants
use Rattle.x86_model.specs.Want.{want}
use Rattle.journal_pack.specs.declared.entry.Entry.TheVariants.{Ev, Tick, Flush, Wait, Miss, Grow, Over, Full, Dead}
use Rattle.machine_model.specs.declared.ending.RunEnd.{RunEnd}
use Rattle.machine_model.specs.declared.ending.RunEnd.TheVariants as end
use Rattle.machine_model.specs.CaseData.{CaseData}
use Rattle.machine_model.specs.Conversions.{memory_width_of, memory_change_of, asked_at}
use Rattle.machine_model.specs.State.{Core, Machine, list_at}
use Rattle.machine_model.specs.Step.{after_private, ask_of, carried_out, core_with, cpu_at, exchanged, exit_by, flushed, later, loaded, missed, newborn, refused, row_at, served, serving, step_from, stored, with_birth}
use Rattle.machine_model.specs.Gated.{Both, advance, stand_at}
use Rattle.machine_model.proofs.Own.{made_of, steps_private}
use Rattle.hall_core.specs.Shared.{Asks, Need, after_need, after_row, ended_by, exit_in, flushed_in, missed_in, need_of, passed, shared_of, unless_refused}

-- ---- an event

loaded_shared : (m : Machine) (t : ℕ) (cpu : Cpu) (a n : ℕ) (o : Option ℕ) → shared_of (loaded m t cpu a n o) ≡ unless_refused (shared_of m) t cpu.rip (shared_of m) o
loaded_shared m t cpu a n None = refl
loaded_shared m t cpu a n (Some x) = refl

stored_shared : (m : Machine) (t : ℕ) (cpu : Cpu) (write : PendingWrite) (next : Cpu) (o : Option ℕ) → shared_of (stored m t cpu write next o) ≡ unless_refused (shared_of m) t cpu.rip (record (shared_of m) { tso = tso.stored m.tso (slot_of t) write }) o
stored_shared m t cpu write next None = refl
stored_shared m t cpu write next (Some x) = refl

exchanged_shared : (m : Machine) (t : ℕ) (cpu : Cpu) (a n : ℕ) (change : Change) (o : Option ℕ) → shared_of (exchanged m t cpu a n change o) ≡ unless_refused (shared_of m) t cpu.rip (record (shared_of m) { tso = tso.exchanged m.tso n a change }) o
exchanged_shared m t cpu a n change None = refl
exchanged_shared m t cpu a n change (Some x) = refl

birth_shared : (m : Machine) (o : Option ℕ) → shared_of (with_birth m o) ≡ shared_of m
birth_shared m None = refl
birth_shared m (Some s) = refl

exit_same : (core : Core) (what : Asked) → exit_by core what ≡ exit_in (ask_of core what) what
exit_same core (Lib function.Exit) = refl
exit_same core (Lib f) = refl
exit_same core EndDoor = refl
exit_same core CallDoor = refl

served_shared : (m n : Machine) (t : ℕ) (core : Core) (what : Asked) (r : RowResult) → served m t core what r ≡ Some n → shared_of n ≡ after_row (shared_of m) t core.cpu.rip (ask_of core what) r
served_shared m n t core what (Done library memory answer) p =
    ap shared_of (sym (same_Some _ n p)) ∙ birth_shared _ (newborn m.library library) ∙ ap (λ (x : Option RunEnd). record (shared_of m) { library = library; tso = record m.tso { memory = memory }; ending = x }) (exit_same core what)
served_shared m n t core what Waits p = absurd (none-some _ p)
served_shared m n t core what (Bad kind) p = ap shared_of (sym (same_Some _ n p))

serving_shared : (m n : Machine) (t : ℕ) (core : Core) (what : Asked) → serving m t core what ≡ Some n → shared_of n ≡ after_need (Asks (ask_of core what)) (shared_of m) t core.cpu.rip
serving_shared m n t core what p = served_shared m n t core what (row_at m t core what) (if_so _ _ p)
  where
    if_so : (b : Bool) (o : Option Machine) → cond b o None ≡ Some n → o ≡ Some n
    if_so true o q = q
    if_so false o q = absurd (none-some _ q)

carried_shared : (w : Want) (m n : Machine) (t : ℕ) (cpu : Cpu) → carried_out w m t cpu ≡ Some n → shared_of n ≡ after_need (need_of (core_with m t cpu) w) (shared_of m) t cpu.rip
carried_shared (wants.Private next) m n t cpu p = absurd (none-some _ p)
carried_shared (wants.Load a w) m n t cpu p = ap shared_of (sym (same_Some _ n p)) ∙ loaded_shared m t cpu a _ (refused m access.Load a (size_of (memory_width_of w)))
carried_shared (wants.Store a w value next) m n t cpu p = ap shared_of (sym (same_Some _ n p)) ∙ stored_shared m t cpu _ next (refused m access.Store a (size_of (memory_width_of w)))
carried_shared (wants.Fence next) m n t cpu p = ap shared_of (sym (cond_some _ _ n p).1)
carried_shared (wants.Locked a w change) m n t cpu p = ap shared_of (sym (cond_some _ _ n p).1) ∙ exchanged_shared m t cpu a _ (memory_change_of change) (refused m access.Locked a (size_of (memory_width_of w)))
carried_shared (wants.Call f) m n t cpu p = serving_shared m n t (core_with m t cpu) (Lib f) p
carried_shared (wants.Door d) m n t cpu p = serving_shared m n t (core_with m t cpu) (asked_at d) p
carried_shared (wants.Bad kind) m n t cpu p = ap shared_of (sym (same_Some _ n p))

-- where an entry's private steps lead
pub arrived : (c : CaseData) (b n : Both) (t k : ℕ) (cpu : Cpu) → advance c b (Ev t k) ≡ Some n → after_private c.image k (cpu_at b.machine (slot_of t)) ≡ Some cpu → step_from c b.machine (Ev t k) cpu ≡ Some n.machine
arrived c b n t k cpu p there =
    let h = made_of c b n (Ev t k) p in
    let led = steps_private c.image b.gate.grown k (stand_at b (slot_of t)) h.stand h.is.ahead in
    subst (λ (x : Cpu). step_from c b.machine (Ev t k) x ≡ Some n.machine) (same_Some h.stand.cpu cpu (sym led ∙ there)) h.is.made

pub event_shared : (c : CaseData) (b n : Both) (t k : ℕ) (cpu : Cpu) (need : Need) → advance c b (Ev t k) ≡ Some n → after_private c.image k (cpu_at b.machine (slot_of t)) ≡ Some cpu → need_of (core_with b.machine t cpu) (want c.image cpu) ≡ need → shared_of n.machine ≡ after_need need (passed (shared_of b.machine) (k + 1)) t cpu.rip
event_shared c b n t k cpu need p there needs =
    carried_shared (want c.image cpu) (later b.machine (k + 1)) n.machine t cpu (if_so _ _ (arrived c b n t k cpu p there))
    ∙ ap (λ (x : Need). after_need x (passed (shared_of b.machine) (k + 1)) t cpu.rip) needs
  where
    if_so : (x : Bool) (o : Option Machine) → cond x o None ≡ Some n.machine → o ≡ Some n.machine
    if_so true o q = q
    if_so false o q = absurd (none-some _ q)

-- ---- the other kinds

pub no_steps : (image : ImageData) (cpu next : Cpu) → after_private image 0 cpu ≡ Some next → cpu ≡ next
unfolding after_private
no_steps image cpu next e = same_Some cpu next e

pub tick_shared : (c : CaseData) (b n : Both) (t k : ℕ) → advance c b (Tick t k) ≡ Some n → shared_of n.machine ≡ passed (shared_of b.machine) k
tick_shared c b n t k p = let h = made_of c b n (Tick t k) p in ap shared_of (sym (cond_some _ _ n.machine h.is.made).1)

pub wait_shared : (c : CaseData) (b n : Both) (t k : ℕ) → advance c b (Wait t k) ≡ Some n → shared_of n.machine ≡ passed (shared_of b.machine) k
wait_shared c b n t k p = let h = made_of c b n (Wait t k) p in ap shared_of (sym (cond_some _ _ n.machine h.is.made).1)

pub over_shared : (c : CaseData) (b n : Both) (t k : ℕ) → advance c b (Over t k) ≡ Some n → shared_of n.machine ≡ ended_by (passed (shared_of b.machine) k) end.Steps
over_shared c b n t k p = let h = made_of c b n (Over t k) p in ap shared_of (sym (cond_some _ _ n.machine h.is.made).1)

missed_shared : (strict : Bool) (m : Machine) (miss : MissData) → shared_of (missed strict m miss) ≡ missed_in strict (shared_of m) miss
missed_shared true m miss = refl
missed_shared false m miss = refl

pub miss_shared : (c : CaseData) (b n : Both) (t k source target : ℕ) → advance c b (Miss t k source target) ≡ Some n → shared_of n.machine ≡ missed_in c.strict (passed (shared_of b.machine) (k + 1)) (record { thread = t; source = source; target = target })
miss_shared c b n t k source target p =
    let h = made_of c b n (Miss t k source target) p in
    ap shared_of (sym (cond_some _ _ n.machine h.is.made).1) ∙ missed_shared c.strict _ (record { thread = t; source = source; target = target })

flush_by : (m n : Machine) (s : ℕ) (writes : List PendingWrite) → flushed m s writes ≡ Some n → shared_of n ≡ record (shared_of m) { tso = tso.flushed m.tso s writes }
flush_by m n s [] p = absurd (none-some _ p)
flush_by m n s (w ∷ ws) p = ap shared_of (sym (same_Some _ n p))

pub flush_shared : (c : CaseData) (b n : Both) (t : ℕ) → advance c b (Flush t) ≡ Some n → shared_of n.machine ≡ flushed_in (shared_of b.machine) (slot_of t)
flush_shared c b n t p = let h = made_of c b n (Flush t) p in flush_by b.machine n.machine (slot_of t) (list_at b.machine (slot_of t)) h.is.made

pub grow_shared : (c : CaseData) (b n : Both) (t a : ℕ) → advance c b (Grow t a) ≡ Some n → shared_of n.machine ≡ shared_of b.machine
grow_shared c b n t a p = let h = made_of c b n (Grow t a) p in ap shared_of (sym (cond_some _ _ n.machine h.is.made).1)

pub full_shared : (c : CaseData) (b n : Both) (t place : ℕ) → advance c b (Full t) ≡ Some n → (cpu_at b.machine (slot_of t)).rip ≡ place → shared_of n.machine ≡ ended_by (shared_of b.machine) (end.Full t place)
full_shared c b n t place p at =
    let h = made_of c b n (Full t) p in
    let led = steps_private c.image b.gate.grown 0 (stand_at b (slot_of t)) h.stand h.is.ahead in
    let rip : h.stand.cpu.rip ≡ place = ap (λ (x : Cpu). x.rip) (sym (no_steps c.image _ _ led)) ∙ at in
    ap shared_of (sym (cond_some _ _ n.machine h.is.made).1) ∙ ap (λ (x : ℕ). ended_by (shared_of b.machine) (end.Full t x)) rip

pub dead_shared : (c : CaseData) (b n : Both) → advance c b Dead ≡ Some n → shared_of n.machine ≡ ended_by (shared_of b.machine) end.Deadlock
dead_shared c b n p = let h = made_of c b n Dead p in ap shared_of (sym (cond_some _ _ n.machine h.is.made).1)
