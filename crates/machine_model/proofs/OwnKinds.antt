-- What each kind of entry leaves of the thread that it names.
use Rattle.std.proofs.Common.{◌≡◌, ◌≢◌, ℕ, ◌+◌, ◌<◌, Bool, true, false, cond, List, [], ◌∷◌, ◌++◌, Option, Some, None, refl, sym, ap, ◌∙◌, subst, arith, ◌&&◌, not, nat_lt, length}
use Rattle.std.specs.Prelude.{option_and_then}
use Rattle.std.proofs.lemmas.List.{get_or-set_same, get_or-set_other}
use Rattle.std.proofs.lemmas.Option.{none-some, same_Some, cond_some}
use Rattle.address_space.specs.Slots.{slot_of}
use Rattle.address_space.proofs.Numbers.{slot_below}
use Rattle.lib_table.specs.declared.answer.BadKind.{BadKind}
use Rattle.lib_table.specs.declared.answer.BadKind.TheVariants.{Access}
use Rattle.lib_table.specs.declared.answer.Called.{Called}
use Rattle.lib_table.specs.declared.ask.Asked.{Asked}
use Rattle.lib_table.specs.declared.ask.Asked.TheVariants.{Lib}
use Rattle.lib_table.specs.Library.{LibraryData, birth}
use Rattle.lib_table.specs.Outcome.{Done, Bad}
use Rattle.miss_report.specs.declared.miss.Miss.{Miss as MissData}
use Rattle.tso_memory.specs.declared.access.Access.TheVariants as access
use Rattle.tso_memory.specs.declared.write.PendingWrite.{PendingWrite}
use Rattle.tso_memory.specs.Buffer.{pending, size_of}
use Rattle.tso_memory.specs.Memory.{Memory, number_from}
use Rattle.tso_memory.specs.Tso as tso
use Rattle.tso_memory.specs.Tso.{is_none_waiting, seen_by, memory_number}
use Rattle.x86_forms.specs.declared.operands.Width.{Width}
use Rattle.x86_model.specs.declared.cpu.Cpu.{Cpu}
use Rattle.x86_model.specs.declared.want.BadStep.{BadStep}
use Rattle.x86_model.specs.declared.want.Change.{Change}
use Rattle.x86_model.specs.declared.want.Want.{Want}
use Rattle.x86_model.specs.declared.want.Want.TheVariants as wants
use Rattle.x86_model.specs.Want.{want}
use Rattle.journal_pack.specs.declared.entry.Entry.{Entry}
use Rattle.journal_pack.specs.declared.entry.Entry.TheVariants.{Ev, Tick, Flush, Wait, Miss, Grow, Over, Full}
use Rattle.journal_pack.specs.Entry.{private_of}
use Rattle.machine_model.specs.declared.ending.RunEnd.{RunEnd}
use Rattle.machine_model.specs.declared.ending.RunEnd.TheVariants as end
use Rattle.machine_model.specs.CaseData.{CaseData}
use Rattle.machine_model.specs.Conversions.{memory_width_of, memory_change_of, kind_of, asked_at}
use Rattle.machine_model.specs.State.{Core, Machine, core_at, list_at, no_core, slots, with_core, with_list}
use Rattle.machine_model.specs.Step.{answered, asked_by, born_core, called, carried_out, core_with, cpu_at, ended, exchanged, exit_by, faulted, flushed, is_in_use, later, loaded, lives, missed, newborn, row_at, served, serving, slot_in, stored, with_birth, with_cpu}
use Rattle.machine_model.specs.Gated.{Both, Gate, Growing, Other, Spot, Stand, advance, after_flush, gate_with, gated_steps, no_spot, onward, spot_at, spot_with, stand_at}
use Rattle.machine_model.specs.Own.{Clock, IsAhead, IsEntered, IsMade, IsWhole, Standing, frames_at, miss_end, refusal, writes_at}
use Rattle.machine_model.proofs.Costs.{both_of}
use Rattle.machine_model.proofs.Independence.{find_passes, if_some}
use Rattle.machine_model.proofs.Own.{lt_of, made_of}

-- ---- the slot of an entry's thread

pub record At (c : CaseData) (b n : Both) (e : Entry) (d : Stand) : Type 0 where
  pub spot : Spot
  pub is : IsMade c b e d n.machine spot
  pub gate : n.gate ≡ gate_with e b.gate spot

-- an entry whose private steps lead there
pub made_at : (c : CaseData) (b n : Both) (e : Entry) (d : Stand) → advance c b e ≡ Some n → IsAhead c b (slot_in e) (private_of e) d → At c b n e d
made_at c b n e d p ahead =
    let h = made_of c b n e p in
    let same : h.stand ≡ d = same_Some h.stand d (sym h.is.ahead ∙ ahead) in
    record { spot = h.spot; is = subst (λ x. IsMade c b e x n.machine h.spot) same h.is; gate = h.gate }

-- from what is left of the core, the list and the spot
standing_by : (b n : Both) (e : Entry) (m : Machine) (kept told : Spot) (core : Core) (writes : List PendingWrite) → IsWhole b → slot_in e < 64 → m ≡ n.machine → n.gate ≡ gate_with e b.gate kept → told ≡ kept → core_at m (slot_in e) ≡ core → list_at m (slot_in e) ≡ writes → Standing n (slot_in e) (record { cpu = core.cpu; left = told.left }) core.frames writes told.latest
standing_by b n e m kept told core writes whole low machine gate spot here list =
    let lt : slot_in e < length b.gate.spots = omega (arith, low, whole.spots) in
    let at : spot_at n.gate (slot_in e) ≡ told = ap (λ (g : Gate). spot_at g (slot_in e)) gate ∙ get_or-set_same b.gate.spots (slot_in e) kept no_spot lt ∙ sym spot in
    let core_is : core_at n.machine (slot_in e) ≡ core = ap (λ (x : Machine). core_at x (slot_in e)) (sym machine) ∙ here in
    record {
      stand = stand_eq n (slot_in e) core.cpu told.left (ap (λ (x : Core). x.cpu) core_is) (ap (λ (x : Spot). x.left) at);
      frames = ap (λ (x : Core). x.frames) core_is;
      writes = ap (λ (x : Machine). list_at x (slot_in e)) (sym machine) ∙ list;
      latest = ap (λ (x : Spot). x.latest) at;
    }
  where
    stand_eq : (n : Both) (s : ℕ) (cpu : Cpu) (left : List ℕ) → cpu_at n.machine s ≡ cpu → (spot_at n.gate s).left ≡ left → stand_at n s ≡ record { cpu = cpu; left = left }
    stand_eq n s cpu left p q = ap (λ x. record { cpu = x; left = (spot_at n.gate s).left }) p ∙ ap (λ x. record { cpu = cpu; left = x }) q

clock_by : (n : Both) (m : Machine) (count : ℕ) (end : Option RunEnd) (library : LibraryData) → m ≡ n.machine → m.steps ≡ count → m.ending ≡ end → m.library ≡ library → Clock n count end library
clock_by n m count end library p s e l = record { steps = ap (λ (x : Machine). x.steps) (sym p) ∙ s; ending = ap (λ (x : Machine). x.ending) (sym p) ∙ e; library = ap (λ (x : Machine). x.library) (sym p) ∙ l }

core_set : (b : Both) (t : ℕ) (core : Core) → IsWhole b → core_at (with_core b.machine (slot_of t) core) (slot_of t) ≡ core
core_set b t core whole =
    let low = slot_below t in
    let lt : slot_of t < length b.machine.cores = omega (arith, low, whole.machine.cores) in
    get_or-set_same b.machine.cores (slot_of t) core no_core lt

-- ---- private steps alone

pub tick_own : (c : CaseData) (b n : Both) (t k : ℕ) (d : Stand) → IsWhole b → advance c b (Tick t k) ≡ Some n → IsAhead c b (slot_of t) k d → Standing n (slot_of t) d (frames_at b t) (writes_at b t) Other × Clock n (b.machine.steps + k) None b.machine.library × (n.gate.grown ≡ b.gate.grown)
tick_own c b n t k d whole p ahead =
    let h = made_at c b n (Tick t k) d p ahead in
    let m = later (with_cpu b.machine (slot_of t) d.cpu) k in
    let q : m ≡ n.machine = (cond_some _ _ n.machine h.is.made).1 in
    let sp : spot_with d.left Other ≡ h.spot = same_Some _ h.spot h.is.last in
    (standing_by b n (Tick t k) m h.spot (spot_with d.left Other) (core_with b.machine t d.cpu) (writes_at b t) whole (slot_below t) q h.gate sp (core_set b t (core_with b.machine t d.cpu) whole) refl, clock_by n m _ None b.machine.library q refl h.is.going refl, ap (λ (g : Gate). g.grown) h.gate)

pub wait_own : (c : CaseData) (b n : Both) (t k : ℕ) (d : Stand) → IsWhole b → advance c b (Wait t k) ≡ Some n → IsAhead c b (slot_of t) k d → Standing n (slot_of t) d (frames_at b t) (writes_at b t) Other × Clock n (b.machine.steps + k) None b.machine.library × (n.gate.grown ≡ b.gate.grown)
wait_own c b n t k d whole p ahead =
    let h = made_at c b n (Wait t k) d p ahead in
    let m = later (with_cpu b.machine (slot_of t) d.cpu) k in
    let q : m ≡ n.machine = (cond_some _ _ n.machine h.is.made).1 in
    let sp : spot_with d.left Other ≡ h.spot = same_Some _ h.spot h.is.last in
    (standing_by b n (Wait t k) m h.spot (spot_with d.left Other) (core_with b.machine t d.cpu) (writes_at b t) whole (slot_below t) q h.gate sp (core_set b t (core_with b.machine t d.cpu) whole) refl, clock_by n m _ None b.machine.library q refl h.is.going refl, ap (λ (g : Gate). g.grown) h.gate)

pub over_own : (c : CaseData) (b n : Both) (t k : ℕ) (d : Stand) → IsWhole b → advance c b (Over t k) ≡ Some n → IsAhead c b (slot_of t) k d → Standing n (slot_of t) d (frames_at b t) (writes_at b t) Other × Clock n (b.machine.steps + k) (Some end.Steps) b.machine.library × (n.gate.grown ≡ b.gate.grown)
over_own c b n t k d whole p ahead =
    let h = made_at c b n (Over t k) d p ahead in
    let m = ended (later (with_cpu b.machine (slot_of t) d.cpu) k) end.Steps in
    let q : m ≡ n.machine = (cond_some _ _ n.machine h.is.made).1 in
    let sp : spot_with d.left Other ≡ h.spot = same_Some _ h.spot h.is.last in
    (standing_by b n (Over t k) m h.spot (spot_with d.left Other) (core_with b.machine t d.cpu) (writes_at b t) whole (slot_below t) q h.gate sp (core_set b t (core_with b.machine t d.cpu) whole) refl, clock_by n m _ (Some end.Steps) b.machine.library q refl refl refl, ap (λ (g : Gate). g.grown) h.gate)

-- ---- misses and growth

missed_same : (strict : Bool) (m : Machine) (miss : MissData) (s : ℕ) → (core_at (missed strict m miss) s ≡ core_at m s) × (list_at (missed strict m miss) s ≡ list_at m s) × ((missed strict m miss).steps ≡ m.steps) × ((missed strict m miss).library ≡ m.library)
missed_same true m miss s = (refl, refl, refl, refl)
missed_same false m miss s = (refl, refl, refl, refl)

missed_end : (strict : Bool) (m : Machine) (miss : MissData) → m.ending ≡ None → (missed strict m miss).ending ≡ miss_end strict miss
missed_end true m miss e = refl
missed_end false m miss e = e

pub miss_own : (c : CaseData) (b n : Both) (t k source target : ℕ) (d : Stand) → IsWhole b → advance c b (Miss t k source target) ≡ Some n → IsAhead c b (slot_of t) k d → Standing n (slot_of t) (record { cpu = d.cpu; left = [] }) (frames_at b t) (writes_at b t) (Growing target) × Clock n (b.machine.steps + (k + 1)) (miss_end c.strict (record { thread = t; source = source; target = target })) b.machine.library × (n.gate.grown ≡ b.gate.grown)
miss_own c b n t k source target d whole p ahead =
    let e = Miss t k source target in
    let h = made_at c b n e d p ahead in
    let miss : MissData = record { thread = t; source = source; target = target } in
    let before = later (with_cpu b.machine (slot_of t) d.cpu) (k + 1) in
    let m = missed c.strict before miss in
    let q : m ≡ n.machine = (cond_some _ _ n.machine h.is.made).1 in
    let sp : spot_with [] (Growing target) ≡ h.spot = (cond_some _ _ h.spot h.is.last).1 in
    let same = missed_same c.strict before miss (slot_of t) in
    (standing_by b n e m h.spot (spot_with [] (Growing target)) (core_with b.machine t d.cpu) (writes_at b t) whole (slot_below t) q h.gate sp (same.0 ∙ core_set b t (core_with b.machine t d.cpu) whole) same.1, clock_by n m _ _ b.machine.library q same.2 (missed_end c.strict before miss h.is.going) same.3, ap (λ (g : Gate). g.grown) h.gate)

-- growth leaves the machine as it is
pub grow_own : (c : CaseData) (b n : Both) (t a : ℕ) → IsWhole b → advance c b (Grow t a) ≡ Some n → (n.machine ≡ b.machine) × (spot_at n.gate (slot_of t) ≡ spot_at b.gate (slot_of t)) × (n.gate.grown ≡ a ∷ b.gate.grown)
grow_own c b n t a whole p =
    let h = made_of c b n (Grow t a) p in
    let q : b.machine ≡ n.machine = (cond_some _ _ n.machine h.is.made).1 in
    let sp : spot_at b.gate (slot_of t) ≡ h.spot = (cond_some _ _ h.spot h.is.last).1 in
    let low = slot_below t in
    let lt : slot_of t < length b.gate.spots = omega (arith, low, whole.spots) in
    (sym q, ap (λ (g : Gate). spot_at g (slot_of t)) h.gate ∙ get_or-set_same b.gate.spots (slot_of t) h.spot no_spot lt ∙ sym sp, ap (λ (g : Gate). g.grown) h.gate)

pub full_own : (c : CaseData) (b n : Both) (t : ℕ) → advance c b (Full t) ≡ Some n → n.machine ≡ ended b.machine (end.Full t (cpu_at b.machine (slot_of t)).rip)
unfolding gated_steps
full_own c b n t p =
    let h = made_of c b n (Full t) p in
    let q : ended b.machine (end.Full t h.stand.cpu.rip) ≡ n.machine = (cond_some _ _ n.machine h.is.made).1 in
    let same : stand_at b (slot_of t) ≡ h.stand = same_Some _ h.stand h.is.ahead in
    sym q ∙ ap (λ (d : Stand). ended b.machine (end.Full t d.cpu.rip)) (sym same)

-- ---- flushes

flushed_own : (c : CaseData) (b n : Both) (t : ℕ) (w : PendingWrite) (ws : List PendingWrite) (h : At c b n (Flush t) (stand_at b (slot_of t))) → list_at b.machine (slot_of t) ≡ w ∷ ws → record b.machine { tso = tso.flushed b.machine.tso (slot_of t) (w ∷ ws) } ≡ n.machine
flushed_own c b n t w ws h e = same_Some _ n.machine (ap (flushed b.machine (slot_of t)) (sym e) ∙ h.is.made)

pub flush_own : (c : CaseData) (b n : Both) (t : ℕ) (w : PendingWrite) (ws : List PendingWrite) → IsWhole b → advance c b (Flush t) ≡ Some n → list_at b.machine (slot_of t) ≡ w ∷ ws → Standing n (slot_of t) (stand_at b (slot_of t)) (frames_at b t) ws (after_flush (spot_at b.gate (slot_of t)).latest) × Clock n b.machine.steps None b.machine.library × (n.gate.grown ≡ b.gate.grown)
unfolding gated_steps
flush_own c b n t w ws whole p list =
    let h = made_at c b n (Flush t) (stand_at b (slot_of t)) p refl in
    let m = record b.machine { tso = tso.flushed b.machine.tso (slot_of t) (w ∷ ws) } in
    let q : m ≡ n.machine = flushed_own c b n t w ws h list in
    let told = spot_with (spot_at b.gate (slot_of t)).left (after_flush (spot_at b.gate (slot_of t)).latest) in
    let sp : told ≡ h.spot = same_Some told h.spot h.is.last in
    let low = slot_below t in
    let lt : slot_of t < length b.machine.tso.buffers = omega (arith, low, whole.machine.lists) in
    (standing_by b n (Flush t) m h.spot told (core_at b.machine (slot_of t)) ws whole low q h.gate sp refl (get_or-set_same b.machine.tso.buffers (slot_of t) ws [] lt), clock_by n m _ None b.machine.library q refl h.is.going refl, ap (λ (g : Gate). g.grown) h.gate)

-- a flush is made exactly where a write waits
flush_some_waits : (m n : Machine) (s : ℕ) (writes : List PendingWrite) → flushed m s writes ≡ Some n → (w : PendingWrite) × (ws : List PendingWrite) × (writes ≡ w ∷ ws)
flush_some_waits m n s [] p = absurd (none-some n p)
flush_some_waits m n s (w ∷ ws) p = (w, ws, refl)

pub flush_waits : (c : CaseData) (b n : Both) (t : ℕ) → advance c b (Flush t) ≡ Some n → (w : PendingWrite) × (ws : List PendingWrite) × (list_at b.machine (slot_of t) ≡ w ∷ ws)
flush_waits c b n t p = let h = made_of c b n (Flush t) p in flush_some_waits b.machine n.machine (slot_of t) (list_at b.machine (slot_of t)) h.is.made

-- ---- events

-- what an event is made of
pub record Event (c : CaseData) (b n : Both) (t k : ℕ) (d : Stand) (left : List ℕ) : Type 0 where
  pub room : b.machine.steps + k < c.limit
  pub made : carried_out (want c.image d.cpu) (later b.machine (k + 1)) t d.cpu ≡ Some n.machine
  pub spot : Spot
  pub told : spot_with (onward (cpu_at n.machine (slot_of t)).mid left) Other ≡ spot
  pub gate : n.gate ≡ gate_with (Ev t k) b.gate spot
  pub going : b.machine.ending ≡ None
  pub live : lives b.machine (Some t) ≡ true

pub event_of : (c : CaseData) (b n : Both) (t k : ℕ) (d : Stand) (left : List ℕ) → advance c b (Ev t k) ≡ Some n → IsAhead c b (slot_of t) k d → IsEntered c b d left → Event c b n t k d left
event_of c b n t k d left p ahead there =
    let h = made_at c b n (Ev t k) d p ahead in
    let q = if_some (nat_lt (b.machine.steps + k) c.limit) _ n.machine h.is.made in
    record {
      room = lt_of (b.machine.steps + k) c.limit q.0;
      made = q.1;
      spot = h.spot;
      told = same_Some _ h.spot (ap (option_and_then (λ l. Some (spot_with (onward (cpu_at n.machine (slot_of t)).mid l) Other))) (sym there) ∙ h.is.last);
      gate = h.gate;
      going = h.is.going;
      live = h.is.live;
    }

event_standing : (c : CaseData) (b n : Both) (t k : ℕ) (d : Stand) (left : List ℕ) (m : Machine) (core : Core) (writes : List PendingWrite) (end : Option RunEnd) (library : LibraryData) → IsWhole b → Event c b n t k d left → m ≡ n.machine → core_at m (slot_of t) ≡ core → list_at m (slot_of t) ≡ writes → m.steps ≡ b.machine.steps + (k + 1) → m.ending ≡ end → m.library ≡ library → Standing n (slot_of t) (record { cpu = core.cpu; left = onward core.cpu.mid left }) core.frames writes Other × Clock n (b.machine.steps + (k + 1)) end library × (n.gate.grown ≡ b.gate.grown)
event_standing c b n t k d left m core writes end library whole h q here list steps ends lib =
    let told : Spot = spot_with (onward core.cpu.mid left) Other in
    let cpu : core.cpu ≡ cpu_at n.machine (slot_of t) = ap (λ (x : Core). x.cpu) (sym here) ∙ ap (λ (x : Machine). cpu_at x (slot_of t)) q in
    let sp : told ≡ h.spot = ap (λ (x : Cpu). spot_with (onward x.mid left) Other) cpu ∙ h.told in
    (standing_by b n (Ev t k) m h.spot told core writes whole (slot_below t) q h.gate sp here list, clock_by n m _ end library q steps ends lib, ap (λ (g : Gate). g.grown) h.gate)

carried_at : (c : CaseData) (b n : Both) (t k : ℕ) (d : Stand) (left : List ℕ) (w : Want) → Event c b n t k d left → want c.image d.cpu ≡ w → carried_out w (later b.machine (k + 1)) t d.cpu ≡ Some n.machine
carried_at c b n t k d left w h e = ap (λ x. carried_out x (later b.machine (k + 1)) t d.cpu) (sym e) ∙ h.made

-- a load that isn't refused
pub load_own : (c : CaseData) (b n : Both) (t k a : ℕ) (w : Width) (d : Stand) (left : List ℕ) → IsWhole b → advance c b (Ev t k) ≡ Some n → IsAhead c b (slot_of t) k d → IsEntered c b d left → want c.image d.cpu ≡ wants.Load a w → refusal b access.Load a w ≡ None → Standing n (slot_of t) (record { cpu = answered d.cpu (number_from (seen_by b.machine.tso (slot_of t)) (size_of (memory_width_of w)) a); left = left }) (frames_at b t) (writes_at b t) Other × Clock n (b.machine.steps + (k + 1)) None b.machine.library × (n.gate.grown ≡ b.gate.grown)
load_own c b n t k a w d left whole p ahead there e may =
    let h = event_of c b n t k d left p ahead there in
    let before = later b.machine (k + 1) in
    let size = size_of (memory_width_of w) in
    let cpu = answered d.cpu (number_from (seen_by b.machine.tso (slot_of t)) size a) in
    let m = with_cpu before (slot_of t) cpu in
    let q : m ≡ n.machine = same_Some m n.machine (ap (λ o. Some (loaded before t d.cpu a size o)) (sym may) ∙ carried_at c b n t k d left _ h e) in
    event_standing c b n t k d left m (core_with b.machine t cpu) (writes_at b t) None b.machine.library whole h q (core_set b t (core_with b.machine t cpu) whole) refl refl h.going refl

-- a store that isn't refused
pub store_own : (c : CaseData) (b n : Both) (t k a value : ℕ) (w : Width) (next : Cpu) (d : Stand) (left : List ℕ) → IsWhole b → advance c b (Ev t k) ≡ Some n → IsAhead c b (slot_of t) k d → IsEntered c b d left → want c.image d.cpu ≡ wants.Store a w value next → refusal b access.Store a w ≡ None → Standing n (slot_of t) (record { cpu = next; left = onward next.mid left }) (frames_at b t) (writes_at b t ++ pending a (memory_width_of w) value ∷ []) Other × Clock n (b.machine.steps + (k + 1)) None b.machine.library × (n.gate.grown ≡ b.gate.grown)
store_own c b n t k a value w next d left whole p ahead there e may =
    let h = event_of c b n t k d left p ahead there in
    let before = later b.machine (k + 1) in
    let size = size_of (memory_width_of w) in
    let write = pending a (memory_width_of w) value in
    let m = with_list (with_cpu before (slot_of t) next) (slot_of t) (writes_at b t ++ write ∷ []) in
    let q : m ≡ n.machine = same_Some m n.machine (ap (λ o. Some (stored before t d.cpu write next o)) (sym may) ∙ carried_at c b n t k d left _ h e) in
    let low = slot_below t in
    let lt : slot_of t < length b.machine.tso.buffers = omega (arith, low, whole.machine.lists) in
    event_standing c b n t k d left m (core_with b.machine t next) (writes_at b t ++ write ∷ []) None b.machine.library whole h q (core_set b t (core_with b.machine t next) whole) (get_or-set_same b.machine.tso.buffers (slot_of t) (writes_at b t ++ write ∷ []) [] lt) refl h.going refl

pub fence_own : (c : CaseData) (b n : Both) (t k : ℕ) (next : Cpu) (d : Stand) (left : List ℕ) → IsWhole b → advance c b (Ev t k) ≡ Some n → IsAhead c b (slot_of t) k d → IsEntered c b d left → want c.image d.cpu ≡ wants.Fence next → Standing n (slot_of t) (record { cpu = next; left = onward next.mid left }) (frames_at b t) (writes_at b t) Other × Clock n (b.machine.steps + (k + 1)) None b.machine.library × (n.gate.grown ≡ b.gate.grown)
fence_own c b n t k next d left whole p ahead there e =
    let h = event_of c b n t k d left p ahead there in
    let before = later b.machine (k + 1) in
    let m = with_cpu before (slot_of t) next in
    let q : m ≡ n.machine = (cond_some (is_none_waiting (writes_at b t)) m n.machine (carried_at c b n t k d left _ h e)).1 in
    event_standing c b n t k d left m (core_with b.machine t next) (writes_at b t) None b.machine.library whole h q (core_set b t (core_with b.machine t next) whole) refl refl h.going refl

-- a locked access that isn't refused
pub locked_own : (c : CaseData) (b n : Both) (t k a : ℕ) (w : Width) (change : Change) (d : Stand) (left : List ℕ) → IsWhole b → advance c b (Ev t k) ≡ Some n → IsAhead c b (slot_of t) k d → IsEntered c b d left → want c.image d.cpu ≡ wants.Locked a w change → refusal b access.Locked a w ≡ None → Standing n (slot_of t) (record { cpu = answered d.cpu (memory_number b.machine.tso (size_of (memory_width_of w)) a); left = left }) (frames_at b t) (writes_at b t) Other × Clock n (b.machine.steps + (k + 1)) None b.machine.library × (n.gate.grown ≡ b.gate.grown)
locked_own c b n t k a w change d left whole p ahead there e may =
    let h = event_of c b n t k d left p ahead there in
    let before = later b.machine (k + 1) in
    let size = size_of (memory_width_of w) in
    let cpu = answered d.cpu (memory_number b.machine.tso size a) in
    let m = record (with_cpu before (slot_of t) cpu) { tso = tso.exchanged b.machine.tso size a (memory_change_of change) } in
    let made : cond (is_none_waiting (writes_at b t)) (Some (exchanged before t d.cpu a size (memory_change_of change) None)) None ≡ Some n.machine = ap (λ o. cond (is_none_waiting (writes_at b t)) (Some (exchanged before t d.cpu a size (memory_change_of change) o)) None) (sym may) ∙ carried_at c b n t k d left _ h e in
    let q : m ≡ n.machine = (cond_some (is_none_waiting (writes_at b t)) m n.machine made).1 in
    event_standing c b n t k d left m (core_with b.machine t cpu) (writes_at b t) None b.machine.library whole h q (core_set b t (core_with b.machine t cpu) whole) refl refl h.going refl

-- ---- requests

-- a thread is born in another slot than that of one that lives
newborn_other : (before after : LibraryData) (s x : ℕ) → is_in_use before s ≡ true → newborn before after ≡ Some x → s ≢ x
newborn_other before after s x live p e =
    let test = find_passes (λ u. is_in_use after u && not (is_in_use before u)) slots x p in
    let new : (is_in_use after x ≡ true) × (not (is_in_use before x) ≡ true) = both_of (is_in_use after x) (not (is_in_use before x)) test in
    let there : is_in_use before x ≡ true = ap (is_in_use before) (sym e) ∙ live in
    let clash : true ≡ false = sym new.1 ∙ ap not there in
    cc

birth_core : (m : Machine) (who : Option ℕ) (s : ℕ) → ((x : ℕ) → who ≡ Some x → s ≢ x) → core_at (with_birth m who) s ≡ core_at m s
birth_core m None s h = refl
birth_core m (Some x) s h = get_or-set_other m.cores x s (born_core x (birth m.library x)) no_core (h x refl)

birth_same : (m : Machine) (who : Option ℕ) (s : ℕ) → (list_at (with_birth m who) s ≡ list_at m s) × ((with_birth m who).steps ≡ m.steps) × ((with_birth m who).ending ≡ m.ending) × ((with_birth m who).library ≡ m.library)
birth_same m None s = (refl, refl, refl, refl)
birth_same m (Some x) s = (refl, refl, refl, refl)

-- what is asked of the library is served
pub by_request : (w : Want) (what : Asked) (m : Machine) (t : ℕ) (cpu : Cpu) (n : Machine) → asked_by w ≡ Some what → carried_out w m t cpu ≡ Some n → serving m t (core_with m t cpu) what ≡ Some n
by_request (wants.Private next) what m t cpu n e p = absurd (none-some what e)
by_request (wants.Load a w) what m t cpu n e p = absurd (none-some what e)
by_request (wants.Store a w value next) what m t cpu n e p = absurd (none-some what e)
by_request (wants.Fence next) what m t cpu n e p = absurd (none-some what e)
by_request (wants.Locked a w change) what m t cpu n e p = absurd (none-some what e)
by_request (wants.Call f) what m t cpu n e p = subst (λ x. serving m t (core_with m t cpu) x ≡ Some n) (same_Some (Lib f) what e) p
by_request (wants.Door d) what m t cpu n e p = subst (λ x. serving m t (core_with m t cpu) x ≡ Some n) (same_Some (asked_at d) what e) p
by_request (wants.Bad kind) what m t cpu n e p = absurd (none-some what e)

-- a request that is carried out
pub call_own : (c : CaseData) (b n : Both) (t k : ℕ) (d : Stand) (left : List ℕ) (what : Asked) (library : LibraryData) (memory : Memory) (answer : Called) → IsWhole b → advance c b (Ev t k) ≡ Some n → IsAhead c b (slot_of t) k d → IsEntered c b d left → asked_by (want c.image d.cpu) ≡ Some what → row_at b.machine t (core_with b.machine t d.cpu) what ≡ Done library memory answer → is_in_use b.machine.library (slot_of t) ≡ true
    → Standing n (slot_of t) (record { cpu = (called (core_with b.machine t d.cpu) what answer).cpu; left = onward (called (core_with b.machine t d.cpu) what answer).cpu.mid left }) (called (core_with b.machine t d.cpu) what answer).frames (writes_at b t) Other × Clock n (b.machine.steps + (k + 1)) (exit_by (core_with b.machine t d.cpu) what) library × (n.gate.grown ≡ b.gate.grown)
call_own c b n t k d left what library memory answer whole p ahead there e row live =
    let h = event_of c b n t k d left p ahead there in
    let before = later b.machine (k + 1) in
    let core = core_with b.machine t d.cpu in
    let after : Machine = record (with_core before (slot_of t) (called core what answer)) { library = library; tso = record b.machine.tso { memory = memory }; ending = exit_by core what } in
    let who = newborn b.machine.library library in
    let m = with_birth after who in
    let serves : serving before t core what ≡ Some n.machine = by_request (want c.image d.cpu) what before t d.cpu n.machine e h.made in
    let q : m ≡ n.machine = same_Some m n.machine (ap (served before t core what) (sym row) ∙ (if_some (is_none_waiting (writes_at b t)) _ n.machine serves).1) in
    let same = birth_same after who (slot_of t) in
    let own : core_at m (slot_of t) ≡ called core what answer = birth_core after who (slot_of t) (λ x w. newborn_other b.machine.library library (slot_of t) x live w) ∙ core_set b t (called core what answer) whole in
    event_standing c b n t k d left m (called core what answer) (writes_at b t) (exit_by core what) library whole h q own same.0 same.1 same.2 same.3

-- ---- faults

-- an access that is refused, and a step that can't be made, end the run and leave all else as it was
faulted_ends : (c : CaseData) (b n : Both) (t k : ℕ) (d : Stand) (kind : BadKind) → faulted (later b.machine (k + 1)) t d.cpu kind ≡ n.machine → Clock n (b.machine.steps + (k + 1)) (Some (end.Fault t d.cpu.rip kind)) b.machine.library
faulted_ends c b n t k d kind q = clock_by n _ _ _ _ q refl refl refl

pub bad_own : (c : CaseData) (b n : Both) (t k : ℕ) (d : Stand) (left : List ℕ) (kind : BadStep) → advance c b (Ev t k) ≡ Some n → IsAhead c b (slot_of t) k d → IsEntered c b d left → want c.image d.cpu ≡ wants.Bad kind → Clock n (b.machine.steps + (k + 1)) (Some (end.Fault t d.cpu.rip (kind_of kind))) b.machine.library
bad_own c b n t k d left kind p ahead there e =
    let h = event_of c b n t k d left p ahead there in
    faulted_ends c b n t k d (kind_of kind) (same_Some _ n.machine (carried_at c b n t k d left _ h e))

pub load_refused : (c : CaseData) (b n : Both) (t k a x : ℕ) (w : Width) (d : Stand) (left : List ℕ) → advance c b (Ev t k) ≡ Some n → IsAhead c b (slot_of t) k d → IsEntered c b d left → want c.image d.cpu ≡ wants.Load a w → refusal b access.Load a w ≡ Some x → Clock n (b.machine.steps + (k + 1)) (Some (end.Fault t d.cpu.rip (Access x))) b.machine.library
load_refused c b n t k a x w d left p ahead there e bad =
    let h = event_of c b n t k d left p ahead there in
    let q = ap (λ o. Some (loaded (later b.machine (k + 1)) t d.cpu a (size_of (memory_width_of w)) o)) (sym bad) ∙ carried_at c b n t k d left _ h e in
    faulted_ends c b n t k d (Access x) (same_Some _ n.machine q)

pub store_refused : (c : CaseData) (b n : Both) (t k a value x : ℕ) (w : Width) (next : Cpu) (d : Stand) (left : List ℕ) → advance c b (Ev t k) ≡ Some n → IsAhead c b (slot_of t) k d → IsEntered c b d left → want c.image d.cpu ≡ wants.Store a w value next → refusal b access.Store a w ≡ Some x → Clock n (b.machine.steps + (k + 1)) (Some (end.Fault t d.cpu.rip (Access x))) b.machine.library
store_refused c b n t k a value x w next d left p ahead there e bad =
    let h = event_of c b n t k d left p ahead there in
    let q = ap (λ o. Some (stored (later b.machine (k + 1)) t d.cpu (pending a (memory_width_of w) value) next o)) (sym bad) ∙ carried_at c b n t k d left _ h e in
    faulted_ends c b n t k d (Access x) (same_Some _ n.machine q)

pub locked_refused : (c : CaseData) (b n : Both) (t k a x : ℕ) (w : Width) (change : Change) (d : Stand) (left : List ℕ) → advance c b (Ev t k) ≡ Some n → IsAhead c b (slot_of t) k d → IsEntered c b d left → want c.image d.cpu ≡ wants.Locked a w change → refusal b access.Locked a w ≡ Some x → Clock n (b.machine.steps + (k + 1)) (Some (end.Fault t d.cpu.rip (Access x))) b.machine.library
locked_refused c b n t k a x w change d left p ahead there e bad =
    let h = event_of c b n t k d left p ahead there in
    let q = ap (λ o. cond (is_none_waiting (writes_at b t)) (Some (exchanged (later b.machine (k + 1)) t d.cpu a (size_of (memory_width_of w)) (memory_change_of change) o)) None) (sym bad) ∙ carried_at c b n t k d left _ h e in
    faulted_ends c b n t k d (Access x) (cond_some (is_none_waiting (writes_at b t)) _ n.machine q).1

pub call_bad : (c : CaseData) (b n : Both) (t k : ℕ) (d : Stand) (left : List ℕ) (what : Asked) (kind : BadKind) → advance c b (Ev t k) ≡ Some n → IsAhead c b (slot_of t) k d → IsEntered c b d left → asked_by (want c.image d.cpu) ≡ Some what → row_at b.machine t (core_with b.machine t d.cpu) what ≡ Bad kind → Clock n (b.machine.steps + (k + 1)) (Some (end.Fault t d.cpu.rip kind)) b.machine.library
call_bad c b n t k d left what kind p ahead there e row =
    let h = event_of c b n t k d left p ahead there in
    let before = later b.machine (k + 1) in
    let core = core_with b.machine t d.cpu in
    let serves = by_request (want c.image d.cpu) what before t d.cpu n.machine e h.made in
    faulted_ends c b n t k d kind (same_Some _ n.machine (ap (served before t core what) (sym row) ∙ (if_some (is_none_waiting (writes_at b t)) _ n.machine serves).1))
