-- Each slot of a machine that goes on is settled: a thread that lives is placed, and where none does nothing waits.
use Rattle.std.proofs.Common.{◌≡◌, ◌≢◌, ℕ, ◌+◌, ◌<◌, inl, inr, Bool, true, false, cond, List, [], ◌∷◌, Option, Some, None, refl, sym, ap, ◌∙◌, subst, arith, ◌==◌, nat_lt}
use Rattle.std.proofs.lemmas.Bool.{cases_eq}
use Rattle.std.proofs.lemmas.List.{get_or-replicate}
use Rattle.std.proofs.lemmas.Option.{option_and_then_some, none-some}
use Rattle.elf_image.specs.Layout.{ImageData}
use Rattle.address_space.specs.Slots.{slot_of, generation_of}
use Rattle.lib_table.specs.declared.ask.Asked.{Asked}
use Rattle.lib_table.specs.declared.ask.Asked.TheVariants.{Lib}
use Rattle.lib_table.specs.declared.life.Life.TheVariants.{Unborn, Joined}
use Rattle.lib_table.specs.declared.slot.Slot.{Slot}
use Rattle.lib_table.specs.Library.{is_running, life_in, slot_at}
use Rattle.lib_table.specs.Outcome.{RowResult, Done, Waits, Bad}
use Rattle.tso_memory.specs.declared.access.Access.TheVariants as access
use Rattle.tso_memory.specs.declared.write.PendingWrite.{PendingWrite}
use Rattle.tso_memory.specs.Buffer.{size_of}
use Rattle.tso_memory.specs.Memory.{number_from}
use Rattle.tso_memory.specs.Tso.{is_none_waiting, memory_number, seen_by}
use Rattle.x86_model.specs.declared.cpu.Cpu.{Cpu}
use Rattle.x86_model.specs.declared.want.Want.{Want}
use Rattle.x86_model.specs.declared.want.Want.TheVariants as wants
use Rattle.x86_model.specs.Want.{want}
use Rattle.basic_blocks.specs.Places.{is_code_place}
use Rattle.basic_blocks.specs.Reach.{is_among}
use Rattle.journal_pack.specs.declared.entry.Entry.{Entry}
use Rattle.journal_pack.specs.declared.entry.Entry.TheVariants.{Ev, Tick, Flush, Wait, Miss, Grow, Over, Full, Dead}
use Rattle.machine_model.specs.declared.ending.RunEnd.{RunEnd}
use Rattle.machine_model.specs.CaseData.{CaseData}
use Rattle.machine_model.specs.Conversions.{asked_at, memory_width_of}
use Rattle.machine_model.specs.State.{Machine, is_live, start}
use Rattle.machine_model.specs.Step.{answered, asked_by, called, carried_out, core_with, cpu_at, is_in_use, later, row_at, served, slot_in}
use Rattle.machine_model.specs.Gated.{Both, Other, Spot, Stand, Untouched, Within, advance, begin, entered, gated_steps, no_spot, onward, spot_at, spot_with, stand_at, Leads}
use Rattle.machine_model.specs.InBlocks.{AreSettled, IsPlaced, IsSettled, IsUnderWay}
use Rattle.machine_model.specs.Own.{IsAhead, IsEntered, IsMade, IsWhole, Standing, refusal, writes_at}
use Rattle.machine_model.proofs.Costs.{came}
use Rattle.machine_model.proofs.Reaches.{or_second}
use Rattle.machine_model.proofs.Gates.{passes, untouched_by}
use Rattle.machine_model.proofs.Independence.{if_some, lists_stay}
use Rattle.machine_model.proofs.Finishing.{IsRequest, no_request_at, want_request}
use Rattle.machine_model.proofs.InBlocks.{Leaves, between, leaves_placed, placed_grows, steps_placed, under_way}
use Rattle.machine_model.proofs.Own.{made_of, whole_from, whole_stays}
use Rattle.machine_model.proofs.OwnKinds.{bad_own, by_request, call_bad, call_own, event_of, fence_own, flush_own, flush_waits, full_own, grow_own, load_own, load_refused, locked_own, locked_refused, miss_own, over_own, store_own, store_refused, tick_own, wait_own}

clash : {P : Type 0} (b : Bool) → b ≡ true → b ≡ false → P
clash b p q = absurd (let e : true ≡ false = sym p ∙ q in cc)

ended_not : {P : Type 0} (e : RunEnd) (o : Option RunEnd) → o ≡ Some e → o ≡ None → P
ended_not e o p q = absurd (none-some e (sym q ∙ p))

-- ---- a thread that lives is in its slot

running_by : (s : Slot) (less same : Bool) → is_running (cond less Joined (cond same s.life Unborn)) ≡ true → is_running s.life ≡ true
running_by s true same h = absurd (let e : false ≡ true = h in cc)
running_by s false true h = h
running_by s false false h = absurd (let e : false ≡ true = h in cc)

running_slot : (s : Slot) (g : ℕ) → is_running (life_in s g) ≡ true → is_running s.life ≡ true
unfolding life_in
running_slot s g h = running_by s (nat_lt g s.generation) (g == s.generation) h

pub live_slot : (m : Machine) (t : ℕ) → is_live m t ≡ true → is_in_use m.library (slot_of t) ≡ true
live_slot m t h = running_slot (slot_at m.library (slot_of t)) (generation_of t) h

-- ---- entries of other slots

placed_same : (image : ImageData) (old new : List ℕ) (d e : Stand) → Within old new → d ≡ e → IsPlaced image old d → IsPlaced image new e
placed_same image old new d e w same h = subst (λ z. IsPlaced image new z) same (placed_grows image old new d w h)

pub same_stand : (b n : Both) (s : ℕ) → Untouched b n s → stand_at b s ≡ stand_at n s
same_stand b n s u = sym (ap (λ (t : _). record { cpu = t.core.cpu; left = (spot_at n.gate s).left }) u.thread ∙ ap (λ (x : Spot). record { cpu = cpu_at b.machine s; left = x.left }) u.spot)

used_other : (c : CaseData) (b n : Both) (e : Entry) (s : ℕ) → IsWhole b → advance c b e ≡ Some n → s ≢ slot_in e → IsSettled c.image b s → is_in_use b.machine.library s ≡ true → IsSettled c.image n s
used_other c b n e s whole p ne h live =
    let u = untouched_by c b n e s whole.machine.slots p ne live in
    let still : is_in_use n.machine.library s ≡ true = ap (λ (t : _). is_running t.slot.life) u.thread ∙ live in
    record {
      placed = λ _. placed_same c.image b.gate.grown n.gate.grown (stand_at b s) (stand_at n s) u.grown (same_stand b n s u) (h.placed live);
      free = λ dead. clash (is_in_use n.machine.library s) still dead;
      empty = λ dead. clash (is_in_use n.machine.library s) still dead;
    }

free_other : (c : CaseData) (b n : Both) (e : Entry) (s : ℕ) → IsWhole b → advance c b e ≡ Some n → s ≢ slot_in e → IsSettled c.image b s → is_in_use b.machine.library s ≡ false → IsSettled c.image n s
free_other c b n e s whole p ne h dead =
    let h1 = came c b n e p in
    let same : spot_at n.gate s ≡ spot_with [] Other = (passes c.image e (cpu_at b.machine (slot_in e)) (cpu_at n.machine (slot_in e)) b.gate n.gate h1.passed).spot s ne ∙ h.free dead in
    record {
      placed = λ _. inl (ap (λ (x : Spot). x.left) same);
      free = λ _. same;
      empty = λ _. lists_stay c b.machine n.machine e whole.machine.slots h1.stepped s ne ∙ h.empty dead;
    }

settled_other : (c : CaseData) (b n : Both) (e : Entry) (s : ℕ) (used : Bool) → is_in_use b.machine.library s ≡ used → IsWhole b → advance c b e ≡ Some n → s ≢ slot_in e → IsSettled c.image b s → IsSettled c.image n s
settled_other c b n e s true u whole p ne h = used_other c b n e s whole p ne h u
settled_other c b n e s false u whole p ne h = free_other c b n e s whole p ne h u

-- ---- entries of its own

-- the thread still lives, and is placed
settled_live : (c : CaseData) (b n : Both) (s : ℕ) (d : Stand) → is_in_use b.machine.library s ≡ true → n.machine.library ≡ b.machine.library → n.gate.grown ≡ b.gate.grown → stand_at n s ≡ d → IsPlaced c.image b.gate.grown d → IsSettled c.image n s
settled_live c b n s d live lib grown stand h =
    let still : is_in_use n.machine.library s ≡ true = ap (λ l. is_in_use l s) lib ∙ live in
    record {
      placed = λ _. subst (λ z. IsPlaced c.image z (stand_at n s)) (sym grown) (subst (λ z. IsPlaced c.image b.gate.grown z) (sym stand) h);
      free = λ dead. clash (is_in_use n.machine.library s) still dead;
      empty = λ dead. clash (is_in_use n.machine.library s) still dead;
    }

code_wants : (image : ImageData) (d : Stand) (b : Bool) → is_code_place image d.cpu.rip ≡ b → (IsRequest (want image d.cpu) → ⊥) → is_code_place image d.cpu.rip ≡ true
code_wants image d true e h = e
code_wants image d false e h = absurd (h (want_request image d.cpu e))

-- an instruction that asks memory is under way
asking : (image : ImageData) (grown : List ℕ) (d : Stand) (l : List ℕ) (cpu : Cpu) → cpu.rip ≡ d.cpu.rip → IsPlaced image grown d → entered image grown d.cpu.rip d.left ≡ Some l → (IsRequest (want image d.cpu) → ⊥) → IsPlaced image grown (record { cpu = cpu; left = l })
asking image grown d l cpu same h p ask =
    let way = under_way image grown d l (code_wants image d (is_code_place image d.cpu.rip) refl ask) h p in
    inr (subst (λ r. IsUnderWay image grown r l) (sym same) way)

no_request : (w v : Want) → v ≡ w → (IsRequest w → ⊥) → IsRequest v → ⊥
no_request w v e h r = h (subst IsRequest e r)

leaves_by : (w v : Want) (x : Cpu) → v ≡ w → Leaves w x → Leaves v x
leaves_by w v x e h = subst (λ z. Leaves z x) (sym e) h

quiet : (ps : List PendingWrite) → is_none_waiting ps ≡ true → ps ≡ []
quiet [] e = refl
quiet (p ∷ ps) e = absurd (let q : false ≡ true = e in cc)

-- after a request a thread stands between blocks
settled_call : (c : CaseData) (b n : Both) (s : ℕ) (cpu : Cpu) (frames : _) → Standing n s (record { cpu = cpu; left = [] }) frames [] Other → IsSettled c.image n s
settled_call c b n s cpu frames h =
    let left : (spot_at n.gate s).left ≡ [] = ap (λ (d : Stand). d.left) h.stand in
    record {
      placed = λ _. inl left;
      free = λ _. ap (λ l. spot_with l (spot_at n.gate s).latest) left ∙ ap (λ l. spot_with [] l) h.latest;
      empty = λ _. h.writes;
    }

onward_none : (mid : Option ℕ) → onward mid [] ≡ []
onward_none None = refl
onward_none (Some v) = refl

request_place : (image : ImageData) (d : Stand) (b : Bool) → is_code_place image d.cpu.rip ≡ b → IsRequest (want image d.cpu) → is_code_place image d.cpu.rip ≡ false
request_place image d true e r = absurd (no_request_at image d.cpu e r)
request_place image d false e r = e

asks_something : (w : Want) (what : Asked) → asked_by w ≡ Some what → IsRequest w
asks_something (wants.Private x) what e = absurd (none-some what e)
asks_something (wants.Load a w) what e = absurd (none-some what e)
asks_something (wants.Store a w value x) what e = absurd (none-some what e)
asks_something (wants.Fence x) what e = absurd (none-some what e)
asks_something (wants.Locked a w change) what e = absurd (none-some what e)
asks_something (wants.Call f) what e = tt
asks_something (wants.Door d) what e = tt
asks_something (wants.Bad kind) what e = absurd (none-some what e)

request_settled : (c : CaseData) (b n : Both) (t k : ℕ) (d : Stand) (l : List ℕ) (what : Asked) (row : RowResult) → row_at b.machine t (core_with b.machine t d.cpu) what ≡ row → IsWhole b → advance c b (Ev t k) ≡ Some n → IsAhead c b (slot_of t) k d → IsEntered c b d l → asked_by (want c.image d.cpu) ≡ Some what → n.machine.ending ≡ None → is_in_use b.machine.library (slot_of t) ≡ true → IsSettled c.image n (slot_of t)
request_settled c b n t k d l what (Done library memory answer) r whole p ahead there e going live =
    let v = event_of c b n t k d l p ahead there in
    let q = call_own c b n t k d l what library memory answer whole p ahead there e r live in
    let serves = by_request (want c.image d.cpu) what (later b.machine (k + 1)) t d.cpu n.machine e v.made in
    let none : writes_at b t ≡ [] = quiet (writes_at b t) (if_some (is_none_waiting (writes_at b t)) _ n.machine serves).0 in
    let place = request_place c.image d (is_code_place c.image d.cpu.rip) refl (asks_something (want c.image d.cpu) what e) in
    let out : l ≡ [] = (between c.image b.gate.grown d l place there).0 in
    let s = q.0 in
    let after : Cpu = (called (core_with b.machine t d.cpu) what answer).cpu in
    settled_call c b n (slot_of t) after (called (core_with b.machine t d.cpu) what answer).frames (record {
      stand = s.stand ∙ ap (λ z. record { cpu = after; left = onward after.mid z }) out ∙ ap (λ z. record { cpu = after; left = z }) (onward_none after.mid);
      frames = s.frames;
      writes = s.writes ∙ none;
      latest = s.latest;
    })
request_settled c b n t k d l what Waits r whole p ahead there e going live =
    let v = event_of c b n t k d l p ahead there in
    let serves = by_request (want c.image d.cpu) what (later b.machine (k + 1)) t d.cpu n.machine e v.made in
    let made = (if_some (is_none_waiting (writes_at b t)) _ n.machine serves).1 in
    absurd (none-some n.machine (ap (served (later b.machine (k + 1)) t (core_with b.machine t d.cpu) what) (sym r) ∙ made))
request_settled c b n t k d l what (Bad kind) r whole p ahead there e going live = ended_not _ n.machine.ending (call_bad c b n t k d l what kind p ahead there e r).ending going

event_settled : (c : CaseData) (b n : Both) (t k : ℕ) (d : Stand) (l : List ℕ) (w : Want) → IsWhole b → advance c b (Ev t k) ≡ Some n → IsAhead c b (slot_of t) k d → IsEntered c b d l → want c.image d.cpu ≡ w → n.machine.ending ≡ None → is_in_use b.machine.library (slot_of t) ≡ true → IsPlaced c.image b.gate.grown d → IsSettled c.image n (slot_of t)
event_settled c b n t k d l (wants.Private x) whole p ahead there e going live h =
    let v = event_of c b n t k d l p ahead there in
    absurd (none-some n.machine (ap (λ z. carried_out z (later b.machine (k + 1)) t d.cpu) (sym e) ∙ v.made))
event_settled c b n t k d l (wants.Load a w) whole p ahead there e going live h =
    elim (refusal b access.Load a w) as (λ o. refusal b access.Load a w ≡ o → IsSettled c.image n (slot_of t)) [
      | None ↦ λ may. let q = load_own c b n t k a w d l whole p ahead there e may in settled_live c b n (slot_of t) _ live q.1.library q.2 q.0.stand (asking c.image b.gate.grown d l (answered d.cpu (number_from (seen_by b.machine.tso (slot_of t)) (size_of (memory_width_of w)) a)) refl h there (no_request (wants.Load a w) (want c.image d.cpu) e (λ r. r)))
      | Some x ↦ λ bad. ended_not _ n.machine.ending (load_refused c b n t k a x w d l p ahead there e bad).ending going
    ] refl
event_settled c b n t k d l (wants.Store a w value next) whole p ahead there e going live h =
    elim (refusal b access.Store a w) as (λ o. refusal b access.Store a w ≡ o → IsSettled c.image n (slot_of t)) [
      | None ↦ λ may. let q = store_own c b n t k a value w next d l whole p ahead there e may in settled_live c b n (slot_of t) _ live q.1.library q.2 q.0.stand (leaves_placed c.image b.gate.grown d next l h there (leaves_by (wants.Store a w value next) _ next e refl))
      | Some x ↦ λ bad. ended_not _ n.machine.ending (store_refused c b n t k a value x w next d l p ahead there e bad).ending going
    ] refl
event_settled c b n t k d l (wants.Fence next) whole p ahead there e going live h =
    let q = fence_own c b n t k next d l whole p ahead there e in
    settled_live c b n (slot_of t) _ live q.1.library q.2 q.0.stand (leaves_placed c.image b.gate.grown d next l h there (leaves_by (wants.Fence next) _ next e refl))
event_settled c b n t k d l (wants.Locked a w change) whole p ahead there e going live h =
    elim (refusal b access.Locked a w) as (λ o. refusal b access.Locked a w ≡ o → IsSettled c.image n (slot_of t)) [
      | None ↦ λ may. let q = locked_own c b n t k a w change d l whole p ahead there e may in settled_live c b n (slot_of t) _ live q.1.library q.2 q.0.stand (asking c.image b.gate.grown d l (answered d.cpu (memory_number b.machine.tso (size_of (memory_width_of w)) a)) refl h there (no_request (wants.Locked a w change) (want c.image d.cpu) e (λ r. r)))
      | Some x ↦ λ bad. ended_not _ n.machine.ending (locked_refused c b n t k a x w change d l p ahead there e bad).ending going
    ] refl
event_settled c b n t k d l (wants.Call f) whole p ahead there e going live h = request_settled c b n t k d l (Lib f) (row_at b.machine t (core_with b.machine t d.cpu) (Lib f)) refl whole p ahead there (ap asked_by e) going live
event_settled c b n t k d l (wants.Door door) whole p ahead there e going live h = request_settled c b n t k d l (asked_at door) (row_at b.machine t (core_with b.machine t d.cpu) (asked_at door)) refl whole p ahead there (ap asked_by e) going live
event_settled c b n t k d l (wants.Bad kind) whole p ahead there e going live h = ended_not _ n.machine.ending (bad_own c b n t k d l kind p ahead there e).ending going

entered_of : (c : CaseData) (b n : Both) (t k : ℕ) (d : Stand) (spot : Spot) → IsMade c b (Ev t k) d n.machine spot → (l : List ℕ) × IsEntered c b d l
entered_of c b n t k d spot h = option_and_then_some (λ l. Some (spot_with (onward (cpu_at n.machine (slot_of t)).mid l) Other)) (entered c.image b.gate.grown d.cpu.rip d.left) spot h.last (λ l p _. (l, p))

miss_placed : (c : CaseData) (b : Both) (d : Stand) → IsPlaced c.image b.gate.grown (record { cpu = d.cpu; left = [] })
miss_placed c b d = inl refl

-- what an entry leaves of its own slot
settled_own : (c : CaseData) (b n : Both) (e : Entry) → IsWhole b → advance c b e ≡ Some n → n.machine.ending ≡ None → slot_in e < 64 → IsSettled c.image b (slot_in e) → IsSettled c.image n (slot_in e)
unfolding gated_steps
settled_own c b n (Ev t k) whole p going low h =
    let m = made_of c b n (Ev t k) p in
    let live = live_slot b.machine t m.is.live in
    let l = entered_of c b n t k m.stand m.spot m.is in
    event_settled c b n t k m.stand l.0 (want c.image m.stand.cpu) whole p m.is.ahead l.1 refl going live (steps_placed c.image b.gate.grown k (stand_at b (slot_of t)) m.stand (h.placed live) m.is.ahead)
settled_own c b n (Tick t k) whole p going low h =
    let m = made_of c b n (Tick t k) p in
    let live = live_slot b.machine t m.is.live in
    let q = tick_own c b n t k m.stand whole p m.is.ahead in
    settled_live c b n (slot_of t) m.stand live q.1.library q.2 q.0.stand (steps_placed c.image b.gate.grown k (stand_at b (slot_of t)) m.stand (h.placed live) m.is.ahead)
settled_own c b n (Flush t) whole p going low h =
    let m = made_of c b n (Flush t) p in
    let live = live_slot b.machine t m.is.live in
    let w = flush_waits c b n t p in
    let q = flush_own c b n t w.0 w.1 whole p w.2 in
    settled_live c b n (slot_of t) (stand_at b (slot_of t)) live q.1.library q.2 q.0.stand (h.placed live)
settled_own c b n (Wait t k) whole p going low h =
    let m = made_of c b n (Wait t k) p in
    let live = live_slot b.machine t m.is.live in
    let q = wait_own c b n t k m.stand whole p m.is.ahead in
    settled_live c b n (slot_of t) m.stand live q.1.library q.2 q.0.stand (steps_placed c.image b.gate.grown k (stand_at b (slot_of t)) m.stand (h.placed live) m.is.ahead)
settled_own c b n (Miss t k source target) whole p going low h =
    let m = made_of c b n (Miss t k source target) p in
    let live = live_slot b.machine t m.is.live in
    let q = miss_own c b n t k source target m.stand whole p m.is.ahead in
    settled_live c b n (slot_of t) (record { cpu = m.stand.cpu; left = [] }) live q.1.library q.2 q.0.stand (miss_placed c b m.stand)
settled_own c b n (Grow t a) whole p going low h =
    let m = made_of c b n (Grow t a) p in
    let live = live_slot b.machine t m.is.live in
    let q = grow_own c b n t a whole p in
    let still : is_in_use n.machine.library (slot_of t) ≡ true = ap (λ (x : Machine). is_in_use x.library (slot_of t)) q.0 ∙ live in
    let same : stand_at b (slot_of t) ≡ stand_at n (slot_of t) = sym (ap (λ (x : Machine). record { cpu = cpu_at x (slot_of t); left = (spot_at n.gate (slot_of t)).left }) q.0 ∙ ap (λ (x : Spot). record { cpu = cpu_at b.machine (slot_of t); left = x.left }) q.1) in
    let more : Within b.gate.grown n.gate.grown = λ x y. subst (λ z. is_among z x ≡ true) (sym q.2) (or_second (a == x) (is_among b.gate.grown x) y) in
    record {
      placed = λ _. placed_same c.image b.gate.grown n.gate.grown (stand_at b (slot_of t)) (stand_at n (slot_of t)) more same (h.placed live);
      free = λ dead. clash (is_in_use n.machine.library (slot_of t)) still dead;
      empty = λ dead. clash (is_in_use n.machine.library (slot_of t)) still dead;
    }
settled_own c b n (Over t k) whole p going low h =
    let m = made_of c b n (Over t k) p in
    ended_not _ n.machine.ending (over_own c b n t k m.stand whole p m.is.ahead).1.ending going
settled_own c b n (Full t) whole p going low h = ended_not _ n.machine.ending (ap (λ (x : Machine). x.ending) (full_own c b n t p)) going
settled_own c b n Dead whole p going low h = absurd (omega arith)

-- an entry leaves every slot settled
pub settled_stays : (c : CaseData) (b n : Both) (e : Entry) → IsWhole b → AreSettled c.image b → advance c b e ≡ Some n → AreSettled c.image n
settled_stays c b n e whole h p going s low =
    let m = made_of c b n e p in
    let all = h m.is.going in
    elim (cases_eq s (slot_in e)) [
      | inl same ↦ subst (λ u. IsSettled c.image n u) (sym same) (let lt : slot_in e < 64 = omega (arith, low, same) in settled_own c b n e whole p going lt (all (slot_in e) lt))
      | inr other ↦ settled_other c b n e s (is_in_use b.machine.library s) refl whole p other (all s low)
    ]

settled_on : (c : CaseData) (b n : Both) (es : List Entry) → IsWhole b → AreSettled c.image b → Leads c b es n → AreSettled c.image n
unfolding Leads
settled_on c b n [] whole h p = subst (λ x. AreSettled c.image x) p h
settled_on c b n (e ∷ es) whole h p = settled_on c p.0 n es (whole_stays c b p.0 e whole p.1) (settled_stays c b p.0 e whole h p.1) p.3

settled_at_start : (c : CaseData) → AreSettled c.image (begin c)
unfolding begin start
settled_at_start c going s low =
    let spot : spot_at (begin c).gate s ≡ spot_with [] Other = get_or-replicate 64 s no_spot no_spot low in
    record {
      placed = λ _. inl (ap (λ (x : Spot). x.left) spot);
      free = λ _. spot;
      empty = λ _. get_or-replicate 64 s [] [] low;
    }

begin_whole : (c : CaseData) → IsWhole (begin c)
unfolding Leads
begin_whole c = whole_from c (begin c) [] refl

-- after a gated journal every slot is settled
pub settled_from : (c : CaseData) (n : Both) (es : List Entry) → Leads c (begin c) es n → AreSettled c.image n
settled_from c n es p = settled_on c (begin c) n es (begin_whole c) (settled_at_start c) p
