-- The rules of a turn always name a step: flushes and events.
use Rattle.std.proofs.Common.{◌≡◌, ℕ, zero, suc, ◌+◌, ◌<◌, ◌≤◌, inl, inr, Bool, true, false, cond, List, [], ◌∷◌, ◌++◌, Option, Some, None, refl, sym, ap, ◌∙◌, subst, arith, nat_le, length, length-append}
use Rattle.std.specs.Prelude.{option_and_then}
use Rattle.std.proofs.lemmas.Option.{none-some}
use Rattle.address_space.specs.Slots.{slot_of}
use Rattle.lib_table.specs.declared.ask.Asked.{Asked}
use Rattle.lib_table.specs.declared.ask.Asked.TheVariants.{Lib}
use Rattle.lib_table.specs.Library as table
use Rattle.lib_table.specs.Outcome.{RowResult, Done, Waits, Bad}
use Rattle.lib_table.specs.Row.{is_waiting}
use Rattle.tso_memory.specs.declared.access.Access.TheVariants as access
use Rattle.tso_memory.specs.declared.write.PendingWrite.{PendingWrite}
use Rattle.tso_memory.specs.Tso as tso
use Rattle.tso_memory.specs.Tso.{is_none_waiting}
use Rattle.x86_model.specs.declared.cpu.Cpu.{Cpu}
use Rattle.x86_model.specs.declared.want.Want.{Want}
use Rattle.x86_model.specs.declared.want.Want.TheVariants as wants
use Rattle.x86_model.specs.Want.{want}
use Rattle.journal_pack.specs.declared.entry.Entry.TheVariants.{Ev, Flush, Wait}
use Rattle.machine_model.specs.CaseData.{CaseData}
use Rattle.machine_model.specs.Conversions.{asked_at}
use Rattle.machine_model.specs.State.{Machine, list_at}
use Rattle.machine_model.specs.Step.{asked_by, carried_out, core_with, cpu_at, flushed, later, privately, row_at, served, waits_at, waits_for, with_cpu}
use Rattle.machine_model.specs.Gated.{Both, Latest, Other, Spot, Stand, advance, after_flush, gated_steps, gate_with, onward, spot_at, spot_with, stand_at, with_gate}
use Rattle.machine_model.specs.InBlocks.{IsPlaced}
use Rattle.machine_model.specs.Own.{IsAhead, IsEntered, refusal}
use Rattle.machine_model.specs.Ready.{HasGrown}
use Rattle.machine_model.specs.Serial.{AtEvent, Point, Reaches, Turn, act, event, event_by, flush, flush_some, flushed_before, is_missing, told_waiting, with_entry, with_new}
use Rattle.machine_model.proofs.Names.{Below, Reached, entered_some}
use Rattle.machine_model.proofs.Own.{advance_made, le_of, lt_test}
use Rattle.machine_model.proofs.OwnKinds.{bad_own, call_bad, call_own, fence_own, flush_own, load_own, load_refused, locked_own, locked_refused, store_own, store_refused}
use Rattle.machine_model.proofs.Settled.{live_slot}
use Rattle.machine_model.specs.Gated.{rest_of}
use Rattle.machine_model.proofs.NamesEntries.{Comes, InTurn, Turned, in_turn_turned, makes, wait_comes, others_chain, others_one, sound_stays, turned_end, turned_on}

-- ---- flushes

-- so many writes went to memory
pub record Flushed (c : CaseData) (o : Both) (t : ℕ) (k : ℕ) (b n : Both) (ages : List ℕ) : Type 0 where
  pub turn : InTurn c o t n ages
  pub stand : stand_at n (slot_of t) ≡ stand_at b (slot_of t)
  pub grown : n.gate.grown ≡ b.gate.grown
  pub steps : n.machine.steps ≡ b.machine.steps
  pub count : length (list_at n.machine (slot_of t)) + k ≡ length (list_at b.machine (slot_of t))

after_flush_other : (l : Latest) → l ≡ Other → after_flush l ≡ Other
after_flush_other l e = ap after_flush e

grown_same : (c : CaseData) (b n : Both) (s : ℕ) → stand_at n s ≡ stand_at b s → n.gate.grown ≡ b.gate.grown → (spot_at n.gate s).latest ≡ after_flush (spot_at b.gate s).latest → HasGrown c.image b s → HasGrown c.image n s
grown_same c b n s stand grown latest (inl other) = inl (latest ∙ after_flush_other (spot_at b.gate s).latest other)
grown_same c b n s stand grown latest (inr there) = inr (ap (λ d. is_missing c.image n.gate.grown d) stand ∙ ap (λ g. is_missing c.image g (stand_at b s)) grown ∙ there)

rest_length : (ages : List ℕ) (n : ℕ) → length ages ≡ suc n → length (rest_of ages) ≡ n
rest_length [] n e = absurd (omega arith)
rest_length (a ∷ ages) n e = omega arith

flush_at : (c : CaseData) (o : Both) (t : ℕ) (b : Both) (ages : List ℕ) (w : PendingWrite) (ws : List PendingWrite) → InTurn c o t b ages → list_at b.machine (slot_of t) ≡ w ∷ ws → (n : Both) × (advance c b (Flush t) ≡ Some n) × Flushed c o t 1 b n (rest_of ages)
unfolding gated_steps
flush_at c o t b ages w ws h list =
    let e = Flush t in
    let told = spot_with (spot_at b.gate (slot_of t)).left (after_flush (spot_at b.gate (slot_of t)).latest) in
    let m = record b.machine { tso = tso.flushed b.machine.tso (slot_of t) (w ∷ ws) } in
    let p = advance_made c b e (stand_at b (slot_of t)) m told (record { going = h.going; live = h.live; few = omega arith; ahead = refl; made = ap (flushed b.machine (slot_of t)) list; last = refl }) in
    let n = with_gate m (gate_with e b.gate told) in
    let v = flush_own c b n t w ws h.sound.whole p list in
    let one : length (list_at b.machine (slot_of t)) ≡ suc (length ws) = ap length list ∙ omega arith in
    let now : length (list_at n.machine (slot_of t)) ≡ length ws = ap length v.0.writes in
    let aged : length (rest_of ages) ≡ length ws = rest_length ages (length ws) (h.aged ∙ one) in (
      n,
      p,
      record {
        turn = record {
          sound = sound_stays c b n e h.sound p;
          going = v.1.ending;
          live = ap (λ l. table.is_live l t) v.1.library ∙ h.live;
          aged = aged ∙ sym now;
          grown = grown_same c b n (slot_of t) v.0.stand v.2 v.0.latest h.grown;
          others = others_chain c o b n (slot_of t) h.others (others_one c b n e h.sound p);
        };
        stand = v.0.stand;
        grown = v.2;
        steps = v.1.steps;
        count = omega (arith, one, now);
      },
    )

first_write : (ps : List PendingWrite) → 0 < length ps → (w : PendingWrite) × (ws : List PendingWrite) × (ps ≡ w ∷ ws)
first_write [] lt = absurd (omega arith)
first_write (w ∷ ws) lt = (w, ws, refl)

pub flush_comes : (c : CaseData) (o : Both) (t : ℕ) (b : Both) (ages : List ℕ) → InTurn c o t b ages → 0 < length (list_at b.machine (slot_of t)) → (n : Both) × (advance c b (Flush t) ≡ Some n) × Flushed c o t 1 b n (rest_of ages)
flush_comes c o t b ages h some = let f = first_write (list_at b.machine (slot_of t)) some in flush_at c o t b ages f.0 f.1 h f.2

pub flush_makes : (c : CaseData) (o : Both) (t : ℕ) (s : Turn) → InTurn c o t s.both s.ages → 0 < length (list_at s.both.machine (slot_of t)) → (x : Turn) × (flush c t s ≡ Some x) × Flushed c o t 1 s.both x.both x.ages
flush_makes c o t s h some =
    let f = flush_comes c o t s.both s.ages h some in
    let before : Turn = record s { ages = rest_of s.ages } in
    (with_entry (Flush t) before f.0, makes c (Flush t) before f.0 f.1, f.2)

flushed_none : (c : CaseData) (o : Both) (t : ℕ) (b : Both) (ages : List ℕ) → InTurn c o t b ages → Flushed c o t 0 b b ages
flushed_none c o t b ages h = record { turn = h; stand = refl; grown = refl; steps = refl; count = omega arith }

flushed_chain : (c : CaseData) (o : Both) (t k : ℕ) (b n m : Both) (ages more : List ℕ) → Flushed c o t 1 b n ages → Flushed c o t k n m more → Flushed c o t (suc k) b m more
flushed_chain c o t k b n m ages more p q = record { turn = q.turn; stand = q.stand ∙ p.stand; grown = q.grown ∙ p.grown; steps = q.steps ∙ p.steps; count = let x = p.count in let y = q.count in omega arith }

-- as many writes as there are can be flushed
pub flush_some_makes : (c : CaseData) (o : Both) (t k : ℕ) (s : Turn) → InTurn c o t s.both s.ages → k ≤ length (list_at s.both.machine (slot_of t)) → (x : Turn) × (flush_some c t k s ≡ Some x) × Flushed c o t k s.both x.both x.ages
unfolding flush_some
flush_some_makes c o t zero s h le = (s, refl, flushed_none c o t s.both s.ages h)
flush_some_makes c o t (suc k) s h le =
    let f = flush_makes c o t s h (omega arith) in
    let few : k ≤ length (list_at f.0.both.machine (slot_of t)) = let n = f.2.count in omega arith in
    let more = flush_some_makes c o t k f.0 f.2.turn few in
    (more.0, ap (option_and_then (flush_some c t k)) f.1 ∙ more.1, flushed_chain c o t k s.both f.0.both more.0.both f.0.ages more.0.ages f.2 more.2)

pub reached_flushed : (c : CaseData) (o : Both) (t k : ℕ) (b n : Both) (ages : List ℕ) (q : Point) → Flushed c o t k b n ages → Reached c b (slot_of t) q → Reached c n (slot_of t) q
reached_flushed c o t k b n ages q f r = record {
  ahead = ap (λ d. gated_steps c.image n.gate.grown q.k d) f.stand ∙ ap (λ g. gated_steps c.image g q.k (stand_at b (slot_of t))) f.grown ∙ r.ahead;
  few = r.few;
  placed = subst (λ g. IsPlaced c.image g q.stand) (sym f.grown) r.placed;
}

pub below_flushed : (c : CaseData) (o : Both) (t k : ℕ) (b n : Both) (ages : List ℕ) (q : Point) → Flushed c o t k b n ages → Below c b q → Below c n q
below_flushed c o t k b n ages q f h = record { room = let e = f.steps in let lt = h.room in omega arith; there = subst (λ g. is_missing c.image g q.stand ≡ false) (sym f.grown) h.there }

-- ---- events

served_some : (m : Machine) (t : ℕ) (core : _) (what : Asked) (r : RowResult) → is_waiting r ≡ false → (n : Machine) × (served m t core what r ≡ Some n)
served_some m t core what (Done library memory answer) e = (_, refl)
served_some m t core what Waits e = absurd (let q : true ≡ false = e in cc)
served_some m t core what (Bad kind) e = (_, refl)

-- which wants need that no write waits
abbrev pub NeedsNone : Want → List PendingWrite → Type 0
NeedsNone (wants.Private next) ps = Unit {0}
NeedsNone (wants.Load a w) ps = Unit {0}
NeedsNone (wants.Store a w value next) ps = Unit {0}
NeedsNone (wants.Fence next) ps = is_none_waiting ps ≡ true
NeedsNone (wants.Locked a w change) ps = is_none_waiting ps ≡ true
NeedsNone (wants.Call f) ps = is_none_waiting ps ≡ true
NeedsNone (wants.Door d) ps = is_none_waiting ps ≡ true
NeedsNone (wants.Bad kind) ps = Unit {0}

some_if : {A : Type 0} (b : Bool) (x : A) → b ≡ true → (n : A) × (cond b (Some x) None ≡ Some n)
some_if b x e = (x, ap (λ y. cond y (Some x) None) e)

carried_some : (w : Want) (m : Machine) (t : ℕ) (cpu : Cpu) → privately w ≡ None → NeedsNone w (list_at m (slot_of t)) → waits_for m t (core_with m t cpu) (asked_by w) ≡ false → (n : Machine) × (carried_out w m t cpu ≡ Some n)
carried_some (wants.Private next) m t cpu p empty waits = absurd (none-some next (sym p))
carried_some (wants.Load a w) m t cpu p empty waits = (_, refl)
carried_some (wants.Store a w value next) m t cpu p empty waits = (_, refl)
carried_some (wants.Fence next) m t cpu p empty waits = (with_cpu m (slot_of t) next, ap (λ b. cond b (Some (with_cpu m (slot_of t) next)) None) empty)
carried_some (wants.Locked a w change) m t cpu p empty waits = some_if (is_none_waiting (list_at m (slot_of t))) _ empty
carried_some (wants.Call f) m t cpu p empty waits =
    let s = served_some m t (core_with m t cpu) (Lib f) (row_at m t (core_with m t cpu) (Lib f)) waits in
    (s.0, ap (λ b. cond b (served m t (core_with m t cpu) (Lib f) (row_at m t (core_with m t cpu) (Lib f))) None) empty ∙ s.1)
carried_some (wants.Door d) m t cpu p empty waits =
    let s = served_some m t (core_with m t cpu) (asked_at d) (row_at m t (core_with m t cpu) (asked_at d)) waits in
    (s.0, ap (λ b. cond b (served m t (core_with m t cpu) (asked_at d) (row_at m t (core_with m t cpu) (asked_at d))) None) empty ∙ s.1)
carried_some (wants.Bad kind) m t cpu p empty waits = (_, refl)

-- an event comes
pub event_made : (c : CaseData) (o : Both) (t : ℕ) (b : Both) (ages : List ℕ) (q : Point) → InTurn c o t b ages → Reached c b (slot_of t) q → Below c b q → privately (want c.image q.stand.cpu) ≡ None → NeedsNone (want c.image q.stand.cpu) (list_at b.machine (slot_of t)) → waits_at c.image b.machine t q.stand.cpu ≡ false → (n : Both) × (advance c b (Ev t q.k) ≡ Some n) × ((l : List ℕ) × IsEntered c b q.stand l)
event_made c o t b ages q h r below none empty waits =
    let l = entered_some c.image b.gate.grown q.stand r.placed below.there in
    let m = carried_some (want c.image q.stand.cpu) (later b.machine (q.k + 1)) t q.stand.cpu none empty waits in
    let spot : Spot = spot_with (onward (cpu_at m.0 (slot_of t)).mid l.0) Other in
    let test = lt_test (b.machine.steps + q.k) c.limit below.room in
    let p = advance_made c b (Ev t q.k) q.stand m.0 spot (record { going = h.going; live = h.live; few = r.few; ahead = r.ahead; made = ap (λ x. cond x (carried_out (want c.image q.stand.cpu) (later b.machine (q.k + 1)) t q.stand.cpu) None) test ∙ m.1; last = ap (option_and_then (λ z. Some (spot_with (onward (cpu_at m.0 (slot_of t)).mid z) Other))) l.1 }) in
    (_, p, l)

-- the length of a list with one write more
one_longer : (ages : List ℕ) (ps : List PendingWrite) (w : PendingWrite) → length ages ≡ length ps → length (ages ++ 0 ∷ []) ≡ length (ps ++ w ∷ [])
one_longer ages ps w e = let a = length-append ages (0 ∷ []) in let b = length-append ps (w ∷ []) in omega arith

no_ages : (ages : List ℕ) (ps : List PendingWrite) → length ages ≡ length ps → is_none_waiting ps ≡ true → ages ≡ []
no_ages [] ps e q = refl
no_ages (a ∷ ages) [] e q = absurd (omega arith)
no_ages (a ∷ ages) (p ∷ ps) e q = absurd (let c : false ≡ true = q in cc)

none_length : (ps : List PendingWrite) → is_none_waiting ps ≡ true → length ps ≡ 0
none_length [] e = omega arith
none_length (p ∷ ps) e = absurd (let c : false ≡ true = e in cc)

-- after a request
request_turned : (c : CaseData) (o : Both) (t k : ℕ) (b n : Both) (ages l : List ℕ) (d : Stand) (what : Asked) (row : RowResult) → row_at b.machine t (core_with b.machine t d.cpu) what ≡ row → is_waiting row ≡ false → InTurn c o t b ages → advance c b (Ev t k) ≡ Some n → IsAhead c b (slot_of t) k d → IsEntered c b d l → asked_by (want c.image d.cpu) ≡ Some what → is_none_waiting (list_at b.machine (slot_of t)) ≡ true → Turned c o t n ages
request_turned c o t k b n ages l d what (Done library memory answer) row goes h p ahead there e empty =
    let v = call_own c b n t k d l what library memory answer h.sound.whole p ahead there e row (live_slot b.machine t h.live) in
    record {
      sound = sound_stays c b n (Ev t k) h.sound p;
      others = others_chain c o b n (slot_of t) h.others (others_one c b n (Ev t k) h.sound p);
      aged = λ _. h.aged ∙ ap length (sym v.0.writes);
      grown = λ _. inl v.0.latest;
      live = λ _. inr (no_ages ages (list_at b.machine (slot_of t)) h.aged empty);
    }
request_turned c o t k b n ages l d what Waits row goes h p ahead there e empty = absurd (let q : true ≡ false = goes in cc)
request_turned c o t k b n ages l d what (Bad kind) row goes h p ahead there e empty = turned_end c o t b n ages ages (Ev t k) _ refl h p (call_bad c b n t k d l what kind p ahead there e row).ending

event_turned : (c : CaseData) (o : Both) (t k : ℕ) (b n : Both) (ages l : List ℕ) (d : Stand) (w : Want) → want c.image d.cpu ≡ w → privately w ≡ None → NeedsNone w (list_at b.machine (slot_of t)) → waits_for b.machine t (core_with b.machine t d.cpu) (asked_by w) ≡ false → InTurn c o t b ages → advance c b (Ev t k) ≡ Some n → IsAhead c b (slot_of t) k d → IsEntered c b d l → Turned c o t n (with_new w ages)
event_turned c o t k b n ages l d (wants.Private next) e none empty waits h p ahead there = absurd (none-some next (sym none))
event_turned c o t k b n ages l d (wants.Load a w) e none empty waits h p ahead there =
    elim (refusal b access.Load a w) as (λ x. refusal b access.Load a w ≡ x → Turned c o t n ages) [
      | None ↦ λ may. let v = load_own c b n t k a w d l h.sound.whole p ahead there e may in turned_on c o t b n ages ages (Ev t k) refl h p (h.aged ∙ ap length (sym v.0.writes)) (inl v.0.latest) v.1.library
      | Some x ↦ λ bad. turned_end c o t b n ages ages (Ev t k) _ refl h p (load_refused c b n t k a x w d l p ahead there e bad).ending
    ] refl
event_turned c o t k b n ages l d (wants.Store a w value next) e none empty waits h p ahead there =
    elim (refusal b access.Store a w) as (λ x. refusal b access.Store a w ≡ x → Turned c o t n (ages ++ 0 ∷ [])) [
      | None ↦ λ may. let v = store_own c b n t k a value w next d l h.sound.whole p ahead there e may in turned_on c o t b n ages (ages ++ 0 ∷ []) (Ev t k) refl h p (one_longer ages (list_at b.machine (slot_of t)) _ h.aged ∙ ap length (sym v.0.writes)) (inl v.0.latest) v.1.library
      | Some x ↦ λ bad. turned_end c o t b n ages (ages ++ 0 ∷ []) (Ev t k) _ refl h p (store_refused c b n t k a value x w next d l p ahead there e bad).ending
    ] refl
event_turned c o t k b n ages l d (wants.Fence next) e none empty waits h p ahead there =
    let v = fence_own c b n t k next d l h.sound.whole p ahead there e in turned_on c o t b n ages ages (Ev t k) refl h p (h.aged ∙ ap length (sym v.0.writes)) (inl v.0.latest) v.1.library
event_turned c o t k b n ages l d (wants.Locked a w change) e none empty waits h p ahead there =
    elim (refusal b access.Locked a w) as (λ x. refusal b access.Locked a w ≡ x → Turned c o t n ages) [
      | None ↦ λ may. let v = locked_own c b n t k a w change d l h.sound.whole p ahead there e may in turned_on c o t b n ages ages (Ev t k) refl h p (h.aged ∙ ap length (sym v.0.writes)) (inl v.0.latest) v.1.library
      | Some x ↦ λ bad. turned_end c o t b n ages ages (Ev t k) _ refl h p (locked_refused c b n t k a x w change d l p ahead there e bad).ending
    ] refl
event_turned c o t k b n ages l d (wants.Call f) e none empty waits h p ahead there = request_turned c o t k b n ages l d (Lib f) (row_at b.machine t (core_with b.machine t d.cpu) (Lib f)) refl waits h p ahead there (ap asked_by e) empty
event_turned c o t k b n ages l d (wants.Door door) e none empty waits h p ahead there = request_turned c o t k b n ages l d (asked_at door) (row_at b.machine t (core_with b.machine t d.cpu) (asked_at door)) refl waits h p ahead there (ap asked_by e) empty
event_turned c o t k b n ages l d (wants.Bad kind) e none empty waits h p ahead there = turned_end c o t b n ages ages (Ev t k) _ refl h p (bad_own c b n t k d l kind p ahead there e).ending

-- an event that doesn't wait comes, and the turn goes on
pub event_comes : (c : CaseData) (o : Both) (t : ℕ) (b : Both) (ages : List ℕ) (q : Point) → InTurn c o t b ages → Reached c b (slot_of t) q → Below c b q → privately (want c.image q.stand.cpu) ≡ None → NeedsNone (want c.image q.stand.cpu) (list_at b.machine (slot_of t)) → waits_at c.image b.machine t q.stand.cpu ≡ false → Comes c o t b (Ev t q.k) (with_new (want c.image q.stand.cpu) ages)
event_comes c o t b ages q h r below none empty waits =
    let m = event_made c o t b ages q h r below none empty waits in
    record { next = m.0; comes = m.1; after = event_turned c o t q.k b m.0 ages m.2.0 q.stand (want c.image q.stand.cpu) refl none empty waits h m.1 r.ahead m.2.1 }

-- how many writes are flushed before a step, and that none waits after them where none may
flushed_few : (w : Want) (n : ℕ) → flushed_before w n ≤ n
flushed_few (wants.Private next) n = omega arith
flushed_few (wants.Load a w) n = omega arith
flushed_few (wants.Store a w value next) n = elim (nat_le 64 n) as (λ b. nat_le 64 n ≡ b → cond b 1 0 ≤ n) [ true ↦ λ e. (let h = le_of 64 n e in omega arith) | false ↦ λ e. omega arith ] refl
flushed_few (wants.Fence next) n = omega arith
flushed_few (wants.Locked a w change) n = omega arith
flushed_few (wants.Call f) n = omega arith
flushed_few (wants.Door d) n = omega arith
flushed_few (wants.Bad kind) n = omega arith

none_left : (ps : List PendingWrite) (n : ℕ) → length ps + n ≡ n → is_none_waiting ps ≡ true
none_left [] n e = refl
none_left (p ∷ ps) n e = absurd (omega arith)

pub flushed_enough : (w : Want) (n : ℕ) (ps : List PendingWrite) → length ps + flushed_before w n ≡ n → NeedsNone w ps
flushed_enough (wants.Private next) n ps e = tt
flushed_enough (wants.Load a w) n ps e = tt
flushed_enough (wants.Store a w value next) n ps e = tt
flushed_enough (wants.Fence next) n ps e = none_left ps n e
flushed_enough (wants.Locked a w change) n ps e = none_left ps n e
flushed_enough (wants.Call f) n ps e = none_left ps n e
flushed_enough (wants.Door d) n ps e = none_left ps n e
flushed_enough (wants.Bad kind) n ps e = tt

-- what waits is a request
pub waiting_request : (w : Want) (m : Machine) (t : ℕ) (cpu : Cpu) (ps : List PendingWrite) → waits_for m t (core_with m t cpu) (asked_by w) ≡ true → NeedsNone w ps → is_none_waiting ps ≡ true
waiting_request (wants.Private next) m t cpu ps e h = absurd (let q : false ≡ true = e in cc)
waiting_request (wants.Load a w) m t cpu ps e h = absurd (let q : false ≡ true = e in cc)
waiting_request (wants.Store a w value next) m t cpu ps e h = absurd (let q : false ≡ true = e in cc)
waiting_request (wants.Fence next) m t cpu ps e h = h
waiting_request (wants.Locked a w change) m t cpu ps e h = h
waiting_request (wants.Call f) m t cpu ps e h = h
waiting_request (wants.Door d) m t cpu ps e h = h
waiting_request (wants.Bad kind) m t cpu ps e h = absurd (let q : false ≡ true = e in cc)

-- what a thread does at an event
pub record Acted (c : CaseData) (o : Both) (t : ℕ) (made : Option Turn) : Type 0 where
  pub turn : Turn
  pub is : made ≡ Some turn
  pub after : Turned c o t turn.both turn.ages

told_makes : (c : CaseData) (o : Both) (t k : ℕ) (s : Turn) (q : Point) → q.k ≡ k → InTurn c o t s.both s.ages → Reached c s.both (slot_of t) q → Below c s.both q → is_none_waiting (list_at s.both.machine (slot_of t)) ≡ true → waits_at c.image s.both.machine t q.stand.cpu ≡ true → Acted c o t (told_waiting c t k s)
told_makes c o t zero s q e h r below empty waits = record { turn = record s { waiting = true }; is = refl; after = in_turn_turned c o t s.both s.ages h }
told_makes c o t (suc k) s q e h r below empty waits =
    let w = wait_comes c o t s.both s.ages q h r below.room (omega arith) empty waits in
    let before : Turn = record s { waiting = true } in
    let p : advance c s.both (Wait t (suc k)) ≡ Some w.next = ap (λ j. advance c s.both (Wait t j)) (sym e) ∙ w.comes in
    record { turn = with_entry (Wait t (suc k)) before w.next; is = makes c (Wait t (suc k)) before w.next p; after = w.after }

event_makes : (c : CaseData) (o : Both) (t : ℕ) (s : Turn) (q : Point) (waits : Bool) → waits_at c.image s.both.machine t q.stand.cpu ≡ waits → InTurn c o t s.both s.ages → Reached c s.both (slot_of t) q → Below c s.both q → privately (want c.image q.stand.cpu) ≡ None → NeedsNone (want c.image q.stand.cpu) (list_at s.both.machine (slot_of t)) → Acted c o t (event_by c t q s waits)
event_makes c o t s q true e h r below none needs = told_makes c o t q.k s q refl h r below (waiting_request (want c.image q.stand.cpu) s.both.machine t q.stand.cpu (list_at s.both.machine (slot_of t)) e needs) e
event_makes c o t s q false e h r below none needs =
    let v = event_comes c o t s.both s.ages q h r below none needs e in
    let before : Turn = record s { ages = with_new (want c.image q.stand.cpu) s.ages } in
    record { turn = with_entry (Ev t q.k) before v.next; is = makes c (Ev t q.k) before v.next v.comes; after = v.after }

-- a thread at a step that isn't private
pub event_acts : (c : CaseData) (reach : Reaches) (o : Both) (t : ℕ) (s : Turn) (q : Point) → InTurn c o t s.both s.ages → Reached c s.both (slot_of t) q → Below c s.both q → privately (want c.image q.stand.cpu) ≡ None → Acted c o t (act c reach t q s AtEvent)
event_acts c reach o t s q h r below none =
    let w = want c.image q.stand.cpu in
    let n = length (list_at s.both.machine (slot_of t)) in
    let k = flushed_before w n in
    let f = flush_some_makes c o t k s h (flushed_few w n) in
    let x = f.0 in
    let needs = flushed_enough w n (list_at x.both.machine (slot_of t)) f.2.count in
    let a = event_makes c o t x q (waits_at c.image x.both.machine t q.stand.cpu) refl f.2.turn (reached_flushed c o t k s.both x.both x.ages q f.2 r) (below_flushed c o t k s.both x.both x.ages q f.2 below) none needs in
    record { turn = a.turn; is = ap (option_and_then (event c t q)) f.1 ∙ a.is; after = a.after }
