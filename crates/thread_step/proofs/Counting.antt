-- How many steps of instructions entries make.
use Rattle.std.proofs.Common.{◌≡◌, ℕ, zero, suc, ◌+◌, ◌-◌, ◌≤◌, Bool, true, false, List, [], ◌∷◌, ◌++◌, inl, inr, Some, Result, Ok, Err, length, refl, sym, ap, ◌∙◌, subst, arith, ◌==◌, nat_le}
use Rattle.std.specs.Prelude.{All}
use Rattle.std.proofs.lemmas.List.{append-nil, append_assoc}
use Rattle.std.proofs.lemmas.List.Elements.{All-head, All-tail}
use Rattle.std.proofs.lemmas.Option.{none-some, option_and_then_some, same_Some}
use Rattle.address_space.specs.Slots.{slot_of}
use Rattle.lib_table.specs.declared.ask.Asked.{Asked}
use Rattle.x86_model.specs.declared.want.Want.{Want}
use Rattle.x86_model.specs.declared.want.Want.TheVariants as wants
use Rattle.x86_model.specs.Want.{want}
use Rattle.journal_pack.specs.declared.entry.Entry.{Entry}
use Rattle.journal_pack.specs.declared.entry.Entry.TheVariants.{Ev, Tick, Flush, Wait, Miss, Grow, Over, Full, Dead}
use Rattle.machine_model.specs.CaseData.{CaseData}
use Rattle.machine_model.specs.Comes.{both_of, or_stay, walk_on}
use Rattle.machine_model.specs.Gated.{Both, Stand, advance, begin, gated_steps, most_grown, rest_of, stand_at}
use Rattle.machine_model.specs.Own.{IsAhead, IsWhole}
use Rattle.machine_model.specs.Serial.{AtEvent, AtLimit, AtMiss, AtMost, GoesOn, Point, Reaches, Rule, Turn, act, after_miss, event, event_by, flush, flush_some, flushed_before, full_or, grow_all, grow_if, grow_reach, make, told_waiting, ungrown, with_new}
use Rattle.machine_model.specs.State.{Machine, list_at}
use Rattle.machine_model.specs.Step.{asked_by, waits_at}
use Rattle.machine_model.proofs.Comes.{both_more}
use Rattle.machine_model.proofs.Own.{steps_private, whole_stays}
use Rattle.machine_model.proofs.OwnKinds.{flush_own, flush_waits}
use Rattle.machine_model.proofs.SerialGated.{made}
use Rattle.std.specs.declared.alloc.AllocError.{AllocError}
use Rattle.guest_state.specs.declared.virtual_state.Virtual.{Virtual}
use Rattle.ir_syntax.specs.declared.block.Block.{Block}
use Rattle.machine_model.proofs.Reaches.{are_reaches, reach_of}
use Rattle.hall_core.specs.Hall.{HallData, both}
use Rattle.guest_parts.specs.Guest.{GuestData}
use Rattle.guest_parts.specs.Points.{Acts, point_at, waiting_of}
use Rattle.guest_parts.specs.Running.{Rises}
use Rattle.guest_parts.proofs.CallEntries.{asks_with}
use Rattle.guest_steps.proofs.Striding.{rises_then}
use Rattle.guest_steps.specs.declared.own.Own.{Own}
use Rattle.guest_steps.specs.declared.stretch.Came.{Came}
use Rattle.guest_steps.specs.declared.stretch.Came.TheVariants as came
use Rattle.guest_steps.specs.Kept.{Table}
use Rattle.guest_entries.specs.Entered.{AlongIn, SettledBy, TellsPartly, turn_in}
use Rattle.guest_steps.specs.Own.{data_of, position_of}
use Rattle.guest_steps.specs.Stretched.{parts_for}
use Rattle.thread_step.specs.Turned.{ActIs, StopsIn, rule_of}
use Rattle.guest_entries.proofs.Adding.{settle_free}
use Rattle.guest_entries.specs.Steps.{AddsFree, IsFree, entry_steps, event_by as event_of, event_steps, instruction_steps, steps_from}

-- ---- journals

steps_more : (c : CaseData) (b : Both) (es : List Entry) (e : Entry) → steps_from c b (es ++ e ∷ []) ≡ steps_from c b es + entry_steps c.image (walk_on c b es).machine e
unfolding steps_from walk_on
steps_more c b [] e = omega arith
steps_more c b (x ∷ es) e =
    let on = steps_more c (or_stay b (advance c b x)) es e in
    omega (arith, on)

one_entry : (c : CaseData) (journal : List Entry) (e : Entry) → instruction_steps c (journal ++ e ∷ []) ≡ instruction_steps c journal + entry_steps c.image (both_of c journal).machine e
unfolding both_of
one_entry c journal e = steps_more c (begin c) journal e

free_steps : (t : ℕ) (e : Entry) → IsFree t e → (c : CaseData) (m : Machine) → entry_steps c.image m e ≡ 0
free_steps t (Ev u k) is c m = absurd is
free_steps t (Tick u k) is c m = absurd is
free_steps t (Flush u) is c m = refl
free_steps t (Wait u k) is c m = absurd is
free_steps t (Miss u k source target) is c m = absurd is
free_steps t (Grow u a) is c m = refl
free_steps t (Over u k) is c m = absurd is
free_steps t (Full u) is c m = absurd is
free_steps t Dead is c m = absurd is

free_on : (c : CaseData) (t : ℕ) (journal es : List Entry) → All (IsFree t) es → instruction_steps c (journal ++ es) ≡ instruction_steps c journal
free_on c t journal [] h = ap (instruction_steps c) (append-nil journal)
free_on c t journal (e ∷ es) h =
    let all = free_on c t (journal ++ e ∷ []) es (All-tail (IsFree t) e es h) in
    let one = one_entry c journal e in
    let none = free_steps t e (All-head (IsFree t) e es h) c (both_of c journal).machine in
    ap (instruction_steps c) (sym (append_assoc journal (e ∷ []) es)) ∙ all ∙ omega (arith, one, none)

-- entries without steps
pub free_counts : (c : CaseData) (t : ℕ) (before after : List Entry) → AddsFree t before after → instruction_steps c after ≡ instruction_steps c before
free_counts c t before after h = ap (instruction_steps c) h.journal ∙ free_on c t before h.entries h.free

-- what was done before memory was wanting
pub partly_counts : (c : CaseData) (t : ℕ) (old new : List Entry) (before after : ℕ) → TellsPartly t old new before after → instruction_steps c new + after ≤ instruction_steps c old + before
partly_counts c t old new before after (inl h) = let e = free_counts c t old new h.0 in let k = h.1 in omega (arith, e, k)
partly_counts c t old new before after (inr h) =
    let q = h.0 in
    let e = Miss t before q.source q.target in
    let first = free_counts c t old q.mid q.first in
    let one = one_entry c q.mid e in
    let free = free_counts c t (q.mid ++ e ∷ []) new q.free in
    let none = h.1 in
    omega (arith, first, free, one, none)

-- ---- turns

-- a turn's machine is what its journal leads to, and its journal makes so many steps at most
pub record Counted (c : CaseData) (most : ℕ) (s : Turn) : Type 0 where
  pub told : s.both ≡ both_of c s.journal
  pub steps : instruction_steps c s.journal ≤ most

one_counted : (c : CaseData) (e : Entry) (s x : Turn) (most n : ℕ) → Counted c most s → entry_steps c.image s.both.machine e ≤ n → make c e s ≡ Some x → Counted c (most + n) x
one_counted c e s x most n h le p =
    let m = made c e s x p in
    let here = ap (λ (b : Both). entry_steps c.image b.machine e) h.told in
    let one = one_entry c s.journal e in
    let old = h.steps in
    subst (Counted c (most + n)) m.is (record {
      told = sym (both_more c s.journal e m.both (subst (λ b. advance c b e ≡ Some m.both) h.told m.came));
      steps = omega (arith, here, one, old, le);
    })

same_counted : (c : CaseData) (most : ℕ) (s x : Turn) → Counted c most s → Some s ≡ Some x → Counted c most x
same_counted c most s x h p = subst (Counted c most) (same_Some s x p) h

no_more : (c : CaseData) (most n : ℕ) (s : Turn) → n ≡ 0 → Counted c (most + n) s → Counted c most s
no_more c most n s e h = record { told = h.told; steps = let le = h.steps in omega (arith, e, le) }

at_most : (c : CaseData) (most more : ℕ) (s : Turn) → most ≤ more → Counted c most s → Counted c more s
at_most c most more s le h = record { told = h.told; steps = let few = h.steps in omega (arith, le, few) }

free_counted : (c : CaseData) (e : Entry) (s x : Turn) (most : ℕ) → Counted c most s → entry_steps c.image s.both.machine e ≡ 0 → make c e s ≡ Some x → Counted c most x
free_counted c e s x most h none p = no_more c most 0 x refl (one_counted c e s x most 0 h (omega (arith, none)) p)

-- growth makes no steps
grow_all_counted : (c : CaseData) (t most : ℕ) (places : List ℕ) (s x : Turn) → Counted c most s → grow_all c t places s ≡ Some x → Counted c most x
unfolding grow_all
grow_all_counted c t most [] s x h p = same_counted c most s x h p
grow_all_counted c t most (a ∷ more) s x h p =
    option_and_then_some (grow_all c t more) (make c (Grow t a) s) x p (λ y q r. grow_all_counted c t most more y x (free_counted c (Grow t a) s y most h refl q) r)

grow_if_counted : (c : CaseData) (t most : ℕ) (more : List ℕ) (s x : Turn) (fits : Bool) → Counted c most s → grow_if c t more s fits ≡ Some x → Counted c most x
grow_if_counted c t most more s x true h p = grow_all_counted c t most more s x h p
grow_if_counted c t most more s x false h p = same_counted c most s x h p

full_or_counted : (c : CaseData) (reach : Reaches) (t g most : ℕ) (s x : Turn) (full : Bool) → Counted c most s → full_or c reach t g s full ≡ Some x → Counted c most x
full_or_counted c reach t g most s x true h p = free_counted c (Full t) s x most h refl p
full_or_counted c reach t g most s x false h p =
    option_and_then_some (grow_reach c t (reach g)) (make c (Grow t g) s) x p (λ y q r.
    grow_if_counted c t most (ungrown y.both.gate.grown (reach g)) y x (nat_le (length y.both.gate.grown + length (ungrown y.both.gate.grown (reach g))) most_grown) (free_counted c (Grow t g) s y most h refl q) r)

after_miss_counted : (c : CaseData) (reach : Reaches) (t g most : ℕ) (strict : Bool) (s x : Turn) → Counted c most s → after_miss c reach t g strict s ≡ Some x → Counted c most x
after_miss_counted c reach t g most true s x h p = same_counted c most s x h p
after_miss_counted c reach t g most false s x h p = full_or_counted c reach t g most s x (length s.both.gate.grown == most_grown) h p

-- ---- before an event

-- its thread is as far along as before
pub record Before (c : CaseData) (most t k : ℕ) (d : Stand) (s : Turn) : Type 0 where
  pub counted : Counted c most s
  pub whole : IsWhole s.both
  pub ahead : IsAhead c s.both (slot_of t) k d

flush_before : (c : CaseData) (most t k : ℕ) (d : Stand) (s x : Turn) → Before c most t k d s → flush c t s ≡ Some x → Before c most t k d x
flush_before c most t k d s x h p =
    let f : Turn = record s { ages = rest_of s.ages } in
    let m = made c (Flush t) f x p in
    let w = flush_waits c s.both m.both t m.came in
    let v = flush_own c s.both m.both t w.0 w.1 h.whole m.came w.2 in
    let counted : Counted c most f = record { told = h.counted.told; steps = h.counted.steps } in
    record {
      counted = free_counted c (Flush t) f x most counted refl p;
      whole = subst (λ (y : Turn). IsWhole y.both) m.is (whole_stays c s.both m.both (Flush t) h.whole m.came);
      ahead = subst (λ (y : Turn). IsAhead c y.both (slot_of t) k d) m.is (ap (λ z. gated_steps c.image z k (stand_at m.both (slot_of t))) v.2 ∙ ap (gated_steps c.image s.both.gate.grown k) v.0.stand ∙ h.ahead);
    }

pub flushes_before : (c : CaseData) (most t k n : ℕ) (d : Stand) (s x : Turn) → Before c most t k d s → flush_some c t n s ≡ Some x → Before c most t k d x
unfolding flush_some
flushes_before c most t k zero d s x h p = subst (Before c most t k d) (same_Some s x p) h
flushes_before c most t k (suc n) d s x h p = option_and_then_some (flush_some c t n) (flush c t s) x p (λ y q r. flushes_before c most t k n d y x (flush_before c most t k d s y h q) r)

told_counted : (c : CaseData) (most t k : ℕ) (s x : Turn) → Counted c most s → told_waiting c t k s ≡ Some x → Counted c (most + k) x
told_counted c most t zero s x h p = at_most c most (most + 0) x (omega arith) (subst (Counted c most) (same_Some (record s { waiting = true }) x p) (record { told = h.told; steps = h.steps }))
told_counted c most t (suc k) s x h p = one_counted c (Wait t (suc k)) (record s { waiting = true }) x most (suc k) (record { told = h.told; steps = h.steps }) (omega arith) p

event_counted : (c : CaseData) (most t : ℕ) (q : Point) (s x : Turn) (waits : Bool) → Before c most t q.k q.stand s → event_by c t q s waits ≡ Some x → Counted c (most + (q.k + event_steps (want c.image q.stand.cpu))) x
event_counted c most t q s x true h p = at_most c (most + q.k) (most + (q.k + event_steps (want c.image q.stand.cpu))) x (omega arith) (told_counted c most t q.k s x h.counted p)
event_counted c most t q s x false h p =
    let f : Turn = record s { ages = with_new (want c.image q.stand.cpu) s.ages } in
    let there = ap (event_of c.image) (steps_private c.image s.both.gate.grown q.k (stand_at s.both (slot_of t)) q.stand h.ahead) in
    one_counted c (Ev t q.k) f x most (q.k + event_steps (want c.image q.stand.cpu)) (record { told = h.counted.told; steps = h.counted.steps }) (omega (arith, there)) p

-- ---- what is done at a point

-- an event may make a step of an instruction
abbrev pub rule_steps : Rule → Want → ℕ
rule_steps AtLimit w = 0
rule_steps AtMiss w = 0
rule_steps AtMost w = 0
rule_steps AtEvent w = event_steps w
rule_steps GoesOn w = 0

more_none : (c : CaseData) (most k : ℕ) (x : Turn) → Counted c (most + k) x → Counted c (most + (k + 0)) x
more_none c most k x h = at_most c (most + k) (most + (k + 0)) x (omega arith) h

act_counted : (c : CaseData) (reach : Reaches) (t most : ℕ) (q : Point) (s x : Turn) (r : Rule) → Before c most t q.k q.stand s → act c reach t q s r ≡ Some x → Counted c (most + (q.k + rule_steps r (want c.image q.stand.cpu))) x
act_counted c reach t most q s x AtLimit h p = more_none c most q.k x (one_counted c (Over t q.k) s x most q.k h.counted (omega arith) p)
act_counted c reach t most q s x AtMiss h p =
    more_none c most q.k x (option_and_then_some (after_miss c reach t q.stand.cpu.rip c.strict) (make c (Miss t q.k q.stand.cpu.last q.stand.cpu.rip) s) x p (λ y m a.
    after_miss_counted c reach t q.stand.cpu.rip (most + q.k) c.strict y x (one_counted c (Miss t q.k q.stand.cpu.last q.stand.cpu.rip) s y most q.k h.counted (omega arith) m) a))
act_counted c reach t most q s x AtMost h p = more_none c most q.k x (one_counted c (Tick t q.k) s x most q.k h.counted (omega arith) p)
act_counted c reach t most q s x AtEvent h p =
    let n = flushed_before (want c.image q.stand.cpu) (length (list_at s.both.machine (slot_of t))) in
    option_and_then_some (event c t q) (flush_some c t n s) x p (λ y f e.
    event_counted c most t q y x (waits_at c.image y.both.machine t q.stand.cpu) (flushes_before c most t q.k n q.stand s y h f) e)
act_counted c reach t most q s x GoesOn h p = absurd (none-some x p)

-- ---- where a guest stops

few_steps : (w : Want) → event_steps w ≤ 1
few_steps (wants.Private next) = omega arith
few_steps (wants.Load a w) = omega arith
few_steps (wants.Store a w value next) = omega arith
few_steps (wants.Fence next) = omega arith
few_steps (wants.Locked a w change) = omega arith
few_steps (wants.Call f) = omega arith
few_steps (wants.Door d) = omega arith
few_steps (wants.Bad kind) = omega arith

no_steps : (w : Want) (what : Asked) → asked_by w ≡ Some what → event_steps w ≡ 0
no_steps (wants.Private next) what e = absurd (none-some what e)
no_steps (wants.Load a w) what e = absurd (none-some what e)
no_steps (wants.Store a w value next) what e = absurd (none-some what e)
no_steps (wants.Fence next) what e = absurd (none-some what e)
no_steps (wants.Locked a w change) what e = absurd (none-some what e)
no_steps (wants.Call f) what e = refl
no_steps (wants.Door d) what e = refl
no_steps (wants.Bad kind) what e = absurd (none-some what e)

-- what is done where a guest that stands with its thread stops
acts_count : (h : HallData Block) (t : ℕ) (own : Own) (table : Table) (d : Stand) (r : Rule) (x : Turn) → AlongIn h t own table d → Acts h.case t (point_at own.k d) (turn_in h own.ages) r x → instruction_steps h.case x.journal ≤ instruction_steps h.case h.journal + (own.k + rule_steps r (want h.case.image d.cpu))
acts_count h t own table d r x a acts =
    let most = instruction_steps h.case h.journal in
    let right = are_reaches h.case.image in
    (act_counted h.case (reach_of h.case.image) t most (point_at own.k d) (turn_in h own.ages) x r (record {
      counted = record { told = refl; steps = omega arith };
      whole = a.going.whole;
      ahead = a.with.ahead;
    }) (acts (reach_of h.case.image) right)).steps

stop_along : (r : Came) (h : HallData Block) (t : ℕ) (own : Own) (table : Table) (d : Stand) → StopsIn r h t own table d → (v : Virtual) × AlongIn h t (record own { state = v }) table d
stop_along came.Limit h t own table d s = (own.state, s.0)
stop_along came.Most h t own table d s = (own.state, s.0)
stop_along (came.Missing a) h t own table d s = (own.state, s.0)
stop_along (came.Library a what) h t own table d s = (own.state, s.0)
stop_along (came.Asks r) h t own table d s = (s.0, s.1.along)

-- the parts that were run make up for the steps
stop_steps : (r : Came) (h : HallData Block) (t : ℕ) (own : Own) (table : Table) (d : Stand) → StopsIn r h t own table d → own.k + rule_steps (rule_of r) (want h.case.image d.cpu) ≤ parts_for (Ok r) own.k
stop_steps came.Limit h t own table d s = omega arith
stop_steps came.Most h t own table d s = omega arith
stop_steps (came.Missing a) h t own table d s = omega arith
stop_steps (came.Library a what) h t own table d s =
    let asks = asks_with h.case (both h) t (data_of own) d a what s.0.with (ap position_of s.1.1, s.1.2) in
    let none = no_steps (want h.case.image d.cpu) what asks.wants in
    omega (arith, none)
stop_steps (came.Asks r) h t own table d s = let few = few_steps (want h.case.image d.cpu) in omega (arith, few)

more_parts : (r : Came) (k : ℕ) → k ≤ parts_for (Ok r) k
more_parts came.Limit k = omega arith
more_parts came.Most k = omega arith
more_parts (came.Missing a) k = omega arith
more_parts (came.Library a what) k = omega arith
more_parts (came.Asks r) k = omega arith

pub act_counts : (r : Came) (o : Result Bool AllocError) (h new : HallData Block) (t : ℕ) (own after : Own) (table left : Table) (d : Stand) → StopsIn r h t own table d → ActIs o h new t own after left d (rule_of r) → instruction_steps h.case new.journal + after.k ≤ instruction_steps h.case h.journal + parts_for (Ok r) own.k
act_counts r (Ok false) h new t own after table left d s q =
    let a = stop_along r h t own table d s in
    let n = acts_count h t (record own { state = a.0 }) table d (rule_of r) (turn_in new after.ages) a.1 q.acts in
    let most = stop_steps r h t own table d s in
    let told = q.told in
    omega (arith, n, most, told)
act_counts r (Ok true) h new t own after table left d s q =
    let a = stop_along r h t own table d s in
    let n = acts_count h t (record own { state = a.0 }) table d (rule_of r) (waiting_of (both new) new.journal after.ages) a.1 (subst (λ z. Acts h.case t (point_at own.k d) (turn_in h own.ages) z (waiting_of (both new) new.journal after.ages)) (sym q.1) q.0.acts) in
    let most = stop_steps r h t own table d s in
    let told = q.0.told in
    omega (arith, n, most, told)
act_counts r (Err e) h new t own after table left d s q =
    let n = partly_counts h.case t h.journal new.journal own.k after.k q.tells in
    let most = more_parts r own.k in
    omega (arith, n, most)

-- ---- the engine's count

pub rises_less : (a b n m : ℕ) → m ≤ n → Rises a b n → Rises a b m
rises_less a b n m le (inl more) = inl (omega (arith, le, more))
rises_less a b n m le (inr full) = inr full

-- an entry made so many steps, for which parts were run
pub entry_counts : (r : Came) (a b k mid old new last : ℕ) → Rises a b (parts_for (Ok r) (mid - k)) → k ≤ mid → new + last ≤ old + parts_for (Ok r) mid → Rises a b ((new + last) - (old + k))
entry_counts came.Limit a b k mid old new last h later most = rises_less a b (mid - k) ((new + last) - (old + k)) (omega (arith, later, most)) h
entry_counts came.Most a b k mid old new last h later most = rises_less a b (mid - k) ((new + last) - (old + k)) (omega (arith, later, most)) h
entry_counts (came.Missing p) a b k mid old new last h later most = rises_less a b (mid - k) ((new + last) - (old + k)) (omega (arith, later, most)) h
entry_counts (came.Library p what) a b k mid old new last h later most = rises_less a b (mid - k) ((new + last) - (old + k)) (omega (arith, later, most)) h
entry_counts (came.Asks q) a b k mid old new last h later most = rises_less a b (mid - k + 1) ((new + last) - (old + k)) (omega (arith, later, most)) h

-- two stretches of a turn
pub count_then : (c d : CaseData) (a b e k m n : ℕ) (first mid last : List Entry) → d ≡ c → Rises a b ((instruction_steps c mid + m) - (instruction_steps c first + k)) → Rises b e ((instruction_steps d last + n) - (instruction_steps d mid + m)) → Rises a e ((instruction_steps c last + n) - (instruction_steps c first + k))
count_then c d a b e k m n first mid last same p q = rises_then a b e (instruction_steps c first + k) (instruction_steps c mid + m) (instruction_steps c last + n) p (subst (λ z. Rises b e ((instruction_steps z last + n) - (instruction_steps z mid + m))) same q)

-- room for entries is no step
pub held_counts : (r : Came) (o : Result Bool AllocError) (h held new : HallData Block) (t : ℕ) (own after : Own) (table left : Table) (d : Stand) → held ≡ record h { spare = held.spare } → StopsIn r held t own table d → ActIs o held new t own after left d (rule_of r) → instruction_steps h.case new.journal + after.k ≤ instruction_steps h.case h.journal + parts_for (Ok r) own.k
held_counts r o h held new t own after table left d is s q = subst (λ (z : HallData Block). instruction_steps z.case new.journal + after.k ≤ instruction_steps z.case z.journal + parts_for (Ok r) own.k) is (act_counts r o held new t own after table left d s q)

pub held_same : (c : CaseData) (h held : HallData Block) → held ≡ record h { spare = held.spare } → instruction_steps c held.journal ≡ instruction_steps c h.journal
held_same c h held is = ap (λ (z : HallData Block). instruction_steps c z.journal) is

-- the end of a turn makes no step
pub settled_counts : (c : CaseData) (h held new : HallData Block) (t hold : ℕ) (g : GuestData) (ages : List ℕ) (d : Stand) → held ≡ record h { spare = held.spare } → SettledBy held new t hold g ages d → instruction_steps c new.journal ≡ instruction_steps c h.journal
settled_counts c h held new t hold g ages d is s = free_counts c t held.journal new.journal (settle_free held.case t hold (turn_in held g.ages) (turn_in new ages) s.is_settled) ∙ held_same c h held is
