-- The rules of a turn always name a step: the entries of a turn.
use Rattle.std.proofs.Common.{◌≡◌, ◌≢◌, ℕ, ◌+◌, ◌<◌, ◌≤◌, ◌⊎◌, inl, inr, Bool, true, false, cond, List, [], Option, Some, None, refl, sym, ap, ◌∙◌, subst, arith, ◌&&◌, not, nat_lt, length}
use Rattle.std.proofs.lemmas.Option.{none-some, cond_some}
use Rattle.elf_image.specs.Layout.{ImageData}
use Rattle.address_space.specs.Slots.{slot_of}
use Rattle.lib_table.specs.Library as table
use Rattle.tso_memory.specs.Tso.{is_none_waiting}
use Rattle.basic_blocks.specs.Places.{is_code_place}
use Rattle.basic_blocks.specs.Reach.{is_among}
use Rattle.journal_pack.specs.declared.entry.Entry.{Entry}
use Rattle.journal_pack.specs.declared.entry.Entry.TheVariants.{Ev, Tick, Flush, Wait, Miss, Grow, Over, Full, Dead}
use Rattle.machine_model.specs.declared.ending.RunEnd.{RunEnd}
use Rattle.machine_model.specs.declared.ending.RunEnd.TheVariants as end
use Rattle.machine_model.specs.CaseData.{CaseData}
use Rattle.machine_model.specs.State.{is_live, list_at}
use Rattle.machine_model.specs.Step.{cpu_at, ended, is_in_use, later, slot_in, waits_at, with_cpu}
use Rattle.machine_model.specs.Gated.{Both, Other, Spot, Stand, Untouched, Within, advance, grown_by, is_between, most_grown, spot_with, stand_at}
use Rattle.machine_model.specs.Ready.{HasGrown, IsSound}
use Rattle.machine_model.specs.Serial.{Point, Turn, arrived, is_missing, make, with_entry}
use Rattle.machine_model.proofs.Costs.{both_of, came}
use Rattle.machine_model.proofs.Gates.{grown_after, passes, untouched_by}
use Rattle.machine_model.proofs.Independence.{lists_stay}
use Rattle.machine_model.proofs.Names.{Reached}
use Rattle.machine_model.proofs.Own.{advance_made, le_test, lt_of, lt_test, made_of, whole_stays}
use Rattle.machine_model.proofs.OwnKinds.{over_own, tick_own, wait_own}
use Rattle.machine_model.proofs.Settled.{same_stand, settled_stays}

-- ---- sound machines

few_by : (c : CaseData) (b n : Both) (e : Entry) → advance c b e ≡ Some n → length b.gate.grown ≤ most_grown → length (grown_by e b.gate.grown) ≤ most_grown
few_by c b n (Ev t k) p h = h
few_by c b n (Tick t k) p h = h
few_by c b n (Flush t) p h = h
few_by c b n (Wait t k) p h = h
few_by c b n (Miss t k source target) p h = h
few_by c b n (Grow t a) p h =
    let m = made_of c b n (Grow t a) p in
    let lt : length b.gate.grown < 65536 = lt_of (length b.gate.grown) 65536 (both_of (not (is_among b.gate.grown a)) (nat_lt (length b.gate.grown) most_grown) (cond_some _ _ m.spot m.is.last).0).1 in
    omega arith
few_by c b n (Over t k) p h = h
few_by c b n (Full t) p h = h
few_by c b n Dead p h = h

pub sound_stays : (c : CaseData) (b n : Both) (e : Entry) → IsSound c b → advance c b e ≡ Some n → IsSound c n
sound_stays c b n e h p = record {
  whole = whole_stays c b n e h.whole p;
  settled = settled_stays c b n e h.whole h.settled p;
  few = subst (λ g. length g ≤ most_grown) (sym (grown_after c b n e p)) (few_by c b n e p h.few);
}

-- ---- the other slots

pub record Others (c : CaseData) (o n : Both) (s : ℕ) : Type 0 where
  pub lists : (u : ℕ) → u ≢ s → list_at n.machine u ≡ list_at o.machine u
  pub ready : (u : ℕ) → u < 64 → u ≢ s → HasGrown c.image o u → HasGrown c.image n u

pub others_itself : (c : CaseData) (b : Both) (s : ℕ) → Others c b b s
others_itself c b s = record { lists = λ u ne. refl; ready = λ u low ne h. h }

pub others_chain : (c : CaseData) (o b n : Both) (s : ℕ) → Others c o b s → Others c b n s → Others c o n s
others_chain c o b n s p q = record { lists = λ u ne. q.lists u ne ∙ p.lists u ne; ready = λ u low ne h. q.ready u low ne (p.ready u low ne h) }

-- growth takes no place away
missing_less : (image : ImageData) (old new : List ℕ) (d : Stand) → Within old new → is_missing image old d ≡ false → is_missing image new d ≡ false
missing_less image old new d w h = by_parts (is_code_place image d.cpu.rip) (is_between d.left) (is_among old d.cpu.rip) (is_among new d.cpu.rip) (w d.cpu.rip) h
  where
    by_parts : (code out a b : Bool) → (a ≡ true → b ≡ true) → (code && out && not a) ≡ false → (code && out && not b) ≡ false
    by_parts false out a b f h = refl
    by_parts true false a b f h = refl
    by_parts true true true b f h = ap not (f refl)
    by_parts true true false b f h = absurd (let e : true ≡ false = h in cc)

ready_used : (c : CaseData) (b n : Both) (u : ℕ) → Untouched b n u → HasGrown c.image b u → HasGrown c.image n u
ready_used c b n u same (inl other) = inl (ap (λ (x : Spot). x.latest) same.spot ∙ other)
ready_used c b n u same (inr there) = inr (missing_less c.image b.gate.grown n.gate.grown (stand_at n u) same.grown (subst (λ d. is_missing c.image b.gate.grown d ≡ false) (same_stand b n u same) there))

ready_by : (c : CaseData) (b n : Both) (e : Entry) (u : ℕ) (used : Bool) → is_in_use b.machine.library u ≡ used → IsSound c b → advance c b e ≡ Some n → u < 64 → u ≢ slot_in e → HasGrown c.image b u → HasGrown c.image n u
ready_by c b n e u true live h p low ne g = ready_used c b n u (untouched_by c b n e u h.whole.machine.slots p ne live) g
ready_by c b n e u false dead h p low ne g =
    let m = made_of c b n e p in
    let idle = (h.settled m.is.going u low).free dead in
    let same = (passes c.image e (cpu_at b.machine (slot_in e)) (cpu_at n.machine (slot_in e)) b.gate n.gate (came c b n e p).passed).spot u ne in
    inl (ap (λ (x : Spot). x.latest) (same ∙ idle))

pub others_one : (c : CaseData) (b n : Both) (e : Entry) → IsSound c b → advance c b e ≡ Some n → Others c b n (slot_in e)
others_one c b n e h p = record {
  lists = λ u ne. lists_stay c b.machine n.machine e h.whole.machine.slots (came c b n e p).stepped u ne;
  ready = λ u low ne g. ready_by c b n e u (is_in_use b.machine.library u) refl h p low ne g;
}

-- ---- a turn under way

pub record InTurn (c : CaseData) (o : Both) (t : ℕ) (b : Both) (ages : List ℕ) : Type 0 where
  pub sound : IsSound c b
  pub going : b.machine.ending ≡ None
  pub live : is_live b.machine t ≡ true
  pub aged : length ages ≡ length (list_at b.machine (slot_of t))
  pub grown : HasGrown c.image b (slot_of t)
  pub others : Others c o b (slot_of t)

-- after an entry of a turn, or after the turn
pub record Turned (c : CaseData) (o : Both) (t : ℕ) (b : Both) (ages : List ℕ) : Type 0 where
  pub sound : IsSound c b
  pub others : Others c o b (slot_of t)
  pub aged : b.machine.ending ≡ None → length ages ≡ length (list_at b.machine (slot_of t))
  pub grown : b.machine.ending ≡ None → HasGrown c.image b (slot_of t)
  pub live : b.machine.ending ≡ None → (is_live b.machine t ≡ true) ⊎ (ages ≡ [])

pub in_turn_turned : (c : CaseData) (o : Both) (t : ℕ) (b : Both) (ages : List ℕ) → InTurn c o t b ages → Turned c o t b ages
in_turn_turned c o t b ages h = record { sound = h.sound; others = h.others; aged = λ _. h.aged; grown = λ _. h.grown; live = λ _. inl h.live }

pub turned_goes_on : (c : CaseData) (o : Both) (t : ℕ) (b : Both) (ages : List ℕ) → Turned c o t b ages → b.machine.ending ≡ None → is_live b.machine t ≡ true → InTurn c o t b ages
turned_goes_on c o t b ages h going live = record { sound = h.sound; going = going; live = live; aged = h.aged going; grown = h.grown going; others = h.others }

pub not_ended : {P : Type 0} (e : RunEnd) (x : Option RunEnd) → x ≡ Some e → x ≡ None → P
not_ended e x p q = absurd (none-some e (sym q ∙ p))

-- an entry that ends the run
pub turned_end : (c : CaseData) (o : Both) (t : ℕ) (b n : Both) (ages more : List ℕ) (e : Entry) (end : RunEnd) → slot_in e ≡ slot_of t → InTurn c o t b ages → advance c b e ≡ Some n → n.machine.ending ≡ Some end → Turned c o t n more
turned_end c o t b n ages more e end same h p ends = record {
  sound = sound_stays c b n e h.sound p;
  others = others_chain c o b n (slot_of t) h.others (subst (λ s. Others c b n s) same (others_one c b n e h.sound p));
  aged = not_ended end n.machine.ending ends;
  grown = not_ended end n.machine.ending ends;
  live = not_ended end n.machine.ending ends;
}

-- an entry after which the thread goes on
pub turned_on : (c : CaseData) (o : Both) (t : ℕ) (b n : Both) (ages more : List ℕ) (e : Entry) → slot_in e ≡ slot_of t → InTurn c o t b ages → advance c b e ≡ Some n → length more ≡ length (list_at n.machine (slot_of t)) → HasGrown c.image n (slot_of t) → n.machine.library ≡ b.machine.library → Turned c o t n more
turned_on c o t b n ages more e same h p aged grown lib = record {
  sound = sound_stays c b n e h.sound p;
  others = others_chain c o b n (slot_of t) h.others (subst (λ s. Others c b n s) same (others_one c b n e h.sound p));
  aged = λ _. aged;
  grown = λ _. grown;
  live = λ _. inl (ap (λ l. table.is_live l t) lib ∙ h.live);
}

pub makes : (c : CaseData) (e : Entry) (s : Turn) (n : Both) → advance c s.both e ≡ Some n → make c e s ≡ Some (with_entry e s n)
unfolding make
makes c e s n p = ap (arrived e s) p

-- an entry that comes, and what is after it
pub record Comes (c : CaseData) (o : Both) (t : ℕ) (b : Both) (e : Entry) (ages : List ℕ) : Type 0 where
  pub next : Both
  pub comes : advance c b e ≡ Some next
  pub after : Turned c o t next ages

-- ---- private steps alone

pub over_comes : (c : CaseData) (o : Both) (t : ℕ) (b : Both) (ages : List ℕ) (q : Point) → InTurn c o t b ages → Reached c b (slot_of t) q → c.limit ≤ b.machine.steps + q.k → Comes c o t b (Over t q.k) ages
over_comes c o t b ages q h r le =
    let e = Over t q.k in
    let m = ended (later (with_cpu b.machine (slot_of t) q.stand.cpu) q.k) end.Steps in
    let test = le_test c.limit (b.machine.steps + q.k) le in
    let p = advance_made c b e q.stand m (spot_with q.stand.left Other) (record { going = h.going; live = h.live; few = r.few; ahead = r.ahead; made = ap (λ x. cond x (Some m) None) test; last = refl }) in
    let v = over_own c b _ t q.k q.stand h.sound.whole p r.ahead in
    record { next = _; comes = p; after = turned_end c o t b _ ages ages e end.Steps refl h p v.1.ending }

pub tick_comes : (c : CaseData) (o : Both) (t : ℕ) (b : Both) (ages : List ℕ) (q : Point) → InTurn c o t b ages → Reached c b (slot_of t) q → b.machine.steps + q.k < c.limit → 0 < q.k → Comes c o t b (Tick t q.k) ages
tick_comes c o t b ages q h r lt some =
    let e = Tick t q.k in
    let m = later (with_cpu b.machine (slot_of t) q.stand.cpu) q.k in
    let one = lt_test 0 q.k some in
    let test = lt_test (b.machine.steps + q.k) c.limit lt in
    let p = advance_made c b e q.stand m (spot_with q.stand.left Other) (record { going = h.going; live = h.live; few = r.few; ahead = r.ahead; made = rw (one, test) refl; last = refl }) in
    let v = tick_own c b _ t q.k q.stand h.sound.whole p r.ahead in
    record { next = _; comes = p; after = turned_on c o t b _ ages ages e refl h p (h.aged ∙ ap length (sym v.0.writes)) (inl v.0.latest) v.1.library }

pub wait_comes : (c : CaseData) (o : Both) (t : ℕ) (b : Both) (ages : List ℕ) (q : Point) → InTurn c o t b ages → Reached c b (slot_of t) q → b.machine.steps + q.k < c.limit → 0 < q.k → is_none_waiting (list_at b.machine (slot_of t)) ≡ true → waits_at c.image b.machine t q.stand.cpu ≡ true → Comes c o t b (Wait t q.k) ages
wait_comes c o t b ages q h r lt some empty waits =
    let e = Wait t q.k in
    let m = later (with_cpu b.machine (slot_of t) q.stand.cpu) q.k in
    let one = lt_test 0 q.k some in
    let test = lt_test (b.machine.steps + q.k) c.limit lt in
    let p = advance_made c b e q.stand m (spot_with q.stand.left Other) (record { going = h.going; live = h.live; few = r.few; ahead = r.ahead; made = rw (one, test, empty, waits) refl; last = refl }) in
    let v = wait_own c b _ t q.k q.stand h.sound.whole p r.ahead in
    record { next = _; comes = p; after = turned_on c o t b _ ages ages e refl h p (h.aged ∙ ap length (sym v.0.writes)) (inl v.0.latest) v.1.library }
