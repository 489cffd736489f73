-- The rules of a turn always name a step: misses and growth.
use Rattle.std.proofs.Common.{◌≡◌, ℕ, zero, suc, ◌+◌, ◌<◌, ◌≤◌, ◌⊎◌, inl, inr, Bool, true, false, List, [], ◌∷◌, Some, None, refl, sym, ap, ◌∙◌, subst, arith, ◌==◌, ◌||◌, ◌&&◌, not, nat_le, length}
use Rattle.std.specs.Prelude.{option_and_then, filter}
use Rattle.std.proofs.lemmas.Bool.Decides.{nat_tests}
use Rattle.std.proofs.lemmas.Option.{same_Some}
use Rattle.elf_image.specs.Layout.{ImageData}
use Rattle.address_space.specs.Slots.{slot_of}
use Rattle.lib_table.specs.Library as table
use Rattle.basic_blocks.specs.Places.{is_code_place}
use Rattle.basic_blocks.specs.Reach.{is_among, IsReach}
use Rattle.journal_pack.specs.declared.entry.Entry.{Entry}
use Rattle.journal_pack.specs.declared.entry.Entry.TheVariants.{Miss, Grow, Full}
use Rattle.machine_model.specs.declared.ending.RunEnd.{RunEnd}
use Rattle.machine_model.specs.declared.ending.RunEnd.TheVariants as end
use Rattle.machine_model.specs.CaseData.{CaseData}
use Rattle.machine_model.specs.State.{is_live, list_at}
use Rattle.machine_model.specs.Step.{cpu_at, ended, later, slot_in, with_cpu}
use Rattle.machine_model.specs.Gated.{Both, Growing, Latest, Missed, Other, Spot, Stand, advance, gated_steps, gate_with, is_between, most_grown, spot_at, spot_with, stand_at, with_gate}
use Rattle.machine_model.specs.Own.{IsAhead}
use Rattle.machine_model.specs.Ready.{HasGrown, IsSound}
use Rattle.machine_model.specs.Serial.{Point, Reaches, Turn, act, is_missing, with_entry}
use Rattle.machine_model.proofs.Costs.{both_of}
use Rattle.machine_model.proofs.Names.{Reached, clash}
use Rattle.machine_model.proofs.Own.{advance_made, le_of, lt_test}
use Rattle.machine_model.proofs.OwnKinds.{grow_own, miss_own}
use Rattle.machine_model.proofs.NamesEntries.{InTurn, Others, Turned, makes, not_ended, others_chain, others_one, sound_stays, turned_end}
use Rattle.machine_model.specs.Own.{miss_end}
use Rattle.std.specs.List.Sorted.{IsStrictlySortedBy}
use Rattle.std.specs.Ordering.{nat_cmp}
use Rattle.std.proofs.lemmas.List.Kept.{IsStrictlySortedBy-filter}
use Rattle.std.proofs.lemmas.Map.Keys.{sorted_tail}
use Rattle.std.proofs.lemmas.Map.Views.{All-after_first}
use Rattle.basic_blocks.specs.Span.{targets_after, block_at}
use Rattle.std.specs.List.{last_or}
use Rattle.machine_model.specs.Gated.{may_miss}
use Rattle.machine_model.specs.Serial.{AreReaches, AtMiss, after_miss, full_or, grow_all, grow_if, grow_reach, ungrown}
use Rattle.machine_model.specs.Step.{missed}
use Rattle.machine_model.proofs.NamesEvents.{Acted}
use Rattle.machine_model.proofs.Reaches.{filter_passing, or_first, or_second, same_place, sorted_below}
use Rattle.machine_model.proofs.SerialGated.{filter_among}

not_of : (b : Bool) → not b ≡ true → b ≡ false
not_of true h = absurd (let e : false ≡ true = h in cc)
not_of false h = refl

is_false : (b : Bool) → b ≡ false → not b ≡ true
is_false b h = ap not h

-- what holds of a place
abbrev IsMissingAt : ImageData → List ℕ → Stand → Type 0
IsMissingAt image grown d = (is_code_place image d.cpu.rip ≡ true) × (is_between d.left ≡ true) × (is_among grown d.cpu.rip ≡ false)

missing_parts : (image : ImageData) (grown : List ℕ) (d : Stand) → is_missing image grown d ≡ true → IsMissingAt image grown d
missing_parts image grown d h =
    let p = both_of (is_code_place image d.cpu.rip && is_between d.left) (not (is_among grown d.cpu.rip)) h in
    let q = both_of (is_code_place image d.cpu.rip) (is_between d.left) p.0 in
    (q.0, q.1, not_of (is_among grown d.cpu.rip) p.1)

may_miss_by : (l : Latest) (k : ℕ) → (l ≡ Other) ⊎ (0 < k) → may_miss l k ≡ true
may_miss_by Other k h = refl
may_miss_by (Missed g) k (inl e) = absurd (let q : Missed g ≡ Other = e in cc)
may_miss_by (Missed g) k (inr lt) = lt_test 0 k lt
may_miss_by (Growing g) k (inl e) = absurd (let q : Growing g ≡ Other = e in cc)
may_miss_by (Growing g) k (inr lt) = lt_test 0 k lt

pub first_ahead : (c : CaseData) (b : Both) (s k : ℕ) (d : Stand) → k ≡ 0 → IsAhead c b s k d → stand_at b s ≡ d
unfolding gated_steps
first_ahead c b s k d zero_k h = let p : gated_steps c.image b.gate.grown 0 (stand_at b s) ≡ Some d = ap (λ j. gated_steps c.image b.gate.grown j (stand_at b s)) (sym zero_k) ∙ h in same_Some (stand_at b s) d p

may_here : (c : CaseData) (b : Both) (s : ℕ) (q : Point) → HasGrown c.image b s → IsAhead c b s q.k q.stand → is_missing c.image b.gate.grown q.stand ≡ true → ((spot_at b.gate s).latest ≡ Other) ⊎ (0 < q.k)
may_here c b s q (inl other) ahead missing = inl other
may_here c b s q (inr there) ahead missing =
    inr (positive q.k (λ none. clash (is_missing c.image b.gate.grown q.stand) missing (subst (λ d. is_missing c.image b.gate.grown d ≡ false) (first_ahead c b s q.k q.stand none ahead) there)))
  where
    positive : (k : ℕ) → (k ≡ 0 → ⊥) → 0 < k
    positive zero f = absurd (f refl)
    positive (suc k) f = omega arith

-- ---- after a miss

-- the thread's latest entry is a miss, with nothing but growth since, and it stands at the target
pub record InMiss (c : CaseData) (o : Both) (t g : ℕ) (b : Both) (ages : List ℕ) : Type 0 where
  pub sound : IsSound c b
  pub going : b.machine.ending ≡ None
  pub live : is_live b.machine t ≡ true
  pub aged : length ages ≡ length (list_at b.machine (slot_of t))
  pub others : Others c o b (slot_of t)
  pub here : (cpu_at b.machine (slot_of t)).rip ≡ g
  pub between : (spot_at b.gate (slot_of t)).left ≡ []
  pub place : is_code_place c.image g ≡ true

rip_there : (image : ImageData) (grown : List ℕ) (d : Stand) → is_among grown d.cpu.rip ≡ true → is_missing image grown d ≡ false
rip_there image grown d e = ap (λ b. is_code_place image d.cpu.rip && is_between d.left && not b) e ∙ and_none (is_code_place image d.cpu.rip) (is_between d.left)
  where
    and_none : (a b : Bool) → (a && b && false) ≡ false
    and_none true true = refl
    and_none true false = refl
    and_none false b = refl

-- once the target is grown the turn goes on
grown_turned : (c : CaseData) (o : Both) (t g : ℕ) (b : Both) (ages : List ℕ) → InMiss c o t g b ages → is_among b.gate.grown g ≡ true → Turned c o t b ages
grown_turned c o t g b ages h there = record {
  sound = h.sound;
  others = h.others;
  aged = λ _. h.aged;
  grown = λ _. inr (rip_there c.image b.gate.grown (stand_at b (slot_of t)) (ap (is_among b.gate.grown) h.here ∙ there));
  live = λ _. inl h.live;
}

-- a place is grown
grow_comes : (c : CaseData) (o : Both) (t g a : ℕ) (b : Both) (ages : List ℕ) → c.strict ≡ false → InMiss c o t g b ages → is_code_place c.image a ≡ true → is_among b.gate.grown a ≡ false → length b.gate.grown < most_grown → (n : Both) × (advance c b (Grow t a) ≡ Some n) × InMiss c o t g n ages × (n.gate.grown ≡ a ∷ b.gate.grown)
unfolding gated_steps
grow_comes c o t g a b ages additive h place fresh few =
    let e = Grow t a in
    let spot = spot_at b.gate (slot_of t) in
    let test = lt_test (length b.gate.grown) 65536 few in
    let new = is_false (is_among b.gate.grown a) fresh in
    let free = is_false c.strict additive in
    let p = advance_made c b e (stand_at b (slot_of t)) b.machine spot (record { going = h.going; live = h.live; few = omega arith; ahead = refl; made = rw (free, place) refl; last = rw (new, test) refl }) in
    let n = with_gate b.machine (gate_with e b.gate spot) in
    let v = grow_own c b n t a h.sound.whole p in (
      n,
      p,
      record {
        sound = sound_stays c b n e h.sound p;
        going = h.going;
        live = h.live;
        aged = h.aged;
        others = others_chain c o b n (slot_of t) h.others (others_one c b n e h.sound p);
        here = h.here;
        between = ap (λ (x : Spot). x.left) v.1 ∙ h.between;
        place = h.place;
      },
      v.2,
    )

apart : (x a : ℕ) → x < a → (x == a) ≡ false
apart x a h = grind (arith, nat_tests)

-- growth of places that rise, of which none is grown and for which there is room
pub grow_all_makes : (c : CaseData) (o : Both) (t g : ℕ) (more : List ℕ) (s : Turn) → c.strict ≡ false → InMiss c o t g s.both s.ages → is_among s.both.gate.grown g ≡ true → IsStrictlySortedBy nat_cmp more → ((a : ℕ) → is_among more a ≡ true → is_code_place c.image a ≡ true) → ((a : ℕ) → is_among more a ≡ true → is_among s.both.gate.grown a ≡ false) → length s.both.gate.grown + length more ≤ most_grown → Acted c o t (grow_all c t more s)
unfolding grow_all
grow_all_makes c o t g [] s additive h there sorted places fresh fits = record { turn = s; is = refl; after = grown_turned c o t g s.both s.ages h there }
grow_all_makes c o t g (a ∷ more) s additive h there sorted places fresh fits =
    let at : is_among (a ∷ more) a ≡ true = or_first (a == a) (is_among more a) (same_place a) in
    let v = grow_comes c o t g a s.both s.ages additive h (places a at) (fresh a at) (omega arith) in
    let x = with_entry (Grow t a) s v.0 in
    let now : is_among v.0.gate.grown g ≡ true = ap (λ z. is_among z g) v.3 ∙ or_second (a == g) (is_among s.both.gate.grown g) there in
    let above = All-after_first nat_cmp a more sorted in
    let rest = grow_all_makes c o t g more x additive v.2 now (sorted_tail nat_cmp a more sorted) (λ y m. places y (or_second (a == y) (is_among more y) m)) (λ y m. ap (λ z. is_among z y) v.3 ∙ ap (λ z. z || is_among s.both.gate.grown y) (apart a y (sorted_below a y more above m)) ∙ fresh y (or_second (a == y) (is_among more y) m)) (let e = ap length v.3 in omega arith) in
    record { turn = rest.turn; is = ap (option_and_then (grow_all c t more)) (makes c (Grow t a) s v.0 v.1) ∙ rest.is; after = rest.after }

-- what is reached are code places
reach_places : (image : ImageData) (roots places : List ℕ) → IsReach image roots places → (a : ℕ) → is_among places a ≡ true → is_code_place image a ≡ true
reach_places image roots places h = h.least (is_code_place image) (λ a _ place. place) (λ a b _ next. filter_passing (is_code_place image) (targets_after (last_or None (block_at image a))) b next)

grow_if_makes : (c : CaseData) (o : Both) (t g : ℕ) (places : List ℕ) (s : Turn) (fits : Bool) → c.strict ≡ false → InMiss c o t g s.both s.ages → is_among s.both.gate.grown g ≡ true → IsReach c.image (g ∷ []) places → nat_le (length s.both.gate.grown + length (ungrown s.both.gate.grown places)) most_grown ≡ fits → Acted c o t (grow_if c t (ungrown s.both.gate.grown places) s fits)
grow_if_makes c o t g places s true additive h there reach fits =
    let test : ℕ → Bool = λ a. not (is_among s.both.gate.grown a) in
    grow_all_makes c o t g (filter test places) s additive h there (IsStrictlySortedBy-filter nat_cmp test places reach.ordered) (λ a m. reach_places c.image (g ∷ []) places reach a (filter_among test places a m)) (λ a m. not_of (is_among s.both.gate.grown a) (filter_passing test places a m)) (le_of _ _ fits)
grow_if_makes c o t g places s false additive h there reach fits = record { turn = s; is = refl; after = grown_turned c o t g s.both s.ages h there }

-- the run ends where no place may be grown any more
full_comes : (c : CaseData) (o : Both) (t g : ℕ) (b : Both) (ages : List ℕ) → c.strict ≡ false → InMiss c o t g b ages → is_among b.gate.grown g ≡ false → (length b.gate.grown == most_grown) ≡ true → (n : Both) × (advance c b (Full t) ≡ Some n) × (n.machine.ending ≡ Some (end.Full t (cpu_at b.machine (slot_of t)).rip))
unfolding gated_steps
full_comes c o t g b ages additive h fresh all =
    let d = stand_at b (slot_of t) in
    let place : is_code_place c.image d.cpu.rip ≡ true = ap (is_code_place c.image) h.here ∙ h.place in
    let new : not (is_among b.gate.grown d.cpu.rip) ≡ true = ap not (ap (is_among b.gate.grown) h.here ∙ fresh) in
    let out : is_between d.left ≡ true = ap is_between h.between in
    let free = is_false c.strict additive in
    let m = ended b.machine (end.Full t d.cpu.rip) in
    let p = advance_made c b (Full t) d m (spot_with [] Other) (record { going = h.going; live = h.live; few = omega arith; ahead = refl; made = rw (free, place) refl; last = rw (all, out, new) refl }) in
    (with_gate m (gate_with (Full t) b.gate (spot_with [] Other)), p, refl)

less_than : (a b : ℕ) → a ≤ b → (a == b) ≡ false → a < b
less_than a b h e = grind (arith, nat_tests)

miss_turned_end : (c : CaseData) (o : Both) (t g : ℕ) (b n : Both) (ages : List ℕ) (e : Entry) (x : RunEnd) → slot_in e ≡ slot_of t → InMiss c o t g b ages → advance c b e ≡ Some n → n.machine.ending ≡ Some x → Turned c o t n ages
miss_turned_end c o t g b n ages e x same h p ends = record {
  sound = sound_stays c b n e h.sound p;
  others = others_chain c o b n (slot_of t) h.others (subst (λ s. Others c b n s) same (others_one c b n e h.sound p));
  aged = not_ended x n.machine.ending ends;
  grown = not_ended x n.machine.ending ends;
  live = not_ended x n.machine.ending ends;
}

full_or_makes : (c : CaseData) (reach : Reaches) (o : Both) (t g : ℕ) (s : Turn) (all : Bool) → AreReaches c.image reach → c.strict ≡ false → InMiss c o t g s.both s.ages → is_among s.both.gate.grown g ≡ false → (length s.both.gate.grown == most_grown) ≡ all → Acted c o t (full_or c reach t g s all)
full_or_makes c reach o t g s true right additive h fresh e =
    let v = full_comes c o t g s.both s.ages additive h fresh e in
    record { turn = with_entry (Full t) s v.0; is = makes c (Full t) s v.0 v.1; after = miss_turned_end c o t g s.both v.0 s.ages (Full t) _ refl h v.1 v.2 }
full_or_makes c reach o t g s false right additive h fresh e =
    let v = grow_comes c o t g g s.both s.ages additive h h.place fresh (less_than (length s.both.gate.grown) 65536 h.sound.few e) in
    let x = with_entry (Grow t g) s v.0 in
    let there : is_among v.0.gate.grown g ≡ true = ap (λ z. is_among z g) v.3 ∙ or_first (g == g) (is_among s.both.gate.grown g) (same_place g) in
    let a = grow_if_makes c o t g (reach g) x (nat_le (length v.0.gate.grown + length (ungrown v.0.gate.grown (reach g))) most_grown) additive v.2 there (right g) refl in
    record { turn = a.turn; is = ap (option_and_then (grow_reach c t (reach g))) (makes c (Grow t g) s v.0 v.1) ∙ a.is; after = a.after }

-- ---- a miss

miss_comes : (c : CaseData) (o : Both) (t : ℕ) (b : Both) (ages : List ℕ) (q : Point) → InTurn c o t b ages → Reached c b (slot_of t) q → b.machine.steps + q.k < c.limit → is_missing c.image b.gate.grown q.stand ≡ true → (n : Both) × (advance c b (Miss t q.k q.stand.cpu.last q.stand.cpu.rip) ≡ Some n)
miss_comes c o t b ages q h r lt missing =
    let e = Miss t q.k q.stand.cpu.last q.stand.cpu.rip in
    let parts = missing_parts c.image b.gate.grown q.stand missing in
    let test = lt_test (b.machine.steps + q.k) c.limit lt in
    let last = same_place q.stand.cpu.last in
    let rip = same_place q.stand.cpu.rip in
    let place = parts.0 in
    let out = parts.1 in
    let new = is_false (is_among b.gate.grown q.stand.cpu.rip) parts.2 in
    let may = may_miss_by (spot_at b.gate (slot_of t)).latest q.k (may_here c b (slot_of t) q h.grown r.ahead missing) in
    let m = missed c.strict (later (with_cpu b.machine (slot_of t) q.stand.cpu) (q.k + 1)) (record { thread = t; source = q.stand.cpu.last; target = q.stand.cpu.rip }) in
    (_, advance_made c b e q.stand m (spot_with [] (Growing q.stand.cpu.rip)) (record { going = h.going; live = h.live; few = r.few; ahead = r.ahead; made = rw (test, last, rip, place) refl; last = rw (out, new, may) refl }))

after_miss_makes : (c : CaseData) (reach : Reaches) (o : Both) (t : ℕ) (s : Turn) (q : Point) (n : Both) (strict : Bool) → c.strict ≡ strict → AreReaches c.image reach → InTurn c o t s.both s.ages → Reached c s.both (slot_of t) q → is_missing c.image s.both.gate.grown q.stand ≡ true → advance c s.both (Miss t q.k q.stand.cpu.last q.stand.cpu.rip) ≡ Some n → Acted c o t (after_miss c reach t q.stand.cpu.rip strict (with_entry (Miss t q.k q.stand.cpu.last q.stand.cpu.rip) s n))
after_miss_makes c reach o t s q n true strict right h r missing p =
    let e = Miss t q.k q.stand.cpu.last q.stand.cpu.rip in
    let v = miss_own c s.both n t q.k q.stand.cpu.last q.stand.cpu.rip q.stand h.sound.whole p r.ahead in
    let ends = v.1.ending ∙ ap (λ b. miss_end b (record { thread = t; source = q.stand.cpu.last; target = q.stand.cpu.rip })) strict in
    record { turn = with_entry e s n; is = refl; after = turned_end c o t s.both n s.ages s.ages e _ refl h p ends }
after_miss_makes c reach o t s q n false additive right h r missing p =
    let e = Miss t q.k q.stand.cpu.last q.stand.cpu.rip in
    let v = miss_own c s.both n t q.k q.stand.cpu.last q.stand.cpu.rip q.stand h.sound.whole p r.ahead in
    let goes = v.1.ending ∙ ap (λ b. miss_end b (record { thread = t; source = q.stand.cpu.last; target = q.stand.cpu.rip })) additive in
    let parts = missing_parts c.image s.both.gate.grown q.stand missing in
    let g = q.stand.cpu.rip in
    let m : InMiss c o t g n s.ages = record {
      sound = sound_stays c s.both n e h.sound p;
      going = goes;
      live = ap (λ l. table.is_live l t) v.1.library ∙ h.live;
      aged = h.aged ∙ ap length (sym v.0.writes);
      others = others_chain c o s.both n (slot_of t) h.others (others_one c s.both n e h.sound p);
      here = ap (λ (d : Stand). d.cpu.rip) v.0.stand;
      between = ap (λ (d : Stand). d.left) v.0.stand;
      place = parts.0;
    } in
    full_or_makes c reach o t g (with_entry e s n) (length n.gate.grown == most_grown) right additive m (ap (λ z. is_among z g) v.2 ∙ parts.2) refl

-- a thread at a place that isn't grown
pub miss_acts : (c : CaseData) (reach : Reaches) (o : Both) (t : ℕ) (s : Turn) (q : Point) → AreReaches c.image reach → InTurn c o t s.both s.ages → Reached c s.both (slot_of t) q → s.both.machine.steps + q.k < c.limit → is_missing c.image s.both.gate.grown q.stand ≡ true → Acted c o t (act c reach t q s AtMiss)
miss_acts c reach o t s q right h r lt missing =
    let e = Miss t q.k q.stand.cpu.last q.stand.cpu.rip in
    let n = miss_comes c o t s.both s.ages q h r lt missing in
    let a = after_miss_makes c reach o t s q n.0 c.strict refl right h r missing n.1 in
    record { turn = a.turn; is = ap (option_and_then (after_miss c reach t q.stand.cpu.rip c.strict)) (makes c e s n.0 n.1) ∙ a.is; after = a.after }
