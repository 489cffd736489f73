-- The rules of a turn always name a step: whole turns.
use Rattle.std.proofs.Common.{◌≡◌, ◌≢◌, ℕ, zero, suc, ◌+◌, ◌-◌, ◌≤◌, inl, inr, Bool, true, false, List, [], ◌∷◌, Option, Some, None, refl, ap, ◌∙◌, subst, arith, ◌||◌, not, nat_lt, length}
use Rattle.std.specs.Prelude.{option_and_then, is_none}
use Rattle.address_space.specs.Slots.{slot_of}
use Rattle.address_space.proofs.Numbers.{slot_below}
use Rattle.journal_pack.specs.declared.entry.Entry.{Entry}
use Rattle.journal_pack.specs.declared.entry.Entry.TheVariants.{Tick, Flush, Over}
use Rattle.machine_model.specs.declared.ending.RunEnd.{RunEnd}
use Rattle.machine_model.specs.CaseData.{CaseData}
use Rattle.machine_model.specs.State.{is_live, list_at}
use Rattle.machine_model.specs.Gated.{Both, gated_steps, most_grown, stand_at}
use Rattle.machine_model.specs.Own.{IsAhead}
use Rattle.machine_model.specs.Ready.{HasGrown, IsSound}
use Rattle.machine_model.specs.Serial.{AtEvent, Point, Reaches, Turn, act, with_entry}
use Rattle.machine_model.proofs.Names.{Reached}
use Rattle.machine_model.proofs.Settled.{live_slot}
use Rattle.machine_model.specs.Gated.{rest_of}
use Rattle.machine_model.proofs.NamesEntries.{InTurn, Turned, in_turn_turned, makes, sound_stays}
use Rattle.std.specs.Prelude.{map}
use Rattle.machine_model.specs.Gated.{Leads, begin}
use Rattle.machine_model.specs.Serial.{AreReaches, AtLimit, AtMiss, AtMost, GoesOn, Rule, Rules, aged, flush_if, flush_old, is_over, point_of, rule_at, settle, settled, stop_from, turn, turn_from, unless_over}
use Rattle.machine_model.proofs.InBlocks.{steps_placed}
use Rattle.machine_model.proofs.Names.{Says, says_at, stops_there}
use Rattle.machine_model.proofs.NamesEntries.{over_comes, tick_comes, others_itself, turned_goes_on}
use Rattle.machine_model.proofs.NamesEvents.{Acted, event_acts, flush_comes}
use Rattle.machine_model.proofs.NamesGrowth.{miss_acts}
use Rattle.machine_model.proofs.Own.{whole_from}
use Rattle.machine_model.proofs.Settled.{settled_from}

-- ---- one entry

act_by : (c : CaseData) (reach : Reaches) (o : Both) (t : ℕ) (s : Turn) (q : Point) (r : Rule) → AreReaches c.image reach → InTurn c o t s.both s.ages → Reached c s.both (slot_of t) q → r ≢ GoesOn → Says c s.both q r → Acted c o t (act c reach t q s r)
act_by c reach o t s q AtLimit right h r stops says =
    let v = over_comes c o t s.both s.ages q h r says in
    record { turn = with_entry (Over t q.k) s v.next; is = makes c (Over t q.k) s v.next v.comes; after = v.after }
act_by c reach o t s q AtMiss right h r stops says = miss_acts c reach o t s q right h r says.0 says.1
act_by c reach o t s q AtMost right h r stops says =
    let all : q.k ≡ 4096 = says.1 in
    let v = tick_comes c o t s.both s.ages q h r says.0.room (omega arith) in
    record { turn = with_entry (Tick t q.k) s v.next; is = makes c (Tick t q.k) s v.next v.comes; after = v.after }
act_by c reach o t s q AtEvent right h r stops says = event_acts c reach o t s q h r says.0 says.2
act_by c reach o t s q GoesOn right h r stops says = absurd (stops refl)

-- ---- a turn

pub begin_reached : (c : CaseData) (o : Both) (t : ℕ) (b : Both) (ages : List ℕ) → InTurn c o t b ages → Reached c b (slot_of t) (point_of b t)
unfolding gated_steps
begin_reached c o t b ages h = record { ahead = refl; few = omega arith; placed = (h.sound.settled h.going (slot_of t) (slot_below t)).placed (live_slot b.machine t h.live) }

goes_none : (o : Option RunEnd) → not (is_none o) ≡ false → o ≡ None
goes_none None e = refl
goes_none (Some x) e = absurd (let q : true ≡ false = e in cc)

or_parts : (a b d : Bool) → (a || b || d) ≡ false → (a ≡ false) × (b ≡ false) × (d ≡ false)
or_parts true b d e = absurd (let q : true ≡ false = e in cc)
or_parts false true d e = absurd (let q : true ≡ false = e in cc)
or_parts false false d e = (refl, refl, e)

not_false : (b : Bool) → not b ≡ false → b ≡ true
not_false true e = refl
not_false false e = absurd (let q : true ≡ false = e in cc)

-- a turn that isn't over goes on
still_in_turn : (c : CaseData) (o : Both) (t : ℕ) (x : Turn) → Turned c o t x.both x.ages → is_over t x ≡ false → InTurn c o t x.both x.ages
still_in_turn c o t x h e =
    let p = or_parts x.waiting (not (is_none x.both.machine.ending)) (not (is_live x.both.machine t)) e in
    turned_goes_on c o t x.both x.ages h (goes_none x.both.machine.ending p.1) (not_false (is_live x.both.machine t) p.2)

unless_over_makes : (c : CaseData) (o : Both) (t : ℕ) (on : Turn → Option Turn) (x : Turn) (b : Bool) → is_over t x ≡ b → Turned c o t x.both x.ages → (InTurn c o t x.both x.ages → Acted c o t (on x)) → Acted c o t (unless_over on x b)
unless_over_makes c o t on x true e h more = record { turn = x; is = refl; after = h }
unless_over_makes c o t on x false e h more = more (still_in_turn c o t x h e)

pub turn_from_makes : (c : CaseData) (reach : Reaches) (o : Both) (t n : ℕ) (p : Point) (s : Turn) → AreReaches c.image reach → InTurn c o t s.both s.ages → Reached c s.both (slot_of t) p → Acted c o t (turn_from c reach t n p s)
unfolding turn_from
turn_from_makes c reach o t zero p s right h r = record { turn = s; is = refl; after = in_turn_turned c o t s.both s.ages h }
turn_from_makes c reach o t (suc n) p s right h r =
    let q = stop_from c s.both (4096 - p.k) p in
    let few = r.few in
    let stop = stops_there c s.both (slot_of t) (4096 - p.k) p (omega arith) r in
    let a = act_by c reach o t s q (rule_at c s.both q) right h stop.reached stop.stops (says_at c s.both q (rule_at c s.both q) refl) in
    let on : Turn → Option Turn = λ y. turn_from c reach t n (point_of y.both t) y in
    let m = unless_over_makes c o t on a.turn (is_over t a.turn) refl a.after (λ i. turn_from_makes c reach o t n (point_of a.turn.both t) a.turn right i (begin_reached c o t a.turn.both a.turn.ages i)) in
    record { turn = m.turn; is = ap (option_and_then (λ x. unless_over on x (is_over t x))) a.is ∙ m.is; after = m.after }

-- ---- the end of a turn

flush_if_makes : (c : CaseData) (o : Both) (t age : ℕ) (ages : List ℕ) (on : Turn → Option Turn) (s : Turn) (b : Bool) → s.ages ≡ age ∷ ages → InTurn c o t s.both s.ages → ((x : Turn) → x.ages ≡ ages → InTurn c o t x.both x.ages → Acted c o t (on x)) → Acted c o t (flush_if c t on s b)
flush_if_makes c o t age ages on s true e h more =
    let n = h.aged in
    let one = ap length e in
    let f = flush_comes c o t s.both s.ages h (omega (arith, n, one)) in
    let before : Turn = record s { ages = rest_of s.ages } in
    let x = with_entry (Flush t) before f.0 in
    let a = more x (ap rest_of e) f.2.turn in
    record { turn = a.turn; is = ap (option_and_then on) (makes c (Flush t) before f.0 f.1) ∙ a.is; after = a.after }
flush_if_makes c o t age ages on s false e h more = record { turn = s; is = refl; after = in_turn_turned c o t s.both s.ages h }

flush_old_makes : (c : CaseData) (o : Both) (t hold : ℕ) (ages : List ℕ) (s : Turn) → s.ages ≡ ages → InTurn c o t s.both s.ages → Acted c o t (flush_old c t hold ages s)
unfolding flush_old
flush_old_makes c o t hold [] s e h = record { turn = s; is = refl; after = in_turn_turned c o t s.both s.ages h }
flush_old_makes c o t hold (age ∷ ages) s e h = flush_if_makes c o t age ages (flush_old c t hold ages) s (nat_lt hold age) e h (λ x q i. flush_old_makes c o t hold ages x q i)

older : (ages : List ℕ) → length (map (λ a. a + 1) ages) ≡ length ages
older [] = refl
older (a ∷ ages) = let h = older ages in omega arith

none_older : (c : CaseData) (o : Both) (t hold : ℕ) (x : Turn) → x.both.machine.ending ≡ None → Turned c o t x.both x.ages → x.ages ≡ [] → Acted c o t (flush_old c t hold (aged x).ages (aged x))
unfolding flush_old
none_older c o t hold x going h e =
    let none : (aged x).ages ≡ [] = ap (map (λ a. a + 1)) e in
    record {
      turn = aged x;
      is = ap (λ z. flush_old c t hold z (aged x)) none;
      after = record { sound = h.sound; others = h.others; aged = λ g. older x.ages ∙ h.aged g; grown = h.grown; live = λ _. inr none };
    }

settled_makes : (c : CaseData) (o : Both) (t hold : ℕ) (x : Turn) (end : Option RunEnd) → x.both.machine.ending ≡ end → Turned c o t x.both x.ages → Acted c o t (settled c t hold x end)
settled_makes c o t hold x (Some e) is h = record { turn = x; is = refl; after = h }
settled_makes c o t hold x None is h =
    elim (h.live is) [
      | inl live ↦ let i = turned_goes_on c o t x.both x.ages h is live in
          flush_old_makes c o t hold (aged x).ages (aged x) refl (record { sound = i.sound; going = i.going; live = i.live; aged = older x.ages ∙ i.aged; grown = i.grown; others = i.others })
      | inr none ↦ none_older c o t hold x is h none
    ]

-- the rules name each step of a turn, from whatever point its thread goes on
pub turn_makes : (c : CaseData) (reach : Reaches) (r : Rules) (o : Both) (t : ℕ) (p : Point) (s : Turn) → AreReaches c.image reach → InTurn c o t s.both s.ages → Reached c s.both (slot_of t) p → Acted c o t (turn c reach r t p s)
unfolding turn
turn_makes c reach r o t p s right h reached =
    let a = turn_from_makes c reach o t r.turn p s right h reached in
    let z = settled_makes c o t r.hold a.turn a.turn.both.machine.ending refl a.after in
    record { turn = z.turn; is = ap (option_and_then (settle c t r.hold)) a.is ∙ z.is; after = z.after }

-- ---- from gated journals

pub sound_on : (c : CaseData) (b n : Both) (es : List Entry) → IsSound c b → Leads c b es n → IsSound c n
unfolding Leads
sound_on c b n [] h p = subst (IsSound c) p h
sound_on c b n (e ∷ es) h p = sound_on c p.0 n es (sound_stays c b p.0 e h p.1) p.3

pub sound_at_start : (c : CaseData) → length c.first ≤ most_grown → IsSound c (begin c)
unfolding Leads begin
sound_at_start c few = record { whole = whole_from c (begin c) [] refl; settled = settled_from c (begin c) [] refl; few = few }

pub sound_from : (c : CaseData) (n : Both) (es : List Entry) → length c.first ≤ most_grown → Leads c (begin c) es n → IsSound c n
sound_from c n es few p = sound_on c (begin c) n es (sound_at_start c few) p

pub turn_named : (c : CaseData) (reach : Reaches) (r : Rules) (t : ℕ) (p : Point) (s : Turn) → AreReaches c.image reach → length c.first ≤ most_grown → Leads c (begin c) s.journal s.both → s.both.machine.ending ≡ None → is_live s.both.machine t ≡ true → length s.ages ≡ length (list_at s.both.machine (slot_of t)) → HasGrown c.image s.both (slot_of t) → IsAhead c s.both (slot_of t) p.k p.stand → p.k ≤ 4096 → (x : Turn) × (turn c reach r t p s ≡ Some x)
turn_named c reach r t p s right few leads going live ages grown ahead k =
    let sound = sound_from c s.both s.journal few leads in
    let h : InTurn c s.both t s.both s.ages = record { sound = sound; going = going; live = live; aged = ages; grown = grown; others = others_itself c s.both (slot_of t) } in
    let first = (begin_reached c s.both t s.both s.ages h).placed in
    let a = turn_makes c reach r s.both t p s right h (record { ahead = ahead; few = k; placed = steps_placed c.image s.both.gate.grown p.k (stand_at s.both (slot_of t)) p.stand first ahead }) in
    (a.turn, a.is)
