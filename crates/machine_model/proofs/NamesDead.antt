-- After a round without an entry no thread can go on, so a serial run always has its next step and ends.
use Rattle.std.proofs.Common.{◌≡◌, ℕ, zero, suc, ◌+◌, ◌-◌, ◌*◌, ◌<◌, ◌≤◌, ◌⊎◌, inl, inr, Bool, true, false, cond, List, [], ◌∷◌, ◌++◌, Option, Some, None, refl, sym, ap, ◌∙◌, subst, arith, ◌==◌, ◌&&◌, length, slice_index_or, length-append}
use Rattle.std.specs.Prelude.{option_and_then}
use Rattle.std.proofs.lemmas.Option.{option_and_then_some, none-some, same_Some}
use Rattle.address_space.specs.Slots.{slot_of}
use Rattle.tso_memory.specs.declared.write.PendingWrite.{PendingWrite}
use Rattle.tso_memory.specs.Tso.{is_none_waiting}
use Rattle.x86_model.specs.Want.{want}
use Rattle.basic_blocks.specs.Reach.{is_among}
use Rattle.journal_pack.specs.declared.entry.Entry.{Entry}
use Rattle.journal_pack.specs.declared.entry.Entry.TheVariants.{Ev, Tick, Flush, Wait, Miss, Over, Dead}
use Rattle.machine_model.specs.declared.ending.RunEnd.{RunEnd}
use Rattle.machine_model.specs.declared.ending.RunEnd.TheVariants as end
use Rattle.machine_model.specs.CaseData.{CaseData}
use Rattle.machine_model.specs.State.{list_at}
use Rattle.machine_model.specs.Step.{cpu_at, ended, waits_at}
use Rattle.machine_model.specs.Gated.{Both, Spot, Stand, advance, gated_steps, gate_with, most_grown, spot_at, stand_at, with_gate}
use Rattle.machine_model.specs.Own.{IsWhole}
use Rattle.machine_model.specs.Serial.{AtEvent, Point, Reaches, Turn, act, event, event_by, flush, flush_some, flushed_before, make, told_waiting}
use Rattle.machine_model.proofs.Own.{advance_made}
use Rattle.machine_model.proofs.NamesEntries.{InTurn, sound_stays}
use Rattle.machine_model.specs.Gated.{Leads, begin}
use Rattle.machine_model.specs.Serial.{AreReaches, AtLimit, AtMiss, AtMost, GoesOn, Rule, Rules, is_over, point_of, rule_at, settle, stop_from, turn, turn_from, unless_over}
use Rattle.machine_model.proofs.Names.{stops_there}
use Rattle.std.specs.List.{list_all, range_with_len}
use Rattle.std.proofs.lemmas.List.{get_or-replicate, length-replicate}
use Rattle.std.proofs.lemmas.Bool.{cases_eq}
use Rattle.std.specs.Prelude.{IsSome}
use Rattle.lib_table.specs.Library.{number_at, slot_at}
use Rattle.machine_model.specs.State.{slots, thread_in, start}
use Rattle.machine_model.specs.Step.{is_deadlocked, is_stuck}
use Rattle.machine_model.specs.Play.{walk}
use Rattle.machine_model.specs.Gated.{no_spot}
use Rattle.machine_model.specs.Serial.{Run, at_start, dead_if, one_turn, round, rounds, rounds_on, run_after, serial_by, turn_in, turn_of, turn_unless, with_dead}
use Rattle.machine_model.proofs.NamesTurns.{begin_reached, sound_at_start}
use Rattle.machine_model.specs.Serial.{after_miss, IsSerial, make}
use Rattle.machine_model.proofs.NamesEvents.{flushed_enough, waiting_request}
use Rattle.machine_model.proofs.NamesGrowth.{first_ahead}
use Rattle.machine_model.proofs.NamesRounds.{IsRun, Runs, in_turn_of, one_turn_makes, thread_at_slot, walk_makes, dead_by}
use Rattle.machine_model.proofs.Reaches.{are_reaches, either, one_place, or_first, or_second, reach_of, same_place, serial_told}
use Rattle.machine_model.proofs.SerialGated.{Follows, Origin, serial_goes, act_goes, after_miss_goes, follows_itself, made, miss_made, one_turn_goes, origin_at, origin_of, spots_on, settled_goes, turn_from_follows, turn_from_goes, unless_over_goes, RunsAlong, walk_keeps}
use Rattle.machine_model.proofs.SerialRounds.{serial_ends}

-- ---- how many entries

make_longer : (c : CaseData) (e : Entry) (s x : Turn) → make c e s ≡ Some x → length x.journal ≡ length s.journal + 1
make_longer c e s x p =
    let m = made c e s x p in
    ap (λ (y : Turn). length y.journal) (sym m.is) ∙ length-append s.journal (e ∷ [])

flush_some_longer : (c : CaseData) (t k : ℕ) (s x : Turn) → flush_some c t k s ≡ Some x → length x.journal ≡ length s.journal + k
unfolding flush_some
flush_some_longer c t zero s x p = let e = ap (λ (y : Turn). length y.journal) (same_Some s x p) in omega (arith, e)
flush_some_longer c t (suc k) s x p =
    option_and_then_some (flush_some c t k) (flush c t s) x p (λ y q r.
    let one = make_longer c (Flush t) _ y q in
    let more = flush_some_longer c t k y x r in
    omega (arith, one, more))

no_longer : (c : CaseData) (o : Origin) (n : Both) (journal : List Entry) → Follows c o n journal → length o.journal ≤ length journal
no_longer c o n journal h = let e = ap length h.added in let l = length-append o.journal h.more in omega (arith, e, l)

leads_none : (c : CaseData) (b n : Both) (more : List Entry) → length more ≡ 0 → Leads c b more n → b ≡ n
unfolding Leads
leads_none c b n [] e p = p
leads_none c b n (x ∷ more) e p = absurd (omega arith)

nothing_more : (c : CaseData) (o : Origin) (n : Both) (journal : List Entry) → Follows c o n journal → length journal ≡ length o.journal → o.both ≡ n
nothing_more c o n journal h e =
    let a = ap length h.added in
    let l = length-append o.journal h.more in
    leads_none c o.both n h.more (omega (arith, a, l, e)) h.leads

-- ---- an act that makes no entry

-- a thread at a call that waits, with no private steps and no waiting writes
pub record IsQuiet (c : CaseData) (t : ℕ) (s : Turn) (q : Point) : Type 0 where
  pub none : q.k ≡ 0
  pub waits : waits_at c.image s.both.machine t q.stand.cpu ≡ true
  pub empty : is_none_waiting (list_at s.both.machine (slot_of t)) ≡ true

told_quiet : (c : CaseData) (t k : ℕ) (s x : Turn) → told_waiting c t k s ≡ Some x → length x.journal ≡ length s.journal → k ≡ 0
told_quiet c t zero s x p e = refl
told_quiet c t (suc k) s x p e = absurd (let l = make_longer c (Wait t (suc k)) _ x p in omega (arith, l, e))

told_at_least : (c : CaseData) (t k : ℕ) (s x : Turn) → told_waiting c t k s ≡ Some x → length s.journal ≤ length x.journal
told_at_least c t zero s x p = let e = ap (λ (y : Turn). length y.journal) (same_Some _ x p) in omega (arith, e)
told_at_least c t (suc k) s x p = let l = make_longer c (Wait t (suc k)) _ x p in omega (arith, l)

event_at_least : (c : CaseData) (t : ℕ) (q : Point) (s x : Turn) (b : Bool) → event_by c t q s b ≡ Some x → length s.journal ≤ length x.journal
event_at_least c t q s x true p = told_at_least c t q.k s x p
event_at_least c t q s x false p = let l = make_longer c (Ev t q.k) _ x p in omega (arith, l)

event_quiet : (c : CaseData) (t : ℕ) (q : Point) (s x : Turn) (b : Bool) → event_by c t q s b ≡ Some x → length x.journal ≡ length s.journal → (b ≡ true) × (q.k ≡ 0)
event_quiet c t q s x true p e = (refl, told_quiet c t q.k s x p e)
event_quiet c t q s x false p e = absurd (let l = make_longer c (Ev t q.k) _ x p in omega (arith, l, e))

flushed_zero : (c : CaseData) (t k : ℕ) (s y : Turn) → k ≡ 0 → flush_some c t k s ≡ Some y → s ≡ y
unfolding flush_some
flushed_zero c t zero s y e p = same_Some s y p
flushed_zero c t (suc k) s y e p = absurd (omega arith)

events_quiet : (c : CaseData) (reach : Reaches) (t : ℕ) (q : Point) (s x : Turn) → act c reach t q s AtEvent ≡ Some x → length x.journal ≡ length s.journal → IsQuiet c t s q
events_quiet c reach t q s x p e =
    let w = want c.image q.stand.cpu in
    let n = length (list_at s.both.machine (slot_of t)) in
    let k = flushed_before w n in
    option_and_then_some (event c t q) (flush_some c t k s) x p (λ y f g.
    let longer = flush_some_longer c t k s y f in
    let least = event_at_least c t q y x (waits_at c.image y.both.machine t q.stand.cpu) g in
    let zero_k : k ≡ 0 = omega (arith, longer, least, e) in
    let same : s ≡ y = flushed_zero c t k s y zero_k f in
    let v = event_quiet c t q y x (waits_at c.image y.both.machine t q.stand.cpu) g (omega (arith, longer, least, e)) in
    let waits : waits_at c.image s.both.machine t q.stand.cpu ≡ true = ap (λ (z : Turn). waits_at c.image z.both.machine t q.stand.cpu) same ∙ v.0 in
    let count : length (list_at s.both.machine (slot_of t)) + flushed_before w n ≡ n = omega (arith, zero_k) in
    record {
      none = v.1;
      waits = waits;
      empty = waiting_request w s.both.machine t q.stand.cpu (list_at s.both.machine (slot_of t)) waits (flushed_enough w n (list_at s.both.machine (slot_of t)) count);
    })

miss_longer : (c : CaseData) (reach : Reaches) (t : ℕ) (q : Point) (s x : Turn) → AreReaches c.image reach → length s.both.gate.spots ≡ 64 → act c reach t q s AtMiss ≡ Some x → length s.journal + 1 ≤ length x.journal
miss_longer c reach t q s x right spots p =
    let g = q.stand.cpu.rip in
    option_and_then_some (after_miss c reach t g c.strict) (make c (Miss t q.k q.stand.cpu.last g) s) x p (λ y m r.
    let one = make_longer c (Miss t q.k q.stand.cpu.last g) s y m in
    let v = miss_made c (origin_of s) t q.k q.stand.cpu.last g s y (follows_itself c s.both s.journal spots) m in
    let now = spots_on c s.both y.both v.along.more v.along.leads ∙ spots in
    let a = after_miss_goes c (origin_of y) reach t g c.strict y x right (record { along = follows_itself c y.both y.journal now; latest = v.latest }) r in
    let more = no_longer c (origin_of y) x.both x.journal a in
    omega (arith, one, more))

act_quiet : (c : CaseData) (reach : Reaches) (t : ℕ) (q : Point) (s x : Turn) (r : Rule) → AreReaches c.image reach → length s.both.gate.spots ≡ 64 → act c reach t q s r ≡ Some x → length x.journal ≡ length s.journal → IsQuiet c t s q
act_quiet c reach t q s x AtLimit right spots p e = absurd (let l = make_longer c (Over t q.k) s x p in omega (arith, l, e))
act_quiet c reach t q s x AtMiss right spots p e = absurd (let l = miss_longer c reach t q s x right spots p in omega (arith, l, e))
act_quiet c reach t q s x AtMost right spots p e = absurd (let l = make_longer c (Tick t q.k) s x p in omega (arith, l, e))
act_quiet c reach t q s x AtEvent right spots p e = events_quiet c reach t q s x p e
act_quiet c reach t q s x GoesOn right spots p e = absurd (none-some x p)

-- ---- a turn that makes no entry

-- the thread of a slot can't go on
abbrev pub CanNot : CaseData → Both → ℕ → ℕ → Type 0
CanNot c b t s = (waits_at c.image b.machine t (cpu_at b.machine s) ≡ true) × (is_none_waiting (list_at b.machine s) ≡ true)

act_least : (c : CaseData) (reach : Reaches) (t : ℕ) (q : Point) (s y : Turn) (r : Rule) → AreReaches c.image reach → length s.both.gate.spots ≡ 64 → act c reach t q s r ≡ Some y → Follows c (origin_of s) y.both y.journal
act_least c reach t q s y r right spots p = act_goes c (origin_of s) reach t q s y r right (follows_itself c s.both s.journal spots) p

turn_from_quiet : (c : CaseData) (reach : Reaches) (o : Both) (t n : ℕ) (s x : Turn) → AreReaches c.image reach → InTurn c o t s.both s.ages → turn_from c reach t (suc n) (point_of s.both t) s ≡ Some x → length x.journal ≡ length s.journal → CanNot c s.both t (slot_of t)
unfolding turn_from
turn_from_quiet c reach o t n s x right h p e =
    let start_point = point_of s.both t in
    let q = stop_from c s.both (4096 - 0) start_point in
    let on : Turn → Option Turn = λ y. turn_from c reach t n (point_of y.both t) y in
    let spots = h.sound.whole.spots in
    let reached = begin_reached c o t s.both s.ages h in
    let stop = stops_there c s.both (slot_of t) (4096 - 0) start_point (omega arith) reached in
    option_and_then_some (λ z. unless_over on z (is_over t z)) (act c reach t q s (rule_at c s.both q)) x p (λ y a r.
    let first = act_least c reach t q s y (rule_at c s.both q) right spots a in
    let now = spots_on c s.both y.both first.more first.leads ∙ spots in
    let rest = unless_over_goes c (origin_of y) on y x (is_over t y) (λ u v b k. turn_from_goes c (origin_of y) reach t n (point_of u.both t) u v right b k) (follows_itself c y.both y.journal now) r in
    let one = no_longer c (origin_of s) y.both y.journal first in
    let two = no_longer c (origin_of y) x.both x.journal rest in
    let quiet = act_quiet c reach t q s y (rule_at c s.both q) right spots a (omega (arith, one, two, e)) in
    let there : stand_at s.both (slot_of t) ≡ q.stand = first_ahead c s.both (slot_of t) q.k q.stand quiet.none stop.reached.ahead in
    (ap (λ (d : Stand). waits_at c.image s.both.machine t d.cpu) there ∙ quiet.waits, quiet.empty))

pub turn_quiet : (c : CaseData) (reach : Reaches) (r : Rules) (o : Both) (t : ℕ) (s x : Turn) → AreReaches c.image reach → 0 < r.turn → InTurn c o t s.both s.ages → turn c reach r t (point_of s.both t) s ≡ Some x → length x.journal ≡ length s.journal → CanNot c s.both t (slot_of t)
unfolding turn
turn_quiet c reach r o t s x right some h p e =
    option_and_then_some (settle c t r.hold) (turn_from c reach t r.turn (point_of s.both t) s) x p (λ y a z.
    let spots = h.sound.whole.spots in
    let first = turn_from_follows c reach t r.turn (point_of s.both t) s y right spots a in
    let now = spots_on c s.both y.both first.more first.leads ∙ spots in
    let rest = settled_goes c (origin_of y) t r.hold y x y.both.machine.ending (follows_itself c y.both y.journal now) z in
    let one = no_longer c (origin_of s) y.both y.journal first in
    let two = no_longer c (origin_of y) x.both x.journal rest in
    let less : r.turn ≡ suc (r.turn - 1) = omega arith in
    turn_from_quiet c reach o t (r.turn - 1) s y right h (ap (λ k. turn_from c reach t k (point_of s.both t) s) (sym less) ∙ a) (omega (arith, one, two, e)))

-- ---- a round that makes no entry

-- the thread that lives in a slot, if one does, waits, and no write does
pub record IsStuck (c : CaseData) (b : Both) (s : ℕ) : Type 0 where
  pub thread : is_stuck c.image b.machine s (thread_in b.machine s) ≡ true
  pub empty : is_none_waiting (list_at b.machine s) ≡ true

nothing_waits : (ps : List PendingWrite) → ps ≡ [] → is_none_waiting ps ≡ true
nothing_waits ps e = ap is_none_waiting e

turn_of_quiet : (c : CaseData) (reach : Reaches) (r : Rules) (run x : Run) (s : ℕ) (who : Option ℕ) → AreReaches c.image reach → 0 < r.turn → s < 64 → IsRun c run → run.both.machine.ending ≡ None → thread_in run.both.machine s ≡ who → turn_of c reach r run s who ≡ Some x → length x.journal ≡ length run.journal → IsStuck c run.both s
turn_of_quiet c reach r run x s None right some low h going w p e = record {
  thread = ap (is_stuck c.image run.both.machine s) w;
  empty = nothing_waits (list_at run.both.machine s) ((h.sound.settled going s low).empty (dead_by (number_at run.both.machine.library s) (slot_at run.both.machine.library s).life w));
}
turn_of_quiet c reach r run x s (Some t) right some low h going w p e =
    let v = thread_at_slot run.both.machine s t low w in
    let i = in_turn_of c run s t low h going v.0 v.1 in
    option_and_then_some (λ y. Some (run_after run s y)) (turn c reach r t (point_of run.both t) (turn_in run s)) x p (λ y q z.
    let same = ap (λ (k : Run). length k.journal) (same_Some (run_after run s y) x z) in
    let n : CanNot c run.both t (slot_of t) = turn_quiet c reach r run.both t (turn_in run s) y right some i q (same ∙ e) in
    let m : CanNot c run.both t s = subst (λ u. CanNot c run.both t u) v.0 n in
    record { thread = ap (is_stuck c.image run.both.machine s) w ∙ m.0; empty = m.1 })

one_turn_quiet : (c : CaseData) (reach : Reaches) (r : Rules) (run x : Run) (s : ℕ) → AreReaches c.image reach → 0 < r.turn → s < 64 → IsRun c run → run.both.machine.ending ≡ None → one_turn c reach r run s ≡ Some x → length x.journal ≡ length run.journal → IsStuck c run.both s
unfolding one_turn
one_turn_quiet c reach r run x s right some low h going p e =
    turn_of_quiet c reach r run x s (thread_in run.both.machine s) right some low h going refl (ap (turn_unless c reach r run s) (sym going) ∙ p) e

stuck_by : (c : CaseData) (b n : Both) (s u : ℕ) (es : List ℕ) → IsStuck c b s → b ≡ n → ((v : ℕ) → is_among es v ≡ true → IsStuck c n v) → ((s == u) ≡ true) ⊎ (is_among es u ≡ true) → IsStuck c b u
stuck_by c b n s u es stuck same more (inl is) = subst (IsStuck c b) (one_place s u is) stuck
stuck_by c b n s u es stuck same more (inr m) = subst (λ x. IsStuck c x u) (sym same) (more u m)

-- what a walk leaves when it makes no entry
walk_quiet : (c : CaseData) (reach : Reaches) (r : Rules) (run after : Run) (es : List ℕ) → AreReaches c.image reach → 0 < r.turn → ((s : ℕ) → is_among es s ≡ true → s < 64) → IsRun c run → run.both.machine.ending ≡ None → walk (one_turn c reach r) run es ≡ Some after → length after.journal ≡ length run.journal → ((s : ℕ) → is_among es s ≡ true → IsStuck c run.both s) × (run.both ≡ after.both)
unfolding walk
walk_quiet c reach r run after [] right some low h going p e = (λ s m. absurd (let q : false ≡ true = m in cc), ap (λ (x : Run). x.both) (same_Some run after p))
walk_quiet c reach r run after (s ∷ es) right some low h going p e =
    let here : is_among (s ∷ es) s ≡ true = or_first (s == s) (is_among es s) (same_place s) in
    let rest_low : (u : ℕ) → is_among es u ≡ true → u < 64 = λ u k. low u (or_second (s == u) (is_among es u) k) in
    let a = one_turn_makes c reach r run s right (low s here) h in
    let spots = h.sound.whole.spots in
    option_and_then_some (λ x. walk (one_turn c reach r) x es) (one_turn c reach r run s) after p (λ x q w.
    let same : a.run ≡ x = same_Some a.run x (sym a.is ∙ q) in
    let ok : IsRun c x = subst (IsRun c) same a.after in
    let first = one_turn_goes c (origin_at run) reach r run x s right (follows_itself c run.both run.journal spots) q in
    let rest = walk_keeps (RunsAlong c (origin_at x)) (one_turn c reach r) (λ y n u b k. one_turn_goes c (origin_at x) reach r y n u right b k) x after es (follows_itself c x.both x.journal ok.sound.whole.spots) w in
    let one = no_longer c (origin_at run) x.both x.journal first in
    let two = no_longer c (origin_at x) after.both after.journal rest in
    let still : length x.journal ≡ length run.journal = omega (arith, one, two, e) in
    let unmoved : run.both ≡ x.both = nothing_more c (origin_at run) x.both x.journal first still in
    let goes : x.both.machine.ending ≡ None = ap (λ (b : Both). b.machine.ending) (sym unmoved) ∙ going in
    let more = walk_quiet c reach r x after es right some rest_low ok goes w (e ∙ sym still) in
    let stuck = one_turn_quiet c reach r run x s right some (low s here) h going q still in
    (λ u m. stuck_by c run.both x.both s u es stuck unmoved more.0 (either (s == u) (is_among es u) m), unmoved ∙ more.1))

-- ---- a deadlock

all_by : (test : ℕ → Bool) (xs : List ℕ) → ((a : ℕ) → is_among xs a ≡ true → test a ≡ true) → list_all test xs ≡ true
all_by test [] h = refl
all_by test (x ∷ xs) h =
    let here = h x (or_first (x == x) (is_among xs x) (same_place x)) in
    let rest = all_by test xs (λ a m. h a (or_second (x == a) (is_among xs a) m)) in
    ap (λ b. b && list_all test xs) here ∙ rest

all_lists : (test : List PendingWrite → Bool) (xs : List (List PendingWrite)) → ((i : ℕ) → i < length xs → test (slice_index_or xs i []) ≡ true) → list_all test xs ≡ true
all_lists test [] h = refl
all_lists test (x ∷ xs) h =
    let here = h 0 (omega arith) in
    let rest = all_lists test xs (λ i lt. h (suc i) (omega (arith, lt))) in
    ap (λ b. b && list_all test xs) here ∙ rest

among_range : (a n b : ℕ) → is_among (range_with_len a n) b ≡ true → b < a + n
among_range a zero b m = absurd (let q : false ≡ true = m in cc)
among_range a (suc n) b m =
    elim (either (a == b) (is_among (range_with_len (a + 1) n) b) m) [
      | inl is ↦ let e = one_place a b is in omega arith
      | inr rest ↦ let h = among_range (a + 1) n b rest in omega arith
    ]

in_range : (a n b : ℕ) → a ≤ b → b < a + n → is_among (range_with_len a n) b ≡ true
in_range a zero b le lt = absurd (omega arith)
in_range a (suc n) b le lt =
    elim (cases_eq a b) [
      | inl e ↦ or_first (a == b) _ (ap (λ x. x == b) e ∙ same_place b)
      | inr ne ↦ or_second (a == b) _ (in_range (a + 1) n b (omega arith) (omega arith))
    ]

slots_low : (s : ℕ) → is_among slots s ≡ true → s < 64
unfolding slots
slots_low s m = let h = among_range 0 64 s m in omega arith

slots_all : (s : ℕ) → s < 64 → is_among slots s ≡ true
unfolding slots
slots_all s low = in_range 0 64 s (omega arith) (omega arith)

deadlocked : (c : CaseData) (b : Both) → IsWhole b → ((s : ℕ) → is_among slots s ≡ true → IsStuck c b s) → is_deadlocked c.image b.machine ≡ true
deadlocked c b whole h =
    let threads = all_by (λ s. is_stuck c.image b.machine s (thread_in b.machine s)) slots (λ s m. (h s m).thread) in
    let lists = all_lists is_none_waiting b.machine.tso.buffers (λ i lt. (h i (slots_all i (omega (arith, lt, whole.machine.lists)))).empty) in
    ap (λ x. x && list_all is_none_waiting b.machine.tso.buffers) threads ∙ lists

dead_comes : (c : CaseData) (b : Both) → b.machine.ending ≡ None → is_deadlocked c.image b.machine ≡ true → (n : Both) × (advance c b Dead ≡ Some n) × IsSome n.machine.ending
unfolding gated_steps
dead_comes c b going dead =
    let m = ended b.machine end.Deadlock in
    let spot = spot_at b.gate 64 in
    (with_gate m (gate_with Dead b.gate spot), advance_made c b Dead (stand_at b 64) m spot (record { going = going; live = refl; few = omega arith; ahead = refl; made = ap (λ x. cond x (Some m) None) dead; last = refl }), refl)

-- ---- rounds

ended_some : {P : Type 0} (o : Option RunEnd) → IsSome o → o ≡ None → P
ended_some None h e = absurd (let q : false ≡ true = h in cc)
ended_some (Some x) h e = absurd (none-some x (sym e))

dead_if_makes : (c : CaseData) (reach : Reaches) (r : Rules) (run after : Run) (b : Bool) → AreReaches c.image reach → 0 < r.turn → IsRun c run → run.both.machine.ending ≡ None → walk (one_turn c reach r) run slots ≡ Some after → IsRun c after → (length after.journal == length run.journal) ≡ b → Runs c (dead_if c after b)
dead_if_makes c reach r run after true right some h going p ok e =
    let same : length after.journal ≡ length run.journal = one_place (length after.journal) (length run.journal) e in
    let q = walk_quiet c reach r run after slots right some slots_low h going p same in
    let goes : after.both.machine.ending ≡ None = ap (λ (b : Both). b.machine.ending) (sym q.1) ∙ going in
    let stuck : is_deadlocked c.image after.both.machine ≡ true = ap (λ (b : Both). is_deadlocked c.image b.machine) (sym q.1) ∙ deadlocked c run.both h.sound.whole q.0 in
    let d = dead_comes c after.both goes stuck in
    let next : Run = record after { both = d.0; journal = after.journal ++ Dead ∷ [] } in
    record {
      run = next;
      is = ap (with_dead after) d.1;
      after = record {
        sound = sound_stays c after.both d.0 Dead ok.sound d.1;
        aged = λ g. ended_some d.0.machine.ending d.2 g;
        grown = λ g. ended_some d.0.machine.ending d.2 g;
        count = ok.count;
      };
    }
dead_if_makes c reach r run after false right some h going p ok e = record { run = after; is = refl; after = ok }

pub round_makes : (c : CaseData) (reach : Reaches) (r : Rules) (run : Run) → AreReaches c.image reach → 0 < r.turn → IsRun c run → run.both.machine.ending ≡ None → Runs c (round c reach r run)
unfolding round
round_makes c reach r run right some h going =
    let a = walk_makes c reach r run slots right slots_low h in
    let d = dead_if_makes c reach r run a.run (length a.run.journal == length run.journal) right some h going a.is a.after refl in
    record { run = d.run; is = ap (option_and_then (λ x. dead_if c x (length x.journal == length run.journal))) a.is ∙ d.is; after = d.after }

rounds_on_makes : (c : CaseData) (on : Run → Option Run) (run : Run) (end : Option RunEnd) → run.both.machine.ending ≡ end → IsRun c run → (run.both.machine.ending ≡ None → Runs c (on run)) → Runs c (rounds_on on run end)
rounds_on_makes c on run None e h more = more e
rounds_on_makes c on run (Some x) e h more = record { run = run; is = refl; after = h }

rounds_makes : (c : CaseData) (reach : Reaches) (r : Rules) (n : ℕ) (run : Run) → AreReaches c.image reach → 0 < r.turn → IsRun c run → Runs c (rounds c reach r n run)
unfolding rounds
rounds_makes c reach r zero run right some h = record { run = run; is = refl; after = h }
rounds_makes c reach r (suc n) run right some h =
    rounds_on_makes c (λ x. option_and_then (rounds c reach r n) (round c reach r x)) run run.both.machine.ending refl h (λ going.
    let a = round_makes c reach r run right some h going in
    let m = rounds_makes c reach r n a.run right some a.after in
    record { run = m.run; is = ap (option_and_then (rounds c reach r n)) a.is ∙ m.is; after = m.after })

run_at_start : (c : CaseData) → length c.first ≤ most_grown → IsRun c (at_start c)
unfolding begin start
run_at_start c few = record {
  sound = sound_at_start c few;
  aged = λ g s low. ap length (get_or-replicate 64 s [] [] low) ∙ ap length (sym (get_or-replicate 64 s [] [] low));
  grown = λ g s low. inl (ap (λ (x : Spot). x.latest) (get_or-replicate 64 s no_spot no_spot low));
  count = length-replicate {A = List ℕ} 64 [];
}

-- the serial run of a case is there, and has an ending
pub serial_named : (c : CaseData) (reach : Reaches) (r : Rules) → AreReaches c.image reach → length c.first ≤ most_grown → 0 < r.turn → (run : Run) × (serial_by c reach r ≡ Some run) × IsSome run.both.machine.ending
serial_named c reach r right few some =
    let a = rounds_makes c reach r (2 * c.limit + 65537) (at_start c) right some (run_at_start c few) in
    (a.run, a.is, serial_ends c reach r a.run right a.is)

-- so a case and two numbers have a serial journal, after which the run has an ending
pub serial_there : (c : CaseData) (r : Rules) → length c.first ≤ most_grown → 0 < r.turn → (journal : List Entry) × IsSerial c r journal × ((n : Both) × Leads c (begin c) journal n × IsSome n.machine.ending)
serial_there c r few some =
    let reach = reach_of c.image in
    let right = are_reaches c.image in
    let s = serial_named c reach r right few some in
    (s.0.journal, serial_told c reach r s.0 right s.1, (s.0.both, serial_goes c reach r s.0 right s.1, s.2))
