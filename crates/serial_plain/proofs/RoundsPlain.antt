-- Rounds of the serial order.
use Rattle.std.proofs.Common.{◌≡◌, ◌≢◌, ℕ, zero, suc, ◌+◌, ◌-◌, ◌*◌, ◌<◌, ◌≤◌, Bool, true, false, List, [], ◌∷◌, ◌++◌, Option, Some, None, refl, sym, ap, ◌∙◌, subst, arith, length, length-set, get_or, map, slice_set, ◌^◌, ◌==◌}
use Rattle.std.specs.Prelude.{All, is_some, option_and_then, slice_index_or}
use Rattle.std.specs.List.{range_with_len}
use Rattle.std.proofs.lemmas.List.{get_or-map, length-map, length-replicate, map-set}
use Rattle.std.proofs.lemmas.List.Elements.{All-get_or, All-nil, All-replicate, All-set}
use Rattle.std.proofs.lemmas.Option.{none-some, same_Some}
use Rattle.journal_pack.specs.declared.entry.Entry.{Entry}
use Rattle.journal_pack.specs.declared.entry.Entry.TheVariants.{Dead}
use Rattle.machine_model.specs.declared.ending.RunEnd.{RunEnd}
use Rattle.machine_model.specs.CaseData.{CaseData}
use Rattle.machine_model.specs.Gated.{Both, advance, begin}
use Rattle.machine_model.specs.Play.{play, walk}
use Rattle.machine_model.specs.Serial.{AreReaches, IsSerial, Reaches, Rules, Run, Turn, arrived, at_start, dead_if, is_serial_by, make, one_turn, point_of, round, rounds, rounds_on, run_after, serial_by, turn, turn_from, turn_in, turn_of, turn_unless, with_dead}
use Rattle.machine_model.specs.State.{slots, thread_in}
use Rattle.machine_model.proofs.Reaches.{has_reach}
use Rattle.machine_model.proofs.Walks.{walk_more}
use Rattle.machine_plain.specs.PlainGates.{led_to}
use Rattle.serial_plain.specs.PlainSerial.{AreYoung, IsPlayed, IsRun}
use Rattle.machine_plain.proofs.PlainLemmas.{range_more}
use Rattle.serial_plain.proofs.Young.{turn_from_young, turn_young, young_more}

-- ---- reaches

-- the reach of each place, as it is
abbrev the_reach : CaseData → Reaches
the_reach c a = (has_reach c.image a).0

they_are : (c : CaseData) → AreReaches c.image (the_reach c)
they_are c a = (has_reach c.image a).1

pub budget_young : (c : CaseData) (t n b : ℕ) (s x : Turn) → AreYoung b s.ages → ((reach : Reaches) → AreReaches c.image reach → Some x ≡ turn_from c reach t n (point_of s.both t) s) → AreYoung b x.ages
budget_young c t n b s x h made = turn_from_young c t b (the_reach c) n (point_of s.both t) s x h (sym (made (the_reach c) (they_are c)))

-- ---- one turn

-- the ages of a slot, and of each after one was set
pub ages_at : (b : ℕ) (xs : List (List ℕ)) (s : ℕ) → s < length xs → All (AreYoung b) xs → AreYoung b (slice_index_or xs s [])
ages_at b xs s lt h = All-get_or (AreYoung b) xs s [] lt h

set_all : {A : Type 0} (P : A → Type 0) (xs : List A) (i : ℕ) (y : A) → P y → All P xs → All P (slice_set xs i y)
set_all P xs i y own h = All-set P xs i y own h

older_all : (b n : ℕ) (xs : List (List ℕ)) → b ≤ n → All (AreYoung b) xs → All (AreYoung n) xs
older_all b n xs le h k d lt = young_more b n (get_or xs k d) le (h k d lt)

-- what is read in a slot, and what is set there, seen by what it holds
pub slot_read : {A B : Type 0} (f : A → B) (xs : List A) (i : ℕ) (x : A) (e : B) → length (map f xs) ≡ 64 → i < 64 → x ≡ get_or xs i x → f x ≡ slice_index_or (map f xs) i e
slot_read f xs i x e all low is =
    let there : i < length xs = subst (λ n. i < n) (sym all ∙ length-map xs f) low in
    ap f is ∙ sym (get_or-map f xs i x e there)

pub slot_set : {A B : Type 0} (f : A → B) (xs : List A) (i : ℕ) (x : A) (y : B) → f x ≡ y → map f (slice_set xs i x) ≡ slice_set (map f xs) i y
slot_set f xs i x y is = map-set f xs i x ∙ ap (slice_set (map f xs) i) is

pub begun_in : (run : Run) (s : ℕ) (ages : List ℕ) (begun : Turn) → begun ≡ record { both = run.both; journal = run.journal; ages = ages; waiting = false } → ages ≡ slice_index_or run.ages s [] → begun ≡ turn_in run s
begun_in run s ages begun e same = e ∙ ap (λ a. record { both = run.both; journal = run.journal; ages = a; waiting = false }) same

pub begun_young : (c : CaseData) (n s : ℕ) (run : Run) (begun : Turn) → IsRun c n run → s < 64 → n < 2 ^ 62 → begun ≡ turn_in run s → AreYoung (2 ^ 63) begun.ages
begun_young c n s run begun is low few here =
    let lt : s < length run.ages = omega (arith, low, is.slots) in
    subst (λ (y : Turn). AreYoung (2 ^ 63) y.ages) (sym here) (young_more n (2 ^ 63) (slice_index_or run.ages s []) (omega arith) (ages_at n run.ages s lt is.young))

pub run_set : (run : Run) (s : ℕ) (x : Turn) (ages : List (List ℕ)) → ages ≡ slice_set run.ages s x.ages → record { both = x.both; journal = x.journal; ages = ages } ≡ run_after run s x
run_set run s x ages same = ap (λ a. record { both = x.both; journal = x.journal; ages = a }) same

pub turn_taken : (c : CaseData) (r : Rules) (n s t : ℕ) (run after : Run) (begun x : Turn) → IsRun c n run → s < 64 → begun ≡ turn_in run s → ((reach : Reaches) → AreReaches c.image reach → Some x ≡ turn c reach r t (point_of begun.both t) begun) → after ≡ run_after run s x → (reach : Reaches) → AreReaches c.image reach → Some after ≡ turn_of c reach r run s (Some t)
turn_taken c r n s t run after begun x is low here made told reach w =
    ap (λ y. Some y) told ∙ ap (option_and_then (λ y. Some (run_after run s y))) (made reach w ∙ ap (λ y. turn c reach r t (point_of y.both t) y) here)

pub no_turn_taken : (c : CaseData) (r : Rules) (s t : ℕ) (run : Run) (begun : Turn) → begun ≡ turn_in run s → ((reach : Reaches) → AreReaches c.image reach → None ≡ turn c reach r t (point_of begun.both t) begun) → (reach : Reaches) → AreReaches c.image reach → None ≡ turn_of c reach r run s (Some t)
no_turn_taken c r s t run begun here made reach w = ap (option_and_then (λ y. Some (run_after run s y))) (made reach w ∙ ap (λ y. turn c reach r t (point_of y.both t) y) here)

pub run_taken : (c : CaseData) (r : Rules) (n s t : ℕ) (run after : Run) (begun x : Turn) → IsRun c n run → s < 64 → begun ≡ turn_in run s → ((reach : Reaches) → AreReaches c.image reach → Some x ≡ turn c reach r t (point_of begun.both t) begun) → IsPlayed c x → after ≡ run_after run s x → IsRun c (n + 1) after
run_taken c r n s t run after begun x is low here made played told =
    let lt : s < length run.ages = omega (arith, low, is.slots) in
    let young : AreYoung n begun.ages = subst (λ (y : Turn). AreYoung n y.ages) (sym here) (ages_at n run.ages s lt is.young) in
    let now : AreYoung (n + 1) x.ages = turn_young c (the_reach c) r t n (point_of begun.both t) begun x young (sym (made (the_reach c) (they_are c))) in
    subst (IsRun c (n + 1)) (sym told) (record {
      played = played;
      slots = length-set run.ages s x.ages ∙ is.slots;
      young = set_all (AreYoung (n + 1)) run.ages s x.ages now (older_all n (n + 1) run.ages (omega arith) is.young);
    })

pub run_older : (c : CaseData) (n k : ℕ) (run : Run) → n ≤ k → IsRun c n run → IsRun c k run
run_older c n k run le is = record { played = is.played; slots = is.slots; young = older_all n k run.ages le is.young }

-- ---- the thread in a slot

some_ended : {P : Type 0} (o : Option RunEnd) → is_some o ≡ true → ((e : RunEnd) → o ≡ Some e → P) → P
some_ended None h goes = let q : false ≡ true = h in cc
some_ended (Some e) h goes = goes e refl

none_ended : (o : Option RunEnd) → is_some o ≡ false → o ≡ None
none_ended None h = refl
none_ended (Some e) h = let q : true ≡ false = h in cc

pub ended_turn : (c : CaseData) (r : Rules) (run : Run) (s : ℕ) → is_some run.both.machine.ending ≡ true → (reach : Reaches) → Some run ≡ one_turn c reach r run s
unfolding one_turn
ended_turn c r run s h reach = some_ended run.both.machine.ending h (λ e q. ap (turn_unless c reach r run s) (sym q))

pub turn_there : (c : CaseData) (reach : Reaches) (r : Rules) (run : Run) (s : ℕ) (o : Option ℕ) → is_some run.both.machine.ending ≡ false → o ≡ thread_in run.both.machine s → turn_of c reach r run s o ≡ one_turn c reach r run s
unfolding one_turn
turn_there c reach r run s o h e = ap (turn_of c reach r run s) e ∙ ap (turn_unless c reach r run s) (sym (none_ended run.both.machine.ending h))

-- ---- the slots in order

abbrev Walked : CaseData → Rules → Run → ℕ → Run → Type 0
Walked c r first s run = (reach : Reaches) → AreReaches c.image reach → walk (one_turn c reach r) first (range_with_len 0 s) ≡ Some run

one_walked : (f : Run → ℕ → Option Run) (first run : Run) (s : ℕ) → walk f first (range_with_len 0 s) ≡ Some run → f run s ≡ walk f first (range_with_len 0 (s + 1))
one_walked f first run s h =
    ap (λ o. option_and_then (λ n. f n s) o) (sym h) ∙ sym (walk_more f first (range_with_len 0 s) s) ∙ ap (walk f first) (sym (range_more 0 s ∙ ap (λ k. range_with_len 0 s ++ k ∷ []) (omega arith)))

pub walked_on : (c : CaseData) (r : Rules) (first run next : Run) (s : ℕ) → ((reach : Reaches) → AreReaches c.image reach → Some next ≡ one_turn c reach r run s) → Walked c r first s run → Walked c r first (s + 1) next
walked_on c r first run next s made h reach w = sym (one_walked (one_turn c reach r) first run s (h reach w)) ∙ sym (made reach w)

walked_none : (f : Run → ℕ → Option Run) (first : Run) (s k : ℕ) → walk f first (range_with_len 0 s) ≡ None → walk f first (range_with_len 0 (s + k)) ≡ None
walked_none f first s zero h = ap (λ n. walk f first (range_with_len 0 n)) (omega arith) ∙ h
walked_none f first s (suc k) h =
    let e : s + suc k ≡ (s + k) + 1 = omega arith in
    ap (λ n. walk f first (range_with_len 0 n)) e ∙ ap (walk f first) (range_more 0 (s + k)) ∙ walk_more f first (range_with_len 0 (s + k)) (0 + (s + k)) ∙ ap (option_and_then (λ n. f n (0 + (s + k)))) (walked_none f first s k h)

pub walked_not : (c : CaseData) (r : Rules) (first run : Run) (s : ℕ) → s < 64 → ((reach : Reaches) → AreReaches c.image reach → None ≡ one_turn c reach r run s) → Walked c r first s run → (reach : Reaches) → AreReaches c.image reach → None ≡ walk (one_turn c reach r) first slots
unfolding slots
walked_not c r first run s low made h reach w =
    let here : walk (one_turn c reach r) first (range_with_len 0 (s + 1)) ≡ None = sym (one_walked (one_turn c reach r) first run s (h reach w)) ∙ sym (made reach w) in
    let e : (s + 1) + (64 - (s + 1)) ≡ 64 = omega arith in
    sym (ap (λ n. walk (one_turn c reach r) first (range_with_len 0 n)) (sym e) ∙ walked_none (one_turn c reach r) first (s + 1) (64 - (s + 1)) here)

pub walked_all : (c : CaseData) (r : Rules) (first run : Run) (s : ℕ) → s ≡ 64 → Walked c r first s run → (reach : Reaches) → AreReaches c.image reach → Some run ≡ walk (one_turn c reach r) first slots
unfolding slots
walked_all c r first run s e h reach w = sym (ap (λ n. walk (one_turn c reach r) first (range_with_len 0 n)) (sym e) ∙ h reach w)

pub none_walked : (c : CaseData) (r : Rules) (first run : Run) → first ≡ run → Walked c r first 0 run
unfolding walk
none_walked c r first run e reach w = ap (λ x. Some x) e

-- ---- a round

pub round_of : (c : CaseData) (r : Rules) (run after : Run) (b : Bool) (x : Option Run) → ((reach : Reaches) → AreReaches c.image reach → Some after ≡ walk (one_turn c reach r) run slots) → (length after.journal == length run.journal) ≡ b → x ≡ dead_if c after b → (reach : Reaches) → AreReaches c.image reach → x ≡ round c reach r run
unfolding round
round_of c r run after b x made e is reach w =
    is ∙ ap (dead_if c after) (sym e) ∙ ap (option_and_then (λ y. dead_if c y (length y.journal == length run.journal))) (made reach w)

pub no_round : (c : CaseData) (r : Rules) (run : Run) → ((reach : Reaches) → AreReaches c.image reach → None ≡ walk (one_turn c reach r) run slots) → (reach : Reaches) → AreReaches c.image reach → None ≡ round c reach r run
unfolding round
no_round c r run made reach w = ap (option_and_then (λ y. dead_if c y (length y.journal == length run.journal))) (made reach w)

-- `Dead` is made, or it is no step
abbrev with_turn : Run → Turn → Run
with_turn run s = record run { both = s.both; journal = s.journal }

pub dead_made : (c : CaseData) (run : Run) (s x : Turn) (b : Bool) → s.both ≡ run.both → s.journal ≡ run.journal → led_to b x ≡ make c Dead s → led_to b (with_turn run x) ≡ dead_if c run true
unfolding make
dead_made c run s x b p q m =
    by (advance c s.both Dead) b m ∙ ap (λ y. with_dead (with_turn run s) (advance c y Dead)) p ∙ ap (λ y. with_dead (record run { journal = y; both = s.both }) (advance c run.both Dead)) q ∙ ap (λ y. with_dead (record run { both = y }) (advance c run.both Dead)) p
  where
    by : (o : Option Both) (b : Bool) → led_to b x ≡ arrived Dead s o → led_to b (with_turn run x) ≡ with_dead (with_turn run s) o
    by None true e = absurd (none-some x (sym e))
    by None false e = refl
    by (Some n) true e = ap (λ (y : Turn). Some (with_turn run y)) (same_Some x _ e)
    by (Some n) false e = absurd (none-some _ e)

pub dead_played : (c : CaseData) (n : ℕ) (run : Run) (x : Turn) → IsRun c n run → IsPlayed c x → IsRun c n (with_turn run x)
dead_played c n run x is played = record { played = played; slots = is.slots; young = is.young }

-- ---- rounds

abbrev Rounds : CaseData → Rules → ℕ → ℕ → Run → Run → Type 0
Rounds c r n i run first = (reach : Reaches) → AreReaches c.image reach → rounds c reach r (n - i) run ≡ rounds c reach r n first

suc_less : (n i : ℕ) → i < n → n - i ≡ suc (n - (i + 1))
suc_less n i lt = omega arith

going : (c : CaseData) (reach : Reaches) (r : Rules) (n : ℕ) (run : Run) → is_some run.both.machine.ending ≡ false → option_and_then (rounds c reach r n) (round c reach r run) ≡ rounds c reach r (suc n) run
unfolding rounds
going c reach r n run h = ap (rounds_on (λ x. option_and_then (rounds c reach r n) (round c reach r x)) run) (sym (none_ended run.both.machine.ending h))

pub rounds_more : (c : CaseData) (r : Rules) (n i : ℕ) (run next first : Run) → i < n → is_some run.both.machine.ending ≡ false → ((reach : Reaches) → AreReaches c.image reach → Some next ≡ round c reach r run) → Rounds c r n i run first → Rounds c r n (i + 1) next first
rounds_more c r n i run next first lt go made h reach w =
    ap (option_and_then (rounds c reach r (n - (i + 1)))) (made reach w) ∙ going c reach r (n - (i + 1)) run go ∙ ap (λ k. rounds c reach r k run) (sym (suc_less n i lt)) ∙ h reach w

pub rounds_not : (c : CaseData) (r : Rules) (n i : ℕ) (run first : Run) → i < n → is_some run.both.machine.ending ≡ false → ((reach : Reaches) → AreReaches c.image reach → None ≡ round c reach r run) → Rounds c r n i run first → (reach : Reaches) → AreReaches c.image reach → None ≡ rounds c reach r n first
rounds_not c r n i run first lt go made h reach w =
    ap (option_and_then (rounds c reach r (n - (i + 1)))) (made reach w) ∙ going c reach r (n - (i + 1)) run go ∙ ap (λ k. rounds c reach r k run) (sym (suc_less n i lt)) ∙ h reach w

over : (c : CaseData) (reach : Reaches) (r : Rules) (n : ℕ) (run : Run) → is_some run.both.machine.ending ≡ true → Some run ≡ rounds c reach r (suc n) run
unfolding rounds
over c reach r n run h = some_ended run.both.machine.ending h (λ e q. ap (rounds_on (λ x. option_and_then (rounds c reach r n) (round c reach r x)) run) (sym q))

pub rounds_over : (c : CaseData) (r : Rules) (n i : ℕ) (run first : Run) → i < n → is_some run.both.machine.ending ≡ true → Rounds c r n i run first → (reach : Reaches) → AreReaches c.image reach → Some run ≡ rounds c reach r n first
rounds_over c r n i run first lt end h reach w = over c reach r (n - (i + 1)) run end ∙ ap (λ k. rounds c reach r k run) (sym (suc_less n i lt)) ∙ h reach w

pub rounds_spent : (c : CaseData) (r : Rules) (n i : ℕ) (run first : Run) → n ≤ i → Rounds c r n i run first → (reach : Reaches) → AreReaches c.image reach → Some run ≡ rounds c reach r n first
unfolding rounds
rounds_spent c r n i run first le h reach w = let e : n - i ≡ 0 = omega arith in ap (λ k. rounds c reach r k run) (sym e) ∙ h reach w

-- ---- the whole run

pub is_serial : (c : CaseData) (r : Rules) (run : Run) (journal : List Entry) → journal ≡ run.journal → ((reach : Reaches) → AreReaches c.image reach → Some run ≡ serial_by c reach r) → IsSerial c r journal
is_serial c r run journal e made reach w = subst (λ o. is_serial_by o journal) (made reach w) e

pub run_start : (c : CaseData) (run : Run) → run ≡ at_start c → IsRun c 0 run
unfolding play walk begin
run_start c run e = subst (IsRun c 0) (sym e) (record { played = refl; slots = length-replicate {A = List ℕ} 64 []; young = All-replicate (AreYoung 0) 64 [] (All-nil (λ a. a ≤ 0)) })

pub serial_made : (c : CaseData) (r : Rules) (n : ℕ) (run : Run) (o : Option Run) → n ≡ 2 * c.limit + 65537 → run ≡ at_start c → ((reach : Reaches) → AreReaches c.image reach → o ≡ rounds c reach r n run) → (reach : Reaches) → AreReaches c.image reach → o ≡ serial_by c reach r
serial_made c r n run o e f made reach w = made reach w ∙ ap (λ k. rounds c reach r k run) e ∙ ap (rounds c reach r (2 * c.limit + 65537)) f

pub differ : (a b : ℕ) → a ≢ b → (a == b) ≡ false
differ a b ne = grind (arith, ne)

pub agree : (a b : ℕ) → a ≡ b → (a == b) ≡ true
agree a b e = grind (arith, e)
