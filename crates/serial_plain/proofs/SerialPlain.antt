-- The serial order, function by function.
use Rattle.std.proofs.Common.{◌≡◌, ◌≢◌, ℕ, zero, suc, ◌+◌, ◌-◌, ◌^◌, ◌<◌, ◌≤◌, Bool, true, false, cond, not, List, [], ◌∷◌, ◌++◌, Option, Some, None, refl, sym, ap, ◌∙◌, subst, arith, length, take, drop, get_or, ◌==◌}
use Rattle.std.specs.Prelude.{IfErr, IfOk, IsErrAnd, Result, Ok, Err, option_and_then, nat_le, nat_lt}
use Rattle.std.proofs.lemmas.Bool.Decides.{nat_tests}
use Rattle.std.proofs.lemmas.List.{append-nil, drop_more, take_all}
use Rattle.std.proofs.lemmas.List.Elements.{filter_more}
use Rattle.std.proofs.lemmas.Option.{none-some, same_Some}
use Rattle.address_space.specs.Slots.{slot_of}
use Rattle.elf_image.specs.Layout.{ImageData}
use Rattle.basic_blocks.specs.Reach.{is_among, IsReach}
use Rattle.journal_pack.specs.declared.entry.Entry.{Entry}
use Rattle.journal_pack.specs.declared.entry.Entry.TheVariants.{Ev, Flush, Wait, Miss, Grow}
use Rattle.x86_model.specs.declared.cpu.Cpu.{Cpu}
use Rattle.x86_model.specs.Want.{want}
use Rattle.machine_model.specs.declared.ending.RunEnd.{RunEnd}
use Rattle.machine_model.specs.CaseData.{CaseData}
use Rattle.machine_model.specs.Gated.{Both, Stand, advance, gated_step, most_grown, rest_of}
use Rattle.machine_model.specs.Play.{play}
use Rattle.machine_model.specs.Serial as serial
use Rattle.machine_model.specs.Serial.{AreReaches, Point, Reaches, Rule, Rules, Turn, after_miss, arrived, by_limit, by_miss, by_most, by_want, event_by, flush, flush_if, flush_old, flush_some, flushed_before, full_or, grow_all, grow_if, grow_reach, is_missing, make, next_by, next_point, on_to, point_on, rule_at, stop_from, told_waiting, turn_from, ungrown, unless_over, with_entry, with_new}
use Rattle.machine_model.specs.State.{is_live, list_at}
use Rattle.machine_model.specs.Step.{privately, step, waits_at}
use Rattle.machine_model.proofs.Costs.{came}
use Rattle.machine_model.proofs.Walks.{play_more}
use Rattle.machine_plain.specs.declared.machine.PlainFault.{PlainFault}
use Rattle.machine_plain.specs.Plain.{CanServe, FaultsAtStart, IsFull}
use Rattle.serial_plain.specs.PlainSerial.{FaultsOnTheWay, IsPlayed, acts, evented, has_old}
use Rattle.machine_plain.proofs.Closures.{one_reach}
use Rattle.machine_plain.proofs.PlainPlay.{fault_at_start, fault_on_the_way, played_serves}

-- ---- entries

all_taken : (c : CaseData) (s : Turn) → IsPlayed c s → play c (take (length s.journal) s.journal) ≡ Some s.both.machine
all_taken c s p = ap (play c) (take_all (length s.journal) s.journal (omega arith)) ∙ p

-- what a live thread asks can be asked
pub turn_serves : (c : CaseData) (s : Turn) → IsPlayed c s → c.limit ≤ 2 ^ 27 → s.both.machine.ending ≡ None → (t : ℕ) → is_live s.both.machine t ≡ true → CanServe s.both.machine t
turn_serves c s p limit going t live = played_serves c s.journal (length s.journal) s.both.machine (all_taken c s p) limit going t live

pub turn_fault : (c : CaseData) (s : Turn) (t : ℕ) (fault : PlainFault) → IsPlayed c s → IsFull s.both.machine t fault → FaultsOnTheWay c fault
turn_fault c s t fault p full = record { journal = s.journal; faults = fault_on_the_way c s.journal (length s.journal) s.both.machine t fault (all_taken c s p) full }

pub start_fault : (c : CaseData) (fault : PlainFault) → FaultsAtStart c fault → FaultsOnTheWay c fault
start_fault c fault h = record { journal = []; faults = fault_at_start c [] fault h }

pub made : (c : CaseData) (e : Entry) (s : Turn) (n : Both) (j : List Entry) → Some n ≡ advance c s.both e → j ≡ s.journal ++ e ∷ [] → Some (record s { both = n; journal = j }) ≡ make c e s
unfolding make
made c e s n j p q = ap (λ x. Some (record s { both = n; journal = x })) q ∙ ap (arrived e s) p

pub not_made : (c : CaseData) (e : Entry) (s : Turn) → None ≡ advance c s.both e → None ≡ make c e s
unfolding make
not_made c e s p = ap (arrived e s) p

pub made_played : (c : CaseData) (e : Entry) (s : Turn) (n : Both) (j : List Entry) → IsPlayed c s → Some n ≡ advance c s.both e → j ≡ s.journal ++ e ∷ [] → play c j ≡ Some n.machine
made_played c e s n j p q is = ap (play c) is ∙ play_more c s.journal e ∙ ap (option_and_then (λ m. step c m e)) p ∙ (came c s.both n e (sym q)).stepped

-- ---- points

pub stepped_on : (image : ImageData) (grown : List ℕ) (k : ℕ) (s d : Stand) → Some d ≡ gated_step image grown s → Some (record { k = k + 1; stand = d }) ≡ point_on (k + 1) (gated_step image grown s)
stepped_on image grown k s d p = ap (point_on (k + 1)) p

pub not_stepped_on : (image : ImageData) (grown : List ℕ) (k : ℕ) (s : Stand) → None ≡ gated_step image grown s → None ≡ point_on (k + 1) (gated_step image grown s)
not_stepped_on image grown k s p = ap (point_on (k + 1)) p

suc_less : (n i : ℕ) → i < n → n - i ≡ suc (n - (i + 1))
suc_less n i lt = omega arith

none_less : (n i : ℕ) → n ≤ i → n - i ≡ 0
none_less n i le = omega arith

pub stop_goes_on : (c : CaseData) (b : Both) (n i : ℕ) (p q first : Point) → i < n → Some q ≡ next_point c b p → stop_from c b (n - i) p ≡ stop_from c b n first → stop_from c b (n - (i + 1)) q ≡ stop_from c b n first
unfolding stop_from
stop_goes_on c b n i p q first lt next h = ap (on_to (stop_from c b (n - (i + 1))) p) next ∙ ap (λ x. stop_from c b x p) (sym (suc_less n i lt)) ∙ h

pub stop_here : (c : CaseData) (b : Both) (n i : ℕ) (p first : Point) → i < n → None ≡ next_point c b p → stop_from c b (n - i) p ≡ stop_from c b n first → p ≡ stop_from c b n first
unfolding stop_from
stop_here c b n i p first lt next h = ap (on_to (stop_from c b (n - (i + 1))) p) next ∙ ap (λ x. stop_from c b x p) (sym (suc_less n i lt)) ∙ h

pub stop_last : (c : CaseData) (b : Both) (n i : ℕ) (p first : Point) → n ≤ i → stop_from c b (n - i) p ≡ stop_from c b n first → p ≡ stop_from c b n first
unfolding stop_from
stop_last c b n i p first le h = ap (λ x. stop_from c b x p) (sym (none_less n i le)) ∙ h

-- ---- flushes

pub flushed_on : (c : CaseData) (t n i : ℕ) (s x first : Turn) → i < n → Some x ≡ flush c t s → flush_some c t (n - i) s ≡ flush_some c t n first → flush_some c t (n - (i + 1)) x ≡ flush_some c t n first
unfolding flush_some
flushed_on c t n i s x first lt p h = ap (option_and_then (flush_some c t (n - (i + 1)))) p ∙ ap (λ k. flush_some c t k s) (sym (suc_less n i lt)) ∙ h

pub flushed_not : (c : CaseData) (t n i : ℕ) (s first : Turn) → i < n → None ≡ flush c t s → flush_some c t (n - i) s ≡ flush_some c t n first → None ≡ flush_some c t n first
unfolding flush_some
flushed_not c t n i s first lt p h = ap (option_and_then (flush_some c t (n - (i + 1)))) p ∙ ap (λ k. flush_some c t k s) (sym (suc_less n i lt)) ∙ h

pub flushed_all : (c : CaseData) (t n i : ℕ) (s first : Turn) → n ≤ i → flush_some c t (n - i) s ≡ flush_some c t n first → Some s ≡ flush_some c t n first
unfolding flush_some
flushed_all c t n i s first le h = ap (λ k. flush_some c t k s) (sym (none_less n i le)) ∙ h

-- ---- growth

drop_next : (xs : List ℕ) (i d : ℕ) → i < length xs → drop i xs ≡ get_or xs i d ∷ drop (i + 1) xs
drop_next xs i d lt = drop_more xs i d lt

pub grown_on : (c : CaseData) (t i d : ℕ) (places : List ℕ) (s x first : Turn) → i < length places → Some x ≡ make c (Grow t (get_or places i d)) s → grow_all c t (drop i places) s ≡ grow_all c t places first → grow_all c t (drop (i + 1) places) x ≡ grow_all c t places first
unfolding grow_all
grown_on c t i d places s x first lt p h = ap (option_and_then (grow_all c t (drop (i + 1) places))) p ∙ ap (λ k. grow_all c t k s) (sym (drop_next places i d lt)) ∙ h

pub grown_not : (c : CaseData) (t i d : ℕ) (places : List ℕ) (s first : Turn) → i < length places → None ≡ make c (Grow t (get_or places i d)) s → grow_all c t (drop i places) s ≡ grow_all c t places first → None ≡ grow_all c t places first
unfolding grow_all
grown_not c t i d places s first lt p h = ap (option_and_then (grow_all c t (drop (i + 1) places))) p ∙ ap (λ k. grow_all c t k s) (sym (drop_next places i d lt)) ∙ h

drop_none : (xs : List ℕ) (i : ℕ) → length xs ≤ i → drop i xs ≡ []
drop_none [] zero le = refl
drop_none [] (suc i) le = refl
drop_none (x ∷ xs) zero le = absurd (omega arith)
drop_none (x ∷ xs) (suc i) le = drop_none xs i (omega arith)

pub grown_all : (c : CaseData) (t i : ℕ) (places : List ℕ) (s first : Turn) → length places ≤ i → grow_all c t (drop i places) s ≡ grow_all c t places first → Some s ≡ grow_all c t places first
unfolding grow_all
grown_all c t i places s first le h = ap (λ k. grow_all c t k s) (sym (drop_none places i le)) ∙ h

-- a reach that is told is the computed one
pub reach_told : (image : ImageData) (reach : Reaches) (g : ℕ) (places : List ℕ) → AreReaches image reach → IsReach image (g ∷ []) places → places ≡ reach g
reach_told image reach g places r h = one_reach image (g ∷ []) places (reach g) h (r g)

-- ---- the budget

abbrev pub Goes : CaseData → ℕ → ℕ → ℕ → Turn → Turn → Type 0
Goes c t n i s first = (reach : Reaches) → AreReaches c.image reach → turn_from c reach t (n - i) (serial.point_of s.both t) s ≡ turn_from c reach t n (serial.point_of first.both t) first

abbrev on_by : CaseData → Reaches → ℕ → ℕ → Turn → Option Turn
on_by c reach t n x = unless_over (λ y. turn_from c reach t n (serial.point_of y.both t) y) x (serial.is_over t x)

one_act : (c : CaseData) (reach : Reaches) (t n i : ℕ) (s : Turn) → i < n → option_and_then (on_by c reach t (n - (i + 1))) (acts c reach t s) ≡ turn_from c reach t (n - i) (serial.point_of s.both t) s
unfolding turn_from
one_act c reach t n i s lt = ap (λ k. turn_from c reach t k (serial.point_of s.both t) s) (sym (suc_less n i lt))

pub budget_on : (c : CaseData) (t n i : ℕ) (s x first : Turn) → i < n → ((reach : Reaches) → AreReaches c.image reach → Some x ≡ acts c reach t s) → serial.is_over t x ≡ false → Goes c t n i s first → Goes c t n (i + 1) x first
budget_on c t n i s x first lt p goes h reach r =
    sym (ap (unless_over (λ y. turn_from c reach t (n - (i + 1)) (serial.point_of y.both t) y) x) goes)
    ∙ ap (option_and_then (on_by c reach t (n - (i + 1)))) (p reach r)
    ∙ one_act c reach t n i s lt ∙ h reach r

pub budget_over : (c : CaseData) (t n i : ℕ) (s x first : Turn) → i < n → ((reach : Reaches) → AreReaches c.image reach → Some x ≡ acts c reach t s) → serial.is_over t x ≡ true → Goes c t n i s first → (reach : Reaches) → AreReaches c.image reach → Some x ≡ turn_from c reach t n (serial.point_of first.both t) first
budget_over c t n i s x first lt p over h reach r =
    sym (ap (unless_over (λ y. turn_from c reach t (n - (i + 1)) (serial.point_of y.both t) y) x) over)
    ∙ ap (option_and_then (on_by c reach t (n - (i + 1)))) (p reach r)
    ∙ one_act c reach t n i s lt ∙ h reach r

pub budget_not : (c : CaseData) (t n i : ℕ) (s first : Turn) → i < n → ((reach : Reaches) → AreReaches c.image reach → None ≡ acts c reach t s) → Goes c t n i s first → (reach : Reaches) → AreReaches c.image reach → None ≡ turn_from c reach t n (serial.point_of first.both t) first
budget_not c t n i s first lt p h reach r =
    ap (option_and_then (on_by c reach t (n - (i + 1)))) (p reach r) ∙ one_act c reach t n i s lt ∙ h reach r

pub budget_spent : (c : CaseData) (t n i : ℕ) (s first : Turn) → n ≤ i → Goes c t n i s first → (reach : Reaches) → AreReaches c.image reach → Some s ≡ turn_from c reach t n (serial.point_of first.both t) first
unfolding turn_from
budget_spent c t n i s first le h reach r = ap (λ k. turn_from c reach t k (serial.point_of s.both t) s) (sym (none_less n i le)) ∙ h reach r

-- ---- old writes

abbrev pub Flushes : CaseData → ℕ → ℕ → Turn → Turn → Type 0
Flushes c t hold s first = flush_old c t hold s.ages s ≡ flush_old c t hold first.ages first

made_ages : (c : CaseData) (e : Entry) (s x : Turn) → Some x ≡ make c e s → x.ages ≡ s.ages
unfolding make
made_ages c e s x p = by (advance c s.both e) p
  where
    by : (o : Option Both) → Some x ≡ arrived e s o → x.ages ≡ s.ages
    by None q = absurd (none-some x (sym q))
    by (Some n) q = ap (λ (y : Turn). y.ages) (same_Some x (with_entry e s n) q)

-- the ages that a flush leaves
flush_ages : (c : CaseData) (t : ℕ) (s x : Turn) → Some x ≡ flush c t s → x.ages ≡ rest_of s.ages
flush_ages c t s x p = made_ages c (Flush t) (record s { ages = rest_of s.ages }) x p

old_by : (c : CaseData) (t hold : ℕ) (s x : Turn) (ages : List ℕ) → has_old hold ages ≡ true → Some x ≡ flush c t s → flush_old c t hold (rest_of ages) x ≡ flush_old c t hold ages s
unfolding flush_old
old_by c t hold s x [] old p = absurd (let none : false ≡ true = old in cc)
old_by c t hold s x (a ∷ ages) old p = ap (option_and_then (flush_old c t hold ages)) p ∙ ap (flush_if c t (flush_old c t hold ages) s) (sym old)

not_by : (c : CaseData) (t hold : ℕ) (s : Turn) (ages : List ℕ) → has_old hold ages ≡ true → None ≡ flush c t s → None ≡ flush_old c t hold ages s
unfolding flush_old
not_by c t hold s [] old p = absurd (let none : false ≡ true = old in cc)
not_by c t hold s (a ∷ ages) old p = ap (option_and_then (flush_old c t hold ages)) p ∙ ap (flush_if c t (flush_old c t hold ages) s) (sym old)

young_by : (c : CaseData) (t hold : ℕ) (s : Turn) (ages : List ℕ) → has_old hold ages ≡ false → Some s ≡ flush_old c t hold ages s
unfolding flush_old
young_by c t hold s [] young = refl
young_by c t hold s (a ∷ ages) young = ap (flush_if c t (flush_old c t hold ages) s) (sym young)

-- the oldest, as the program looks at it
pub old_none : (hold : ℕ) (ages : List ℕ) → (length ages == 0) ≡ true → false ≡ has_old hold ages
old_none hold [] none = refl
old_none hold (a ∷ ages) none = absurd (let h : (length (a ∷ ages) == 0) ≡ false = grind (arith, nat_tests) in let e : true ≡ false = sym none ∙ h in cc)

pub old_first : (hold d : ℕ) (ages : List ℕ) → (length ages == 0) ≡ false → nat_lt hold (get_or ages 0 d) ≡ has_old hold ages
old_first hold d [] some = absurd (let none : true ≡ false = some in cc)
old_first hold d (a ∷ ages) some = refl

rest_shorter : (hold : ℕ) (ages : List ℕ) → has_old hold ages ≡ true → length (rest_of ages) < length ages
rest_shorter hold [] old = absurd (let none : false ≡ true = old in cc)
rest_shorter hold (a ∷ ages) old = omega arith

-- a flush leaves fewer ages
pub flush_shorter : (c : CaseData) (t hold : ℕ) (s x : Turn) → has_old hold s.ages ≡ true → Some x ≡ flush c t s → length x.ages < length s.ages
flush_shorter c t hold s x old p = subst (λ ages. length ages < length s.ages) (sym (flush_ages c t s x p)) (rest_shorter hold s.ages old)

pub old_on : (c : CaseData) (t hold : ℕ) (s x first : Turn) → has_old hold s.ages ≡ true → Some x ≡ flush c t s → Flushes c t hold s first → Flushes c t hold x first
old_on c t hold s x first old p h = ap (λ k. flush_old c t hold k x) (flush_ages c t s x p) ∙ old_by c t hold s x s.ages old p ∙ h

pub old_not : (c : CaseData) (t hold : ℕ) (s first : Turn) → has_old hold s.ages ≡ true → None ≡ flush c t s → Flushes c t hold s first → None ≡ flush_old c t hold first.ages first
old_not c t hold s first old p h = not_by c t hold s s.ages old p ∙ h

pub old_ends : (c : CaseData) (t hold : ℕ) (s first : Turn) → has_old hold s.ages ≡ false → Flushes c t hold s first → Some s ≡ flush_old c t hold first.ages first
old_ends c t hold s first young h = young_by c t hold s s.ages young ∙ h

-- ---- rules

at_or_past : (n l : ℕ) → nat_lt n l ≡ false → nat_le l n ≡ true
at_or_past n l h = grind (arith, nat_tests)

not_yet : (n l : ℕ) → nat_lt n l ≡ true → nat_le l n ≡ false
not_yet n l h = grind (arith, nat_tests)

pub rule_limit : (c : CaseData) (b : Both) (p : Point) → nat_lt (b.machine.steps + p.k) c.limit ≡ false → serial.AtLimit ≡ rule_at c b p
unfolding rule_at
rule_limit c b p h = ap (by_limit c b p) (sym (at_or_past (b.machine.steps + p.k) c.limit h))

below_rule : (c : CaseData) (b : Both) (p : Point) → nat_lt (b.machine.steps + p.k) c.limit ≡ true → by_miss c p (is_missing c.image b.gate.grown p.stand) ≡ rule_at c b p
unfolding rule_at
below_rule c b p h = ap (by_limit c b p) (sym (not_yet (b.machine.steps + p.k) c.limit h))

pub rule_miss : (c : CaseData) (b : Both) (p : Point) → nat_lt (b.machine.steps + p.k) c.limit ≡ true → is_missing c.image b.gate.grown p.stand ≡ true → serial.AtMiss ≡ rule_at c b p
rule_miss c b p h m = ap (by_miss c p) (sym m) ∙ below_rule c b p h

same_number : (k : ℕ) → k ≡ 4096 → (k == 4096) ≡ true
same_number k h = grind (arith, nat_tests)

other_number : (k : ℕ) → k ≢ 4096 → (k == 4096) ≡ false
other_number k h = grind (arith, nat_tests)

pub rule_most : (c : CaseData) (b : Both) (p : Point) → nat_lt (b.machine.steps + p.k) c.limit ≡ true → is_missing c.image b.gate.grown p.stand ≡ false → p.k ≡ 4096 → serial.AtMost ≡ rule_at c b p
rule_most c b p h m k = ap (by_most c p) (sym (same_number p.k k)) ∙ ap (by_miss c p) (sym m) ∙ below_rule c b p h

pub rule_event : (c : CaseData) (b : Both) (p : Point) (o : Option Cpu) → nat_lt (b.machine.steps + p.k) c.limit ≡ true → is_missing c.image b.gate.grown p.stand ≡ false → p.k ≢ 4096 → o ≡ privately (want c.image p.stand.cpu) → by_want o ≡ rule_at c b p
rule_event c b p o h m k e = ap by_want e ∙ ap (by_most c p) (sym (other_number p.k k)) ∙ ap (by_miss c p) (sym m) ∙ below_rule c b p h

-- a point, and what the rule there lets be next
pub next_there : (c : CaseData) (b : Both) (p : Point) (r : Rule) → r ≡ rule_at c b p → next_by c b p r ≡ next_point c b p
unfolding next_point
next_there c b p r e = ap (next_by c b p) e

-- ---- places that aren't grown

ungrown_more : (grown places : List ℕ) (i d : ℕ) (b : Bool) → i < length places → is_among grown (get_or places i d) ≡ b → ungrown grown (take (i + 1) places) ≡ ungrown grown (take i places) ++ cond (not b) (get_or places i d ∷ []) []
ungrown_more grown places i d b lt e = filter_more (λ a. not (is_among grown a)) places i d lt ∙ ap (λ x. ungrown grown (take i places) ++ cond (not x) (get_or places i d ∷ []) []) e

pub ungrown_yes : (grown places more : List ℕ) (i d : ℕ) → i < length places → is_among grown (get_or places i d) ≡ false → more ≡ ungrown grown (take i places) → more ++ get_or places i d ∷ [] ≡ ungrown grown (take (i + 1) places)
ungrown_yes grown places more i d lt e h = ap (λ x. x ++ get_or places i d ∷ []) h ∙ sym (ungrown_more grown places i d false lt e)

pub ungrown_no : (grown places more : List ℕ) (i d : ℕ) → i < length places → is_among grown (get_or places i d) ≡ true → more ≡ ungrown grown (take i places) → more ≡ ungrown grown (take (i + 1) places)
ungrown_no grown places more i d lt e h = h ∙ sym (append-nil (ungrown grown (take i places))) ∙ sym (ungrown_more grown places i d true lt e)

pub ungrown_all : (grown places more : List ℕ) (i : ℕ) → length places ≤ i → more ≡ ungrown grown (take i places) → more ≡ ungrown grown places
ungrown_all grown places more i le h = h ∙ ap (ungrown grown) (take_all i places le)

pub fit_together : (n m : ℕ) → n ≤ 65536 → nat_le m (65536 - n) ≡ nat_le (n + m) most_grown
fit_together n m le = grind (arith, nat_tests)

pub too_many : (n m : ℕ) → nat_le n 65536 ≡ false → false ≡ nat_le (n + m) most_grown
too_many n m lt = grind (arith, nat_tests)

-- ---- entries with what comes with them

pub flushed_then : (c : CaseData) (t : ℕ) (p : Point) (s x : Turn) (n : ℕ) (o : Option Turn) → n ≡ flushed_before (want c.image p.stand.cpu) (length (list_at s.both.machine (slot_of t))) → Some x ≡ flush_some c t n s → o ≡ serial.event c t p x → o ≡ evented c t p s
flushed_then c t p s x n o count p1 q = q ∙ ap (option_and_then (serial.event c t p)) (p1 ∙ ap (λ k. flush_some c t k s) count)

pub flushed_none : (c : CaseData) (t : ℕ) (p : Point) (s : Turn) (n : ℕ) → n ≡ flushed_before (want c.image p.stand.cpu) (length (list_at s.both.machine (slot_of t))) → None ≡ flush_some c t n s → None ≡ evented c t p s
flushed_none c t p s n count p1 = ap (option_and_then (serial.event c t p)) (p1 ∙ ap (λ k. flush_some c t k s) count)

pub event_waits : (c : CaseData) (t : ℕ) (p : Point) (s : Turn) (o : Option Turn) → waits_at c.image s.both.machine t p.stand.cpu ≡ true → o ≡ told_waiting c t p.k s → o ≡ serial.event c t p s
event_waits c t p s o h q = q ∙ ap (event_by c t p s) (sym h)

pub event_made : (c : CaseData) (t : ℕ) (p : Point) (s y : Turn) (o : Option Turn) → waits_at c.image s.both.machine t p.stand.cpu ≡ false → y ≡ record s { ages = with_new (want c.image p.stand.cpu) s.ages } → o ≡ make c (Ev t p.k) y → o ≡ serial.event c t p s
event_made c t p s y o h e q = q ∙ ap (make c (Ev t p.k)) e ∙ ap (event_by c t p s) (sym h)

pub told_none : (c : CaseData) (t k : ℕ) (s x : Turn) → k ≡ 0 → x ≡ record s { waiting = true } → Some x ≡ told_waiting c t k s
told_none c t k s x e h = ap (λ y. Some y) h ∙ ap (λ n. told_waiting c t n s) (sym e)

pub told_some : (c : CaseData) (t k : ℕ) (s x : Turn) (o : Option Turn) → k ≢ 0 → x ≡ record s { waiting = true } → o ≡ make c (Wait t k) x → o ≡ told_waiting c t k s
told_some c t zero s x o ne h q = absurd (ne refl)
told_some c t (suc k) s x o ne h q = q ∙ ap (make c (Wait t (suc k))) h

-- ---- growth after a miss

pub reach_fits : (c : CaseData) (t : ℕ) (places more : List ℕ) (s : Turn) (b : Bool) (o : Option Turn) → more ≡ ungrown s.both.gate.grown places → b ≡ nat_le (length s.both.gate.grown + length more) most_grown → o ≡ grow_if c t more s b → o ≡ grow_reach c t places s
reach_fits c t places more s b o e f q = q ∙ ap (grow_if c t more s) f ∙ ap (λ m. grow_if c t m s (nat_le (length s.both.gate.grown + length m) most_grown)) e

pub target_grown : (c : CaseData) (reach : Reaches) (t g : ℕ) (places : List ℕ) (s x : Turn) (o : Option Turn) → places ≡ reach g → Some x ≡ make c (Grow t g) s → o ≡ grow_reach c t places x → o ≡ full_or c reach t g s false
target_grown c reach t g places s x o e p q = q ∙ ap (λ z. grow_reach c t z x) e ∙ ap (option_and_then (grow_reach c t (reach g))) p

pub target_not : (c : CaseData) (reach : Reaches) (t g : ℕ) (s : Turn) → None ≡ make c (Grow t g) s → None ≡ full_or c reach t g s false
target_not c reach t g s p = ap (option_and_then (grow_reach c t (reach g))) p

pub full_by : (c : CaseData) (reach : Reaches) (t g : ℕ) (s : Turn) (full : Bool) (o : Option Turn) → (length s.both.gate.grown == most_grown) ≡ full → o ≡ full_or c reach t g s full → o ≡ after_miss c reach t g false s
full_by c reach t g s full o e q = q ∙ ap (full_or c reach t g s) (sym e)

pub missed : (c : CaseData) (reach : Reaches) (t : ℕ) (p : Point) (s x : Turn) (strict : Bool) (o : Option Turn) → c.strict ≡ strict → Some x ≡ make c (Miss t p.k p.stand.cpu.last p.stand.cpu.rip) s → o ≡ after_miss c reach t p.stand.cpu.rip strict x → o ≡ serial.miss c reach t p s
missed c reach t p s x strict o e m q = q ∙ ap (λ b. after_miss c reach t p.stand.cpu.rip b x) (sym e) ∙ ap (option_and_then (after_miss c reach t p.stand.cpu.rip c.strict)) m

pub not_missed : (c : CaseData) (reach : Reaches) (t : ℕ) (p : Point) (s : Turn) → None ≡ make c (Miss t p.k p.stand.cpu.last p.stand.cpu.rip) s → None ≡ serial.miss c reach t p s
not_missed c reach t p s m = ap (option_and_then (after_miss c reach t p.stand.cpu.rip c.strict)) m

-- ---- a whole turn

pub settles : (c : CaseData) (t hold : ℕ) (s : Turn) (o : Option RunEnd) (x : Option Turn) → s.both.machine.ending ≡ o → x ≡ serial.settled c t hold s o → x ≡ serial.settle c t hold s
settles c t hold s o x e q = q ∙ ap (serial.settled c t hold s) (sym e)

pub turn_then : (c : CaseData) (reach : Reaches) (r : Rules) (t : ℕ) (p : Point) (s x : Turn) (o : Option Turn) → Some x ≡ turn_from c reach t r.turn p s → o ≡ serial.settle c t r.hold x → o ≡ serial.turn c reach r t p s
unfolding serial.turn
turn_then c reach r t p s x o a b = b ∙ ap (option_and_then (serial.settle c t r.hold)) a

pub turn_none : (c : CaseData) (reach : Reaches) (r : Rules) (t : ℕ) (p : Point) (s : Turn) → None ≡ turn_from c reach t r.turn p s → None ≡ serial.turn c reach r t p s
unfolding serial.turn
turn_none c reach r t p s a = ap (option_and_then (serial.settle c t r.hold)) a

pub acted : (c : CaseData) (reach : Reaches) (t : ℕ) (p : Point) (s : Turn) (r : Rule) (o : Option Turn) → p ≡ stop_from c s.both 4096 (serial.point_of s.both t) → r ≡ rule_at c s.both p → o ≡ serial.act c reach t p s r → o ≡ acts c reach t s
acted c reach t p s r o e f q =
    q ∙ ap (serial.act c reach t p s) f ∙ ap (λ x. serial.act c reach t x s (rule_at c s.both x)) e

-- ---- counts of private steps

point_count : (k : ℕ) (o : Option Stand) (q : Point) → Some q ≡ point_on k o → q.k ≡ k
point_count k None q e = absurd (none-some q (sym e))
point_count k (Some d) q e = ap (λ (x : Point). x.k) (same_Some q _ e)

rule_count : (c : CaseData) (b : Both) (p q : Point) (r : Rule) → Some q ≡ next_by c b p r → q.k ≡ p.k + 1
rule_count c b p q serial.AtLimit e = absurd (none-some q (sym e))
rule_count c b p q serial.AtMiss e = absurd (none-some q (sym e))
rule_count c b p q serial.AtMost e = absurd (none-some q (sym e))
rule_count c b p q serial.AtEvent e = absurd (none-some q (sym e))
rule_count c b p q serial.GoesOn e = point_count (p.k + 1) (gated_step c.image b.gate.grown p.stand) q e

pub next_count : (c : CaseData) (b : Both) (p q : Point) → Some q ≡ next_point c b p → q.k ≡ p.k + 1
unfolding next_point
next_count c b p q e = rule_count c b p q (rule_at c b p) e

-- a fact of what is Ok, from another
pub ok_then : {A E : Type 0} (r : Result A E) (P Q : A → Type 0) → IfOk r P → ((x : A) → P x → Q x) → IfOk r Q
ok_then (Ok x) P Q h f = f x h
ok_then (Err e) P Q h f = h

-- a fault that is handed on
pub err_kept : {A E : Type 0} (r : Result A E) (e : E) (P : E → Type 0) → IsErrAnd r (λ y. y ≡ e) → P e → IfErr r P
err_kept (Ok x) e P h p = tt
err_kept (Err y) e P h p = subst P (sym h) p
