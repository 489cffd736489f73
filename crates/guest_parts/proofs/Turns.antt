-- A turn goes on from point to point.
use Rattle.std.proofs.Common.{◌≡◌, ◌≢◌, ℕ, zero, suc, ◌+◌, ◌-◌, ◌<◌, ◌≤◌, Bool, true, false, cond, List, [], ◌∷◌, ◌++◌, Option, Some, None, refl, ap, ◌∙◌, subst, arith, ◌==◌, nat_le, ◌&&◌, not, ◌||◌, length}
use Rattle.std.proofs.lemmas.Bool.Decides.{nat_tests}
use Rattle.std.proofs.lemmas.Option.{option_and_then_some, none-some, same_Some, cond_some}
use Rattle.std.specs.Prelude.{option_and_then, is_none}
use Rattle.address_space.specs.Slots.{slot_of}
use Rattle.elf_image.specs.Layout.{ImageData}
use Rattle.journal_pack.specs.declared.entry.Entry.{Entry}
use Rattle.journal_pack.specs.declared.entry.Entry.TheVariants.{Ev, Tick, Wait, Over}
use Rattle.x86_model.specs.declared.cpu.Cpu.{Cpu}
use Rattle.x86_model.specs.declared.want.Want.{Want}
use Rattle.x86_model.specs.declared.want.Want.TheVariants as wants
use Rattle.x86_model.specs.Want.{want}
use Rattle.lib_table.specs.declared.ask.Asked.{Asked}
use Rattle.basic_blocks.specs.Places.{is_code_place}
use Rattle.basic_blocks.specs.Reach.{is_among}
use Rattle.basic_blocks.specs.Span.{span}
use Rattle.machine_model.specs.declared.ending.RunEnd.{RunEnd}
use Rattle.machine_model.specs.CaseData.{CaseData}
use Rattle.machine_model.specs.State.{is_live, list_at}
use Rattle.machine_model.specs.Step.{asked_by, privately, waits_at}
use Rattle.machine_model.specs.Gated.{Both, Stand, advance, between_blocks, entered, gated_step, gated_steps, is_between, moved_on, within_block}
use Rattle.machine_model.specs.Serial.{AtEvent, AtLimit, AtMiss, AtMost, GoesOn, Point, Rule, Turn, act, by_limit, by_miss, by_most, by_want, event, event_by, flush_some, flushed_before, is_missing, is_over, make, next_by, next_point, on_to, point_of, point_on, rule_at, stop_from, told_waiting, turn_from, unless_over, with_new}
use Rattle.machine_model.proofs.NamesEntries.{makes}
use Rattle.guest_parts.specs.Points.{Acts, ComesOut, ComesTo, GoesOnAs, point_at, turn_of, waiting_of}

-- ---- rules at a point

le_false : (a b : ℕ) → b < a → nat_le a b ≡ false
le_false a b h = grind (arith, nat_tests)

le_true : (a b : ℕ) → a ≤ b → nat_le a b ≡ true
le_true a b h = grind (arith, nat_tests)

eq_false : (a b : ℕ) → a ≢ b → (a == b) ≡ false
eq_false a b h = grind (arith, nat_tests)

eq_true : (a b : ℕ) → a ≡ b → (a == b) ≡ true
eq_true a b h = grind (arith, nat_tests)

pub at_limit : (c : CaseData) (b : Both) (p : Point) → c.limit ≤ b.machine.steps + p.k → rule_at c b p ≡ AtLimit
unfolding rule_at
at_limit c b p h = ap (by_limit c b p) (le_true c.limit (b.machine.steps + p.k) h)

below : (c : CaseData) (b : Both) (p : Point) → b.machine.steps + p.k < c.limit → rule_at c b p ≡ by_miss c p (is_missing c.image b.gate.grown p.stand)
unfolding rule_at
below c b p h = ap (by_limit c b p) (le_false c.limit (b.machine.steps + p.k) h)

pub at_miss : (c : CaseData) (b : Both) (p : Point) → b.machine.steps + p.k < c.limit → is_missing c.image b.gate.grown p.stand ≡ true → rule_at c b p ≡ AtMiss
at_miss c b p h m = below c b p h ∙ ap (by_miss c p) m

there : (c : CaseData) (b : Both) (p : Point) → b.machine.steps + p.k < c.limit → is_missing c.image b.gate.grown p.stand ≡ false → rule_at c b p ≡ by_most c p (p.k == 4096)
there c b p h m = below c b p h ∙ ap (by_miss c p) m

pub at_most : (c : CaseData) (b : Both) (p : Point) → b.machine.steps + p.k < c.limit → is_missing c.image b.gate.grown p.stand ≡ false → p.k ≡ 4096 → rule_at c b p ≡ AtMost
at_most c b p h m e = there c b p h m ∙ ap (by_most c p) (eq_true p.k 4096 e)

pub at_event : (c : CaseData) (b : Both) (p : Point) → b.machine.steps + p.k < c.limit → is_missing c.image b.gate.grown p.stand ≡ false → p.k ≢ 4096 → privately (want c.image p.stand.cpu) ≡ None → rule_at c b p ≡ AtEvent
at_event c b p h m ne e = there c b p h m ∙ ap (by_most c p) (eq_false p.k 4096 ne) ∙ ap by_want e

at_private : (c : CaseData) (b : Both) (p : Point) (next : Cpu) → b.machine.steps + p.k < c.limit → is_missing c.image b.gate.grown p.stand ≡ false → p.k ≢ 4096 → privately (want c.image p.stand.cpu) ≡ Some next → rule_at c b p ≡ GoesOn
at_private c b p next h m ne e = there c b p h m ∙ ap (by_most c p) (eq_false p.k 4096 ne) ∙ ap by_want e

-- ---- nothing is missing where a step is made

not_code : (image : ImageData) (grown : List ℕ) (d : Stand) → is_code_place image d.cpu.rip ≡ false → is_missing image grown d ≡ false
not_code image grown d e = ap (λ x. x && is_between d.left && not (is_among grown d.cpu.rip)) e

and_false : (a : Bool) → (a && false) ≡ false
and_false true = refl
and_false false = refl

by_left : (image : ImageData) (grown : List ℕ) (rip : ℕ) (left l : List ℕ) (code : Bool) → cond code (within_block image grown rip left) (between_blocks left) ≡ Some l → (code && is_between left && not (is_among grown rip)) ≡ false
by_left image grown rip left l false e = refl
by_left image grown rip [] l true e = ap not (cond_some (is_among grown rip) (span image rip) l e).0
by_left image grown rip (x ∷ xs) l true e = refl

pub not_missing : (image : ImageData) (grown : List ℕ) (d : Stand) (l : List ℕ) → entered image grown d.cpu.rip d.left ≡ Some l → is_missing image grown d ≡ false
not_missing image grown d l e = by_left image grown d.cpu.rip d.left l (is_code_place image d.cpu.rip) e

pub missing : (image : ImageData) (grown : List ℕ) (d : Stand) → is_code_place image d.cpu.rip ≡ true → d.left ≡ [] → is_among grown d.cpu.rip ≡ false → is_missing image grown d ≡ true
missing image grown d code none new = ap (λ x. x && is_between d.left && not (is_among grown d.cpu.rip)) code ∙ ap (λ x. is_between x && not (is_among grown d.cpu.rip)) none ∙ ap not new

-- ---- private steps

moves : (next : Option Cpu) (left : List ℕ) (e : Stand) → moved_on next left ≡ Some e → (cpu : Cpu) × (next ≡ Some cpu)
moves None left e h = absurd (none-some e h)
moves (Some cpu) left e h = (cpu, refl)

one_on : (c : CaseData) (b : Both) (k : ℕ) (d e : Stand) → b.machine.steps + k < c.limit → k ≢ 4096 → gated_step c.image b.gate.grown d ≡ Some e → next_point c b (point_at k d) ≡ Some (point_at (k + 1) e)
unfolding next_point
one_on c b k d e room few h =
    option_and_then_some (moved_on (privately (want c.image d.cpu))) (entered c.image b.gate.grown d.cpu.rip d.left) e h (λ l p q.
    let m = moves (privately (want c.image d.cpu)) l e q in
    let goes : rule_at c b (point_at k d) ≡ GoesOn = at_private c b (point_at k d) m.0 room (not_missing c.image b.gate.grown d l p) few m.1 in
    ap (next_by c b (point_at k d)) goes ∙ ap (point_on (k + 1)) h)

one_stop : (c : CaseData) (b : Both) (n k : ℕ) (p q : Point) → n ≡ suc k → next_point c b p ≡ Some q → stop_from c b n p ≡ stop_from c b k q
unfolding stop_from
one_stop c b n k p q same e = ap (λ m. stop_from c b m p) same ∙ ap (on_to (stop_from c b k) p) e

-- so many private steps further the turn stops at the same point
pub stop_on : (c : CaseData) (b : Both) (j k m : ℕ) (d e : Stand) → m ≡ k + j → m ≤ 4096 → b.machine.steps + m ≤ c.limit → gated_steps c.image b.gate.grown j d ≡ Some e → stop_from c b (4096 - k) (point_at k d) ≡ stop_from c b (4096 - m) (point_at m e)
unfolding gated_steps
stop_on c b zero k m d e same few room h =
    let n : k ≡ m = omega arith in
    let at : d ≡ e = same_Some d e h in
    ap (λ x. stop_from c b (4096 - x) (point_at x d)) n ∙ ap (λ x. stop_from c b (4096 - m) (point_at m x)) at
stop_on c b (suc j) k m d e same few room h =
    option_and_then_some (gated_step c.image b.gate.grown) (gated_steps c.image b.gate.grown j d) e h (λ x p q.
    let one = one_on c b (k + j) x e (omega arith) (let ne : k + j ≢ 4096 = omega arith in ne) q in
    let n : k + j + 1 ≡ m = omega arith in
    stop_on c b j k (k + j) d x refl (omega arith) (omega arith) p
    ∙ one_stop c b (4096 - (k + j)) (4096 - m) (point_at (k + j) x) (point_at (k + j + 1) e) (omega arith) one
    ∙ ap (λ z. stop_from c b (4096 - m) (point_at z e)) n)

stops_by : (c : CaseData) (b : Both) (p : Point) (r : Rule) → r ≢ GoesOn → next_by c b p r ≡ None
stops_by c b p AtLimit h = refl
stops_by c b p AtMiss h = refl
stops_by c b p AtMost h = refl
stops_by c b p AtEvent h = refl
stops_by c b p GoesOn h = absurd (h refl)

-- a turn stops where a rule holds
pub stop_here : (c : CaseData) (b : Both) (n : ℕ) (p : Point) (r : Rule) → r ≢ GoesOn → rule_at c b p ≡ r → stop_from c b n p ≡ p
unfolding stop_from next_point
stop_here c b zero p r h e = refl
stop_here c b (suc n) p r h e = let none : next_by c b p (rule_at c b p) ≡ None = ap (next_by c b p) e ∙ stops_by c b p r h in ap (on_to (stop_from c b n) p) none

pub comes_to : (c : CaseData) (b : Both) (j k m : ℕ) (d e : Stand) (r : Rule) → m ≡ k + j → m ≤ 4096 → b.machine.steps + m ≤ c.limit → gated_steps c.image b.gate.grown j d ≡ Some e → r ≢ GoesOn → rule_at c b (point_at m e) ≡ r → ComesTo c b (point_at k d) (point_at m e) r
comes_to c b j k m d e r same few room h stops rule = record { first = stop_on c b j k m d e same few room h ∙ stop_here c b (4096 - m) (point_at m e) r stops rule; rule = rule }

-- ---- from entry to entry

over_no : (t : ℕ) (x : Turn) → x.waiting ≡ false → x.both.machine.ending ≡ None → is_live x.both.machine t ≡ true → is_over t x ≡ false
over_no t x a b d = ap (λ z. z || not (is_none x.both.machine.ending) || not (is_live x.both.machine t)) a ∙ ap (λ (z : Option RunEnd). not (is_none z) || not (is_live x.both.machine t)) b ∙ ap not d

-- the turn goes on after what is done at a point, where the run goes on and the thread lives
pub turn_goes_on : (c : CaseData) (t left : ℕ) (p q : Point) (s : Turn) (n : Both) (journal : List Entry) (ages : List ℕ) (r : Rule) → ComesTo c s.both p q r → Acts c t q s r (turn_of n journal ages) → n.machine.ending ≡ None → is_live n.machine t ≡ true → GoesOnAs c t (suc left) p s left (point_of n t) (turn_of n journal ages)
unfolding turn_from
turn_goes_on c t left p q s n journal ages r to acts going live = λ reach right.
    let on : Turn → Option Turn = λ y. turn_from c reach t left (point_of y.both t) y in
    ap (λ z. option_and_then (λ x. unless_over on x (is_over t x)) (act c reach t z s (rule_at c s.both z))) to.first
    ∙ ap (λ z. option_and_then (λ x. unless_over on x (is_over t x)) z) (ap (act c reach t q s) to.rule ∙ acts reach right)
    ∙ ap (unless_over on (turn_of n journal ages)) (over_no t (turn_of n journal ages) refl going live)

-- the turn is over after what is done at a point, where the run has an ending, the thread's life ended or a call waits
pub turn_comes_out : (c : CaseData) (t left : ℕ) (p q : Point) (s x : Turn) (r : Rule) → ComesTo c s.both p q r → Acts c t q s r x → is_over t x ≡ true → ComesOut c t (suc left) p s x
unfolding turn_from
turn_comes_out c t left p q s x r to acts over = λ reach right.
    let on : Turn → Option Turn = λ y. turn_from c reach t left (point_of y.both t) y in
    ap (λ z. option_and_then (λ x. unless_over on x (is_over t x)) (act c reach t z s (rule_at c s.both z))) to.first
    ∙ ap (λ z. option_and_then (λ x. unless_over on x (is_over t x)) z) (ap (act c reach t q s) to.rule ∙ acts reach right)
    ∙ ap (unless_over on x) over

-- the budget is spent
pub turn_spent : (c : CaseData) (t : ℕ) (p : Point) (s : Turn) → ComesOut c t 0 p s s
unfolding turn_from
turn_spent c t p s = λ reach right. refl

pub goes_then : (c : CaseData) (t i j k : ℕ) (p q o : Point) (s x y : Turn) → GoesOnAs c t i p s j q x → GoesOnAs c t j q x k o y → GoesOnAs c t i p s k o y
goes_then c t i j k p q o s x y g h = λ reach right. g reach right ∙ h reach right

pub out_then : (c : CaseData) (t i j : ℕ) (p q : Point) (s x y : Turn) → GoesOnAs c t i p s j q x → ComesOut c t j q x y → ComesOut c t i p s y
out_then c t i j p q s x y g h = λ reach right. g reach right ∙ h reach right

-- private steps alone
pub goes_privately : (c : CaseData) (t budget j k m : ℕ) (d e : Stand) (s : Turn) → m ≡ k + j → m ≤ 4096 → s.both.machine.steps + m ≤ c.limit → gated_steps c.image s.both.gate.grown j d ≡ Some e → GoesOnAs c t budget (point_at k d) s budget (point_at m e) s
unfolding turn_from
goes_privately c t zero j k m d e s same few room h = λ reach right. refl
goes_privately c t (suc left) j k m d e s same few room h = λ reach right.
    let on : Turn → Option Turn = λ y. turn_from c reach t left (point_of y.both t) y in
    ap (λ z. option_and_then (λ x. unless_over on x (is_over t x)) (act c reach t z s (rule_at c s.both z))) (stop_on c s.both j k m d e same few room h)

-- ---- what single entries are

pub made : (c : CaseData) (e : Entry) (b n : Both) (journal : List Entry) (ages : List ℕ) → advance c b e ≡ Some n → make c e (turn_of b journal ages) ≡ Some (turn_of n (journal ++ e ∷ []) ages)
made c e b n journal ages h = makes c e (turn_of b journal ages) n h

pub over_acts : (c : CaseData) (t : ℕ) (q : Point) (b n : Both) (journal : List Entry) (ages : List ℕ) → advance c b (Over t q.k) ≡ Some n → Acts c t q (turn_of b journal ages) AtLimit (turn_of n (journal ++ Over t q.k ∷ []) ages)
over_acts c t q b n journal ages h = λ reach right. made c (Over t q.k) b n journal ages h

pub tick_acts : (c : CaseData) (t : ℕ) (q : Point) (b n : Both) (journal : List Entry) (ages : List ℕ) → advance c b (Tick t q.k) ≡ Some n → Acts c t q (turn_of b journal ages) AtMost (turn_of n (journal ++ Tick t q.k ∷ []) ages)
tick_acts c t q b n journal ages h = λ reach right. made c (Tick t q.k) b n journal ages h

-- an event, after the flushes that it needs led from the turn s to these
pub event_acts_by : (c : CaseData) (t : ℕ) (q : Point) (s : Turn) (b n : Both) (journal : List Entry) (ages : List ℕ) → flush_some c t (flushed_before (want c.image q.stand.cpu) (length (list_at s.both.machine (slot_of t)))) s ≡ Some (turn_of b journal ages) → waits_at c.image b.machine t q.stand.cpu ≡ false → advance c b (Ev t q.k) ≡ Some n → Acts c t q s AtEvent (turn_of n (journal ++ Ev t q.k ∷ []) (with_new (want c.image q.stand.cpu) ages))
event_acts_by c t q s b n journal ages flushed no_wait h = λ reach right.
    ap (option_and_then (event c t q)) flushed
    ∙ ap (event_by c t q (turn_of b journal ages)) no_wait
    ∙ made c (Ev t q.k) b n journal (with_new (want c.image q.stand.cpu) ages) h

-- ---- requests of the library

all_flushed : (w : Want) (what : Asked) (n : ℕ) → asked_by w ≡ Some what → flushed_before w n ≡ n
all_flushed (wants.Private next) what n e = absurd (none-some what e)
all_flushed (wants.Load a x) what n e = absurd (none-some what e)
all_flushed (wants.Store a x value next) what n e = absurd (none-some what e)
all_flushed (wants.Fence next) what n e = absurd (none-some what e)
all_flushed (wants.Locked a x change) what n e = absurd (none-some what e)
all_flushed (wants.Call f) what n e = refl
all_flushed (wants.Door d) what n e = refl
all_flushed (wants.Bad kind) what n e = absurd (none-some what e)

none_new : (w : Want) (what : Asked) (ages : List ℕ) → asked_by w ≡ Some what → with_new w ages ≡ ages
none_new (wants.Private next) what ages e = absurd (none-some what e)
none_new (wants.Load a x) what ages e = absurd (none-some what e)
none_new (wants.Store a x value next) what ages e = absurd (none-some what e)
none_new (wants.Fence next) what ages e = absurd (none-some what e)
none_new (wants.Locked a x change) what ages e = absurd (none-some what e)
none_new (wants.Call f) what ages e = refl
none_new (wants.Door d) what ages e = refl
none_new (wants.Bad kind) what ages e = absurd (none-some what e)

module _ (c : CaseData) (t : ℕ) (q : Point) (s : Turn) (b : Both) (journal : List Entry) (ages : List ℕ) (what : Asked) (asks : asked_by (want c.image q.stand.cpu) ≡ Some what) (flushed : flush_some c t (length (list_at s.both.machine (slot_of t))) s ≡ Some (turn_of b journal ages)) where
  flushed_all : flush_some c t (flushed_before (want c.image q.stand.cpu) (length (list_at s.both.machine (slot_of t)))) s ≡ Some (turn_of b journal ages)
  flushed_all = ap (λ n. flush_some c t n s) (all_flushed (want c.image q.stand.cpu) what (length (list_at s.both.machine (slot_of t))) asks) ∙ flushed

  -- a request that is carried out, or is bad
  pub call_acts : (n : Both) → waits_at c.image b.machine t q.stand.cpu ≡ false → advance c b (Ev t q.k) ≡ Some n → Acts c t q s AtEvent (turn_of n (journal ++ Ev t q.k ∷ []) ages)
  call_acts n no_wait h = subst (λ z. Acts c t q s AtEvent (turn_of n (journal ++ Ev t q.k ∷ []) z)) (none_new (want c.image q.stand.cpu) what ages asks) (event_acts_by c t q s b n journal ages flushed_all no_wait h)

  waits_then : (x : Option Turn) → waits_at c.image b.machine t q.stand.cpu ≡ true → told_waiting c t q.k (turn_of b journal ages) ≡ x → option_and_then (event c t q) (flush_some c t (flushed_before (want c.image q.stand.cpu) (length (list_at s.both.machine (slot_of t)))) s) ≡ x
  waits_then x wait h = ap (option_and_then (event c t q)) flushed_all ∙ ap (event_by c t q (turn_of b journal ages)) wait ∙ h

  -- one that waits, right after the thread's last entry
  pub stay_acts : q.k ≡ 0 → waits_at c.image b.machine t q.stand.cpu ≡ true → Acts c t q s AtEvent (waiting_of b journal ages)
  stay_acts none wait = λ reach right. waits_then (Some (waiting_of b journal ages)) wait (ap (λ k. told_waiting c t k (turn_of b journal ages)) none)

  told_some : (n : Both) (k : ℕ) → 0 < k → advance c b (Wait t k) ≡ Some n → told_waiting c t k (turn_of b journal ages) ≡ Some (waiting_of n (journal ++ Wait t k ∷ []) ages)
  told_some n zero some h = absurd (omega arith)
  told_some n (suc k) some h = makes c (Wait t (suc k)) (waiting_of b journal ages) n h

  -- and after private steps, which are told
  pub wait_acts : (n : Both) → 0 < q.k → waits_at c.image b.machine t q.stand.cpu ≡ true → advance c b (Wait t q.k) ≡ Some n → Acts c t q s AtEvent (waiting_of n (journal ++ Wait t q.k ∷ []) ages)
  wait_acts n some wait h = λ reach right. waits_then (Some (waiting_of n (journal ++ Wait t q.k ∷ []) ages)) wait (told_some n q.k some h)
