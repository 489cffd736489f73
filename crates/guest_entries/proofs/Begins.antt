-- What a turn does only appends entries to its journal.
use Rattle.std.proofs.Common.{◌≡◌, ℕ, zero, suc, ◌+◌, ◌-◌, ◌≤◌, Bool, true, false, List, [], ◌∷◌, ◌++◌, length, Option, Some, None, sym, ap, ◌∙◌, subst, arith, ◌==◌, nat_le, nat_lt}
use Rattle.std.proofs.lemmas.List.{append-nil, append_assoc}
use Rattle.std.proofs.lemmas.Option.{option_and_then_some, none-some, same_Some}
use Rattle.address_space.specs.Slots.{slot_of}
use Rattle.x86_model.specs.Want.{want}
use Rattle.journal_pack.specs.declared.entry.Entry.{Entry}
use Rattle.journal_pack.specs.declared.entry.Entry.TheVariants.{Ev, Tick, Flush, Wait, Miss, Grow, Over, Full}
use Rattle.machine_model.specs.declared.ending.RunEnd.{RunEnd}
use Rattle.machine_model.specs.CaseData.{CaseData}
use Rattle.machine_model.specs.State.{list_at}
use Rattle.machine_model.specs.Step.{waits_at}
use Rattle.machine_model.specs.Gated.{most_grown, rest_of}
use Rattle.machine_model.specs.Serial.{AtEvent, AtLimit, AtMiss, AtMost, GoesOn, Point, Reaches, Rule, Rules, Turn, act, after_miss, aged, event, event_by, flush, flush_if, flush_old, flush_some, flushed_before, full_or, grow_all, grow_if, grow_reach, is_over, make, miss, point_of, rule_at, settle, settled, stop_from, told_waiting, turn, turn_from, ungrown, unless_over, with_new}
use Rattle.machine_model.proofs.SerialGated.{made}

-- one journal begins with another
abbrev pub Begins : List Entry → List Entry → Type 0
Begins before after = (rest : List Entry) × (after ≡ before ++ rest)

pub begins_same : (s x : Turn) → Some s ≡ Some x → Begins s.journal x.journal
begins_same s x p = ([], ap (λ (y : Turn). y.journal) (sym (same_Some s x p)) ∙ sym (append-nil s.journal))

pub begins_then : (a b d : List Entry) → Begins a b → Begins b d → Begins a d
begins_then a b d p q = (p.0 ++ q.0, q.1 ∙ ap (λ z. z ++ q.0) p.1 ∙ append_assoc a p.0 q.0)

-- ---- single entries

pub make_begins : (c : CaseData) (e : Entry) (s x : Turn) → make c e s ≡ Some x → Begins s.journal x.journal
make_begins c e s x p = let m = made c e s x p in (e ∷ [], ap (λ (y : Turn). y.journal) (sym m.is))

pub flush_begins : (c : CaseData) (t : ℕ) (s x : Turn) → flush c t s ≡ Some x → Begins s.journal x.journal
flush_begins c t s x p = make_begins c (Flush t) (record s { ages = rest_of s.ages }) x p

pub flush_some_begins : (c : CaseData) (t n : ℕ) (s x : Turn) → flush_some c t n s ≡ Some x → Begins s.journal x.journal
unfolding flush_some
flush_some_begins c t zero s x p = begins_same s x p
flush_some_begins c t (suc n) s x p =
    option_and_then_some (flush_some c t n) (flush c t s) x p (λ y q r.
    begins_then s.journal y.journal x.journal (flush_begins c t s y q) (flush_some_begins c t n y x r))

-- more flushes begin with fewer
pub flushes_begin : (c : CaseData) (t j n : ℕ) (s y x : Turn) → j ≤ n → flush_some c t j s ≡ Some y → flush_some c t n s ≡ Some x → Begins y.journal x.journal
unfolding flush_some
flushes_begin c t zero n s y x le p q = subst (λ (z : Turn). Begins z.journal x.journal) (same_Some s y p) (flush_some_begins c t n s x q)
flushes_begin c t (suc j) zero s y x le p q = absurd (omega (arith, le))
flushes_begin c t (suc j) (suc n) s y x le p q =
    option_and_then_some (flush_some c t j) (flush c t s) y p (λ a one on.
    option_and_then_some (flush_some c t n) (flush c t s) x q (λ b same rest.
    let is : b ≡ a = same_Some b a (sym same ∙ one) in
    flushes_begin c t j n a y x (omega (arith, le)) on (subst (λ z. flush_some c t n z ≡ Some x) is rest)))

-- ---- events

told_begins : (c : CaseData) (t k : ℕ) (s x : Turn) → told_waiting c t k s ≡ Some x → Begins s.journal x.journal
told_begins c t zero s x p = begins_same (record s { waiting = true }) x p
told_begins c t (suc k) s x p = make_begins c (Wait t (suc k)) (record s { waiting = true }) x p

event_by_begins : (c : CaseData) (t : ℕ) (q : Point) (s x : Turn) (b : Bool) → event_by c t q s b ≡ Some x → Begins s.journal x.journal
event_by_begins c t q s x true p = told_begins c t q.k s x p
event_by_begins c t q s x false p = make_begins c (Ev t q.k) (record s { ages = with_new (want c.image q.stand.cpu) s.ages }) x p

pub event_begins : (c : CaseData) (t : ℕ) (q : Point) (s x : Turn) → event c t q s ≡ Some x → Begins s.journal x.journal
event_begins c t q s x p = event_by_begins c t q s x (waits_at c.image s.both.machine t q.stand.cpu) p

-- ---- misses and growth

pub grow_all_begins : (c : CaseData) (t : ℕ) (places : List ℕ) (s x : Turn) → grow_all c t places s ≡ Some x → Begins s.journal x.journal
unfolding grow_all
grow_all_begins c t [] s x p = begins_same s x p
grow_all_begins c t (a ∷ more) s x p =
    option_and_then_some (grow_all c t more) (make c (Grow t a) s) x p (λ y q r.
    begins_then s.journal y.journal x.journal (make_begins c (Grow t a) s y q) (grow_all_begins c t more y x r))

-- growth of more places begins with that of the first ones
pub growths_begin : (c : CaseData) (t : ℕ) (places more : List ℕ) (s y x : Turn) → grow_all c t places s ≡ Some y → grow_all c t (places ++ more) s ≡ Some x → Begins y.journal x.journal
unfolding grow_all
growths_begin c t [] more s y x p q = subst (λ (z : Turn). Begins z.journal x.journal) (same_Some s y p) (grow_all_begins c t more s x q)
growths_begin c t (a ∷ places) more s y x p q =
    option_and_then_some (grow_all c t places) (make c (Grow t a) s) y p (λ d one on.
    option_and_then_some (grow_all c t (places ++ more)) (make c (Grow t a) s) x q (λ b same rest.
    let is : b ≡ d = same_Some b d (sym same ∙ one) in
    growths_begin c t places more d y x on (subst (λ z. grow_all c t (places ++ more) z ≡ Some x) is rest)))

grow_if_begins : (c : CaseData) (t : ℕ) (more : List ℕ) (s x : Turn) (b : Bool) → grow_if c t more s b ≡ Some x → Begins s.journal x.journal
grow_if_begins c t more s x true p = grow_all_begins c t more s x p
grow_if_begins c t more s x false p = begins_same s x p

pub grow_reach_begins : (c : CaseData) (t : ℕ) (places : List ℕ) (s x : Turn) → grow_reach c t places s ≡ Some x → Begins s.journal x.journal
grow_reach_begins c t places s x p = grow_if_begins c t (ungrown s.both.gate.grown places) s x (nat_le (length s.both.gate.grown + length (ungrown s.both.gate.grown places)) most_grown) p

pub full_or_begins : (c : CaseData) (reach : Reaches) (t g : ℕ) (s x : Turn) (b : Bool) → full_or c reach t g s b ≡ Some x → Begins s.journal x.journal
full_or_begins c reach t g s x true p = make_begins c (Full t) s x p
full_or_begins c reach t g s x false p =
    option_and_then_some (grow_reach c t (reach g)) (make c (Grow t g) s) x p (λ y q r.
    begins_then s.journal y.journal x.journal (make_begins c (Grow t g) s y q) (grow_reach_begins c t (reach g) y x r))

pub after_miss_begins : (c : CaseData) (reach : Reaches) (t g : ℕ) (b : Bool) (s x : Turn) → after_miss c reach t g b s ≡ Some x → Begins s.journal x.journal
after_miss_begins c reach t g true s x p = begins_same s x p
after_miss_begins c reach t g false s x p = full_or_begins c reach t g s x (length s.both.gate.grown == most_grown) p

pub miss_begins : (c : CaseData) (reach : Reaches) (t : ℕ) (q : Point) (s x : Turn) → miss c reach t q s ≡ Some x → Begins s.journal x.journal
miss_begins c reach t q s x p =
    option_and_then_some (after_miss c reach t q.stand.cpu.rip c.strict) (make c (Miss t q.k q.stand.cpu.last q.stand.cpu.rip) s) x p (λ y m r.
    begins_then s.journal y.journal x.journal (make_begins c (Miss t q.k q.stand.cpu.last q.stand.cpu.rip) s y m) (after_miss_begins c reach t q.stand.cpu.rip c.strict y x r))

-- ---- what is done at a point

pub act_begins : (c : CaseData) (reach : Reaches) (t : ℕ) (q : Point) (s x : Turn) (r : Rule) → act c reach t q s r ≡ Some x → Begins s.journal x.journal
act_begins c reach t q s x AtLimit p = make_begins c (Over t q.k) s x p
act_begins c reach t q s x AtMiss p = miss_begins c reach t q s x p
act_begins c reach t q s x AtMost p = make_begins c (Tick t q.k) s x p
act_begins c reach t q s x AtEvent p =
    let n = flushed_before (want c.image q.stand.cpu) (length (list_at s.both.machine (slot_of t))) in
    option_and_then_some (event c t q) (flush_some c t n s) x p (λ y f e.
    begins_then s.journal y.journal x.journal (flush_some_begins c t n s y f) (event_begins c t q y x e))
act_begins c reach t q s x GoesOn p = absurd (none-some x p)

-- before a step that isn't private the writes that go to memory come first, one after the other
pub act_begins_after : (c : CaseData) (reach : Reaches) (t j n : ℕ) (q : Point) (s y x : Turn) → flushed_before (want c.image q.stand.cpu) (length (list_at s.both.machine (slot_of t))) ≡ n → j ≤ n → flush_some c t j s ≡ Some y → act c reach t q s AtEvent ≡ Some x → Begins y.journal x.journal
act_begins_after c reach t j n q s y x count le p a =
    let m = flushed_before (want c.image q.stand.cpu) (length (list_at s.both.machine (slot_of t))) in
    option_and_then_some (event c t q) (flush_some c t m s) x a (λ z f e.
    begins_then y.journal z.journal x.journal (flushes_begin c t j n s y z le p (subst (λ k. flush_some c t k s ≡ Some z) count f)) (event_begins c t q z x e))

-- all of them
pub act_begins_flushed : (c : CaseData) (reach : Reaches) (t n : ℕ) (q : Point) (s y x : Turn) → flushed_before (want c.image q.stand.cpu) (length (list_at s.both.machine (slot_of t))) ≡ n → flush_some c t n s ≡ Some y → act c reach t q s AtEvent ≡ Some x → Begins y.journal x.journal
act_begins_flushed c reach t n q s y x count p a = act_begins_after c reach t n n q s y x count (omega arith) p a

-- a miss comes first, and then what follows it
pub act_begins_missed : (c : CaseData) (reach : Reaches) (t : ℕ) (q : Point) (s y x : Turn) → make c (Miss t q.k q.stand.cpu.last q.stand.cpu.rip) s ≡ Some y → act c reach t q s AtMiss ≡ Some x → Begins y.journal x.journal
act_begins_missed c reach t q s y x p a =
    option_and_then_some (after_miss c reach t q.stand.cpu.rip c.strict) (make c (Miss t q.k q.stand.cpu.last q.stand.cpu.rip) s) x a (λ z m r.
    subst (λ (w : Turn). Begins w.journal x.journal) (same_Some z y (sym m ∙ p)) (after_miss_begins c reach t q.stand.cpu.rip c.strict z x r))

-- ---- turns

unless_over_begins : (on : Turn → Option Turn) (s x : Turn) (b : Bool) → ((z : Turn) → on s ≡ Some z → Begins s.journal z.journal) → unless_over on s b ≡ Some x → Begins s.journal x.journal
unless_over_begins on s x true h p = begins_same s x p
unless_over_begins on s x false h p = h x p

pub turn_from_begins : (c : CaseData) (reach : Reaches) (t n : ℕ) (p : Point) (s x : Turn) → turn_from c reach t n p s ≡ Some x → Begins s.journal x.journal
unfolding turn_from
turn_from_begins c reach t zero p s x e = begins_same s x e
turn_from_begins c reach t (suc n) p s x e =
    let stop = stop_from c s.both (4096 - p.k) p in
    let on : Turn → Option Turn = λ y. turn_from c reach t n (point_of y.both t) y in
    option_and_then_some (λ y. unless_over on y (is_over t y)) (act c reach t stop s (rule_at c s.both stop)) x e (λ y a w.
    begins_then s.journal y.journal x.journal (act_begins c reach t stop s y (rule_at c s.both stop) a) (unless_over_begins on y x (is_over t y) (λ z k. turn_from_begins c reach t n (point_of y.both t) y z k) w))

flush_if_begins : (c : CaseData) (t : ℕ) (on : Turn → Option Turn) (s x : Turn) (b : Bool) → ((y z : Turn) → on y ≡ Some z → Begins y.journal z.journal) → flush_if c t on s b ≡ Some x → Begins s.journal x.journal
flush_if_begins c t on s x true h p = option_and_then_some on (flush c t s) x p (λ y q r. begins_then s.journal y.journal x.journal (flush_begins c t s y q) (h y x r))
flush_if_begins c t on s x false h p = begins_same s x p

pub flush_old_begins : (c : CaseData) (t hold : ℕ) (ages : List ℕ) (s x : Turn) → flush_old c t hold ages s ≡ Some x → Begins s.journal x.journal
unfolding flush_old
flush_old_begins c t hold [] s x p = begins_same s x p
flush_old_begins c t hold (a ∷ ages) s x p = flush_if_begins c t (flush_old c t hold ages) s x (nat_lt hold a) (λ y z k. flush_old_begins c t hold ages y z k) p

settled_begins : (c : CaseData) (t hold : ℕ) (s x : Turn) (end : Option RunEnd) → settled c t hold s end ≡ Some x → Begins s.journal x.journal
settled_begins c t hold s x None p = flush_old_begins c t hold (aged s).ages (aged s) x p
settled_begins c t hold s x (Some e) p = begins_same s x p

pub settle_begins : (c : CaseData) (t hold : ℕ) (s x : Turn) → settle c t hold s ≡ Some x → Begins s.journal x.journal
settle_begins c t hold s x p = settled_begins c t hold s x s.both.machine.ending p

pub turn_begins : (c : CaseData) (reach : Reaches) (r : Rules) (t : ℕ) (p : Point) (s x : Turn) → turn c reach r t p s ≡ Some x → Begins s.journal x.journal
unfolding turn
turn_begins c reach r t p s x e =
    option_and_then_some (settle c t r.hold) (turn_from c reach t r.turn p s) x e (λ y w v.
    begins_then s.journal y.journal x.journal (turn_from_begins c reach t r.turn p s y w) (settle_begins c t r.hold y x v))
