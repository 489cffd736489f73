-- What an entry of a turn costs of its budget.
use Rattle.std.proofs.Common.{◌≡◌, ℕ, zero, suc, ◌+◌, ◌≤◌, Bool, true, false, List, [], ◌∷◌, ◌++◌, length, Some, refl, sym, subst, ap, ◌∙◌, inl, inr, arith, append-nil}
use Rattle.std.specs.Prelude.{All}
use Rattle.std.proofs.lemmas.List.{append_assoc}
use Rattle.std.proofs.lemmas.List.Elements.{All-append, All-cons, All-head, All-nil, All-tail}
use Rattle.std.proofs.lemmas.List.Sums.{sum_by-append, sum_by-cons}
use Rattle.std.proofs.lemmas.Option.{none-some, option_and_then_some, same_Some}
use Rattle.address_space.specs.Slots.{slot_of}
use Rattle.x86_model.specs.Want.{want}
use Rattle.journal_pack.specs.declared.entry.Entry.{Entry}
use Rattle.journal_pack.specs.declared.entry.Entry.TheVariants.{Ev, Tick, Flush, Wait, Miss, Grow, Over, Full, Dead}
use Rattle.journal_pack.specs.Entry.{thread_of}
use Rattle.machine_model.specs.CaseData.{CaseData}
use Rattle.machine_model.specs.Serial.{AtEvent, AtLimit, AtMiss, AtMost, GoesOn, Point, Reaches, Rule, Turn, act, after_miss, event, event_by, flush, flush_some, flushed_before, full_or, grow_all, grow_if, grow_reach, make, told_waiting, ungrown}
use Rattle.machine_model.specs.State.{list_at}
use Rattle.machine_model.specs.Step.{waits_at}
use Rattle.machine_model.proofs.SerialGated.{made}
use Rattle.guest_entries.specs.Entered.{TellsPartly}
use Rattle.guest_entries.specs.Steps.{AddsFree, IsFree}
use Rattle.thread_step.specs.Costs.{AreSpent, Spends, cost_of, wait_of}

pub spends_none : (t : ℕ) (j : List Entry) → Spends t 0 0 j j
spends_none t j = record { entries = []; journal = sym (append-nil j); spent = record { own = All-nil (λ e. thread_of e ≡ Some t); costs = omega arith; waits = omega arith } }

pub spends_then : (t m n v w : ℕ) (a b d : List Entry) → Spends t m v a b → Spends t n w b d → Spends t (m + n) (v + w) a d
spends_then t m n v w a b d p q =
    let costs = sum_by-append cost_of p.entries q.entries in
    let waits = sum_by-append wait_of p.entries q.entries in
    record {
      entries = p.entries ++ q.entries;
      journal = q.journal ∙ ap (λ j. j ++ q.entries) p.journal ∙ append_assoc a p.entries q.entries;
      spent = record {
        own = All-append (λ e. thread_of e ≡ Some t) p.entries q.entries p.spent.own q.spent.own;
        costs = omega (arith, costs, p.spent.costs, q.spent.costs);
        waits = omega (arith, waits, p.spent.waits, q.spent.waits);
      };
    }

pub spends_more : (t m n v w : ℕ) (a b : List Entry) → m ≤ n → v ≤ w → Spends t m v a b → Spends t n w a b
spends_more t m n v w a b le few p = record { entries = p.entries; journal = p.journal; spent = record { own = p.spent.own; costs = omega (arith, le, p.spent.costs); waits = omega (arith, few, p.spent.waits) } }

one : (t : ℕ) (j : List Entry) (e : Entry) → thread_of e ≡ Some t → Spends t (cost_of e) (wait_of e) j (j ++ e ∷ [])
one t j e own =
    let costs = sum_by-cons cost_of e [] in
    let waits = sum_by-cons wait_of e [] in
    record { entries = e ∷ []; journal = refl; spent = record { own = All-cons (λ x. thread_of x ≡ Some t) e [] own (All-nil (λ x. thread_of x ≡ Some t)); costs = omega (arith, costs); waits = omega (arith, waits) } }

-- ---- what is made

pub make_spends : (c : CaseData) (t : ℕ) (e : Entry) (s x : Turn) → thread_of e ≡ Some t → make c e s ≡ Some x → Spends t (cost_of e) (wait_of e) s.journal x.journal
make_spends c t e s x own p =
    let m = made c e s x p in
    subst (λ (y : Turn). Spends t (cost_of e) (wait_of e) s.journal y.journal) m.is (one t s.journal e own)

pub waiting_stays : (c : CaseData) (e : Entry) (s x : Turn) → make c e s ≡ Some x → x.waiting ≡ s.waiting
waiting_stays c e s x p = ap (λ (y : Turn). y.waiting) (sym (made c e s x p).is)

-- nothing was spent, and whether the thread waits is as it was
pub record IsNothing (t : ℕ) (s x : Turn) : Type 0 where
  pub free : Spends t 0 0 s.journal x.journal
  pub waiting : x.waiting ≡ s.waiting

nothing_same : (t : ℕ) (s x : Turn) → Some s ≡ Some x → IsNothing t s x
nothing_same t s x p = subst (λ (y : Turn). IsNothing t s y) (same_Some s x p) (record { free = spends_none t s.journal; waiting = refl })

nothing_then : (t : ℕ) (s x y : Turn) → IsNothing t s x → IsNothing t x y → IsNothing t s y
nothing_then t s x y p q = record { free = spends_then t 0 0 0 0 s.journal x.journal y.journal p.free q.free; waiting = q.waiting ∙ p.waiting }

nothing_made : (c : CaseData) (t : ℕ) (e : Entry) (s x : Turn) → thread_of e ≡ Some t → cost_of e ≡ 0 → wait_of e ≡ 0 → make c e s ≡ Some x → IsNothing t s x
nothing_made c t e s x own cost wait p = record {
  free = spends_more t (cost_of e) 0 (wait_of e) 0 s.journal x.journal (omega (arith, cost)) (omega (arith, wait)) (make_spends c t e s x own p);
  waiting = waiting_stays c e s x p;
}

pub flushes_nothing : (c : CaseData) (t n : ℕ) (s x : Turn) → flush_some c t n s ≡ Some x → IsNothing t s x
unfolding flush_some
flushes_nothing c t zero s x p = nothing_same t s x p
flushes_nothing c t (suc n) s x p = option_and_then_some (flush_some c t n) (flush c t s) x p (λ y a b.
    let f = nothing_made c t (Flush t) _ y refl refl refl a in
    nothing_then t s y x (record { free = f.free; waiting = f.waiting }) (flushes_nothing c t n y x b))

grows_nothing : (c : CaseData) (t : ℕ) (places : List ℕ) (s x : Turn) → grow_all c t places s ≡ Some x → IsNothing t s x
unfolding grow_all
grows_nothing c t [] s x p = nothing_same t s x p
grows_nothing c t (a ∷ more) s x p = option_and_then_some (grow_all c t more) (make c (Grow t a) s) x p (λ y q r. nothing_then t s y x (nothing_made c t (Grow t a) s y refl refl refl q) (grows_nothing c t more y x r))

grow_if_nothing : (c : CaseData) (t : ℕ) (more : List ℕ) (s x : Turn) (fits : Bool) → grow_if c t more s fits ≡ Some x → IsNothing t s x
grow_if_nothing c t more s x true p = grows_nothing c t more s x p
grow_if_nothing c t more s x false p = nothing_same t s x p

full_or_nothing : (c : CaseData) (reach : Reaches) (t g : ℕ) (s x : Turn) (full : Bool) → full_or c reach t g s full ≡ Some x → IsNothing t s x
full_or_nothing c reach t g s x true p = nothing_made c t (Full t) s x refl refl refl p
full_or_nothing c reach t g s x false p = option_and_then_some (grow_reach c t (reach g)) (make c (Grow t g) s) x p (λ y q r. nothing_then t s y x (nothing_made c t (Grow t g) s y refl refl refl q) (grow_if_nothing c t (ungrown y.both.gate.grown (reach g)) y x _ r))

pub after_miss_nothing : (c : CaseData) (reach : Reaches) (t g : ℕ) (strict : Bool) (s x : Turn) → after_miss c reach t g strict s ≡ Some x → IsNothing t s x
after_miss_nothing c reach t g true s x p = nothing_same t s x p
after_miss_nothing c reach t g false s x p = full_or_nothing c reach t g s x _ p

-- ---- what a thread does at a point

-- it costs one and the thread doesn't wait, or nothing and it waits
data Acted (t : ℕ) (s x : Turn) : Type 0 where
  Goes : Spends t 1 0 s.journal x.journal → x.waiting ≡ s.waiting → Acted t s x
  Waits : Spends t 0 1 s.journal x.journal → x.waiting ≡ true → Acted t s x

makes : (c : CaseData) (t : ℕ) (e : Entry) (s x : Turn) → thread_of e ≡ Some t → cost_of e ≤ 1 → wait_of e ≡ 0 → make c e s ≡ Some x → Acted t s x
makes c t e s x own cost wait p = Goes (spends_more t (cost_of e) 1 (wait_of e) 0 s.journal x.journal cost (omega (arith, wait)) (make_spends c t e s x own p)) (waiting_stays c e s x p)

told_acted : (c : CaseData) (t k : ℕ) (s x : Turn) → told_waiting c t k s ≡ Some x → Acted t s x
told_acted c t zero s x p = subst (λ (y : Turn). Acted t s y) (same_Some _ x p) (Waits (spends_more t 0 0 0 1 s.journal s.journal (omega arith) (omega arith) (spends_none t s.journal)) refl)
told_acted c t (suc k) s x p = Waits (make_spends c t (Wait t (suc k)) (record s { waiting = true }) x refl p) (waiting_stays c (Wait t (suc k)) (record s { waiting = true }) x p)

event_acted : (c : CaseData) (t : ℕ) (q : Point) (s x : Turn) (waits : Bool) → event_by c t q s waits ≡ Some x → Acted t s x
event_acted c t q s x true p = told_acted c t q.k s x p
event_acted c t q s x false p =
    let m = make_spends c t (Ev t q.k) _ x refl p in
    Goes m (waiting_stays c (Ev t q.k) _ x p)

after_nothing : (t : ℕ) (s y x : Turn) → IsNothing t s y → Acted t y x → Acted t s x
after_nothing t s y x n (Goes p w) = Goes (spends_then t 0 1 0 0 s.journal y.journal x.journal n.free p) (w ∙ n.waiting)
after_nothing t s y x n (Waits p w) = Waits (spends_then t 0 0 0 1 s.journal y.journal x.journal n.free p) w

then_nothing : (t : ℕ) (s y x : Turn) → Acted t s y → IsNothing t y x → Acted t s x
then_nothing t s y x (Goes p w) n = Goes (spends_then t 1 0 0 0 s.journal y.journal x.journal p n.free) (n.waiting ∙ w)
then_nothing t s y x (Waits p w) n = Waits (spends_then t 0 0 1 0 s.journal y.journal x.journal p n.free) (n.waiting ∙ w)

act_acted : (c : CaseData) (reach : Reaches) (t : ℕ) (q : Point) (s x : Turn) (r : Rule) → act c reach t q s r ≡ Some x → Acted t s x
act_acted c reach t q s x AtLimit p = makes c t (Over t q.k) s x refl (omega arith) refl p
act_acted c reach t q s x AtMiss p = option_and_then_some (after_miss c reach t q.stand.cpu.rip c.strict) (make c (Miss t q.k q.stand.cpu.last q.stand.cpu.rip) s) x p (λ y a b.
    then_nothing t s y x (makes c t (Miss t q.k q.stand.cpu.last q.stand.cpu.rip) s y refl (omega arith) refl a) (after_miss_nothing c reach t q.stand.cpu.rip c.strict y x b))
act_acted c reach t q s x AtMost p = makes c t (Tick t q.k) s x refl (omega arith) refl p
act_acted c reach t q s x AtEvent p = option_and_then_some (event c t q) (flush_some c t (flushed_before (want c.image q.stand.cpu) (length (list_at s.both.machine (slot_of t)))) s) x p (λ y a b.
    after_nothing t s y x (flushes_nothing c t (flushed_before (want c.image q.stand.cpu) (length (list_at s.both.machine (slot_of t)))) s y a) (event_acted c t q y x (waits_at c.image y.both.machine t q.stand.cpu) b))
act_acted c reach t q s x GoesOn p = absurd (none-some x p)

-- what is done at a point after which the thread doesn't wait, and after which it does
pub acts_spends : (c : CaseData) (reach : Reaches) (t : ℕ) (q : Point) (s x : Turn) (r : Rule) → act c reach t q s r ≡ Some x → x.waiting ≡ false → Spends t 1 0 s.journal x.journal
acts_spends c reach t q s x r p on = elim (act_acted c reach t q s x r p) [
  | Goes a w ↦ a
  | Waits a w ↦ absurd (let no : true ≡ false = sym w ∙ on in cc)
]

pub acts_waits : (c : CaseData) (reach : Reaches) (t : ℕ) (q : Point) (s x : Turn) (r : Rule) → act c reach t q s r ≡ Some x → s.waiting ≡ false → x.waiting ≡ true → Spends t 0 1 s.journal x.journal
acts_waits c reach t q s x r p before after = elim (act_acted c reach t q s x r p) [
  | Goes a w ↦ absurd (let no : true ≡ false = sym after ∙ w ∙ before in cc)
  | Waits a w ↦ a
]

-- ---- what was made where memory was wanting

pub free_spends : (t : ℕ) (before after : List Entry) → AddsFree t before after → Spends t 0 0 before after
free_spends t before after f = record { entries = f.entries; journal = f.journal; spent = sums f.entries f.free }
  where
    nothing : (e : Entry) → IsFree t e → (thread_of e ≡ Some t) × (cost_of e ≡ 0) × (wait_of e ≡ 0)
    nothing (Ev u k) h = absurd h
    nothing (Tick u k) h = absurd h
    nothing (Flush u) h = (ap Some h, refl, refl)
    nothing (Wait u k) h = absurd h
    nothing (Miss u k source target) h = absurd h
    nothing (Grow u a) h = (ap Some h, refl, refl)
    nothing (Over u k) h = absurd h
    nothing (Full u) h = absurd h
    nothing Dead h = absurd h

    sums : (es : List Entry) → All (IsFree t) es → AreSpent t 0 0 es
    sums [] h = record { own = All-nil (λ e. thread_of e ≡ Some t); costs = omega arith; waits = omega arith }
    sums (e ∷ es) h =
        let n = nothing e (All-head (IsFree t) e es h) in
        let rest = sums es (All-tail (IsFree t) e es h) in
        let costs = sum_by-cons cost_of e es in
        let waits = sum_by-cons wait_of e es in
        record { own = All-cons (λ x. thread_of x ≡ Some t) e es n.0 rest.own; costs = omega (arith, costs, n.1, rest.costs); waits = omega (arith, waits, n.2, rest.waits) }

pub partly_spends : (t : ℕ) (old new : List Entry) (before after : ℕ) → TellsPartly t old new before after → Spends t 1 0 old new
partly_spends t old new before after (inl q) = spends_more t 0 1 0 0 old new (omega arith) (omega arith) (free_spends t old new q.0)
partly_spends t old new before after (inr q) =
    let first = free_spends t old q.0.mid q.0.first in
    let miss = one t q.0.mid (Miss t before q.0.source q.0.target) refl in
    let last = free_spends t _ new q.0.free in
    spends_then t 1 0 0 0 old _ new (spends_then t 0 1 0 0 old q.0.mid _ first miss) last
