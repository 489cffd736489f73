-- What a turn adds, beside entries of other slots.
use Rattle.std.proofs.Common.{◌≡◌, ℕ, ◌+◌, ◌<◌, ◌≤◌, ◌==◌, true, List, [], ◌∷◌, ◌++◌, Some, refl, sym, ap, ◌∙◌, arith, append-nil}
use Rattle.std.specs.Prelude.{All}
use Rattle.std.proofs.lemmas.Bool.Decides.{nat_tests}
use Rattle.std.proofs.lemmas.List.{append_assoc}
use Rattle.std.proofs.lemmas.List.Elements.{All-append, All-cons, All-head, All-nil, All-tail, filter-append}
use Rattle.std.proofs.lemmas.List.Sums.{sum_by-append}
use Rattle.address_space.specs.Slots.{slot_of}
use Rattle.journal_pack.specs.declared.entry.Entry.{Entry}
use Rattle.journal_pack.specs.declared.entry.Entry.TheVariants.{Ev, Tick, Flush, Wait, Miss, Grow, Over, Full, Dead}
use Rattle.journal_pack.specs.Entry.{thread_of}
use Rattle.turn_lock.specs.declared.pass.Held.{Held}
use Rattle.turn_lock.specs.Rule.{case_of, seen_of}
use Rattle.turn_lock.specs.Words.{held_value}
use Rattle.machine_model.specs.Gated.{Leads, begin}
use Rattle.machine_model.specs.Play.{own}
use Rattle.machine_model.specs.Step.{slot_in}
use Rattle.machine_laws.specs.Others.{AreOf}
use Rattle.hall_core.specs.Hall.{both}
use Rattle.thread_step.specs.Context.{Further, GoesOn, HallOf, IsTaken, Wrote, case_in, journal_in}
use Rattle.thread_step.specs.Costs.{Spends, cost_of, wait_of}

-- an entry of a thread bears its slot's number
slot_is : (t : ℕ) (e : Entry) → thread_of e ≡ Some t → slot_in e ≡ slot_of t
slot_is t (Ev u k) h = ap slot_of (let q : u ≡ t = cc in q)
slot_is t (Tick u k) h = ap slot_of (let q : u ≡ t = cc in q)
slot_is t (Flush u) h = ap slot_of (let q : u ≡ t = cc in q)
slot_is t (Wait u k) h = ap slot_of (let q : u ≡ t = cc in q)
slot_is t (Miss u k source target) h = ap slot_of (let q : u ≡ t = cc in q)
slot_is t (Grow u a) h = ap slot_of (let q : u ≡ t = cc in q)
slot_is t (Over u k) h = ap slot_of (let q : u ≡ t = cc in q)
slot_is t (Full u) h = ap slot_of (let q : u ≡ t = cc in q)
slot_is t Dead h = absurd (let no : Some t ≡ Some t = refl in cc)

pub all_own : (s t : ℕ) (es : List Entry) → slot_of t ≡ s → AreOf t es → All (λ e. slot_in e ≡ s) es
all_own s t [] slot h = All-nil (λ e. slot_in e ≡ s)
all_own s t (e ∷ es) slot h = All-cons (λ x. slot_in x ≡ s) e es (slot_is t e (All-head (λ x. thread_of x ≡ Some t) e es h) ∙ slot) (all_own s t es slot (All-tail (λ x. thread_of x ≡ Some t) e es h))

pub own_all : (s : ℕ) (es : List Entry) → All (λ e. slot_in e ≡ s) es → own s es ≡ es
own_all s [] h = refl
own_all s (e ∷ es) h =
    let q : slot_in e ≡ s = All-head (λ x. slot_in x ≡ s) e es h in
    let here : (slot_in e == s) ≡ true = grind (arith, nat_tests) in
    rw here (ap (λ xs. e ∷ xs) (own_all s es (All-tail (λ x. slot_in x ≡ s) e es h)))

pub own_append : (s : ℕ) (xs ys : List Entry) → own s (xs ++ ys) ≡ own s xs ++ own s ys
own_append s xs ys = filter-append (λ e. slot_in e == s) xs ys

pub spends_wrote : (s t most few : ℕ) (old new : HallOf) → slot_of t ≡ s → new.case ≡ old.case → Spends t most few old.journal new.journal → Wrote s old new
spends_wrote s t most few old new slot case p = record { case = case; adds = (p.entries, p.journal, all_own s t p.entries slot p.spent.own) }

-- nothing was added
pub wrote_none : (s : ℕ) (h : HallOf) → Wrote s h h
wrote_none s h = record { case = refl; adds = ([], sym (append-nil h.journal), All-nil (λ e. slot_in e ≡ s)) }

-- ---- entries of other slots

pub goes_nowhere : (s : ℕ) (h : HallOf) → Leads h.case (begin h.case) h.journal (both h) → GoesOn s h h
goes_nowhere s h leads = record { case = refl; before = leads; entries = []; journal = sym (append-nil h.journal); others = refl; after = leads }

pub goes_then : (s : ℕ) (h mid new : HallOf) → GoesOn s h mid → GoesOn s mid new → GoesOn s h new
goes_then s h mid new p q = record {
  case = q.case ∙ p.case;
  before = p.before;
  entries = p.entries ++ q.entries;
  journal = q.journal ∙ ap (λ j. j ++ q.entries) p.journal ∙ append_assoc h.journal p.entries q.entries;
  others = own_append s p.entries q.entries ∙ ap (λ j. j ++ own s q.entries) p.others ∙ q.others;
  after = q.after;
}

-- ---- entries of other slots, and then of the thread

pub further_by : (s t most few : ℕ) (h mid new : HallOf) → slot_of t ≡ s → GoesOn s h mid → new.case ≡ mid.case → Spends t most few mid.journal new.journal → Further s t most few h new
further_by s t most few h mid new slot g case p = record {
  case = case ∙ g.case;
  entries = p.entries;
  is = ap (own s) p.journal ∙ own_append s mid.journal p.entries ∙ ap (λ j. own s j ++ own s p.entries) g.journal ∙ ap (λ j. j ++ own s p.entries) (own_append s h.journal g.entries ∙ ap (λ j. own s h.journal ++ j) g.others ∙ append-nil (own s h.journal)) ∙ ap (λ j. own s h.journal ++ j) (own_all s p.entries (all_own s t p.entries slot p.spent.own));
  spent = p.spent;
  more = g.entries ++ p.entries;
  journal = p.journal ∙ ap (λ j. j ++ p.entries) g.journal ∙ append_assoc h.journal g.entries p.entries;
}

-- the slot has no entry more
pub none_added : (s : ℕ) (h new : HallOf) → GoesOn s h new → own s new.journal ≡ own s h.journal
none_added s h new g = ap (own s) g.journal ∙ own_append s h.journal g.entries ∙ ap (λ j. own s h.journal ++ j) g.others ∙ append-nil (own s h.journal)

pub further_none : (s t : ℕ) (h new : HallOf) → GoesOn s h new → Further s t 0 0 h new
further_none s t h new g = record {
  case = g.case;
  entries = [];
  is = none_added s h new g ∙ sym (append-nil (own s h.journal));
  spent = record { own = All-nil (λ e. thread_of e ≡ Some t); costs = omega arith; waits = omega arith };
  more = g.entries;
  journal = g.journal;
}

pub further_then : (s t m n v w : ℕ) (h mid new : HallOf) → Further s t m v h mid → Further s t n w mid new → Further s t (m + n) (v + w) h new
further_then s t m n v w h mid new p q =
    let costs = sum_by-append cost_of p.entries q.entries in
    let waits = sum_by-append wait_of p.entries q.entries in
    record {
      case = q.case ∙ p.case;
      entries = p.entries ++ q.entries;
      is = q.is ∙ ap (λ j. j ++ q.entries) p.is ∙ append_assoc (own s h.journal) p.entries q.entries;
      spent = record {
        own = All-append (λ e. thread_of e ≡ Some t) p.entries q.entries p.spent.own q.spent.own;
        costs = omega (arith, costs, p.spent.costs, q.spent.costs);
        waits = omega (arith, waits, p.spent.waits, q.spent.waits);
      };
      more = p.more ++ q.more;
      journal = q.journal ∙ ap (λ j. j ++ q.more) p.journal ∙ append_assoc h.journal p.more q.more;
    }

pub further_more : (s t m n v w : ℕ) (h new : HallOf) → m ≤ n → v ≤ w → Further s t m v h new → Further s t n w h new
further_more s t m n v w h new le few p = record { case = p.case; entries = p.entries; is = p.is; spent = record { own = p.spent.own; costs = omega (arith, le, p.spent.costs); waits = omega (arith, few, p.spent.waits) }; more = p.more; journal = p.journal }

-- a slot is that of a thread
pub thread_of_slot : (s : ℕ) → s < 64 → slot_of s ≡ s
unfolding slot_of
thread_of_slot s low = omega (arith, low)

-- ---- the state in and out of the lock

-- the value in a held lock may have changed since it was taken
pub taken_as : (held back : Held HallOf) (x : HallOf) → back.seat ≡ held.seat → x ≡ held_value held → IsTaken held (held_value held) → IsTaken back x
taken_as held back x seat is k = record {
  case = ap (λ s. case_of case_in s.me.0) seat ∙ k.case ∙ ap (λ (z : HallOf). Some z.case) (sym is);
  journal = ap (λ s. seen_of journal_in s.me.0) seat ∙ k.journal ∙ ap (λ (z : HallOf). z.journal) (sym is);
}
