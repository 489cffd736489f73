-- Which entries are added.
use Rattle.std.proofs.Common.{◌≡◌, ℕ, zero, suc, Bool, true, false, List, [], ◌∷◌, ◌++◌, inl, inr, Option, Some, None, refl, sym, ap, ◌∙◌, subst, nat_lt}
use Rattle.std.specs.Prelude.{All}
use Rattle.std.proofs.lemmas.List.{append-nil, append_assoc}
use Rattle.std.proofs.lemmas.List.Elements.{All-append, All-cons, All-head, All-nil, All-tail}
use Rattle.std.proofs.lemmas.Option.{option_and_then_some, same_Some}
use Rattle.journal_pack.specs.declared.entry.Entry.{Entry}
use Rattle.journal_pack.specs.declared.entry.Entry.TheVariants.{Ev, Tick, Flush, Wait, Miss, Grow, Over, Full, Dead}
use Rattle.journal_pack.specs.Entry.{thread_of}
use Rattle.machine_model.specs.declared.ending.RunEnd.{RunEnd}
use Rattle.machine_model.specs.CaseData.{CaseData}
use Rattle.machine_model.specs.Gated.{rest_of}
use Rattle.machine_model.specs.Serial.{Turn, aged, flush, flush_if, flush_old, flush_some, make, settle, settled}
use Rattle.machine_model.proofs.SerialGated.{made}
use Rattle.machine_laws.specs.Others.{AreOf}
use Rattle.guest_entries.specs.Entered.{TellsPartly}
use Rattle.guest_entries.specs.Steps.{Adds, AddsFree, IsFree}

-- ---- entries of a thread

pub adds_none : (t : ℕ) (journal : List Entry) → Adds t journal journal
adds_none t journal = record { entries = []; journal = sym (append-nil journal); own = All-nil (λ e. thread_of e ≡ Some t) }

pub adds_then : (t : ℕ) (a b d : List Entry) → Adds t a b → Adds t b d → Adds t a d
adds_then t a b d p q = record {
  entries = p.entries ++ q.entries;
  journal = q.journal ∙ ap (λ z. z ++ q.entries) p.journal ∙ append_assoc a p.entries q.entries;
  own = All-append (λ e. thread_of e ≡ Some t) p.entries q.entries p.own q.own;
}

adds_one : (t : ℕ) (journal : List Entry) (e : Entry) → thread_of e ≡ Some t → Adds t journal (journal ++ e ∷ [])
adds_one t journal e is = record { entries = e ∷ []; journal = refl; own = All-cons (λ x. thread_of x ≡ Some t) e [] is (All-nil (λ x. thread_of x ≡ Some t)) }

-- ---- entries without steps

pub free_none : (t : ℕ) (journal : List Entry) → AddsFree t journal journal
free_none t journal = record { entries = []; journal = sym (append-nil journal); free = All-nil (IsFree t) }

pub free_one : (t : ℕ) (journal : List Entry) (e : Entry) → IsFree t e → AddsFree t journal (journal ++ e ∷ [])
free_one t journal e is = record { entries = e ∷ []; journal = refl; free = All-cons (IsFree t) e [] is (All-nil (IsFree t)) }

pub free_then : (t : ℕ) (a b d : List Entry) → AddsFree t a b → AddsFree t b d → AddsFree t a d
free_then t a b d p q = record {
  entries = p.entries ++ q.entries;
  journal = q.journal ∙ ap (λ z. z ++ q.entries) p.journal ∙ append_assoc a p.entries q.entries;
  free = All-append (IsFree t) p.entries q.entries p.free q.free;
}

free_of : (t : ℕ) (e : Entry) → IsFree t e → thread_of e ≡ Some t
free_of t (Ev u k) is = absurd is
free_of t (Tick u k) is = absurd is
free_of t (Flush u) is = ap (λ z. Some z) is
free_of t (Wait u k) is = absurd is
free_of t (Miss u k source target) is = absurd is
free_of t (Grow u a) is = ap (λ z. Some z) is
free_of t (Over u k) is = absurd is
free_of t (Full u) is = absurd is
free_of t Dead is = absurd is

all_of : (t : ℕ) (es : List Entry) → All (IsFree t) es → AreOf t es
all_of t [] h = All-nil (λ e. thread_of e ≡ Some t)
all_of t (e ∷ es) h = All-cons (λ x. thread_of x ≡ Some t) e es (free_of t e (All-head (IsFree t) e es h)) (all_of t es (All-tail (IsFree t) e es h))

pub free_adds : (t : ℕ) (before after : List Entry) → AddsFree t before after → Adds t before after
free_adds t before after h = record { entries = h.entries; journal = h.journal; own = all_of t h.entries h.free }

pub partly_adds : (t : ℕ) (old new : List Entry) (before after : ℕ) → TellsPartly t old new before after → Adds t old new
partly_adds t old new before after (inl h) = free_adds t old new h.0
partly_adds t old new before after (inr h) =
    let q = h.0 in
    let e = Miss t before q.source q.target in
    adds_then t old q.mid new (free_adds t old q.mid q.first) (adds_then t q.mid (q.mid ++ e ∷ []) new (adds_one t q.mid e refl) (free_adds t (q.mid ++ e ∷ []) new q.free))

-- entries without steps before them change nothing
pub free_first : (t : ℕ) (old mid new : List Entry) (before after : ℕ) → AddsFree t old mid → TellsPartly t mid new before after → TellsPartly t old new before after
free_first t old mid new before after h (inl q) = inl (free_then t old mid new h q.0, q.1)
free_first t old mid new before after h (inr q) = inr (record { mid = q.0.mid; first = free_then t old mid q.0.mid h q.0.first; source = q.0.source; target = q.0.target; free = q.0.free }, q.1)

-- ---- writes that go to memory

make_free : (c : CaseData) (t : ℕ) (e : Entry) (s x : Turn) → IsFree t e → make c e s ≡ Some x → AddsFree t s.journal x.journal
make_free c t e s x is p = let m = made c e s x p in subst (λ (y : Turn). AddsFree t s.journal y.journal) m.is (free_one t s.journal e is)

flush_free : (c : CaseData) (t : ℕ) (s x : Turn) → flush c t s ≡ Some x → AddsFree t s.journal x.journal
flush_free c t s x p = make_free c t (Flush t) (record s { ages = rest_of s.ages }) x refl p

free_same : (t : ℕ) (s x : Turn) → Some s ≡ Some x → AddsFree t s.journal x.journal
free_same t s x p = subst (λ (y : Turn). AddsFree t s.journal y.journal) (same_Some s x p) (free_none t s.journal)

pub flushes_free : (c : CaseData) (t n : ℕ) (s x : Turn) → flush_some c t n s ≡ Some x → AddsFree t s.journal x.journal
unfolding flush_some
flushes_free c t zero s x p = free_same t s x p
flushes_free c t (suc n) s x p =
    option_and_then_some (flush_some c t n) (flush c t s) x p (λ y q r.
    free_then t s.journal y.journal x.journal (flush_free c t s y q) (flushes_free c t n y x r))

flush_if_free : (c : CaseData) (t : ℕ) (on : Turn → Option Turn) (s x : Turn) (b : Bool) → ((y z : Turn) → on y ≡ Some z → AddsFree t y.journal z.journal) → flush_if c t on s b ≡ Some x → AddsFree t s.journal x.journal
flush_if_free c t on s x true h p = option_and_then_some on (flush c t s) x p (λ y q r. free_then t s.journal y.journal x.journal (flush_free c t s y q) (h y x r))
flush_if_free c t on s x false h p = free_same t s x p

flush_old_free : (c : CaseData) (t hold : ℕ) (ages : List ℕ) (s x : Turn) → flush_old c t hold ages s ≡ Some x → AddsFree t s.journal x.journal
unfolding flush_old
flush_old_free c t hold [] s x p = free_same t s x p
flush_old_free c t hold (a ∷ ages) s x p = flush_if_free c t (flush_old c t hold ages) s x (nat_lt hold a) (λ y z k. flush_old_free c t hold ages y z k) p

settled_free : (c : CaseData) (t hold : ℕ) (s x : Turn) (end : Option RunEnd) → settled c t hold s end ≡ Some x → AddsFree t s.journal x.journal
settled_free c t hold s x None p = flush_old_free c t hold (aged s).ages (aged s) x p
settled_free c t hold s x (Some e) p = free_same t s x p

pub settle_free : (c : CaseData) (t hold : ℕ) (s x : Turn) → settle c t hold s ≡ Some x → AddsFree t s.journal x.journal
settle_free c t hold s x p = settled_free c t hold s x s.both.machine.ending p
