-- What a run that goes on began with, what flushes and growth leave of private steps, and that no place is grown twice.
use Rattle.std.proofs.Common.{◌≡◌, ℕ, ◌<◌, Bool, true, false, List, [], ◌∷◌, ◌++◌, Some, None, refl, sym, ap, ◌∙◌, subst, arith, ◌==◌}
use Rattle.std.specs.List.Sorted.{IsStrictlySortedBy}
use Rattle.std.specs.Ordering.{nat_cmp}
use Rattle.std.proofs.lemmas.Map.Keys.{sorted_tail}
use Rattle.std.proofs.lemmas.Map.Views.{All-after_first}
use Rattle.address_space.specs.Slots.{slot_of}
use Rattle.basic_blocks.specs.Reach.{is_among}
use Rattle.journal_pack.specs.declared.entry.Entry.{Entry}
use Rattle.journal_pack.specs.declared.entry.Entry.TheVariants.{Ev, Tick, Flush, Wait, Miss, Grow, Over, Full, Dead}
use Rattle.machine_model.specs.CaseData.{CaseData}
use Rattle.machine_model.specs.State.{Machine}
use Rattle.machine_model.specs.Step.{cpu_at}
use Rattle.machine_model.specs.Gated.{Both, Spot, Stand, Within, advance, begin, gated_steps, grown_by, spot_at, stand_at, Leads}
use Rattle.machine_model.specs.Own.{HasNoRepeats, IsAhead, IsWhole}
use Rattle.machine_model.proofs.Gates.{grown_after, halfway, not_grown_yet, steps_grow}
use Rattle.machine_model.proofs.Own.{made_of}
use Rattle.machine_model.proofs.OwnKinds.{flush_own, flush_waits, grow_own}
use Rattle.machine_model.proofs.Reaches.{or_second, sorted_below}

going_at : (c : CaseData) (b n : Both) (es : List Entry) → Leads c b es n → n.machine.ending ≡ None → b.machine.ending ≡ None
unfolding Leads
going_at c b n [] p g = ap (λ (x : Both). x.machine.ending) p ∙ g
going_at c b n (e ∷ es) p g = (made_of c b p.0 e p.1).is.going

-- what a run that goes on began with goes on
pub going_before : (c : CaseData) (before after : List Entry) (n : Both) → Leads c (begin c) (before ++ after) n → n.machine.ending ≡ None → (m : Both) × Leads c (begin c) before m × (m.machine.ending ≡ None)
going_before c before after n p g =
    let h = halfway c (begin c) n before after p in
    (h.middle, h.before, going_at c h.middle n after h.after g)

-- private steps that may be made before a flush or growth of their own thread may be made after it
pub flush_ahead : (c : CaseData) (b n : Both) (t k : ℕ) (d : Stand) → IsWhole b → advance c b (Flush t) ≡ Some n → IsAhead c b (slot_of t) k d → IsAhead c n (slot_of t) k d
flush_ahead c b n t k d whole p ahead =
    let w = flush_waits c b n t p in
    let v = flush_own c b n t w.0 w.1 whole p w.2 in
    ap (gated_steps c.image n.gate.grown k) v.0.stand ∙ ap (λ g. gated_steps c.image g k (stand_at b (slot_of t))) v.2 ∙ ahead

pub grow_ahead : (c : CaseData) (b n : Both) (t a k : ℕ) (d : Stand) → IsWhole b → advance c b (Grow t a) ≡ Some n → IsAhead c b (slot_of t) k d → IsAhead c n (slot_of t) k d
grow_ahead c b n t a k d whole p ahead =
    let v = grow_own c b n t a whole p in
    let same : stand_at n (slot_of t) ≡ stand_at b (slot_of t) = ap (λ (x : Machine). record { cpu = cpu_at x (slot_of t); left = (spot_at n.gate (slot_of t)).left }) v.0 ∙ ap (λ (x : Spot). record { cpu = cpu_at b.machine (slot_of t); left = x.left }) v.1 in
    let more : Within b.gate.grown n.gate.grown = λ x m. subst (λ z. is_among z x ≡ true) (sym v.2) (or_second (a == x) (is_among b.gate.grown x) m) in
    ap (gated_steps c.image n.gate.grown k) same ∙ steps_grow c.image b.gate.grown n.gate.grown more k (stand_at b (slot_of t)) d ahead

-- ---- no repeats

no_repeats_by : (c : CaseData) (b n : Both) (e : Entry) → advance c b e ≡ Some n → HasNoRepeats b.gate.grown → HasNoRepeats (grown_by e b.gate.grown)
no_repeats_by c b n (Ev t k) p h = h
no_repeats_by c b n (Tick t k) p h = h
no_repeats_by c b n (Flush t) p h = h
no_repeats_by c b n (Wait t k) p h = h
no_repeats_by c b n (Miss t k source target) p h = h
no_repeats_by c b n (Grow t a) p h = (not_grown_yet c b n t a p, h)
no_repeats_by c b n (Over t k) p h = h
no_repeats_by c b n (Full t) p h = h
no_repeats_by c b n Dead p h = h

no_repeats_on : (c : CaseData) (b n : Both) (es : List Entry) → HasNoRepeats b.gate.grown → Leads c b es n → HasNoRepeats n.gate.grown
unfolding Leads
no_repeats_on c b n [] h p = subst (λ (x : Both). HasNoRepeats x.gate.grown) p h
no_repeats_on c b n (e ∷ es) h p = no_repeats_on c p.0 n es (subst HasNoRepeats (sym (grown_after c b p.0 e p.1)) (no_repeats_by c b p.0 e p.1 h)) p.3

absent : (b : Bool) → (b ≡ true → ⊥) → b ≡ false
absent true f = absurd (f refl)
absent false f = refl

pub rising : (xs : List ℕ) → IsStrictlySortedBy nat_cmp xs → HasNoRepeats xs
rising [] s = tt
rising (x ∷ xs) s = (absent (is_among xs x) (λ m. let lt : x < x = sorted_below x x xs (All-after_first nat_cmp x xs s) m in omega arith), rising xs (sorted_tail nat_cmp x xs s))

-- no place is grown twice, where the first places rise
pub no_repeats : (c : CaseData) (n : Both) (es : List Entry) → IsStrictlySortedBy nat_cmp c.first → Leads c (begin c) es n → HasNoRepeats n.gate.grown
unfolding begin
no_repeats c n es s p = no_repeats_on c (begin c) n es (rising c.first s) p
