-- Where journals lead, and which entries may follow them.
use Rattle.std.proofs.Common.{◌≡◌, List, [], ◌∷◌, ◌++◌, Some, refl, sym, ap, ◌∙◌, subst}
use Rattle.journal_pack.specs.declared.entry.Entry.{Entry}
use Rattle.machine_model.specs.CaseData.{CaseData}
use Rattle.machine_model.specs.Gated.{Both, IsAllowed, IsGated, Leads, advance, begin}
use Rattle.machine_model.specs.Comes.{MayCome, both_of, or_stay, walk_on}
use Rattle.machine_model.proofs.Gates.{halfway, leads_more}

walk_on_append : (c : CaseData) (b : Both) (xs ys : List Entry) → walk_on c b (xs ++ ys) ≡ walk_on c (walk_on c b xs) ys
unfolding walk_on
walk_on_append c b [] ys = refl
walk_on_append c b (e ∷ xs) ys = walk_on_append c (or_stay b (advance c b e)) xs ys

walk_on_one : (c : CaseData) (b : Both) (e : Entry) → walk_on c b (e ∷ []) ≡ or_stay b (advance c b e)
unfolding walk_on
walk_on_one c b e = refl

-- one entry more
pub both_more : (c : CaseData) (es : List Entry) (e : Entry) (n : Both) → advance c (both_of c es) e ≡ Some n → both_of c (es ++ e ∷ []) ≡ n
unfolding both_of
both_more c es e n p = walk_on_append c (begin c) es (e ∷ []) ∙ walk_on_one c (walk_on c (begin c) es) e ∙ ap (or_stay (walk_on c (begin c) es)) p

leads_on_here : (c : CaseData) (b n : Both) (es : List Entry) → Leads c b es n → walk_on c b es ≡ n
unfolding Leads walk_on
leads_on_here c b n [] p = p
leads_on_here c b n (e ∷ es) p = ap (λ o. walk_on c (or_stay b o) es) p.1 ∙ leads_on_here c p.0 n es p.3

-- where a gated journal leads
pub leads_here : (c : CaseData) (es : List Entry) (n : Both) → Leads c (begin c) es n → both_of c es ≡ n
unfolding both_of
leads_here c es n p = leads_on_here c (begin c) n es p

pub gated_leads : (c : CaseData) (es : List Entry) → IsGated c es → Leads c (begin c) es (both_of c es)
gated_leads c es g = subst (λ n. Leads c (begin c) es n) (sym (leads_here c es g.0 g.1)) g.1

-- a gated journal with an entry that may come is gated
pub comes_gated : (c : CaseData) (es : List Entry) (e : Entry) → IsGated c es → MayCome c es e → IsGated c (es ++ e ∷ [])
comes_gated c es e g h = (h.next, leads_more c (begin c) (both_of c es) h.next es e (gated_leads c es g) h.step h.allowed)

first_may_come : (c : CaseData) (b n : Both) (e : Entry) → Leads c b (e ∷ []) n → (advance c b e ≡ Some n) × IsAllowed c.image b.gate e
unfolding Leads
first_may_come c b n e p = (p.1 ∙ ap (λ x. Some x) p.3, p.2)

-- the last entry of a gated journal may come after what is before it
pub comes_if_gated : (c : CaseData) (es : List Entry) (e : Entry) → IsGated c (es ++ e ∷ []) → MayCome c es e
comes_if_gated c es e g =
    let h = halfway c (begin c) g.0 es (e ∷ []) g.1 in
    let here = leads_here c es h.middle h.before in
    let p = first_may_come c h.middle g.0 e h.after in
    record {
      next = g.0;
      step = ap (λ b. advance c b e) here ∙ p.0;
      allowed = subst (λ (b : Both). IsAllowed c.image b.gate e) (sym here) p.1;
    }
