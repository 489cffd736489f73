-- A journal that is followed is played, and has no fault.
use Rattle.std.proofs.Common.{◌≡◌, ℕ, zero, suc, ◌<◌, true, false, List, [], ◌∷◌, Some, None, sym, ap, ◌∙◌, subst, arith, take}
use Rattle.std.specs.Prelude.{slice_get, option_and_then}
use Rattle.std.proofs.lemmas.Option.{none-some}
use Rattle.journal_pack.specs.declared.entry.Entry.{Entry}
use Rattle.machine_model.specs.CaseData.{CaseData}
use Rattle.machine_model.specs.Gated.{Both, advance, begin, with_machine}
use Rattle.machine_model.specs.Step.{step}
use Rattle.replay_view.specs.declared.fault.EntryFault.{EntryFault}
use Rattle.replay_view.specs.declared.fault.EntryFault.TheVariants.{NoStep, NotGated, Crowded}
use Rattle.replay_view.specs.Follow.{Fits, FollowedIsPlayed, Follows, IsTaken, OneAnswer}
use Rattle.replay_view.proofs.Walked.{leads}
use Rattle.machine_model.proofs.Gates.{leads_play}

no_advance : (c : CaseData) (b y : Both) (e : Entry) → IsTaken c b e y → step c b.machine e ≡ None → ⊥
unfolding advance
no_advance c b y e t h = none-some y (sym (ap (option_and_then (with_machine c b e)) h) ∙ t.comes.step)

-- what is taken has no fault
refuted : (c : CaseData) (b y : Both) (e : Entry) (p : ℕ) (fault : EntryFault) → IsTaken c b e y → Fits c b e p fault → ⊥
refuted c b y e p (NoStep at) t h = no_advance c b y e t h.1
refuted c b y e p (NotGated at) t h = h.2 y t.comes
refuted c b y e p (Crowded at) t h = let no : true ≡ false = sym h.2 ∙ t.room in cc

same_next : (c : CaseData) (b x y : Both) (e : Entry) → IsTaken c b e x → IsTaken c b e y → x ≡ y
same_next c b x y e t u = let both : Some x ≡ Some y = sym t.comes.step ∙ u.comes.step in cc

pub unmatched : (c : CaseData) (b n m : Both) (es : List Entry) (p k at : ℕ) (e : Entry) (fault : EntryFault) → Follows c b (take k es) n → p < k → Follows c b (take p es) m → slice_get es p ≡ Some e → Fits c m e at fault → ⊥
unfolding Follows
unmatched c b n m [] zero k at e fault h lt g here fits = none-some e here
unmatched c b n m [] (suc p) k at e fault h lt g here fits = none-some e here
unmatched c b n m (x ∷ es) p zero at e fault h lt g here fits = omega (arith, lt)
unmatched c b n m (x ∷ es) zero (suc k) at e fault h lt g here fits =
    let same : x ≡ e = cc in
    refuted c m h.0 e at fault (subst (λ z. IsTaken c z e h.0) g (subst (λ z. IsTaken c b z h.0) same h.1)) fits
unmatched c b n m (x ∷ es) (suc p) (suc k) at e fault h lt g here fits =
    unmatched c g.0 n m es p k at e fault (subst (λ z. Follows c z (take k es) n) (same_next c b h.0 g.0 x h.1 g.1) h.2) (omega (arith, lt)) g.2 here fits

pub one_answer : OneAnswer
one_answer c journal n p b fault h lt f = unmatched c (begin c) b f.both journal p n p f.entry fault h lt f.before f.here f.fits

pub followed_is_played : FollowedIsPlayed
followed_is_played c entries b h = let way = leads c (begin c) b entries h in (way, leads_play c b entries way)
