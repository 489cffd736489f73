-- The thread of a slot after entries of its own.
use Rattle.std.proofs.Common.{◌≡◌, ℕ, ◌⊎◌, inl, inr, true, false, List, [], ◌∷◌, Some, None, sym, subst, ap, ◌∙◌}
use Rattle.std.proofs.lemmas.List.Elements.{All-head, All-tail}
use Rattle.address_space.specs.Slots.{slot_of}
use Rattle.journal_pack.specs.declared.entry.Entry.{Entry}
use Rattle.journal_pack.specs.Entry.{thread_of}
use Rattle.lib_table.specs.declared.life.Life.TheVariants.{Ended}
use Rattle.lib_table.specs.Library.{LibraryData, is_kept, is_running, life_at, live_number, thread_in as lives_in}
use Rattle.lib_table.proofs.LifeLaws.{kept-next}
use Rattle.machine_model.specs.CaseData.{CaseData}
use Rattle.machine_model.specs.Gated.{Both, Leads}
use Rattle.machine_model.specs.Own.{IsWhole}
use Rattle.machine_model.specs.State.{Machine, is_live, thread_in}
use Rattle.machine_model.specs.Step.{lives}
use Rattle.machine_model.proofs.Own.{made_of, whole_stays}
use Rattle.machine_laws.specs.Lives.{Begun, Finished, LifeGoes, Stays, Taken}
use Rattle.machine_laws.specs.Others.{AreOf}
use Rattle.machine_laws.proofs.Goes.{life_goes}
use Rattle.machine_laws.proofs.SlotMoves.{own_life}
use Rattle.machine_laws.proofs.Spans.{live_there}

-- a thread that lives is the one of its slot
pub lives_there : (m : Machine) (t : ℕ) → is_live m t ≡ true → thread_in m (slot_of t) ≡ Some t
lives_there m t h = live_there m.library t h

ended_there : (l : LibraryData) (u value : ℕ) → life_at l u ≡ Ended value → lives_in l (slot_of u) ≡ None
ended_there l u value h = ap (live_number _) (sym (own_life l u (kept-next l u (ap is_kept h))) ∙ h)

-- it lives, or none does in its slot
abbrev pub LivesOrNone : Both → ℕ → Type 0
LivesOrNone b t = (is_live b.machine t ≡ true) ⊎ (thread_in b.machine (slot_of t) ≡ None)

goes_by : (c : CaseData) (b n : Both) (e : Entry) (t : ℕ) → is_live b.machine t ≡ true → LifeGoes c b n e t → LivesOrNone n t
goes_by c b n e t live (Stays same) = inl (ap is_running same ∙ live)
goes_by c b n e t live (Begun x) = inl x.after
goes_by c b n e t live (Finished x) = inr (ended_there n.machine.library t x.value x.after)
goes_by c b n e t live (Taken x) = absurd (let no : true ≡ false = sym live ∙ ap is_running x.before in cc)

-- after entries of its own
pub own_lives : (c : CaseData) (b n : Both) (t : ℕ) (es : List Entry) → IsWhole b → Leads c b es n → AreOf t es → LivesOrNone b t → LivesOrNone n t
unfolding Leads
own_lives c b n t [] whole p own h = subst (λ x. LivesOrNone x t) p h
own_lives c b n t (e ∷ es) whole p own h =
    let live : is_live b.machine t ≡ true = subst (λ o. lives b.machine o ≡ true) (All-head (λ x. thread_of x ≡ Some t) e es own) (made_of c b p.0 e p.1).is.live in
    own_lives c p.0 n t es (whole_stays c b p.0 e whole p.1) p.3 (All-tail (λ x. thread_of x ≡ Some t) e es own) (goes_by c b p.0 e t live (life_goes c b p.0 e t whole p.1))

pub none_left : (b : Both) (t : ℕ) → LivesOrNone b t → is_live b.machine t ≡ false → thread_in b.machine (slot_of t) ≡ None
none_left b t (inl live) dead = absurd (let no : true ≡ false = sym live ∙ dead in cc)
none_left b t (inr none) dead = none
