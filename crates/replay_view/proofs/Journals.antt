-- A journal, entry by entry.
use Rattle.std.proofs.Common.{◌≡◌, ℕ, zero, suc, ◌<◌, ◌≤◌, List, [], ◌∷◌, ◌++◌, Some, refl, sym, ap, ◌∙◌, subst, arith, length, take, drop, add-one}
use Rattle.std.specs.Prelude.{slice_get}
use Rattle.journal_pack.specs.declared.entry.Entry.{Entry}
use Rattle.machine_model.specs.CaseData.{CaseData}
use Rattle.machine_model.specs.Gated.{begin}
use Rattle.replay_view.specs.declared.fault.StepFault.{StepFault}
use Rattle.replay_view.specs.declared.fault.StepFault.TheVariants as step_fault
use Rattle.replay_view.specs.Faults.{FitsStep, FollowFaults, following}
use Rattle.replay_view.specs.Follow.{Fits, Follows, HasTaken, TakesOne, WalkData}
use Rattle.replay_view.proofs.Walked.{one_more}

take_none : (j : List Entry) → take 0 j ≡ []
take_none [] = refl
take_none (e ∷ j) = refl

drop_none : (j : List Entry) → drop 0 j ≡ j
drop_none [] = refl
drop_none (e ∷ j) = refl

pub none_taken : (w : WalkData) (j : List Entry) → HasTaken w [] → HasTaken w (take w.taken j)
none_taken w j h = let at : 0 ≡ w.taken = h.count in subst (λ x. HasTaken w (take x j)) at (subst (HasTaken w) (sym (take_none j)) h)

pub all_left : (w : WalkData) (j : List Entry) → HasTaken w [] → drop w.taken j ≡ j
all_left w j h = let at : 0 ≡ w.taken = h.count in ap (λ x. drop x j) (sym at) ∙ drop_none j

pub none_yet : (w : WalkData) → HasTaken w [] → w.taken ≡ 0
none_yet w h = sym h.count

nothing_of : (t : ℕ) (e : Entry) (rest : List Entry) → drop t [] ≡ e ∷ rest → ⊥
nothing_of zero e rest h = let none : [] ≡ e ∷ rest = h in cc
nothing_of (suc t) e rest h = let none : [] ≡ e ∷ rest = h in cc

take_next : (j : List Entry) (t : ℕ) (e : Entry) (rest : List Entry) → drop t j ≡ e ∷ rest → take (suc t) j ≡ take t j ++ e ∷ []
take_next [] t e rest h = absurd (nothing_of t e rest h)
take_next (x ∷ j) zero e rest h = let all : x ∷ j ≡ e ∷ rest = sym (drop_none (x ∷ j)) ∙ h in let same : x ≡ e = cc in ap (λ y. y ∷ []) same
take_next (x ∷ j) (suc t) e rest h = ap (λ y. x ∷ y) (take_next j t e rest h)

drop_next : (j : List Entry) (t : ℕ) (e : Entry) (rest : List Entry) → drop t j ≡ e ∷ rest → drop (suc t) j ≡ rest
drop_next [] t e rest h = absurd (nothing_of t e rest h)
drop_next (x ∷ j) zero e rest h = let all : x ∷ j ≡ e ∷ rest = sym (drop_none (x ∷ j)) ∙ h in let same : j ≡ rest = cc in drop_none j ∙ same
drop_next (x ∷ j) (suc t) e rest h = drop_next j t e rest h

pub stands_at : (j : List Entry) (t : ℕ) (e : Entry) (rest : List Entry) → drop t j ≡ e ∷ rest → slice_get j t ≡ Some e
stands_at [] t e rest h = absurd (nothing_of t e rest h)
stands_at (x ∷ j) zero e rest h = let all : x ∷ j ≡ e ∷ rest = sym (drop_none (x ∷ j)) ∙ h in let same : x ≡ e = cc in ap Some same
stands_at (x ∷ j) (suc t) e rest h = stands_at j t e rest h

all_gone : (j : List Entry) (t : ℕ) → drop t j ≡ [] → length j ≤ t
all_gone [] t h = omega arith
all_gone (x ∷ j) zero h = absurd (let none : x ∷ j ≡ [] = h in cc)
all_gone (x ∷ j) (suc t) h = let le : length j ≤ t = all_gone j t h in omega arith

-- the entry that was left first is taken
pub next_taken : (w n : WalkData) (j : List Entry) (e : Entry) (rest : List Entry) → HasTaken w (take w.taken j) → drop w.taken j ≡ e ∷ rest → TakesOne w e n → HasTaken n (take n.taken j)
next_taken w n j e rest h left one =
    let at : n.taken ≡ suc w.taken = one.count ∙ add-one w.taken in
    subst (HasTaken n) (sym (ap (λ x. take x j) at ∙ take_next j w.taken e rest left)) (one_more w n (take w.taken j) e h one)

pub next_left : (w n : WalkData) (j : List Entry) (e : Entry) (rest : List Entry) → drop w.taken j ≡ e ∷ rest → TakesOne w e n → drop n.taken j ≡ rest
next_left w n j e rest left one = ap (λ x. drop x j) (one.count ∙ add-one w.taken) ∙ drop_next j w.taken e rest left

-- as many were taken as were asked for
pub enough : (w : WalkData) (j : List Entry) (n : ℕ) → HasTaken w (take w.taken j) → w.taken ≤ n → n ≤ w.taken → HasTaken w (take n j)
enough w j n h le ge = let same : w.taken ≡ n = omega arith in subst (λ x. HasTaken w (take x j)) same h

pub enough_at_end : (w : WalkData) (j : List Entry) (n : ℕ) → HasTaken w (take w.taken j) → w.taken ≤ n → n ≤ length j → drop w.taken j ≡ [] → HasTaken w (take n j)
enough_at_end w j n h le within none = let ge : length j ≤ w.taken = all_gone j w.taken none in enough w j n h le (omega arith)

-- the fault of a step is the journal's
pub fault_here : (w : WalkData) (c : CaseData) (j : List Entry) (n : ℕ) (e : Entry) (rest : List Entry) (fault : StepFault) → HasTaken w (take w.taken j) → w.case ≡ c → drop w.taken j ≡ e ∷ rest → w.taken < n → n ≤ length j → FitsStep w e fault → FollowFaults c j n (following fault)
fault_here w c j n e rest (step_fault.Memory x) h case left lt within fits = within
fault_here w c j n e rest (step_fault.Entry fault) h case left lt within fits = (
  within,
  (
    w.taken,
    lt,
    record {
      both = w.both;
      entry = e;
      before = subst (λ x. Follows x (begin x) (take w.taken j) w.both) case h.follows;
      here = stands_at j w.taken e rest left;
      fits = subst (λ x. Fits x w.both e w.taken fault) case fits;
    },
  ),
)
