-- The entries of one number in a journal, for this crate and for those that stand on it.
use Rattle.std.proofs.Common.{rules, ◌≡◌, ◌≢◌, ℕ, zero, suc, eqb, eq-eqb, ne_eqb, List, [], ◌∷◌, ◌++◌, sym, refl, ap, ◌∙◌, arith, append_assoc, All}
use mathlib.Core.Logic.{dite}
use native.Mathlib.Decide.{ℕ_discrete}
use Rattle.std.proofs.lemmas.List.Elements.{filter-append}
use Rattle.turn_lock.specs.Journal.{StartsWith, own, Adds}

module _ {E : Type 0} (number : E → ℕ) where
  -- of entries that bear n, none bears another number
  pub own-others : (n m : ℕ) (more : List E) → m ≢ n → All (λ e. number e ≡ n) more → own number m more ≡ []
  own-others n m [] other all = refl
  own-others n m (e ∷ es) other all = rw (ne_eqb (number e) m (λ h. other (sym h ∙ all 0 e (omega arith)))) (own-others n m es other (λ k d h. all (suc k) d (omega arith)))

  -- entries that bear n change none of the entries of another number
  pub own-adds : (n m : ℕ) (taken given : List E) → m ≢ n → Adds number n taken given → own number m given ≡ own number m taken
  own-adds n m taken given other a = rw (a.1, filter-append (λ e. eqb (number e) m) taken a.0, own-others n m a.0 other a.2) (search rules)

  -- what begins with a beginning begins with that one's beginnings
  pub starts-trans : (a b c : List E) → StartsWith c b → StartsWith b a → StartsWith c a
  starts-trans a b c p q = (q.0 ++ p.0, p.1 ∙ (ap (λ (x : List E). x ++ p.0) q.1 ∙ append_assoc a q.0 p.0))

  own-append : (m : ℕ) (before more : List E) → own number m (before ++ more) ≡ own number m before ++ own number m more
  own-append m before more = filter-append (λ e. eqb (number e) m) before more

  own-all : (n : ℕ) (more : List E) → All (λ e. number e ≡ n) more → own number n more ≡ more
  own-all n [] all = refl
  own-all n (e ∷ es) all = rw (eq-eqb (number e) n (all 0 e (omega arith))) (ap (λ (l : List E). e ∷ l) (own-all n es (λ k d h. all (suc k) d (omega arith))))

  -- after an addition the own entries are those before it and then those that were added
  pub own-adds_self : (n : ℕ) (taken given : List E) (a : Adds number n taken given) → own number n given ≡ own number n taken ++ a.0
  own-adds_self n taken given a = ap (own number n) a.1 ∙ (own-append n taken a.0 ∙ ap (λ (l : List E). own number n taken ++ l) (own-all n a.0 a.2))

  append-nothing : (a b : List E) → a ++ b ≡ a → b ≡ []
  append-nothing [] b e = e
  append-nothing (x ∷ xs) b e = append-nothing xs b (cc)

  none_own : (n : ℕ) (more : List E) → own number n more ≡ [] → All (λ e. number e ≢ n) more
  none_own n [] none = λ k d h. absurd (omega arith)
  none_own n (e ∷ es) none = dite (ℕ_discrete (number e) n)
      (λ same. let here : own number n (e ∷ es) ≡ e ∷ own number n es = rw (eq-eqb (number e) n same) refl in absurd (cc))
      (λ other. let here : own number n (e ∷ es) ≡ own number n es = rw (ne_eqb (number e) n other) refl in each es other (none_own n es (sym here ∙ none)))
    where
      each : (es : List E) → number e ≢ n → All (λ e'. number e' ≢ n) es → All (λ e'. number e' ≢ n) (e ∷ es)
      each es other rest zero d h = other
      each es other rest (suc k) d h = rest k d (omega arith)

  -- what a journal has beyond a beginning with the same own entries bears other numbers
  pub others_beyond : (n : ℕ) (journal seen rest : List E) → journal ≡ seen ++ rest → own number n journal ≡ own number n seen → All (λ e. number e ≢ n) rest
  others_beyond n journal seen rest is same = none_own n rest (append-nothing (own number n seen) (own number n rest) (sym (own-append n seen rest) ∙ (sym (ap (own number n) is) ∙ same)))
