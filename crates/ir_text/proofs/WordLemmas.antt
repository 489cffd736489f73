-- A word of a table is read exactly, where no word begins another.
use Rattle.std.proofs.Common.{◌≡◌, ℕ, zero, suc, ◌+◌, ◌<◌, ◌≤◌, ◌⊎◌, inl, inr, min, Bool, true, false, eqb, not, List, [], ◌∷◌, ◌++◌, length, Some, Result, Ok, Err, refl, sym, ap, subst, ◌∙◌, arith, length-append, map, drop, get_or, add-one}
use Rattle.std.specs.Prelude.{◌&&◌}
use Rattle.std.specs.List.{slice_get}
use Rattle.std.proofs.lemmas.List.{append-nil}
use Rattle.ir_text.specs.Reading.{Reading, literal, found_or, word_from, word_at}
use Rattle.ir_text.specs.Row.{worded, token}
use Rattle.ir_text.proofs.Exact.{Begins, Exact, IsExact, exact_as, same_ok, same_err, ok_err, err_ok}
use Rattle.ir_text.proofs.LiteralLemmas.{literal_again, literal_takes, literal_begins, literal_local}

-- ---- apart: neither word begins the other

abbrev pub is_stop : Result (List ℕ) ℕ → Bool
is_stop (Ok rest) = false
is_stop (Err left) = not (eqb left 0)

unfoldable pub are_apart : List ℕ → List ℕ → Bool
are_apart u v = is_stop (literal u v)

unfoldable pub is_apart : {A : Type 0} → List ℕ → List ℕ → List (List ℕ × A) → Bool
is_apart word end [] = true
is_apart word end (x ∷ xs) = are_apart (word ++ end) (x.0 ++ end) && is_apart word end xs

unfoldable pub all_apart : {A : Type 0} → List ℕ → List (List ℕ × A) → Bool
all_apart end [] = true
all_apart end (x ∷ xs) = is_apart x.0 end xs && all_apart end xs

-- each word is the name of its value, which has one
abbrev pub AreNamed : {A : Type 0} → (A → Type 0) → (A → List ℕ) → List (List ℕ × A) → Type 0
AreNamed Has name [] = Unit {0}
AreNamed Has name (x ∷ xs) = (Has x.1 × (name x.1 ≡ x.0)) × AreNamed Has name xs

and_parts : (a b : Bool) → (a && b) ≡ true → (a ≡ true) × (b ≡ true)
and_parts true b e = (refl, e)
and_parts false b e = absurd cc

stopped : (r : Result (List ℕ) ℕ) → is_stop r ≡ true → (m : ℕ) × (r ≡ Err m) × (0 < m)
stopped (Ok rest) e = absurd cc
stopped (Err zero) e = absurd cc
stopped (Err (suc m)) e = (suc m, refl, omega arith)

-- a word apart from one in front isn't there
apart_stops : (u v rest : List ℕ) → are_apart u v ≡ true → (m : ℕ) × (literal u (v ++ rest) ≡ Err m)
unfolding are_apart
apart_stops u v rest e =
    let s = stopped (literal u v) e in
    let whole : literal u (v ++ []) ≡ Err s.0 = ap (literal u) (append-nil v) ∙ s.1 in
    let l = literal_local u v [] rest s.0 whole (omega (arith, s.2)) in
    (l.0, l.1)

is_apart_at : {A : Type 0} (word end : List ℕ) (xs : List (List ℕ × A)) (k : ℕ) (x : List ℕ × A) → is_apart word end xs ≡ true → slice_get xs k ≡ Some x → are_apart (word ++ end) (x.0 ++ end) ≡ true
unfolding is_apart
is_apart_at word end [] k x e s = absurd cc
is_apart_at word end (y ∷ ys) zero x e s =
    let same : y ≡ x = cc in
    subst (λ (z : List ℕ). are_apart (word ++ end) (z ++ end) ≡ true) (λ i. (same i).0) (and_parts (are_apart (word ++ end) (y.0 ++ end)) (is_apart word end ys) e).0
is_apart_at word end (y ∷ ys) (suc k) x e s = is_apart_at word end ys k x (and_parts (are_apart (word ++ end) (y.0 ++ end)) (is_apart word end ys) e).1 s

module _ {A : Type 0} (end : List ℕ) where
  found_step : (a : A) (r : Result (List ℕ) ℕ) (m : ℕ) (others : ℕ → Reading A) → r ≡ Err m → found_or a r others ≡ others m
  found_step a r m others e = ap (λ r. found_or a r others) e

  pub from_again : (words : List (List ℕ × A)) (left k : ℕ) (x : List ℕ × A) (rest : List ℕ) → all_apart end words ≡ true → slice_get words k ≡ Some x → word_from left words end ((x.0 ++ end) ++ rest) ≡ Ok (x.1, rest)
  unfolding word_from all_apart
  from_again [] left k x rest e s = absurd cc
  from_again (y ∷ ys) left zero x rest e s =
      let same : y ≡ x = cc in
      subst (λ z. found_or z.1 (literal (z.0 ++ end) ((x.0 ++ end) ++ rest)) (λ there. word_from (min left there) ys end ((x.0 ++ end) ++ rest)) ≡ Ok (x.1, rest)) (sym same)
      (ap (λ r. found_or x.1 r (λ there. word_from (min left there) ys end ((x.0 ++ end) ++ rest))) (literal_again (x.0 ++ end) rest))
  from_again (y ∷ ys) left (suc k) x rest e s =
      let p = and_parts (is_apart y.0 end ys) (all_apart end ys) e in
      let stop = apart_stops (y.0 ++ end) (x.0 ++ end) rest (is_apart_at y.0 end ys k x p.0 s) in
      found_step y.1 (literal (y.0 ++ end) ((x.0 ++ end) ++ rest)) stop.0 (λ there. word_from (min left there) ys end ((x.0 ++ end) ++ rest)) stop.1
      ∙ from_again ys (min left stop.0) k x rest p.1 s

  module _ (Has : A → Type 0) (name : A → List ℕ) where
    abbrev WordText : A → List ℕ → Type 0
    WordText a s = Has a × (name a ++ end ≡ s)

    takes_by : (x : List ℕ × A) (s : List ℕ) (a : A) (rest : List ℕ) (others : ℕ → Reading A) (r : Result (List ℕ) ℕ) → Has x.1 → name x.1 ≡ x.0 → literal (x.0 ++ end) s ≡ r → found_or x.1 r others ≡ Ok (a, rest)
        → ((m : ℕ) → others m ≡ Ok (a, rest) → (t : List ℕ) × WordText a t × (t ++ rest ≡ s)) → (t : List ℕ) × WordText a t × (t ++ rest ≡ s)
    takes_by x s a rest others (Ok t) has named e f go =
        let same = same_ok (x.1, t) (a, rest) f in
        let whole = literal_takes (x.0 ++ end) s t e in
        let text : name a ++ end ≡ x.0 ++ end = ap (λ (z : A). name z ++ end) (sym (λ i. (same i).0)) ∙ ap (λ (z : List ℕ). z ++ end) named in
        (x.0 ++ end, (subst Has (λ i. (same i).0) has, text), (λ i. (x.0 ++ end) ++ sym (λ j. (same j).1) i) ∙ whole)
    takes_by x s a rest others (Err m) has named e f go = go m f

    from_takes : (words : List (List ℕ × A)) (left : ℕ) (s : List ℕ) (a : A) (rest : List ℕ) → AreNamed Has name words → word_from left words end s ≡ Ok (a, rest) → (t : List ℕ) × WordText a t × (t ++ rest ≡ s)
    unfolding word_from
    from_takes [] left s a rest named e = err_ok (a, rest) left e
    from_takes (x ∷ xs) left s a rest named e =
        takes_by x s a rest (λ there. word_from (min left there) xs end s) (literal (x.0 ++ end) s) named.0.0 named.0.1 refl e (λ m f. from_takes xs (min left m) s a rest named.1 f)

    min_cases : (a b : ℕ) → (min a b ≡ a) ⊎ (min a b ≡ b)
    min_cases a b = grind arith

    begins_at : (x : List ℕ × A) (s : List ℕ) (left m out : ℕ) → Has x.1 → name x.1 ≡ x.0 → literal (x.0 ++ end) s ≡ Err m → (out ≡ min left m) ⊎ Begins WordText s out → (out ≡ left) ⊎ Begins WordText s out
    begins_at x s left m out has named e (inr b) = inr b
    begins_at x s left m out has named e (inl o) = elim (min_cases left m) [
      | inl low ↦ inl (o ∙ low)
      | inr low ↦ (let b = literal_begins (x.0 ++ end) s m e in
          inr (record { good = b.good; rest = b.rest; parts = b.parts; count = o ∙ low ∙ b.count; value = x.1; tail = b.tail; text = (has, ap (λ (z : List ℕ). z ++ end) named ∙ sym b.whole) }))
    ]

    begins_by : (x : List ℕ × A) (s : List ℕ) (left out : ℕ) (others : ℕ → Reading A) (r : Result (List ℕ) ℕ) → Has x.1 → name x.1 ≡ x.0 → literal (x.0 ++ end) s ≡ r → found_or x.1 r others ≡ Err out
        → ((m : ℕ) → others m ≡ Err out → (out ≡ min left m) ⊎ Begins WordText s out) → (out ≡ left) ⊎ Begins WordText s out
    begins_by x s left out others (Ok t) has named e f go = ok_err (x.1, t) out f
    begins_by x s left out others (Err m) has named e f go = begins_at x s left m out has named e (go m f)

    from_begins : (words : List (List ℕ × A)) (left : ℕ) (s : List ℕ) (out : ℕ) → AreNamed Has name words → word_from left words end s ≡ Err out → (out ≡ left) ⊎ Begins WordText s out
    unfolding word_from
    from_begins [] left s out named e = inl (sym (same_err left out e))
    from_begins (x ∷ xs) left s out named e =
        begins_by x s left out (λ there. word_from (min left there) xs end s) (literal (x.0 ++ end) s) named.0.0 named.0.1 refl e (λ m f. from_begins xs (min left m) s out named.1 f)

  within_by : (a : A) (others : ℕ → Reading A) (left out : ℕ) (r : Result (List ℕ) ℕ) → found_or a r others ≡ Err out → ((m : ℕ) → others m ≡ Err out → out ≤ min left m) → out ≤ left
  within_by a others left out (Ok t) e go = ok_err (a, t) out e
  within_by a others left out (Err m) e go = omega (arith, go m e)

  from_within : (words : List (List ℕ × A)) (left : ℕ) (s : List ℕ) (out : ℕ) → word_from left words end s ≡ Err out → out ≤ left
  unfolding word_from
  from_within [] left s out e = omega (arith, same_err left out e)
  from_within (x ∷ xs) left s out e = within_by x.1 (λ there. word_from (min left there) xs end s) left out (literal (x.0 ++ end) s) e (λ m f. from_within xs (min left m) s out f)

  local_by : (a : A) (word front cs ds : List ℕ) (others again : ℕ → Reading A) (out : ℕ) (r : Result (List ℕ) ℕ) → length cs < out → literal word (front ++ cs) ≡ r → found_or a r others ≡ Err out
      → ((n : ℕ) → others n ≡ Err out → out ≤ n)
      → ((n p : ℕ) → others n ≡ Err out → p + length cs ≡ n + length ds → (m : ℕ) × (again p ≡ Err m) × (m + length cs ≡ out + length ds))
      → (m : ℕ) × (found_or a (literal word (front ++ ds)) again ≡ Err m) × (m + length cs ≡ out + length ds)
  local_by a word front cs ds others again out (Ok t) h was e low go = ok_err (a, t) out e
  local_by a word front cs ds others again out (Err n) h was e low go =
      let there = literal_local word front cs ds n was (omega (arith, h, low n e)) in
      let r = go n there.0 e there.2 in
      (r.0, found_step a (literal word (front ++ ds)) there.0 again there.1 ∙ r.1, r.2)

  pub from_local : (words : List (List ℕ × A)) (left other : ℕ) (front cs ds : List ℕ) (out : ℕ) → word_from left words end (front ++ cs) ≡ Err out → length cs < out → other + length cs ≡ left + length ds
      → (m : ℕ) × (word_from other words end (front ++ ds) ≡ Err m) × (m + length cs ≡ out + length ds)
  unfolding word_from
  from_local [] left other front cs ds out e h same = (other, refl, same ∙ ap (λ (n : ℕ). n + length ds) (same_err left out e))
  from_local (x ∷ xs) left other front cs ds out e h same =
      local_by x.1 (x.0 ++ end) front cs ds (λ there. word_from (min left there) xs end (front ++ cs)) (λ there. word_from (min other there) xs end (front ++ ds)) out (literal (x.0 ++ end) (front ++ cs)) h refl e
      (λ n f. let w = from_within xs (min left n) (front ++ cs) out f in omega (arith, w))
      (λ n p f eq. from_local xs (min left n) (min other p) front cs ds out f h (omega (arith, same, eq)))

-- a table gives each value that has a name, by it
pub record Words {A : Type 0} (words : List (List ℕ × A)) (Has : A → Type 0) (name : A → List ℕ) : Type 0 where
  pub named : AreNamed Has name words
  pub each : (a : A) → Has a → (k : ℕ) × (slice_get words k ≡ Some (name a, a))
  pub first : A
  pub has_first : Has first

module _ {A : Type 0} (words : List (List ℕ × A)) (Has : A → Type 0) (name : A → List ℕ) (w : Words words Has name) where
  ended_begins : (end s : List ℕ) (left : ℕ) → (left ≡ length s) ⊎ Begins (WordText end Has name) s left → Begins (WordText end Has name) s left
  ended_begins end s left (inr b) = b
  ended_begins end s left (inl e) = record { good = []; rest = s; parts = refl; count = e; value = w.first; tail = name w.first ++ end; text = (w.has_first, refl) }

  ended_exact : (end : List ℕ) → all_apart end words ≡ true → Exact (word_at words end) (WordText end Has name)
  ended_exact end apart = record {
    again = λ a s rest t.
        let k = w.each a t.0 in
        ap (λ (z : List ℕ). word_at words end (z ++ rest)) (sym t.1) ∙ from_again end words (length ((name a ++ end) ++ rest)) k.0 (name a, a) rest apart k.1;
    takes = λ bytes a rest e. from_takes end Has name words (length bytes) bytes a rest w.named e;
    begins = λ bytes left e. ended_begins end bytes left (from_begins end Has name words (length bytes) bytes left w.named e);
    local = λ front cs ds left e h.
        from_local end words (length (front ++ cs)) (length (front ++ ds)) front cs ds left e h (omega (arith, length-append front cs, length-append front ds));
    some = (w.first, name w.first ++ end, (w.has_first, refl));
  }

  pub word_exact : (end : List ℕ) → all_apart end words ≡ true → IsExact (worded words Has name end)
  word_exact end apart = ended_exact end apart

  token_text : (a : A) (s : List ℕ) → WordText [] Has name a s → Has a × (name a ≡ s)
  token_text a s t = (t.0, sym (append-nil (name a)) ∙ t.1)

  token_back : (a : A) (s : List ℕ) → Has a × (name a ≡ s) → WordText [] Has name a s
  token_back a s t = (t.0, append-nil (name a) ∙ t.1)

  pub token_exact : all_apart [] words ≡ true → IsExact (token words Has name)
  token_exact apart = exact_as (word_at words []) (WordText [] Has name) (λ a s. Has a × (name a ≡ s)) token_text token_back (ended_exact [] apart)

-- ---- a table that is looked through entry by entry

module _ {X A : Type 0} (entry : X → List ℕ × A) (end s : List ℕ) where
  pub word_none : (words : List X) (left i : ℕ) → length words ≤ i → word_from left (map entry (drop i words)) end s ≡ Err left
  unfolding word_from
  word_none [] left zero h = refl
  word_none [] left (suc i) h = refl
  word_none (x ∷ xs) left zero h = absurd (omega arith)
  word_none (x ∷ xs) left (suc i) h = word_none xs left i (omega arith)

  word_step : (words : List X) (left i : ℕ) (x : X) → i < length words → x ≡ get_or words i x
      → word_from left (map entry (drop i words)) end s ≡ found_or (entry x).1 (literal ((entry x).0 ++ end) s) (λ there. word_from (min left there) (map entry (drop (suc i) words)) end s)
  unfolding word_from
  word_step [] left i x h e = absurd (omega arith)
  word_step (y ∷ ys) left zero x h e =
      ap (λ (z : X). found_or (entry z).1 (literal ((entry z).0 ++ end) s) (λ there. word_from (min left there) (map entry ys) end s)) (sym e)
  word_step (y ∷ ys) left (suc i) x h e = word_step ys left i x (omega arith) e

  pub word_found : (words : List X) (left i : ℕ) (x : X) (rest : List ℕ) → i < length words → x ≡ get_or words i x → literal ((entry x).0 ++ end) s ≡ Ok rest → word_from left (map entry (drop i words)) end s ≡ Ok ((entry x).1, rest)
  word_found words left i x rest h e f =
      word_step words left i x h e ∙ ap (λ r. found_or (entry x).1 r (λ there. word_from (min left there) (map entry (drop (suc i) words)) end s)) f

  pub word_missed : (words : List X) (left i : ℕ) (x : X) (there : ℕ) → i < length words → x ≡ get_or words i x → literal ((entry x).0 ++ end) s ≡ Err there
      → word_from (min left there) (map entry (drop (i + 1) words)) end s ≡ word_from left (map entry (drop i words)) end s
  word_missed words left i x there h e f =
      ap (λ (k : ℕ). word_from (min left there) (map entry (drop k words)) end s) (add-one i)
      ∙ sym (word_step words left i x h e ∙ ap (λ r. found_or (entry x).1 r (λ there. word_from (min left there) (map entry (drop (suc i) words)) end s)) f)
