-- A row is read exactly where its fields are.
use Rattle.std.proofs.Common.{◌≡◌, ℕ, ◌+◌, ◌<◌, ◌≤◌, ◌⊎◌, inl, inr, List, [], ◌++◌, length, Ok, Err, refl, sym, ap, subst, ◌∙◌, append_assoc, arith, length-append}
use Rattle.std.proofs.lemmas.List.{append-nil}
use Rattle.ir_text.specs.Reading.{Reading, ◌>>=◌, literal}
use Rattle.ir_text.specs.Row.{Field, Row, Done, Last, Then, After, reading, Spells, SpellsFrom}
use Rattle.ir_text.proofs.Exact.{Begins, Exact, IsExact, same_ok, ok_err, bind_ok, bind_err, split_front}
use Rattle.ir_text.proofs.LiteralLemmas.{literal_again, literal_takes, literal_begins, literal_local}

done_exact : {B : Type 0} (b : B) → Exact (λ s. Ok (b, s)) (λ o s. (b ≡ o) × ([] ≡ s))
done_exact {B} b = record {
  again = λ a s rest t. λ i. Ok (t.0 i, sym t.1 i ++ rest);
  takes = λ bytes a rest e. let same : (b, bytes) ≡ (a, rest) = same_ok (b, bytes) (a, rest) e in ([], ((λ i. (same i).0), refl), (λ i. sym (λ j. (same j).1) i));
  begins = λ bytes left e. ok_err (b, bytes) left e;
  local = λ front cs ds left e h. ok_err (b, front ++ cs) left e;
  some = (b, [], (refl, refl));
}

module _ {A B : Type 0} (f : Field A) (ex : IsExact f) where
  module _ (make : A → B) where
    abbrev LastText : B → List ℕ → Type 0
    LastText o s = (a : A) × f.Has a × (make a ≡ o) × (f.text a ≡ s)

    abbrev last_read : List ℕ → Reading B
    last_read s = f.read s >>= λ x. Ok (make x.0, x.1)

    last_takes : (bytes : List ℕ) (o : B) (rest : List ℕ) → last_read bytes ≡ Ok (o, rest) → (s : List ℕ) × LastText o s × (s ++ rest ≡ bytes)
    last_takes bytes o rest e =
        let x = bind_ok (f.read bytes) (λ x. Ok (make x.0, x.1)) (o, rest) e in
        let t = ex.takes bytes x.0.0 x.0.1 x.1 in
        let same = same_ok (make x.0.0, x.0.1) (o, rest) x.2 in
        (f.text x.0.0, (x.0.0, t.1.0, (λ i. (same i).0), refl), (λ i. t.1.1 i ++ sym (λ j. (same j).1) i) ∙ t.2)

    last_begins_by : (bytes : List ℕ) (left : ℕ) → (f.read bytes ≡ Err left) ⊎ ((x : A × List ℕ) × (f.read bytes ≡ Ok x) × (◌≡◌ {A = Reading B} (Ok (make x.0, x.1)) (Err left))) → Begins LastText bytes left
    last_begins_by bytes left (inl e) =
        let b = ex.begins bytes left e in
        record { good = b.good; rest = b.rest; parts = b.parts; count = b.count; value = make b.value; tail = b.tail; text = (b.value, b.text.0, refl, b.text.1) }
    last_begins_by bytes left (inr x) = ok_err (make x.0.0, x.0.1) left x.2

    last_local_by : (front cs ds : List ℕ) (left : ℕ) → length cs < left → (f.read (front ++ cs) ≡ Err left) ⊎ ((x : A × List ℕ) × (f.read (front ++ cs) ≡ Ok x) × (◌≡◌ {A = Reading B} (Ok (make x.0, x.1)) (Err left)))
        → (m : ℕ) × (last_read (front ++ ds) ≡ Err m) × (m + length cs ≡ left + length ds)
    last_local_by front cs ds left h (inl e) = let l = ex.local front cs ds left e h in (l.0, ap (λ r. r >>= λ x. Ok (make x.0, x.1)) l.1, l.2)
    last_local_by front cs ds left h (inr x) = ok_err (make x.0.0, x.0.1) left x.2

    last_exact : Exact last_read LastText
    last_exact = record {
      again = λ o s rest t. ap (λ r. r >>= λ x. Ok (make x.0, x.1)) (ex.again t.0 s rest (t.1, t.3)) ∙ (λ i. Ok (t.2 i, rest));
      takes = last_takes;
      begins = λ bytes left e. last_begins_by bytes left (bind_err (f.read bytes) (λ x. Ok (make x.0, x.1)) left e);
      local = λ front cs ds left e h. last_local_by front cs ds left h (bind_err (f.read (front ++ cs)) (λ x. Ok (make x.0, x.1)) left e);
      some = (make ex.some.0, ex.some.1, (ex.some.0, ex.some.2.0, refl, ex.some.2.1));
    }

  module _ (read : A → List ℕ → Reading B) (Text : A → B → List ℕ → Type 0) (next : (a : A) → f.Has a → Exact (read a) (Text a)) where
    abbrev ThenText : B → List ℕ → Type 0
    ThenText o s = (a : A) × f.Has a × ((t : List ℕ) × Text a o t × (f.text a ++ t ≡ s))

    abbrev then_read : List ℕ → Reading B
    then_read s = f.read s >>= λ x. read x.0 x.1

    then_again : (o : B) (s rest : List ℕ) → ThenText o s → then_read (s ++ rest) ≡ Ok (o, rest)
    then_again o s rest t =
        let first : f.read (s ++ rest) ≡ Ok (t.0, t.2.0 ++ rest) =
        ap (λ (z : List ℕ). f.read (z ++ rest)) (sym t.2.2) ∙ ap f.read (append_assoc (f.text t.0) t.2.0 rest) ∙ ex.again t.0 (f.text t.0) (t.2.0 ++ rest) (t.1, refl) in
        ap (λ r. r >>= λ x. read x.0 x.1) first ∙ (next t.0 t.1).again o t.2.0 rest t.2.1

    then_takes : (bytes : List ℕ) (o : B) (rest : List ℕ) → then_read bytes ≡ Ok (o, rest) → (s : List ℕ) × ThenText o s × (s ++ rest ≡ bytes)
    then_takes bytes o rest e =
        let x = bind_ok (f.read bytes) (λ x. read x.0 x.1) (o, rest) e in
        let t = ex.takes bytes x.0.0 x.0.1 x.1 in
        let u = (next x.0.0 t.1.0).takes x.0.1 o rest x.2 in
        let whole : (f.text x.0.0 ++ u.0) ++ rest ≡ bytes = append_assoc (f.text x.0.0) u.0 rest ∙ (λ i. t.1.1 i ++ u.2 i) ∙ t.2 in
        (f.text x.0.0 ++ u.0, (x.0.0, t.1.0, (u.0, u.1, refl)), whole)

    then_begins_by : (bytes : List ℕ) (left : ℕ) → (f.read bytes ≡ Err left) ⊎ ((x : A × List ℕ) × (f.read bytes ≡ Ok x) × (read x.0 x.1 ≡ Err left)) → Begins ThenText bytes left
    then_begins_by bytes left (inl e) =
        let b = ex.begins bytes left e in
        let n = (next b.value b.text.0).some in
        let whole : f.text b.value ++ n.1 ≡ b.good ++ (b.tail ++ n.1) = ap (λ (z : List ℕ). z ++ n.1) b.text.1 ∙ append_assoc b.good b.tail n.1 in
        record { good = b.good; rest = b.rest; parts = b.parts; count = b.count; value = n.0; tail = b.tail ++ n.1; text = (b.value, b.text.0, (n.1, n.2, whole)) }
    then_begins_by bytes left (inr x) =
        let t = ex.takes bytes x.0.0 x.0.1 x.1 in
        let b = (next x.0.0 t.1.0).begins x.0.1 left x.2 in
        let word = f.text x.0.0 in
        record {
          good = word ++ b.good;
          rest = b.rest;
          parts = append_assoc word b.good b.rest ∙ (λ i. t.1.1 i ++ b.parts i) ∙ t.2;
          count = b.count;
          value = b.value;
          tail = b.tail;
          text = (x.0.0, t.1.0, (b.good ++ b.tail, b.text, sym (append_assoc word b.good b.tail)));
        }

    then_local_by : (front cs ds : List ℕ) (left : ℕ) → length cs < left → (f.read (front ++ cs) ≡ Err left) ⊎ ((x : A × List ℕ) × (f.read (front ++ cs) ≡ Ok x) × (read x.0 x.1 ≡ Err left))
        → (m : ℕ) × (then_read (front ++ ds) ≡ Err m) × (m + length cs ≡ left + length ds)
    then_local_by front cs ds left h (inl e) = let l = ex.local front cs ds left e h in (l.0, ap (λ r. r >>= λ x. read x.0 x.1) l.1, l.2)
    then_local_by front cs ds left h (inr x) =
        let t = ex.takes (front ++ cs) x.0.0 x.0.1 x.1 in
        let n = next x.0.0 t.1.0 in
        let b = n.begins x.0.1 left x.2 in
        let low : length cs ≤ length x.0.1 = omega (arith, h, b.count, ap length b.parts, length-append b.good b.rest) in
        let sp = split_front t.0 x.0.1 front cs t.2 low in
        let second : read x.0.0 (sp.0 ++ cs) ≡ Err left = ap (read x.0.0) (sym sp.2) ∙ x.2 in
        let l = n.local sp.0 cs ds left second h in
        let first : f.read (front ++ ds) ≡ Ok (x.0.0, sp.0 ++ ds) = ap (λ (z : List ℕ). f.read (z ++ ds)) sp.1 ∙ ap f.read (append_assoc t.0 sp.0 ds) ∙ ex.again x.0.0 t.0 (sp.0 ++ ds) t.1 in
        (l.0, ap (λ r. r >>= λ x. read x.0 x.1) first ∙ l.1, l.2)

    then_some : (o : B) × (s : List ℕ) × ThenText o s
    then_some = let n = (next ex.some.0 ex.some.2.0).some in (n.0, f.text ex.some.0 ++ n.1, (ex.some.0, ex.some.2.0, (n.1, n.2, refl)))

    then_exact : Exact then_read ThenText
    then_exact = record {
      again = then_again;
      takes = then_takes;
      begins = λ bytes left e. then_begins_by bytes left (bind_err (f.read bytes) (λ x. read x.0 x.1) left e);
      local = λ front cs ds left e h. then_local_by front cs ds left h (bind_err (f.read (front ++ cs)) (λ x. read x.0 x.1) left e);
      some = then_some;
    }

module _ {B : Type 0} (word : List ℕ) (read : List ℕ → Reading B) (Text : B → List ℕ → Type 0) (n : Exact read Text) where
  abbrev pub AfterText : B → List ℕ → Type 0
  AfterText o s = (t : List ℕ) × Text o t × (word ++ t ≡ s)

  abbrev pub after_read : List ℕ → Reading B
  after_read s = literal word s >>= λ t. read t

  after_again : (o : B) (s rest : List ℕ) → AfterText o s → after_read (s ++ rest) ≡ Ok (o, rest)
  after_again o s rest t =
      let first : literal word (s ++ rest) ≡ Ok (t.0 ++ rest) = ap (λ (z : List ℕ). literal word (z ++ rest)) (sym t.2) ∙ ap (literal word) (append_assoc word t.0 rest) ∙ literal_again word (t.0 ++ rest) in
      ap (λ r. r >>= λ t. read t) first ∙ n.again o t.0 rest t.1

  after_takes : (bytes : List ℕ) (o : B) (rest : List ℕ) → after_read bytes ≡ Ok (o, rest) → (s : List ℕ) × AfterText o s × (s ++ rest ≡ bytes)
  after_takes bytes o rest e =
      let x = bind_ok (literal word bytes) (λ t. read t) (o, rest) e in
      let first = literal_takes word bytes x.0 x.1 in
      let u = n.takes x.0 o rest x.2 in
      (word ++ u.0, (u.0, u.1, refl), append_assoc word u.0 rest ∙ ap (λ (z : List ℕ). word ++ z) u.2 ∙ first)

  after_begins_by : (bytes : List ℕ) (left : ℕ) → (literal word bytes ≡ Err left) ⊎ ((x : List ℕ) × (literal word bytes ≡ Ok x) × (read x ≡ Err left)) → Begins AfterText bytes left
  after_begins_by bytes left (inl e) =
      let b = literal_begins word bytes left e in
      let s = n.some in
      let whole : word ++ s.1 ≡ b.good ++ (b.tail ++ s.1) = ap (λ (z : List ℕ). z ++ s.1) (sym b.whole) ∙ append_assoc b.good b.tail s.1 in
      record { good = b.good; rest = b.rest; parts = b.parts; count = b.count; value = s.0; tail = b.tail ++ s.1; text = (s.1, s.2, whole) }
  after_begins_by bytes left (inr x) =
      let first = literal_takes word bytes x.0 x.1 in
      let b = n.begins x.0 left x.2 in
      record {
        good = word ++ b.good;
        rest = b.rest;
        parts = append_assoc word b.good b.rest ∙ ap (λ (z : List ℕ). word ++ z) b.parts ∙ first;
        count = b.count;
        value = b.value;
        tail = b.tail;
        text = (b.good ++ b.tail, b.text, sym (append_assoc word b.good b.tail));
      }

  after_local_by : (front cs ds : List ℕ) (left : ℕ) → length cs < left → (literal word (front ++ cs) ≡ Err left) ⊎ ((x : List ℕ) × (literal word (front ++ cs) ≡ Ok x) × (read x ≡ Err left))
      → (m : ℕ) × (after_read (front ++ ds) ≡ Err m) × (m + length cs ≡ left + length ds)
  after_local_by front cs ds left h (inl e) = let l = literal_local word front cs ds left e h in (l.0, ap (λ r. r >>= λ t. read t) l.1, l.2)
  after_local_by front cs ds left h (inr x) =
      let first = literal_takes word (front ++ cs) x.0 x.1 in
      let b = n.begins x.0 left x.2 in
      let low : length cs ≤ length x.0 = omega (arith, h, b.count, ap length b.parts, length-append b.good b.rest) in
      let sp = split_front word x.0 front cs first low in
      let second : read (sp.0 ++ cs) ≡ Err left = ap read (sym sp.2) ∙ x.2 in
      let l = n.local sp.0 cs ds left second h in
      let found : literal word (front ++ ds) ≡ Ok (sp.0 ++ ds) = ap (λ (z : List ℕ). literal word (z ++ ds)) sp.1 ∙ ap (literal word) (append_assoc word sp.0 ds) ∙ literal_again word (sp.0 ++ ds) in
      (l.0, ap (λ r. r >>= λ t. read t) found ∙ l.1, l.2)

  pub after_exact : Exact after_read AfterText
  after_exact = record {
    again = after_again;
    takes = after_takes;
    begins = λ bytes left e. after_begins_by bytes left (bind_err (literal word bytes) (λ t. read t) left e);
    local = λ front cs ds left e h. after_local_by front cs ds left h (bind_err (literal word (front ++ cs)) (λ t. read t) left e);
    some = (n.some.0, word ++ n.some.1, (n.some.1, n.some.2, refl));
  }

-- the fields of a row are exact
abbrev pub Good : {B : Type 0} → Row B → Type 0
Good (Done b) = Unit {0}
Good (Last A f make) = IsExact f
Good (Then A f next) = IsExact f × ((a : A) → f.Has a → Good (next a))
Good (After word row) = Good row

pub row_exact : {B : Type 0} (r : Row B) → Good r → Exact (reading r) (Spells r)
row_exact (Done b) g = done_exact b
row_exact (Last A f make) g = last_exact f g make
row_exact (Then A f next) g = then_exact f g.0 (λ a. reading (next a)) (λ a. Spells (next a)) (λ a h. row_exact (next a) (g.1 a h))
row_exact (After word row) g = after_exact word (reading row) (Spells row) (row_exact row g)

-- ---- a row's text behind other bytes

pub from_spells : {B : Type 0} (r : Row B) (o : B) (before t : List ℕ) → Spells r o t → SpellsFrom r o before (before ++ t)
from_spells (Done b) o before t h = (h.0, sym (append-nil before) ∙ ap (λ (z : List ℕ). before ++ z) h.1)
from_spells (Last A f make) o before t h = (h.0, h.1, h.2, ap (λ (z : List ℕ). before ++ z) h.3)
from_spells (Then A f next) o before t h =
    let r = from_spells (next h.0) o (before ++ f.text h.0) h.2.0 h.2.1 in
    let whole : (before ++ f.text h.0) ++ h.2.0 ≡ before ++ t = append_assoc before (f.text h.0) h.2.0 ∙ ap (λ (z : List ℕ). before ++ z) h.2.2 in
    (h.0, h.1, subst (λ (z : List ℕ). SpellsFrom (next h.0) o (before ++ f.text h.0) z) whole r)
from_spells (After word row) o before t h =
    let r = from_spells row o (before ++ word) h.0 h.1 in
    let whole : (before ++ word) ++ h.0 ≡ before ++ t = append_assoc before word h.0 ∙ ap (λ (z : List ℕ). before ++ z) h.2 in
    subst (λ (z : List ℕ). SpellsFrom row o (before ++ word) z) whole r

pub to_spells : {B : Type 0} (r : Row B) (o : B) (before s : List ℕ) → SpellsFrom r o before s → (t : List ℕ) × Spells r o t × (before ++ t ≡ s)
to_spells (Done b) o before s h = ([], (h.0, refl), append-nil before ∙ h.1)
to_spells (Last A f make) o before s h = (f.text h.0, (h.0, h.1, h.2, refl), h.3)
to_spells (Then A f next) o before s h =
    let r = to_spells (next h.0) o (before ++ f.text h.0) s h.2 in
    (f.text h.0 ++ r.0, (h.0, h.1, (r.0, r.1, refl)), sym (append_assoc before (f.text h.0) r.0) ∙ r.2)
to_spells (After word row) o before s h =
    let r = to_spells row o (before ++ word) s h in
    (word ++ r.0, (r.0, r.1, refl), sym (append_assoc before word r.0) ∙ r.2)

-- what holds of each value of the row and its text
abbrev pub Each : {B : Type 0} → Row B → List ℕ → (B → List ℕ → Type 0) → Type 0
Each (Done b) before P = P b before
Each (Last A f make) before P = (a : A) → f.Has a → P (make a) (before ++ f.text a)
Each (Then A f next) before P = (a : A) → f.Has a → Each (next a) (before ++ f.text a) P
Each (After word row) before P = Each row (before ++ word) P

at_both : {B : Type 0} (P : B → List ℕ → Type 0) (a o : B) (s t : List ℕ) → a ≡ o → s ≡ t → P a s → P o t
at_both P a o s t p q x = subst (λ (z : List ℕ). P o z) q (subst (λ z. P z s) p x)

pub each_of : {B : Type 0} (r : Row B) (P : B → List ℕ → Type 0) (o : B) (before s : List ℕ) → Each r before P → SpellsFrom r o before s → P o s
each_of (Done b) P o before s each h = at_both P b o before s h.0 h.1 each
each_of (Last A f make) P o before s each h = at_both P (make h.0) o (before ++ f.text h.0) s h.2 h.3 (each h.0 h.1)
each_of (Then A f next) P o before s each h = each_of (next h.0) P o (before ++ f.text h.0) s (each h.0 h.1) h.2
each_of (After word row) P o before s each h = each_of row P o (before ++ word) s each h

pub each_weaker : {B : Type 0} (r : Row B) (before : List ℕ) (P Q : B → List ℕ → Type 0) → ((b : B) (s : List ℕ) → P b s → Q b s) → Each r before P → Each r before Q
each_weaker (Done b) before P Q f each = f b before each
each_weaker (Last A g make) before P Q f each = λ a h. f (make a) (before ++ g.text a) (each a h)
each_weaker (Then A g next) before P Q f each = λ a h. each_weaker (next a) (before ++ g.text a) P Q f (each a h)
each_weaker (After word row) before P Q f each = each_weaker row (before ++ word) P Q f each
