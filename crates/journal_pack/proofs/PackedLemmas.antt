-- Journals: what is kept of one, and where bytes stop being one.
use Rattle.std.proofs.Common.{◌≡◌, ◌≢◌, ℕ, zero, suc, ◌+◌, ◌-◌, ◌<◌, ◌≤◌, Bool, true, false, cond, eqb, List, [], ◌∷◌, ◌++◌, length, drop, All, Option, Some, None, refl, sym, ap, subst, ◌∙◌, append_assoc, arith, length-append, inl, inr, ◌⊎◌}
use Rattle.std.specs.Prelude.{nat_eq}
use Rattle.std.specs.List.{AllByRecursion, starts_with}
use Rattle.std.proofs.lemmas.Bool.Decides.{Decides-eqb}
use Rattle.std.proofs.lemmas.List.{append-nil, drop_at, nil_from_length}
use Rattle.std.proofs.lemmas.Bool.{eqb-true, eqb-false}
use Rattle.std.proofs.lemmas.List.Concat.{flat_map-append}
use Rattle.std.proofs.lemmas.List.Elements.{recursion_from_All, All-from_recursion, All-push}
use Rattle.std.proofs.lemmas.Option.{none-some, same_Some, some_pair_parts, cond_some}
use Rattle.std.proofs.lemmas.Slice.Eq.{starts_is}
use Rattle.journal_pack.specs.declared.entry.Entry.{Entry}
use Rattle.journal_pack.specs.Entry.{HasSpelling, spelling}
use Rattle.journal_pack.specs.Growing.{body, entries_behind, entries_of, or_head, IsKept}
use Rattle.journal_pack.specs.Packed.{head, spelled, packed, HasNoHead, IsFaultAt, IsPacked, IsSpelled}
use Rattle.journal_pack.specs.Reading.{entry_at, entries_at, entries_within, with_first}
use Rattle.journal_pack.proofs.EntryLemmas.{entry_again, entry_takes, same_entry, some_bytes}

all_none : All HasSpelling []
all_none = All-from_recursion HasSpelling [] tt

-- ---- entries one after another

within_again : (n : ℕ) (es : List Entry) → AllByRecursion HasSpelling es → length es ≤ n → entries_within n (spelled es) ≡ es
unfolding entries_within entry_at
within_again zero [] h few = refl
within_again (suc n) [] h few = refl
within_again zero (e ∷ es) h few = absurd (omega arith)
within_again (suc n) (e ∷ es) h few =
    ap (λ (o : Option (Entry × List ℕ)). with_first o (λ rest. entries_within n rest)) (entry_again e (spelled es) h.0) ∙ ap (λ (t : List Entry). e ∷ t) (within_again n es h.1 (omega arith))

pub some_each : (es : List Entry) → length es ≤ length (spelled es)
some_each [] = omega arith
some_each (e ∷ es) = omega (arith, some_each es, some_bytes e, length-append (spelling e) (spelled es))

-- the entries that are spelled are read
pub entries_again : (es : List Entry) → All HasSpelling es → entries_at (spelled es) ≡ es
unfolding entries_at
entries_again es h = within_again (length (spelled es)) es (recursion_from_All HasSpelling es h) (some_each es)

-- the first of the entries that are left
pub record Goes (bytes : List ℕ) (es : List Entry) (e : Entry) (rest : List ℕ) : Type 0 where
  pub first : es ≡ e ∷ entries_at rest
  pub others : IsSpelled rest (entries_at rest)

goes_by : (es : List Entry) (bytes : List ℕ) (e : Entry) (rest : List ℕ) → AllByRecursion HasSpelling es → bytes ≡ spelled es → entry_at bytes ≡ Some (e, rest) → Goes bytes es e rest
unfolding entry_at
goes_by [] bytes e rest h parts got = absurd (none-some (e, rest) (sym (ap entry_at parts) ∙ got))
goes_by (d ∷ ds) bytes e rest h parts got =
    let same = some_pair_parts d e (spelled ds) rest (sym (entry_again d (spelled ds) h.0) ∙ sym (ap entry_at parts) ∙ got) in
    let left : entries_at rest ≡ ds = ap entries_at (sym same.1) ∙ entries_again ds (All-from_recursion HasSpelling ds h.1) in
    record {
      first = λ i. same.0 i ∷ sym left i;
      others = record { fit = subst (λ (t : List Entry). All HasSpelling t) (sym left) (All-from_recursion HasSpelling ds h.1); parts = sym same.1 ∙ ap spelled (sym left) };
    }

pub goes : (bytes : List ℕ) (e : Entry) (rest : List ℕ) → IsSpelled bytes (entries_at bytes) → entry_at bytes ≡ Some (e, rest) → Goes bytes (entries_at bytes) e rest
goes bytes e rest h got = goes_by (entries_at bytes) bytes e rest (recursion_from_All HasSpelling (entries_at bytes) h.fit) h.parts got

ends_by : (es : List Entry) (bytes : List ℕ) → AllByRecursion HasSpelling es → bytes ≡ spelled es → entry_at bytes ≡ None → es ≡ []
ends_by [] bytes h parts none = refl
ends_by (d ∷ ds) bytes h parts none = absurd (none-some (d, spelled ds) (sym none ∙ ap entry_at parts ∙ entry_again d (spelled ds) h.0))

-- where no entry is left the list is empty
pub ends : (bytes : List ℕ) → IsSpelled bytes (entries_at bytes) → entry_at bytes ≡ None → entries_at bytes ≡ []
ends bytes h none = ends_by (entries_at bytes) bytes (recursion_from_All HasSpelling (entries_at bytes) h.fit) h.parts none

-- ---- the head

pub body_again : (rest : List ℕ) → body (head ++ rest) ≡ Some rest
unfolding body
body_again rest =
    let test = (starts_is Decides-eqb (head ++ rest) head (starts_with nat_eq (head ++ rest) head) refl).1 rest refl in
    ap (λ (b : Bool). cond b (Some (drop (length head) (head ++ rest))) None) test ∙ ap (λ (t : List ℕ). Some t) (drop_at head rest (length head) refl)

pub body_takes : (bytes rest : List ℕ) → body bytes ≡ Some rest → bytes ≡ head ++ rest
unfolding body
body_takes bytes rest e =
    let found = cond_some (starts_with nat_eq bytes head) (drop (length head) bytes) rest e in
    let front = (starts_is Decides-eqb bytes head (starts_with nat_eq bytes head) refl).0 found.0 in
    front ∙ ap (λ (t : List ℕ). head ++ t) found.1

pub no_body : (bytes : List ℕ) → body bytes ≡ None → HasNoHead bytes
no_body bytes e tail s = none-some tail (sym e ∙ ap body s ∙ body_again tail)

-- ---- what is kept

pub of_packed : (es : List Entry) → All HasSpelling es → entries_of (packed es) ≡ es
unfolding entries_of
of_packed es h = ap entries_behind (body_again (spelled es)) ∙ entries_again es h

of_none : entries_of [] ≡ []
unfolding entries_of body
of_none = refl

or_head-packed : (es : List Entry) → or_head (packed es) ≡ packed es
or_head-packed es = refl

-- nothing is kept of a journal without entries
pub none_kept : (bytes : List ℕ) → bytes ≡ [] → IsKept bytes 0 × (entries_of bytes ≡ [])
none_kept bytes e = subst (λ (b : List ℕ). IsKept b 0 × (entries_of b ≡ [])) (sym e) (record { packed = record { fit = subst (λ (t : List Entry). All HasSpelling t) (sym of_none) all_none; whole = ap packed (sym of_none) }; counted = ap length (sym of_none) }, of_none)

-- the bytes of a journal are kept
pub kept : (bytes : List ℕ) (es : List Entry) (count : ℕ) → IsPacked bytes es → count ≡ length es → IsKept bytes count × (entries_of bytes ≡ es)
kept bytes es count h counted =
    let same : entries_of bytes ≡ es = ap entries_of h.whole ∙ of_packed es h.fit in
    let whole : or_head bytes ≡ packed (entries_of bytes) = ap or_head h.whole ∙ ap packed (sym same) in
    (record { packed = record { fit = subst (λ (t : List Entry). All HasSpelling t) (sym same) h.fit; whole = whole }; counted = counted ∙ ap length (sym same) }, same)

-- where bytes are kept, they are those of the journal
pub is_packed : (bytes : List ℕ) (count : ℕ) → IsKept bytes count → 0 < length bytes → IsPacked bytes (entries_of bytes)
is_packed [] count h some = absurd (omega arith)
is_packed (b ∷ bs) count h some = h.packed

spelled_again : (es : List Entry) → All HasSpelling es → IsSpelled (spelled es) (entries_at (spelled es))
spelled_again es h = record { fit = subst (λ (t : List Entry). All HasSpelling t) (sym (entries_again es h)) h; parts = ap spelled (sym (entries_again es h)) }

by_body : (bytes : List ℕ) (count : ℕ) → IsKept bytes count → (bytes ≡ []) ⊎ (body bytes ≡ Some (spelled (entries_of bytes)))
by_body [] count h = inl refl
by_body (b ∷ bs) count h = inr (ap body h.packed.whole ∙ body_again (spelled (entries_of (b ∷ bs))))

no_body_here : body [] ≡ None
unfolding body
no_body_here = refl

-- the entries behind the head of what is kept
pub left_some : (bytes : List ℕ) (count : ℕ) (rest : List ℕ) → IsKept bytes count → body bytes ≡ Some rest → IsSpelled rest (entries_at rest) × (entries_at rest ≡ entries_of bytes)
left_some bytes count rest h e = by (by_body bytes count h)
  where
    by : (bytes ≡ []) ⊎ (body bytes ≡ Some (spelled (entries_of bytes))) → IsSpelled rest (entries_at rest) × (entries_at rest ≡ entries_of bytes)
    by (inl none) = absurd (none-some rest (sym no_body_here ∙ sym (ap body none) ∙ e))
    by (inr some) =
        let same = same_Some _ _ (sym some ∙ e) in
        (subst (λ (t : List ℕ). IsSpelled t (entries_at t)) same (spelled_again (entries_of bytes) h.packed.fit), ap entries_at (sym same) ∙ entries_again (entries_of bytes) h.packed.fit)

-- where no head is kept there are no entries
pub left_none : (bytes : List ℕ) (count : ℕ) → IsKept bytes count → body bytes ≡ None → IsSpelled [] (entries_at []) × (entries_at [] ≡ entries_of bytes)
left_none bytes count h e = by (by_body bytes count h)
  where
    by : (bytes ≡ []) ⊎ (body bytes ≡ Some (spelled (entries_of bytes))) → IsSpelled [] (entries_at []) × (entries_at [] ≡ entries_of bytes)
    by (inl none) = (spelled_again [] all_none, entries_again [] all_none ∙ sym of_none ∙ ap entries_of (sym none))
    by (inr some) = absurd (none-some _ (sym e ∙ some))

-- the head may be put where nothing stands
pub headed : (bytes : List ℕ) (count : ℕ) → IsKept bytes count → IsKept (or_head bytes) count × (entries_of (or_head bytes) ≡ entries_of bytes)
headed [] count h =
    let got = kept head [] count (record { fit = all_none; whole = refl }) (h.counted ∙ ap length of_none) in
    (got.0, got.1 ∙ sym of_none)
headed (b ∷ bs) count h = (h, refl)

-- what is headed isn't empty
pub some_head : (bytes : List ℕ) → 0 < length (or_head bytes)
some_head [] = omega arith
some_head (b ∷ bs) = omega arith

spelled-push : (es : List Entry) (e : Entry) → spelled (es ++ e ∷ []) ≡ spelled es ++ spelling e
spelled-push es e = flat_map-append spelling es (e ∷ []) ∙ ap (λ (t : List ℕ). spelled es ++ t) (append-nil (spelling e))

-- an entry more is kept
pub pushed : (bytes more : List ℕ) (count : ℕ) (e : Entry) → IsKept bytes count → 0 < length bytes → HasSpelling e → more ≡ bytes ++ spelling e
    → IsKept more (count + 1) × (entries_of more ≡ entries_of bytes ++ e ∷ [])
pushed bytes more count e h some fit parts =
    let p = is_packed bytes count h some in
    let es = entries_of bytes in
    let whole : more ≡ packed (es ++ e ∷ []) = parts ∙ ap (λ (t : List ℕ). t ++ spelling e) p.whole ∙ ap (λ (t : List ℕ). head ++ t) (sym (spelled-push es e)) in
    kept more (es ++ e ∷ []) (count + 1) (record { fit = All-push HasSpelling es e p.fit fit; whole = whole }) (omega (arith, h.counted, length-append es (e ∷ [])))

-- there are no more entries than bytes
pub few_entries : (bytes : List ℕ) (count : ℕ) → IsKept bytes count → 0 < length bytes → count ≤ length bytes
few_entries bytes count h some =
    let p = is_packed bytes count h some in
    omega (arith, h.counted, ap length p.whole, some_each (entries_of bytes))

-- ---- bytes that are read

-- the bytes begin as a journal of some entries, and these are left
pub record IsRead (bytes : List ℕ) (before : List Entry) (rest : List ℕ) : Type 0 where
  pub fit : All HasSpelling before
  pub parts : bytes ≡ packed before ++ rest

-- what the tests of the code say of what is left
pub some_bytes_left : (rest : List ℕ) (b : Bool) → b ≡ eqb (length rest) 0 → b ≡ false → rest ≢ []
some_bytes_left rest b e f z = eqb-false (length rest) 0 (sym e ∙ f) (ap length z)

pub no_bytes_left : (rest : List ℕ) (b : Bool) → b ≡ eqb (length rest) 0 → b ≡ true → rest ≡ []
no_bytes_left rest b e f = nil_from_length rest (eqb-true (length rest) 0 (sym e ∙ f))

pub none_read : (bytes rest : List ℕ) → body bytes ≡ Some rest → IsRead bytes [] rest
none_read bytes rest e = record { fit = all_none; parts = body_takes bytes rest e }

pub one_more : (bytes rest tail : List ℕ) (before : List Entry) (e : Entry) → IsRead bytes before rest → entry_at rest ≡ Some (e, tail) → IsRead bytes (before ++ e ∷ []) tail × (length tail < length rest)
one_more bytes rest tail before e h got =
    let took = entry_takes rest (e, tail) got in
    let whole : packed before ++ rest ≡ packed (before ++ e ∷ []) ++ tail =
    ap (λ (t : List ℕ). packed before ++ t) took.1 ∙ ap (λ (t : List ℕ). head ++ t) (sym (append_assoc (spelled before) (spelling e) tail)) ∙ ap (λ (t : List ℕ). head ++ (t ++ tail)) (sym (spelled-push before e)) in
    (record { fit = All-push HasSpelling before e h.fit took.0; parts = h.parts ∙ whole }, omega (arith, ap length took.1, length-append (spelling e) tail, some_bytes e))

pub all_read : (bytes : List ℕ) (before : List Entry) (rest : List ℕ) → IsRead bytes before rest → rest ≡ [] → IsPacked bytes before
all_read bytes before rest h e = record { fit = h.fit; whole = h.parts ∙ ap (λ (t : List ℕ). packed before ++ t) e ∙ append-nil (packed before) }

pub no_entry : (rest : List ℕ) → entry_at rest ≡ None → (e : Entry) (tail : List ℕ) → HasSpelling e → rest ≢ spelling e ++ tail
no_entry rest none e tail h s = none-some (e, tail) (sym none ∙ ap entry_at s ∙ entry_again e tail h)

pub bad_entry : (bytes : List ℕ) (before : List Entry) (rest : List ℕ) → IsRead bytes before rest → entry_at rest ≡ None → rest ≢ [] → IsFaultAt bytes (length bytes - length rest)
bad_entry bytes before rest h none more =
    inr (record { before = before; rest = rest; fit = h.fit; parts = h.parts; place = omega (arith, ap length h.parts, length-append (packed before) rest); more = more; bad = no_entry rest none })

-- ---- bytes are a journal in one way at most, or stop being one at one place

-- two lists with one spelling are equal
pub same_journal : (a b : List Entry) → All HasSpelling a → All HasSpelling b → packed a ≡ packed b → a ≡ b
same_journal a b ha hb e = sym (of_packed a ha) ∙ ap entries_of e ∙ of_packed b hb

-- no entry's spelling stands in front
abbrev pub BeginsNone : List ℕ → Type 0
BeginsNone rest = (e : Entry) (tail : List ℕ) → HasSpelling e → rest ≢ spelling e ++ tail

same_head : (x y : List ℕ) → head ++ x ≡ head ++ y → x ≡ y
same_head x y e = cc

none_in : (a b : List Entry) (x : List ℕ) → AllByRecursion HasSpelling a → AllByRecursion HasSpelling b → BeginsNone x → x ≢ [] → spelled a ++ x ≡ spelled b → ⊥
none_in [] [] x ha hb none more e = more e
none_in [] (d ∷ ds) x ha hb none more e = none d (spelled ds) hb.0 e
none_in (c ∷ cs) [] x ha hb none more e = absurd (omega (arith, ap length e, length-append (spelled (c ∷ cs)) x, length-append (spelling c) (spelled cs), some_bytes c))
none_in (c ∷ cs) (d ∷ ds) x ha hb none more e =
    let same = same_entry c d (spelled cs ++ x) (spelled ds) ha.0 hb.0 (sym (append_assoc (spelling c) (spelled cs) x) ∙ e) in
    none_in cs ds x ha.1 hb.1 none more same.1

-- bytes that stop being a journal are none
pub never_packed : (bytes : List ℕ) (entries : List Entry) (offset : ℕ) → IsPacked bytes entries → IsFaultAt bytes offset → ⊥
never_packed bytes entries offset h (inl none) = none.0 (spelled entries) h.whole
never_packed bytes entries offset h (inr bad) =
    none_in bad.before entries bad.rest (recursion_from_All HasSpelling bad.before bad.fit) (recursion_from_All HasSpelling entries h.fit) bad.bad bad.more
    (same_head _ _ (sym bad.parts ∙ h.whole))

same_place : (a b : List Entry) (x y : List ℕ) → AllByRecursion HasSpelling a → AllByRecursion HasSpelling b → BeginsNone x → BeginsNone y → spelled a ++ x ≡ spelled b ++ y → a ≡ b
same_place [] [] x y ha hb nx ny e = refl
same_place [] (d ∷ ds) x y ha hb nx ny e = absurd (nx d (spelled ds ++ y) hb.0 (e ∙ append_assoc (spelling d) (spelled ds) y))
same_place (c ∷ cs) [] x y ha hb nx ny e = absurd (ny c (spelled cs ++ x) ha.0 (sym e ∙ append_assoc (spelling c) (spelled cs) x))
same_place (c ∷ cs) (d ∷ ds) x y ha hb nx ny e =
    let same = same_entry c d (spelled cs ++ x) (spelled ds ++ y) ha.0 hb.0 (sym (append_assoc (spelling c) (spelled cs) x) ∙ e ∙ append_assoc (spelling d) (spelled ds) y) in
    λ i. same.0 i ∷ same_place cs ds x y ha.1 hb.1 nx ny same.1 i

-- bytes stop being a journal at one place
pub one_fault : (bytes : List ℕ) (m n : ℕ) → IsFaultAt bytes m → IsFaultAt bytes n → m ≡ n
one_fault bytes m n (inl a) (inl b) = a.1 ∙ sym b.1
one_fault bytes m n (inl a) (inr b) = absurd (a.0 (spelled b.before ++ b.rest) b.parts)
one_fault bytes m n (inr a) (inl b) = absurd (b.0 (spelled a.before ++ a.rest) a.parts)
one_fault bytes m n (inr a) (inr b) =
    let same = same_place a.before b.before a.rest b.rest (recursion_from_All HasSpelling a.before a.fit) (recursion_from_All HasSpelling b.before b.fit) a.bad b.bad
    (same_head _ _ (sym a.parts ∙ b.parts)) in
    a.place ∙ ap (λ (t : List Entry). length (packed t)) same ∙ sym b.place
