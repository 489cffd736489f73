-- Entries: what is read is the spelling of the entry, and the spelling of an entry is read.
use Rattle.std.proofs.Common.{◌≡◌, ℕ, ◌^◌, ◌≤◌, true, eqb, List, [], ◌∷◌, ◌++◌, length, Option, Some, None, refl, sym, ap, subst, ◌∙◌, append_assoc, arith, length-append}
use Rattle.std.proofs.lemmas.Bool.{eqb-true}
use Rattle.std.proofs.lemmas.Option.{none-some, same_Some, some_pair_parts}
use Rattle.journal_pack.specs.declared.entry.Entry.{Entry}
use Rattle.journal_pack.specs.declared.entry.Entry.TheVariants.{Ev, Tick, Flush, Wait, Miss, Grow, Over, Full, Dead}
use Rattle.journal_pack.specs.Entry.{IsAddress, IsSteps, IsThread, HasSpelling, spelling}
use Rattle.journal_pack.specs.Leb128.{leb128}
use Rattle.journal_pack.specs.Reading.{thread_at, steps_at, address_at, pair_at, pair_as, thread_as, miss_at, grow_at, entry_of, entry_at}
use Rattle.journal_pack.proofs.Numbers.{either, bind_some, at_again, at_takes, whole_again, whole_takes, length-leb128}

-- ---- the spelling of an entry is read

thread_again : (t : ℕ) (rest : List ℕ) → IsThread t → thread_at (leb128 t ++ rest) ≡ Some (t, rest)
thread_again t rest h = at_again 0 (2 ^ 32) t rest h (omega (arith, h.1))

pair_again : (least t k : ℕ) (rest : List ℕ) → IsThread t → IsSteps least k → pair_at least ((leb128 t ++ leb128 k) ++ rest) ≡ Some (t, k, rest)
unfolding pair_at
pair_again least t k rest ht hk =
    rw (append_assoc (leb128 t) (leb128 k) rest, thread_again t (leb128 k ++ rest) ht, at_again least 4097 k rest hk (omega (arith, hk.1))) refl

miss_again : (t k source target : ℕ) (rest : List ℕ) → HasSpelling (Miss t k source target) → miss_at ((leb128 t ++ (leb128 k ++ (leb128 source ++ leb128 target))) ++ rest) ≡ Some (Miss t k source target, rest)
unfolding miss_at
miss_again t k source target rest h =
    let places = leb128 source ++ (leb128 target ++ rest) in
    let whole : (leb128 t ++ (leb128 k ++ (leb128 source ++ leb128 target))) ++ rest ≡ (leb128 t ++ leb128 k) ++ places = simp append_assoc in
    rw (whole, pair_again 0 t k places h.0 h.1, whole_again source (leb128 target ++ rest) h.2.1, whole_again target rest h.3.1) refl

grow_again : (t a : ℕ) (rest : List ℕ) → HasSpelling (Grow t a) → grow_at ((leb128 t ++ leb128 a) ++ rest) ≡ Some (Grow t a, rest)
unfolding grow_at
grow_again t a rest h = rw (append_assoc (leb128 t) (leb128 a) rest, thread_again t (leb128 a ++ rest) h.0, whole_again a rest h.1.1) refl

-- an entry's spelling is read, whatever follows it
pub entry_again : (e : Entry) (rest : List ℕ) → HasSpelling e → entry_at (spelling e ++ rest) ≡ Some (e, rest)
unfolding entry_at entry_of
entry_again (Ev t k) rest h = ap (pair_as Ev) (pair_again 0 t k rest h.0 h.1)
entry_again (Tick t k) rest h = ap (pair_as Tick) (pair_again 1 t k rest h.0 h.1)
entry_again (Flush t) rest h = ap (thread_as Flush) (thread_again t rest h)
entry_again (Wait t k) rest h = ap (pair_as Wait) (pair_again 1 t k rest h.0 h.1)
entry_again (Miss t k source target) rest h = miss_again t k source target rest h
entry_again (Grow t a) rest h = grow_again t a rest h
entry_again (Over t k) rest h = ap (pair_as Over) (pair_again 0 t k rest h.0 h.1)
entry_again (Full t) rest h = ap (thread_as Full) (thread_again t rest h)
entry_again Dead rest h = refl

-- ---- what is read is the spelling of the entry

-- an entry that has a spelling, and what stands behind it
abbrev pub Takes : List ℕ → Entry × List ℕ → Type 0
Takes bytes x = HasSpelling x.0 × (bytes ≡ spelling x.0 ++ x.1)

pair_takes : (least : ℕ) (bytes : List ℕ) (x : ℕ × ℕ × List ℕ) → pair_at least bytes ≡ Some x → IsThread x.0 × IsSteps least x.1 × (bytes ≡ (leb128 x.0 ++ leb128 x.1) ++ x.2)
unfolding pair_at
pair_takes least bytes x e =
    let t = bind_some (thread_at bytes) _ x e in
    let k = bind_some (steps_at least t.0.1) _ x t.2 in
    let same = same_Some _ _ k.2 in
    let ht = at_takes 0 (2 ^ 32) bytes t.0 t.1 in
    let hk = at_takes least 4097 t.0.1 k.0 k.1 in
    let whole = ht.0 ∙ ap (λ (r : List ℕ). leb128 t.0.0 ++ r) hk.0 ∙ sym (append_assoc (leb128 t.0.0) (leb128 k.0.0) k.0.1) in
    subst (λ (y : ℕ × ℕ × List ℕ). IsThread y.0 × IsSteps least y.1 × (bytes ≡ (leb128 y.0 ++ leb128 y.1) ++ y.2)) same (ht.1, hk.1, whole)

pair_as_takes : (make : ℕ → ℕ → Entry) (least : ℕ) (bytes : List ℕ) (kind : ℕ) (x : Entry × List ℕ)
    → ((t k : ℕ) → IsThread t → IsSteps least k → HasSpelling (make t k)) → ((t k : ℕ) → spelling (make t k) ≡ kind ∷ (leb128 t ++ leb128 k))
    → pair_as make (pair_at least bytes) ≡ Some x → Takes (kind ∷ bytes) x
pair_as_takes make least bytes kind x fit spelled e = by (pair_at least bytes) refl e
  where
    by : (o : Option (ℕ × ℕ × List ℕ)) → pair_at least bytes ≡ o → pair_as make o ≡ Some x → Takes (kind ∷ bytes) x
    by None is f = absurd (none-some x f)
    by (Some y) is f =
        let got = pair_takes least bytes y is in
        let whole : kind ∷ bytes ≡ spelling (make y.0 y.1) ++ y.2 = ap (λ (r : List ℕ). kind ∷ r) got.2 ∙ ap (λ (r : List ℕ). r ++ y.2) (sym (spelled y.0 y.1)) in
        subst (λ (z : Entry × List ℕ). Takes (kind ∷ bytes) z) (same_Some _ _ f) (fit y.0 y.1 got.0 got.1, whole)

thread_as_takes : (make : ℕ → Entry) (bytes : List ℕ) (kind : ℕ) (x : Entry × List ℕ)
    → ((t : ℕ) → IsThread t → HasSpelling (make t)) → ((t : ℕ) → spelling (make t) ≡ kind ∷ leb128 t)
    → thread_as make (thread_at bytes) ≡ Some x → Takes (kind ∷ bytes) x
thread_as_takes make bytes kind x fit spelled e = by (thread_at bytes) refl e
  where
    by : (o : Option (ℕ × List ℕ)) → thread_at bytes ≡ o → thread_as make o ≡ Some x → Takes (kind ∷ bytes) x
    by None is f = absurd (none-some x f)
    by (Some y) is f =
        let got = at_takes 0 (2 ^ 32) bytes y is in
        let whole : kind ∷ bytes ≡ spelling (make y.0) ++ y.1 = ap (λ (r : List ℕ). kind ∷ r) got.0 ∙ ap (λ (r : List ℕ). r ++ y.1) (sym (spelled y.0)) in
        subst (λ (z : Entry × List ℕ). Takes (kind ∷ bytes) z) (same_Some _ _ f) (fit y.0 got.1, whole)

miss_takes : (bytes : List ℕ) (x : Entry × List ℕ) → miss_at bytes ≡ Some x → Takes (4 ∷ bytes) x
unfolding miss_at
miss_takes bytes x e =
    let p = bind_some (pair_at 0 bytes) _ x e in
    let s = bind_some (address_at p.0.2) _ x p.2 in
    let g = bind_some (address_at s.0.1) _ x s.2 in
    let hp = pair_takes 0 bytes p.0 p.1 in
    let hs = whole_takes p.0.2 s.0 s.1 in
    let hg = whole_takes s.0.1 g.0 g.1 in
    let made : Entry = Miss p.0.0 p.0.1 s.0.0 g.0.0 in
    let places : p.0.2 ≡ leb128 s.0.0 ++ (leb128 g.0.0 ++ g.0.1) = hs.0 ∙ ap (λ (r : List ℕ). leb128 s.0.0 ++ r) hg.0 in
    let group : (leb128 p.0.0 ++ leb128 p.0.1) ++ (leb128 s.0.0 ++ (leb128 g.0.0 ++ g.0.1)) ≡ (leb128 p.0.0 ++ (leb128 p.0.1 ++ (leb128 s.0.0 ++ leb128 g.0.0))) ++ g.0.1 = simp append_assoc in
    let whole : 4 ∷ bytes ≡ spelling made ++ g.0.1 = ap (λ (r : List ℕ). 4 ∷ r) (hp.2 ∙ ap (λ (r : List ℕ). (leb128 p.0.0 ++ leb128 p.0.1) ++ r) places ∙ group) in
    subst (λ (z : Entry × List ℕ). Takes (4 ∷ bytes) z) (same_Some _ _ g.2) ((hp.0, hp.1, (omega arith, hs.1), (omega arith, hg.1)), whole)

grow_takes : (bytes : List ℕ) (x : Entry × List ℕ) → grow_at bytes ≡ Some x → Takes (5 ∷ bytes) x
unfolding grow_at
grow_takes bytes x e =
    let t = bind_some (thread_at bytes) _ x e in
    let a = bind_some (address_at t.0.1) _ x t.2 in
    let ht = at_takes 0 (2 ^ 32) bytes t.0 t.1 in
    let ha = whole_takes t.0.1 a.0 a.1 in
    let made : Entry = Grow t.0.0 a.0.0 in
    let whole : 5 ∷ bytes ≡ spelling made ++ a.0.1 = ap (λ (r : List ℕ). 5 ∷ r) (ht.0 ∙ ap (λ (r : List ℕ). leb128 t.0.0 ++ r) ha.0 ∙ sym (append_assoc (leb128 t.0.0) (leb128 a.0.0) a.0.1)) in
    subst (λ (z : Entry × List ℕ). Takes (5 ∷ bytes) z) (same_Some _ _ a.2) ((ht.1, (omega arith, ha.1)), whole)

-- the kind is this one
of_kind : (kind n : ℕ) (bytes : List ℕ) (x : Entry × List ℕ) → eqb kind n ≡ true → Takes (n ∷ bytes) x → Takes (kind ∷ bytes) x
of_kind kind n bytes x e h = subst (λ (m : ℕ). Takes (m ∷ bytes) x) (sym (eqb-true kind n e)) h

of_takes : (kind : ℕ) (bytes : List ℕ) (x : Entry × List ℕ) → entry_of kind bytes ≡ Some x → Takes (kind ∷ bytes) x
unfolding entry_of
of_takes kind bytes x e =
    either (eqb kind 0) _ _ x e (λ is f. of_kind kind 0 bytes x is (pair_as_takes Ev 0 bytes 0 x (λ t k ht hk. (ht, hk)) (λ t k. refl) f)) (λ _ e.
    either (eqb kind 1) _ _ x e (λ is f. of_kind kind 1 bytes x is (pair_as_takes Tick 1 bytes 1 x (λ t k ht hk. (ht, hk)) (λ t k. refl) f)) (λ _ e.
    either (eqb kind 2) _ _ x e (λ is f. of_kind kind 2 bytes x is (thread_as_takes Flush bytes 2 x (λ t ht. ht) (λ t. refl) f)) (λ _ e.
    either (eqb kind 3) _ _ x e (λ is f. of_kind kind 3 bytes x is (pair_as_takes Wait 1 bytes 3 x (λ t k ht hk. (ht, hk)) (λ t k. refl) f)) (λ _ e.
    either (eqb kind 4) _ _ x e (λ is f. of_kind kind 4 bytes x is (miss_takes bytes x f)) (λ _ e.
    either (eqb kind 5) _ _ x e (λ is f. of_kind kind 5 bytes x is (grow_takes bytes x f)) (λ _ e.
    either (eqb kind 6) _ _ x e (λ is f. of_kind kind 6 bytes x is (pair_as_takes Over 0 bytes 6 x (λ t k ht hk. (ht, hk)) (λ t k. refl) f)) (λ _ e.
    either (eqb kind 7) _ _ x e (λ is f. of_kind kind 7 bytes x is (thread_as_takes Full bytes 7 x (λ t ht. ht) (λ t. refl) f)) (λ _ e.
    either (eqb kind 8) _ _ x e (λ is f. of_kind kind 8 bytes x is (subst (λ (z : Entry × List ℕ). Takes (8 ∷ bytes) z) (same_Some _ _ f) (tt, refl))) (λ _ e. absurd (none-some x e))))))))))

-- what is read is an entry's spelling
pub entry_takes : (bytes : List ℕ) (x : Entry × List ℕ) → entry_at bytes ≡ Some x → Takes bytes x
unfolding entry_at
entry_takes [] x e = absurd (none-some x e)
entry_takes (kind ∷ bytes) x e = of_takes kind bytes x e

-- ---- laws of spellings

-- no entry's spelling begins another's
pub same_entry : (d e : Entry) (x y : List ℕ) → HasSpelling d → HasSpelling e → spelling d ++ x ≡ spelling e ++ y → (d ≡ e) × (x ≡ y)
same_entry d e x y hd he same = some_pair_parts d e x y (sym (entry_again d x hd) ∙ ap entry_at same ∙ entry_again e y he)

thread_length : (t : ℕ) → IsThread t → length (leb128 t) ≤ 5
thread_length t h = length-leb128 4 t (omega (arith, h.1))

steps_length : (least k : ℕ) → IsSteps least k → length (leb128 k) ≤ 2
steps_length least k h = length-leb128 1 k (omega (arith, h.1))

address_length : (a : ℕ) → IsAddress a → length (leb128 a) ≤ 10
address_length a h = length-leb128 9 a (omega (arith, h.1))

pair_length : (least t k : ℕ) → IsThread t → IsSteps least k → length (leb128 t ++ leb128 k) ≤ 7
pair_length least t k ht hk = omega (arith, length-append (leb128 t) (leb128 k), thread_length t ht, steps_length least k hk)

-- an entry has at most 28 bytes
pub length-spelling : (e : Entry) → HasSpelling e → length (spelling e) ≤ 28
length-spelling (Ev t k) h = omega (arith, pair_length 0 t k h.0 h.1)
length-spelling (Tick t k) h = omega (arith, pair_length 1 t k h.0 h.1)
length-spelling (Flush t) h = omega (arith, thread_length t h)
length-spelling (Wait t k) h = omega (arith, pair_length 1 t k h.0 h.1)
length-spelling (Miss t k source target) h =
    omega (
      arith,
      length-append (leb128 t) (leb128 k ++ (leb128 source ++ leb128 target)),
      length-append (leb128 k) (leb128 source ++ leb128 target),
      length-append (leb128 source) (leb128 target),
      thread_length t h.0,
      steps_length 0 k h.1,
      address_length source h.2,
      address_length target h.3,
    )
length-spelling (Grow t a) h = omega (arith, length-append (leb128 t) (leb128 a), thread_length t h.0, address_length a h.1)
length-spelling (Over t k) h = omega (arith, pair_length 0 t k h.0 h.1)
length-spelling (Full t) h = omega (arith, thread_length t h)
length-spelling Dead h = omega arith

-- an entry has a byte
pub some_bytes : (e : Entry) → 1 ≤ length (spelling e)
some_bytes (Ev t k) = omega arith
some_bytes (Tick t k) = omega arith
some_bytes (Flush t) = omega arith
some_bytes (Wait t k) = omega arith
some_bytes (Miss t k source target) = omega arith
some_bytes (Grow t a) = omega arith
some_bytes (Over t k) = omega arith
some_bytes (Full t) = omega arith
some_bytes Dead = omega arith
