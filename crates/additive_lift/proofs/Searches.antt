-- The way of a search, from place to place.
use Rattle.std.proofs.Common.{◌≡◌, ℕ, zero, suc, ◌+◌, ◌<◌, ◌≤◌, ◌⊎◌, inl, inr, Bool, true, false, cond, List, [], ◌∷◌, ◌++◌, refl, sym, ap, ◌∙◌, subst, arith, length, take, get_or, add-one}
use Rattle.std.specs.Prelude.{◌==◌, ◌||◌, filter}
use Rattle.std.specs.List.Sorted.{IsStrictlySortedBy}
use Rattle.std.specs.Ordering.{nat_cmp, match_ordering}
use Rattle.std.specs.declared.cmp.Ordering.{Ordering}
use Rattle.std.specs.declared.cmp.Ordering.TheVariants.{Less, Equal, Greater}
use Rattle.std.specs.BTreeSet.{insert_key}
use Rattle.std.proofs.lemmas.List.{append-nil, take_all, length-append}
use Rattle.std.proofs.lemmas.List.Elements.{filter-append}
use Rattle.std.proofs.lemmas.List.Folds.{list_any-append}
use Rattle.std.proofs.lemmas.Bool.Decides.{nat_tests}
use Rattle.elf_image.specs.Layout.{ImageData}
use Rattle.basic_blocks.specs.Places.{is_code_place}
use Rattle.basic_blocks.specs.Span.{successors}
use Rattle.basic_blocks.specs.Reach.{is_among, IsReach, IsReachAbove}
use Rattle.additive_lift.specs.Search.{IsMet, Meets}

-- ---- tests

or-none : (b : Bool) → (b || false) ≡ b
or-none true = refl
or-none false = refl

or-first : (a b : Bool) → a ≡ true → (a || b) ≡ true
or-first a b h = rw h refl

or-second : (a b : Bool) → b ≡ true → (a || b) ≡ true
or-second true b h = refl
or-second false b h = h

either : (a b : Bool) → (a || b) ≡ true → (a ≡ true) ⊎ (b ≡ true)
either true b h = inl refl
either false b h = inr h

or-assoc : (a b r : Bool) → ((a || b) || r) ≡ (a || (b || r))
or-assoc true b r = refl
or-assoc false b r = refl

or_swap : (a b r : Bool) → (a || (b || r)) ≡ (b || (a || r))
or_swap true true r = refl
or_swap true false r = refl
or_swap false true r = refl
or_swap false false r = refl

or_turned : (a b : Bool) → (a || b) ≡ (b || a)
or_turned true true = refl
or_turned true false = refl
or_turned false true = refl
or_turned false false = refl

same_again : (b r : Bool) → (b || r) ≡ (b || (b || r))
same_again true r = refl
same_again false r = refl

same_place : (a : ℕ) → (a == a) ≡ true
same_place a = grind arith

one_place : (a b : ℕ) → (a == b) ≡ true → a ≡ b
one_place a b h = grind (arith, nat_tests)

among-append : (xs ys : List ℕ) (a : ℕ) → is_among (xs ++ ys) a ≡ (is_among xs a || is_among ys a)
among-append xs ys a = list_any-append (λ x. x == a) xs ys

-- ---- a set with one more

same_cmp : (a x : ℕ) → nat_cmp a x ≡ Equal → a ≡ x
same_cmp a x h = grind (arith, nat_tests)

among_by : (o : Ordering) (a x q : ℕ) (xs : List ℕ) → nat_cmp a x ≡ o → is_among (insert_key nat_cmp xs a) q ≡ ((a == q) || is_among xs q) → is_among (match_ordering o (a ∷ x ∷ xs) (x ∷ xs) (x ∷ insert_key nat_cmp xs a)) q ≡ ((a == q) || ((x == q) || is_among xs q))
among_by Less a x q xs e more = refl
among_by Equal a x q xs e more = rw (same_cmp a x e) (same_again (x == q) (is_among xs q))
among_by Greater a x q xs e more = rw more (or_swap (x == q) (a == q) (is_among xs q))

among_insert : (keys : List ℕ) (a q : ℕ) → is_among (insert_key nat_cmp keys a) q ≡ ((a == q) || is_among keys q)
among_insert [] a q = refl
among_insert (x ∷ xs) a q = among_by (nat_cmp a x) a x q xs refl (among_insert xs a q)

-- ---- places that are met

pub meets_none : (met todo : List ℕ) → Meets [] met todo met todo
meets_none met todo = record {
  has = λ a. sym (or-none (is_among met a));
  stays = λ a h. h;
  fresh = λ a h. inl h;
  within = λ a h. inl h;
  count = omega arith;
  grows = omega arith;
}

one_of : (met : List ℕ) (a q : ℕ) → is_among (insert_key nat_cmp met a) q ≡ (is_among met q || is_among (a ∷ []) q)
one_of met a q = among_insert met a q ∙ or_turned (a == q) (is_among met q) ∙ ap (λ b. is_among met q || b) (sym (or-none (a == q)))

-- a new place
pub meets_new : (a : ℕ) (met todo met_now todo_now : List ℕ) → met_now ≡ insert_key nat_cmp met a → length met_now ≡ length met + 1 → todo_now ≡ todo ++ a ∷ [] → Meets (a ∷ []) met todo met_now todo_now
meets_new a met todo met_now todo_now m l t =
    let has : (q : ℕ) → is_among met_now q ≡ (is_among met q || is_among (a ∷ []) q) = λ q. ap (λ x. is_among x q) m ∙ one_of met a q in
    let todo_has : (q : ℕ) → is_among todo_now q ≡ (is_among todo q || is_among (a ∷ []) q) = λ q. ap (λ x. is_among x q) t ∙ among-append todo (a ∷ []) q in
    record {
      has = has;
      stays = λ q h. todo_has q ∙ or-first _ _ h;
      fresh = λ q h. elim (either _ _ (sym (has q) ∙ h)) [
        | inl before ↦ inl before
        | inr here ↦ inr (todo_has q ∙ or-second _ _ here)
      ];
      within = λ q h. elim (either _ _ (sym (todo_has q) ∙ h)) [
        | inl before ↦ inl before
        | inr here ↦ inr (has q ∙ or-second _ _ here)
      ];
      count = omega (arith, ap length t, length-append todo (a ∷ []), l);
      grows = omega (arith, l);
    }

there : (met : List ℕ) (a q : ℕ) → is_among met a ≡ true → is_among met q ≡ (is_among met q || is_among (a ∷ []) q)
there met a q h = elim (a == q) as (λ b. (a == q) ≡ b → is_among met q ≡ (is_among met q || (b || false))) [
  | true ↦ λ e. let same : is_among met q ≡ true = subst (λ x. is_among met x ≡ true) (one_place a q e) h in rw same refl
  | false ↦ λ e. sym (or-none (is_among met q))
] refl

-- one that was met before
pub meets_old : (a : ℕ) (met todo met_now : List ℕ) → is_among met a ≡ true → met_now ≡ met → Meets (a ∷ []) met todo met_now todo
meets_old a met todo met_now h e = rw e (record {
  has = λ q. there met a q h;
  stays = λ q k. k;
  fresh = λ q k. inl k;
  within = λ q k. inl k;
  count = omega arith;
  grows = omega arith;
})

-- some, and then others
pub meets_both : (xs ys met todo met1 todo1 met2 todo2 : List ℕ) → Meets xs met todo met1 todo1 → Meets ys met1 todo1 met2 todo2 → Meets (xs ++ ys) met todo met2 todo2
meets_both xs ys met todo met1 todo1 met2 todo2 f g = record {
  has = λ a. g.has a ∙ ap (λ b. b || is_among ys a) (f.has a) ∙ or-assoc (is_among met a) (is_among xs a) (is_among ys a) ∙ ap (λ b. is_among met a || b) (sym (among-append xs ys a));
  stays = λ a h. g.stays a (f.stays a h);
  fresh = λ a h. elim (g.fresh a h) [
    | inl middle ↦ elim (f.fresh a middle) [ inl first ↦ inl first | inr left ↦ inr (g.stays a left) ]
    | inr left ↦ inr left
  ];
  within = λ a h. elim (g.within a h) [
    | inl middle ↦ elim (f.within a middle) [ inl first ↦ inl first | inr in1 ↦ inr (g.has a ∙ or-first _ _ in1) ]
    | inr in2 ↦ inr in2
  ];
  count = omega (arith, f.count, g.count);
  grows = omega (arith, f.grows, g.grows);
}

-- ---- roots, one after another

taken_more : (xs : List ℕ) (i d : ℕ) → i < length xs → take (i + 1) xs ≡ take i xs ++ get_or xs i d ∷ []
taken_more xs i d lt = ap (λ n. take n xs) (add-one i) ∙ by_suc xs i d lt
  where
    by_suc : (xs : List ℕ) (i d : ℕ) → i < length xs → take (suc i) xs ≡ take i xs ++ get_or xs i d ∷ []
    by_suc [] i d lt = absurd (omega arith)
    by_suc (x ∷ xs) zero d lt = refl
    by_suc (x ∷ xs) (suc i) d lt = ap (λ y. x ∷ y) (by_suc xs i d (omega arith))

kept_more : (p : ℕ → Bool) (xs kept : List ℕ) (i d : ℕ) → i < length xs → filter p (get_or xs i d ∷ []) ≡ kept → filter p (take i xs) ++ kept ≡ filter p (take (i + 1) xs)
kept_more p xs kept i d lt one = ap (λ x. filter p (take i xs) ++ x) (sym one) ∙ sym (filter-append p (take i xs) (get_or xs i d ∷ [])) ∙ ap (filter p) (sym (taken_more xs i d lt))

pub root_in : (p : ℕ → Bool) (xs met todo met1 todo1 met2 todo2 : List ℕ) (i d : ℕ) → i < length xs → p (get_or xs i d) ≡ true → Meets (filter p (take i xs)) met todo met1 todo1 → Meets (get_or xs i d ∷ []) met1 todo1 met2 todo2 → Meets (filter p (take (i + 1) xs)) met todo met2 todo2
root_in p xs met todo met1 todo1 met2 todo2 i d lt pass f g =
    let one : filter p (get_or xs i d ∷ []) ≡ get_or xs i d ∷ [] = rw pass refl in
    subst (λ x. Meets x met todo met2 todo2) (kept_more p xs (get_or xs i d ∷ []) i d lt one) (meets_both _ _ _ _ _ _ _ _ f g)

pub root_out : (p : ℕ → Bool) (xs met todo met1 todo1 : List ℕ) (i d : ℕ) → i < length xs → p (get_or xs i d) ≡ false → Meets (filter p (take i xs)) met todo met1 todo1 → Meets (filter p (take (i + 1) xs)) met todo met1 todo1
root_out p xs met todo met1 todo1 i d lt pass f =
    let one : filter p (get_or xs i d ∷ []) ≡ [] = rw pass refl in
    subst (λ x. Meets x met todo met1 todo1) (sym (append-nil (filter p (take i xs))) ∙ kept_more p xs [] i d lt one) f

pub roots_all : (p : ℕ → Bool) (xs met todo met1 todo1 : List ℕ) (i : ℕ) → length xs ≤ i → Meets (filter p (take i xs)) met todo met1 todo1 → Meets (filter p xs) met todo met1 todo1
roots_all p xs met todo met1 todo1 i le f = subst (λ x. Meets (filter p x) met todo met1 todo1) (take_all i xs le) f

-- ---- the whole way

among_kept : (p : ℕ → Bool) (xs : List ℕ) (a : ℕ) → is_among xs a ≡ true → p a ≡ true → is_among (filter p xs) a ≡ true
among_kept p [] a h k = h
among_kept p (x ∷ xs) a h k = elim (p x) as (λ b. p x ≡ b → is_among (cond b (x ∷ filter p xs) (filter p xs)) a ≡ true) [
  | true ↦ λ e. elim (either (x == a) (is_among xs a) h) [
    | inl here ↦ or-first _ _ here
    | inr later ↦ or-second (x == a) _ (among_kept p xs a later k)
  ]
  | false ↦ λ e. elim (either (x == a) (is_among xs a) h) [
    | inl here ↦ let no : true ≡ false = sym k ∙ ap p (sym (one_place x a here)) ∙ e in absurd (cc)
    | inr later ↦ among_kept p xs a later k
  ]
] refl

kept_among : (p : ℕ → Bool) (xs : List ℕ) (a : ℕ) → is_among (filter p xs) a ≡ true → (is_among xs a ≡ true) × (p a ≡ true)
kept_among p [] a = λ h. absurd (cc)
kept_among p (x ∷ xs) a = elim (p x) as (λ b. p x ≡ b → is_among (cond b (x ∷ filter p xs) (filter p xs)) a ≡ true → (is_among (x ∷ xs) a ≡ true) × (p a ≡ true)) [
  | true ↦ λ e h. elim (either (x == a) (is_among (filter p xs) a) h) [
    | inl here ↦ (or-first _ _ here, ap p (sym (one_place x a here)) ∙ e)
    | inr later ↦ let r = kept_among p xs a later in (or-second (x == a) _ r.0, r.1)
  ]
  | false ↦ λ e h. let r = kept_among p xs a h in (or-second (x == a) _ r.0, r.1)
] refl

pub search_begins : (image : ImageData) (roots met todo : List ℕ) → Meets (filter (is_code_place image) roots) [] [] met todo → IsMet image roots met todo
search_begins image roots met todo m = record {
  rooted = λ a h place. m.has a ∙ among_kept (is_code_place image) roots a h place;
  closed = λ a b h next. elim (m.fresh a h) [ inl none ↦ absurd (cc) | inr left ↦ inl left ];
  within = λ a h. elim (m.within a h) [ inl none ↦ absurd (cc) | inr here ↦ here ];
  least = λ set rooted closed a h. let k = kept_among (is_code_place image) roots a (sym (m.has a) ∙ h) in rooted a k.0 k.1;
}

last_among : (todo : List ℕ) (a : ℕ) → is_among (todo ++ a ∷ []) a ≡ true
last_among todo a = among-append todo (a ∷ []) a ∙ or-second (is_among todo a) _ (or-first _ _ (same_place a))

pub search_goes_on : (image : ImageData) (roots met todo met_now todo_now : List ℕ) (a : ℕ) → IsMet image roots met (todo ++ a ∷ []) → Meets (successors image a) met todo met_now todo_now → IsMet image roots met_now todo_now
search_goes_on image roots met todo met_now todo_now a s m =
    let kept : (q : ℕ) → is_among met q ≡ true → is_among met_now q ≡ true = λ q h. m.has q ∙ or-first _ _ h in
    let old : (q : ℕ) → is_among todo q ≡ true → is_among (todo ++ a ∷ []) q ≡ true = λ q h. among-append todo (a ∷ []) q ∙ or-first _ _ h in
    record {
      rooted = λ q h place. kept q (s.rooted q h place);
      closed = λ q b h next. elim (m.fresh q h) [
        | inr left ↦ inl left
        | inl before ↦ elim (s.closed q b before next) [
          | inr there ↦ inr (kept b there)
          | inl left ↦ elim (either _ _ (sym (among-append todo (a ∷ []) q) ∙ left)) [
            | inl still ↦ inl (m.stays q still)
            | inr here ↦ let same : a ≡ q = one_place a q (sym (or-none (a == q)) ∙ here) in inr (m.has b ∙ or-second (is_among met b) _ (subst (λ x. is_among (successors image x) b ≡ true) (sym same) next))
          ]
        ]
      ];
      within = λ q h. elim (m.within q h) [ inl before ↦ kept q (s.within q (old q before)) | inr here ↦ here ];
      least = λ set rooted closed q h. elim (either _ _ (sym (m.has q) ∙ h)) [
        | inl before ↦ s.least set rooted closed q before
        | inr next ↦ closed a q (s.least set rooted closed a (s.within a (last_among todo a))) next
      ];
    }

pub search_ends : (image : ImageData) (roots met todo places : List ℕ) → IsMet image roots met todo → todo ≡ [] → places ≡ met → IsStrictlySortedBy nat_cmp places → IsReach image roots places
search_ends image roots met todo places s none same rises = rw same (record {
  ordered = subst (IsStrictlySortedBy nat_cmp) same rises;
  rooted = s.rooted;
  closed = λ a b h next. elim (s.closed a b h next) [
    | inl left ↦ let no : false ≡ true = subst (λ x. is_among x a ≡ true) none left in absurd (cc)
    | inr there ↦ there
  ];
  least = s.least;
})

pub search_above : (image : ImageData) (roots met todo : List ℕ) (limit : ℕ) → IsMet image roots met todo → IsStrictlySortedBy nat_cmp met → limit < length met → IsReachAbove image roots limit
search_above image roots met todo limit s rises above = (met, rises, above, s.least)

-- two lists of roots, one after the other
pub roots_begin : (image : ImageData) (roots known met0 todo0 met1 todo1 met2 todo2 : List ℕ) → met0 ≡ [] → todo0 ≡ [] → Meets (filter (is_code_place image) roots) met0 todo0 met1 todo1 → Meets (filter (is_code_place image) known) met1 todo1 met2 todo2 → IsMet image (roots ++ known) met2 todo2
roots_begin image roots known met0 todo0 met1 todo1 met2 todo2 m t f g =
    let both : Meets (filter (is_code_place image) (roots ++ known)) met0 todo0 met2 todo2 = subst (λ x. Meets x met0 todo0 met2 todo2) (sym (filter-append (is_code_place image) roots known)) (meets_both _ _ _ _ _ _ _ _ f g) in
    search_begins image (roots ++ known) met2 todo2 (subst (λ x. Meets (filter (is_code_place image) (roots ++ known)) x [] met2 todo2) m (subst (λ x. Meets (filter (is_code_place image) (roots ++ known)) met0 x met2 todo2) t both))
