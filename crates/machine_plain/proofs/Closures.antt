-- What is reached, place by place.
use Rattle.std.proofs.Common.{◌≡◌, ℕ, zero, suc, ◌+◌, ◌-◌, ◌<◌, ◌≤◌, ◌⊎◌, inl, inr, Bool, true, false, cond, List, [], ◌∷◌, ◌++◌, refl, sym, ap, ◌∙◌, subst, arith, length, take, drop, get_or, add-one, All}
use Rattle.std.proofs.lemmas.Map.Keys.{sorted_tail}
use Rattle.std.proofs.lemmas.Map.Views.{All-after_first}
use Rattle.std.specs.Prelude.{◌==◌, ◌||◌, IsTrue}
use Rattle.std.specs.List.{list_any}
use Rattle.std.specs.List.Sorted.{IsStrictlySortedBy}
use Rattle.std.specs.Ordering.{nat_cmp, match_ordering}
use Rattle.std.specs.declared.cmp.Ordering.{Ordering}
use Rattle.std.specs.declared.cmp.Ordering.TheVariants.{Less, Equal, Greater}
use Rattle.std.specs.BTreeSet.{insert_key}
use Rattle.std.specs.BTreeMap.{is_at}
use Rattle.std.proofs.lemmas.List.{take-append-le, append_assoc, append-nil, take_all}
use Rattle.std.proofs.lemmas.List.Folds.{list_any-append, list_any_more, list_any_at}
use Rattle.std.proofs.Math.Seq.{drop-cons}
use Rattle.std.proofs.lemmas.Bool.Decides.{nat_tests}
use Rattle.elf_image.specs.Layout.{ImageData}
use Rattle.basic_blocks.specs.Places.{is_code_place}
use Rattle.basic_blocks.specs.Span.{successors}
use Rattle.basic_blocks.specs.Reach.{is_among, HasRoots, IsClosed, IsReached, IsReach}
use Rattle.machine_plain.specs.PlainGates.{IsClosure, with_place, with_places}

-- ---- a list of places added one by one

pub more_begin : (places more all : List ℕ) → with_places places more ≡ with_places places (drop 0 more)
more_begin places [] all = refl
more_begin places (a ∷ more) all = refl

pub more_go_on : (now old more : List ℕ) (i d : ℕ) → i < length more → with_places now (drop i more) ≡ with_places old more → with_places (with_place now (get_or more i d)) (drop (i + 1) more) ≡ with_places old more
unfolding with_places
more_go_on now old more i d lt h =
    ap (λ x. with_places (with_place now (get_or more i d)) (drop x more)) (add-one i)
    ∙ ap (with_places now) (sym (drop-cons more i d lt))
    ∙ h

none_left : (more : List ℕ) (i : ℕ) → length more ≤ i → drop i more ≡ []
none_left [] zero le = refl
none_left [] (suc i) le = refl
none_left (a ∷ more) zero le = absurd (omega arith)
none_left (a ∷ more) (suc i) le = none_left more i (omega arith)

pub more_end : (now old more : List ℕ) (i : ℕ) → length more ≤ i → with_places now (drop i more) ≡ with_places old more → now ≡ with_places old more
unfolding with_places
more_end now old more i le h = ap (with_places now) (sym (none_left more i le)) ∙ h

-- what comes behind the places that were there
one_more : (b : Bool) (places : List ℕ) (a : ℕ) (rest : List ℕ) → (more : List ℕ) × (cond b places (places ++ a ∷ []) ++ rest ≡ places ++ more)
one_more true places a rest = (rest, refl)
one_more false places a rest = (a ∷ rest, append_assoc places (a ∷ []) rest)

extra : (places more : List ℕ) → (rest : List ℕ) × (with_places places more ≡ places ++ rest)
unfolding with_places
extra places [] = ([], sym (append-nil places))
extra places (a ∷ more) =
    let r = extra (with_place places a) more in
    let o = one_more (is_among places a) places a r.0 in
    (o.0, r.1 ∙ o.1)

or-none : (b : Bool) → (b || false) ≡ b
or-none true = refl
or-none false = refl

or-first : (a b : Bool) → a ≡ true → (a || b) ≡ true
or-first a b h = rw h refl

or-second : (a b : Bool) → b ≡ true → (a || b) ≡ true
or-second true b h = refl
or-second false b h = h

either : (a b : Bool) → (a || b) ≡ true → (a ≡ true) ⊎ (b ≡ true)
either true b h = inl refl
either false b h = inr h

or-assoc : (a b r : Bool) → ((a || b) || r) ≡ (a || (b || r))
or-assoc true b r = refl
or-assoc false b r = refl

same_place : (a : ℕ) → (a == a) ≡ true
same_place a = grind arith

one_place : (a b : ℕ) → (a == b) ≡ true → a ≡ b
one_place a b h = grind (arith, nat_tests)

there_already : (places : List ℕ) (a q : ℕ) → is_among places a ≡ true → is_among places q ≡ (is_among places q || (a == q))
there_already places a q h = elim (a == q) as (λ b. (a == q) ≡ b → is_among places q ≡ (is_among places q || b)) [
  | true ↦ λ e. let same : is_among places q ≡ true = subst (λ x. is_among places x ≡ true) (one_place a q e) h in rw same refl
  | false ↦ λ e. sym (or-none (is_among places q))
] refl

among_place : (places : List ℕ) (a q : ℕ) → is_among (with_place places a) q ≡ (is_among places q || (a == q))
among_place places a q = elim (is_among places a) as (λ b. is_among places a ≡ b → is_among (cond b places (places ++ a ∷ [])) q ≡ (is_among places q || (a == q))) [
  | true ↦ λ e. there_already places a q e
  | false ↦ λ e. list_any-append (λ x. x == q) places (a ∷ []) ∙ ap (λ x. is_among places q || x) (or-none (a == q))
] refl

among_places : (places more : List ℕ) (q : ℕ) → is_among (with_places places more) q ≡ (is_among places q || is_among more q)
unfolding with_places
among_places places [] q = sym (or-none (is_among places q))
among_places places (a ∷ more) q =
    among_places (with_place places a) more q
    ∙ ap (λ x. x || is_among more q) (among_place places a q)
    ∙ or-assoc (is_among places q) (a == q) (is_among more q)

-- ---- the way to a closed list

no_member : (i a : ℕ) → is_among (take 0 []) a ≡ true → ⊥
no_member i a h = let e : false ≡ true = h in cc

root_alone : (root a : ℕ) → is_among (root ∷ []) a ≡ true → root ≡ a
root_alone root a h = one_place root a (sym (or-none (root == a)) ∙ h)

pub begins_with_root : (image : ImageData) (root : ℕ) (places : List ℕ) → places ≡ root ∷ [] → is_code_place image root ≡ true → IsClosure image root places 0
begins_with_root image root places e code = rw e (record {
  rooted = λ a h place. h;
  closed = λ a b h next. let none : false ≡ true = h in cc;
  least = λ set rooted closed a h. rooted a h (subst (λ x. is_code_place image x ≡ true) (root_alone root a h) code);
})

pub begins_with_none : (image : ImageData) (root : ℕ) (places : List ℕ) → places ≡ [] → is_code_place image root ≡ false → IsClosure image root places 0
begins_with_none image root places e code = rw e (record {
  rooted = λ a h place. let none : false ≡ true = sym code ∙ subst (λ x. is_code_place image x ≡ true) (sym (root_alone root a h)) place in cc;
  closed = λ a b h next. let none : false ≡ true = h in cc;
  least = λ set rooted closed a h. let none : false ≡ true = h in cc;
})

front_kept : (places more : List ℕ) (i : ℕ) → i < length places → take (i + 1) (with_places places more) ≡ take (i + 1) places
front_kept places more i lt =
    let x = extra places more in
    ap (take (i + 1)) x.1 ∙ take-append-le (i + 1) places x.0 (omega (arith, lt))

pub goes_on : (image : ImageData) (root i d : ℕ) (places more new : List ℕ) → IsClosure image root places i → i < length places → more ≡ successors image (get_or places i d) → new ≡ with_places places more → IsClosure image root new (i + 1)
goes_on image root i d places more new w lt is_more is_new =
    let p : ℕ = get_or places i d in
    let here : is_among places p ≡ true = list_any_at (λ x. x == p) places i d lt (same_place p) in
    let front : (a : ℕ) → is_among (take (i + 1) (with_places places more)) a ≡ (is_among (take i places) a || (p == a)) = λ a. ap (λ x. is_among x a) (front_kept places more i lt) ∙ list_any_more (λ x. x == a) places i d lt in
    rw is_new (record {
      rooted = λ a h place. among_places places more a ∙ or-first _ _ (w.rooted a h place);
      closed = λ a b h next. elim (either _ _ (sym (front a) ∙ h)) [
        | inl before ↦ among_places places more b ∙ or-first _ _ (w.closed a b before next)
        | inr at ↦ among_places places more b ∙ or-second _ _ (subst (λ x. is_among x b ≡ true) (sym is_more) (subst (λ x. is_among (successors image x) b ≡ true) (sym (one_place p a at)) next))
      ];
      least = λ set rooted closed a h. elim (either _ _ (sym (among_places places more a) ∙ h)) [
        | inl before ↦ w.least set rooted closed a before
        | inr at ↦ closed p a (w.least set rooted closed p here) (subst (λ x. is_among x a ≡ true) is_more at)
      ];
    })

pub all_met : (image : ImageData) (root i : ℕ) (places : List ℕ) → IsClosure image root places i → length places ≤ i → IsClosure image root places (length places)
all_met image root i places w le = record {
  rooted = w.rooted;
  closed = λ a b h. w.closed a b (subst (λ x. is_among x a ≡ true) (take_all (length places) places (omega arith) ∙ sym (take_all i places le)) h);
  least = w.least;
}

pub in_order_reach : (image : ImageData) (root : ℕ) (places sorted : List ℕ) → IsClosure image root places (length places) → ((a : ℕ) → is_among sorted a ≡ is_among places a) → IsStrictlySortedBy nat_cmp sorted → IsReach image (root ∷ []) sorted
in_order_reach image root places sorted w same rises = record {
  ordered = rises;
  rooted = λ a h place. same a ∙ w.rooted a h place;
  closed = λ a b h next. same b ∙ w.closed a b (subst (λ x. is_among x a ≡ true) (sym (take_all (length places) places (omega arith))) (sym (same a) ∙ h)) next;
  least = λ set rooted closed a h. w.least set rooted closed a (sym (same a) ∙ h);
}

-- ---- a set of numbers, by rising number

at_same : (q x : ℕ) → is_at (nat_cmp q) x ≡ (x == q)
at_same q x = grind (arith, nat_tests)

or_swap : (a b r : Bool) → (a || (b || r)) ≡ (b || (a || r))
or_swap true true r = refl
or_swap true false r = refl
or_swap false true r = refl
or_swap false false r = refl

same_cmp : (a x : ℕ) → nat_cmp a x ≡ Equal → a ≡ x
same_cmp a x h = grind (arith, nat_tests)

same_again : (b r : Bool) → (b || r) ≡ (b || (b || r))
same_again true r = refl
same_again false r = refl

among_by : (o : Ordering) (a x q : ℕ) (xs : List ℕ) → nat_cmp a x ≡ o → is_among (insert_key nat_cmp xs a) q ≡ ((a == q) || is_among xs q) → is_among (match_ordering o (a ∷ x ∷ xs) (x ∷ xs) (x ∷ insert_key nat_cmp xs a)) q ≡ ((a == q) || ((x == q) || is_among xs q))
among_by Less a x q xs e more = refl
among_by Equal a x q xs e more = rw (same_cmp a x e) (same_again (x == q) (is_among xs q))
among_by Greater a x q xs e more = rw more (or_swap (x == q) (a == q) (is_among xs q))

among_insert : (keys : List ℕ) (a q : ℕ) → is_among (insert_key nat_cmp keys a) q ≡ ((a == q) || is_among keys q)
among_insert [] a q = refl
among_insert (x ∷ xs) a q = among_by (nat_cmp a x) a x q xs refl (among_insert xs a q)

or_turned : (a b : Bool) → (a || b) ≡ (b || a)
or_turned true true = refl
or_turned true false = refl
or_turned false true = refl
or_turned false false = refl

pub insert_more : (keys places new : List ℕ) (i d : ℕ) → i < length places → new ≡ insert_key nat_cmp keys (get_or places i d) → ((q : ℕ) → is_among keys q ≡ is_among (take i places) q) → (q : ℕ) → is_among new q ≡ is_among (take (i + 1) places) q
insert_more keys places new i d lt e h q =
    ap (λ x. is_among x q) e
    ∙ among_insert keys (get_or places i d) q
    ∙ or_turned (get_or places i d == q) (is_among keys q)
    ∙ ap (λ x. x || (get_or places i d == q)) (h q)
    ∙ sym (list_any_more (λ x. x == q) places i d lt)

pub insert_all : (keys places : List ℕ) (i : ℕ) → length places ≤ i → ((q : ℕ) → is_among keys q ≡ is_among (take i places) q) → (q : ℕ) → is_among keys q ≡ is_among places q
insert_all keys places i le h q = h q ∙ ap (λ x. is_among x q) (take_all i places le)

-- ---- two lists of the same places

sorted_below : (x a : ℕ) (xs : List ℕ) → All (λ y. nat_cmp x y ≡ Less) xs → is_among xs a ≡ true → x < a
sorted_below x a [] all h = let none : false ≡ true = h in cc
sorted_below x a (y ∷ xs) all h = elim (either (y == a) (is_among xs a) h) [
  | inl e ↦ subst (λ z. x < z) (one_place y a e) (less x y (all 0 y (omega arith)))
  | inr rest ↦ sorted_below x a xs (λ i d lt. all (suc i) d (omega (arith, lt))) rest
]
  where
    less : (x y : ℕ) → nat_cmp x y ≡ Less → x < y
    less x y h = grind (arith, nat_tests)

front_same : (x y : ℕ) (xs ys : List ℕ) → IsStrictlySortedBy nat_cmp (x ∷ xs) → IsStrictlySortedBy nat_cmp (y ∷ ys) → ((a : ℕ) → is_among (x ∷ xs) a ≡ is_among (y ∷ ys) a) → x ≡ y
front_same x y xs ys p q same =
    elim (either (y == x) (is_among ys x) (sym (same x) ∙ or-first _ _ (same_place x))) [
      | inl e ↦ sym (one_place y x e)
      | inr in_ys ↦ elim (either (x == y) (is_among xs y) (same y ∙ or-first _ _ (same_place y))) [
        | inl e ↦ one_place x y e
        | inr in_xs ↦ let a = sorted_below y x ys (All-after_first nat_cmp y ys q) in_ys in let b = sorted_below x y xs (All-after_first nat_cmp x xs p) in_xs in absurd (omega (arith, a, b))
      ]
    ]

not_itself : (x a : ℕ) → x < a → (x == a) ≡ false
not_itself x a h = grind (arith, nat_tests)

true_or_false : (b : Bool) → (b ≡ true) ⊎ (b ≡ false)
true_or_false true = inl refl
true_or_false false = inr refl

same_truth : (a b : Bool) → (a ≡ true → b ≡ true) → (b ≡ true → a ≡ true) → a ≡ b
same_truth true b f g = sym (f refl)
same_truth false true f g = g refl
same_truth false false f g = refl

rest_member : (x a : ℕ) (xs ys : List ℕ) → All (λ y. nat_cmp x y ≡ Less) xs → ((b : ℕ) → is_among (x ∷ xs) b ≡ is_among (x ∷ ys) b) → is_among xs a ≡ true → is_among ys a ≡ true
rest_member x a xs ys above same h =
    let apart = not_itself x a (sorted_below x a xs above h) in
    let there : ((x == a) || is_among ys a) ≡ true = sym (same a) ∙ or-second (x == a) (is_among xs a) h in
    ap (λ b. b || is_among ys a) (sym apart) ∙ there

pub same_sorted : (xs ys : List ℕ) → IsStrictlySortedBy nat_cmp xs → IsStrictlySortedBy nat_cmp ys → ((a : ℕ) → is_among xs a ≡ is_among ys a) → xs ≡ ys
same_sorted [] [] p q same = refl
same_sorted [] (y ∷ ys) p q same = let none : false ≡ true = same y ∙ or-first _ _ (same_place y) in cc
same_sorted (x ∷ xs) [] p q same = let none : true ≡ false = sym (or-first _ _ (same_place x)) ∙ same x in cc
same_sorted (x ∷ xs) (y ∷ ys) p q same =
    let e : x ≡ y = front_same x y xs ys p q same in
    let above : All (λ z. nat_cmp x z ≡ Less) ys = subst (λ w. All (λ z. nat_cmp w z ≡ Less) ys) (sym e) (All-after_first nat_cmp y ys q) in
    let here : (a : ℕ) → is_among (x ∷ xs) a ≡ is_among (x ∷ ys) a = λ a. same a ∙ ap (λ w. is_among (w ∷ ys) a) (sym e) in
    let rest : (a : ℕ) → is_among xs a ≡ is_among ys a = λ a. same_truth _ _ (rest_member x a xs ys (All-after_first nat_cmp x xs p) here) (rest_member x a ys xs above (λ b. sym (here b))) in
    ap (λ w. w ∷ xs) e ∙ ap (λ w. y ∷ w) (same_sorted xs ys (sorted_tail nat_cmp x xs p) (sorted_tail nat_cmp y ys q) rest)

-- ---- one reach

-- the least closed set is one
pub one_reach : (image : ImageData) (roots p q : List ℕ) → IsReach image roots p → IsReach image roots q → p ≡ q
one_reach image roots p q a b =
    same_sorted p q a.ordered b.ordered (λ x. same_truth _ _ (a.least (is_among q) b.rooted b.closed x) (b.least (is_among p) a.rooted a.closed x))
