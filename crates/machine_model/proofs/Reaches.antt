-- Each place has one list of the places that are reached from it.
use Rattle.std.proofs.Common.{◌≡◌, ◌≢◌, ℕ, zero, suc, ◌+◌, ◌<◌, ◌≤◌, ◌%◌, ◌^◌, ◌⊎◌, inl, inr, Bool, true, false, cond, List, [], ◌∷◌, Option, Some, None, refl, sym, ap, ◌∙◌, subst, arith, ◌==◌, ◌||◌, ◌&&◌, not, length}
use Rattle.std.specs.Prelude.{filter}
use Rattle.std.specs.List.{list_any, last_or, range_with_len}
use Rattle.std.specs.List.Sorted.{IsStrictlySortedBy, IsStrictlyIncreasing}
use Rattle.std.specs.Ordering.{nat_cmp}
use Rattle.std.specs.declared.cmp.Ordering.TheVariants.{Less}
use Rattle.std.proofs.lemmas.Bool.Decides.{nat_tests}
use Rattle.std.proofs.lemmas.List.FromFn.{length-range_with_len, get_or-range_with_len}
use Rattle.std.proofs.lemmas.List.Kept.{IsStrictlySortedBy-filter}
use Rattle.std.proofs.lemmas.Map.Keys.{sorted_from_strictly_increasing}
use Rattle.elf_image.specs.Layout.{ImageData}
use Rattle.x86_forms.specs.declared.instructions.Instr.{Instr}
use Rattle.x86_forms.specs.declared.instructions.Instr.TheVariants as instr
use Rattle.x86_forms.specs.Groups.{is_transfer}
use Rattle.x86_model.specs.Operands.{target}
use Rattle.basic_blocks.specs.Places.{is_code_place, instr_at}
use Rattle.basic_blocks.specs.Placed.{Placed}
use Rattle.basic_blocks.specs.Span.{placed, block_from, block_up_to, block_at, targets, targets_after, successors}
use Rattle.basic_blocks.specs.Reach.{is_among, HasRoots, IsClosed, IsReach}
use Rattle.std.proofs.Common.{All}
use mathlib.Core.Path.{fun_ext}
use Rattle.std.proofs.lemmas.Map.Keys.{sorted_tail}
use Rattle.std.proofs.lemmas.Map.Views.{All-after_first}
use Rattle.journal_pack.specs.declared.entry.Entry.{Entry}
use Rattle.machine_model.specs.CaseData.{CaseData}
use Rattle.machine_model.specs.Gated.{IsGated, Leads, begin}
use Rattle.machine_model.specs.Serial.{AreReaches, IsSerial, Reaches, Rules, Run, is_serial_by, serial_by}
use Rattle.machine_model.proofs.Costs.{both_of}
use Rattle.machine_model.proofs.SerialGated.{filter_among, fewer, serial_goes}

-- ---- successors are addresses

-- a list of numbers below a bound
abbrev pub AreBelow : ℕ → List ℕ → Type 0
AreBelow n xs = (a : ℕ) → is_among xs a ≡ true → a < n

below_none : (n : ℕ) → AreBelow n []
below_none n a m = absurd (let e : false ≡ true = m in cc)

below_by : (n x a : ℕ) (xs : List ℕ) (same : Bool) → (x == a) ≡ same → x < n → AreBelow n xs → (same || is_among xs a) ≡ true → a < n
below_by n x a xs true e lt h m = let is : x ≡ a = grind (arith, nat_tests) in omega arith
below_by n x a xs false e lt h m = h a m

below_cons : (n x : ℕ) (xs : List ℕ) → x < n → AreBelow n xs → AreBelow n (x ∷ xs)
below_cons n x xs lt h a m = below_by n x a xs (x == a) refl lt h m

target_below : (next : ℕ) (rel : _) → target next rel < 2 ^ 64
unfolding target
target_below next rel = omega arith

one_below : (next : ℕ) → next < 2 ^ 64 → AreBelow (2 ^ 64) (next ∷ [])
one_below next lt = below_cons _ next [] lt (below_none _)

targets_below : (i : Instr) (next : ℕ) → next < 2 ^ 64 → AreBelow (2 ^ 64) (targets i next)
targets_below (instr.Jmp rel) next lt = one_below _ (target_below next rel)
targets_below (instr.Jcc cc rel) next lt = below_cons _ _ (next ∷ []) (target_below next rel) (one_below next lt)
targets_below (instr.Call rel) next lt = below_cons _ _ (next ∷ []) (target_below next rel) (one_below next lt)
targets_below (instr.CallTo src) next lt = one_below next lt
targets_below (instr.JmpTo src) next lt = below_none _
targets_below (instr.Ret extra) next lt = below_none _
targets_below _ next lt = one_below next lt

abbrev EndsBelow : Option Placed → Type 0
EndsBelow None = Unit {0}
EndsBelow (Some p) = p.next < 2 ^ 64

after_one : (image : ImageData) (n : ℕ) (p : Placed) (transfer : Bool) → p.next < 2 ^ 64 → ((b : ℕ) (o : Option Placed) → EndsBelow o → EndsBelow (last_or o (block_up_to image n b))) → EndsBelow (last_or (Some p) (cond transfer [] (block_up_to image n p.next)))
after_one image n p true lt more = lt
after_one image n p false lt more = more p.next (Some p) lt

from_below : (image : ImageData) (n a : ℕ) (i : Option (Instr × ℕ)) (o : Option Placed) → EndsBelow o → ((b : ℕ) (o : Option Placed) → EndsBelow o → EndsBelow (last_or o (block_up_to image n b))) → EndsBelow (last_or o (block_from (block_up_to image n) a i))
from_below image n a None o h more = h
from_below image n a (Some x) o h more = let lt : (a + x.1) % 2 ^ 64 < 2 ^ 64 = omega arith in after_one image n (placed a x) (is_transfer x.0) lt more

last_below : (image : ImageData) (n a : ℕ) (o : Option Placed) → EndsBelow o → EndsBelow (last_or o (block_up_to image n a))
unfolding block_up_to
last_below image zero a o h = h
last_below image (suc n) a o h = from_below image n a (instr_at image a) o h (last_below image n)

after_below : (o : Option Placed) → EndsBelow o → AreBelow (2 ^ 64) (targets_after o)
after_below None h = below_none _
after_below (Some p) h = targets_below p.instr p.next h

-- successors are addresses
pub successors_below : (image : ImageData) (a : ℕ) → AreBelow (2 ^ 64) (successors image a)
successors_below image a b m =
    let o = last_or None (block_at image a) in
    after_below o (last_below image 64 a None tt) b (filter_among (is_code_place image) (targets_after o) b m)

-- ---- tests over lists

pub or_first : (a b : Bool) → a ≡ true → (a || b) ≡ true
or_first a b h = rw h refl

pub or_second : (a b : Bool) → b ≡ true → (a || b) ≡ true
or_second true b h = refl
or_second false b h = h

pub either : (a b : Bool) → (a || b) ≡ true → (a ≡ true) ⊎ (b ≡ true)
either true b h = inl refl
either false b h = inr h

pub one_place : (x a : ℕ) → (x == a) ≡ true → x ≡ a
one_place x a h = grind (arith, nat_tests)

pub same_place : (a : ℕ) → (a == a) ≡ true
same_place a = grind arith

-- an element that fails a test, or none does
pub fails_or_all : (test : ℕ → Bool) (xs : List ℕ) → ((a : ℕ) × (is_among xs a ≡ true) × (test a ≡ false)) ⊎ ((a : ℕ) → is_among xs a ≡ true → test a ≡ true)
fails_or_all test [] = inr (λ a m. absurd (let e : false ≡ true = m in cc))
fails_or_all test (x ∷ xs) = fails_by test x xs (test x) refl (fails_or_all test xs)
  where
    passes_by : (test : ℕ → Bool) (x a : ℕ) (xs : List ℕ) → test x ≡ true → ((a : ℕ) → is_among xs a ≡ true → test a ≡ true) → ((x == a) ≡ true) ⊎ (is_among xs a ≡ true) → test a ≡ true
    passes_by test x a xs e h (inl is) = ap test (sym (one_place x a is)) ∙ e
    passes_by test x a xs e h (inr m) = h a m

    fails_by : (test : ℕ → Bool) (x : ℕ) (xs : List ℕ) (b : Bool) → test x ≡ b → ((a : ℕ) × (is_among xs a ≡ true) × (test a ≡ false)) ⊎ ((a : ℕ) → is_among xs a ≡ true → test a ≡ true) → ((a : ℕ) × (is_among (x ∷ xs) a ≡ true) × (test a ≡ false)) ⊎ ((a : ℕ) → is_among (x ∷ xs) a ≡ true → test a ≡ true)
    fails_by test x xs false e h = inl (x, or_first (x == x) (is_among xs x) (same_place x), e)
    fails_by test x xs true e (inl f) = inl (f.0, or_second (x == f.0) (is_among xs f.0) f.1, f.2)
    fails_by test x xs true e (inr h) = inr (λ a m. passes_by test x a xs e h (either (x == a) (is_among xs a) m))

-- an element that passes another test is kept
kept_by : (p : ℕ → Bool) (x a : ℕ) (xs : List ℕ) (keeps : Bool) → p x ≡ keeps → p a ≡ true → (is_among xs a ≡ true → is_among (filter p xs) a ≡ true) → ((x == a) ≡ true) ⊎ (is_among xs a ≡ true) → is_among (cond keeps (x ∷ filter p xs) (filter p xs)) a ≡ true
kept_by p x a xs true e pa more (inl is) = or_first _ _ is
kept_by p x a xs true e pa more (inr m) = or_second (x == a) _ (more m)
kept_by p x a xs false e pa more (inl is) = absurd (let c : false ≡ true = sym e ∙ ap p (one_place x a is) ∙ pa in cc)
kept_by p x a xs false e pa more (inr m) = more m

pub among_filter : (p : ℕ → Bool) (xs : List ℕ) (a : ℕ) → p a ≡ true → is_among xs a ≡ true → is_among (filter p xs) a ≡ true
among_filter p [] a pa m = m
among_filter p (x ∷ xs) a pa m = kept_by p x a xs (p x) refl pa (among_filter p xs a pa) (either (x == a) (is_among xs a) m)

passes_by : (p : ℕ → Bool) (x a : ℕ) (fs : List ℕ) (keeps : Bool) → p x ≡ keeps → (is_among fs a ≡ true → p a ≡ true) → is_among (cond keeps (x ∷ fs) fs) a ≡ true → p a ≡ true
passes_by p x a fs true e more m = elim (either (x == a) (is_among fs a) m) [ inl is ↦ ap p (sym (one_place x a is)) ∙ e | inr k ↦ more k ]
passes_by p x a fs false e more m = more m

-- what is kept passes the test
pub filter_passing : (p : ℕ → Bool) (xs : List ℕ) (a : ℕ) → is_among (filter p xs) a ≡ true → p a ≡ true
filter_passing p [] a m = absurd (let e : false ≡ true = m in cc)
filter_passing p (x ∷ xs) a m = passes_by p x a (filter p xs) (p x) refl (filter_passing p xs a) m

filter_short : {X : Type 0} (p : X → Bool) (xs : List X) → length (filter p xs) ≤ length xs
filter_short p [] = omega arith
filter_short p (x ∷ xs) = let h = filter_short p xs in elim (p x) as (λ b. length (cond b (x ∷ filter p xs) (filter p xs)) ≤ length (x ∷ xs)) [ true ↦ omega arith | false ↦ omega arith ]

-- ---- the numbers below a bound

numbers_up : (a n : ℕ) → IsStrictlyIncreasing (range_with_len a n)
numbers_up a n k lt =
    let count = length-range_with_len a n in
    let here = get_or-range_with_len a n k 0 (omega (arith, lt, count)) in
    let next = get_or-range_with_len a n (k + 1) 0 (omega (arith, lt, count)) in
    omega (arith, here, next)

among_numbers : (a n b : ℕ) → a ≤ b → b < a + n → is_among (range_with_len a n) b ≡ true
among_numbers a zero b ge lt = absurd (omega arith)
among_numbers a (suc n) b ge lt = in_or_past a n b (a == b) refl (among_numbers (a + 1) n b) ge lt
  where
    in_or_past : (a n b : ℕ) (same : Bool) → (a == b) ≡ same → (a + 1 ≤ b → b < a + 1 + n → is_among (range_with_len (a + 1) n) b ≡ true) → a ≤ b → b < a + suc n → (same || is_among (range_with_len (a + 1) n) b) ≡ true
    in_or_past a n b true e more ge lt = refl
    in_or_past a n b false e more ge lt = let ne : a ≢ b = grind (arith, nat_tests) in more (omega arith) (omega arith)

-- ---- the closure, as a set that grows

-- reached in one step more
abbrev one_further : ImageData → List ℕ → (ℕ → Bool) → ℕ → Bool
one_further image all set b = set b || list_any (λ a. is_among (successors image a) b) (filter set all)

-- a set has the root, and nothing that isn't reached from it
record IsPart (image : ImageData) (root bound : ℕ) (set : ℕ → Bool) : Type 0 where
  rooted : is_code_place image root ≡ true → set root ≡ true
  reached : (other : ℕ → Bool) → HasRoots image (root ∷ []) other → IsClosed image other → (a : ℕ) → set a ≡ true → other a ≡ true
  below : (a : ℕ) → set a ≡ true → a < bound

-- where one of a list is found
found : (test : ℕ → Bool) (xs : List ℕ) → list_any test xs ≡ true → (a : ℕ) × (is_among xs a ≡ true) × (test a ≡ true)
found test [] h = absurd (let e : false ≡ true = h in cc)
found test (x ∷ xs) h =
    elim (either (test x) (list_any test xs) h) [
      | inl here ↦ (x, or_first (x == x) (is_among xs x) (same_place x), here)
      | inr there ↦ let f = found test xs there in (f.0, or_second (x == f.0) (is_among xs f.0) f.1, f.2)
    ]

any_of : (test : ℕ → Bool) (xs : List ℕ) (a : ℕ) → is_among xs a ≡ true → test a ≡ true → list_any test xs ≡ true
any_of test [] a m h = m
any_of test (x ∷ xs) a m h =
    elim (either (x == a) (is_among xs a) m) [
      | inl is ↦ or_first _ _ (ap test (one_place x a is) ∙ h)
      | inr rest ↦ or_second (test x) _ (any_of test xs a rest h)
    ]

further : (image : ImageData) (root bound : ℕ) (all : List ℕ) (set : ℕ → Bool) → 2 ^ 64 ≤ bound → IsPart image root bound set → IsPart image root bound (one_further image all set)
further image root bound all set wide h = record {
  rooted = λ place. or_first _ _ (h.rooted place);
  reached = λ other roots closed b m. elim (either (set b) _ m) [
    | inl old ↦ h.reached other roots closed b old
    | inr new ↦ let f = found (λ a. is_among (successors image a) b) (filter set all) new in closed f.0 b (h.reached other roots closed f.0 (filter_passing set all f.0 f.1)) f.2
  ];
  below = λ b m. elim (either (set b) _ m) [
    | inl old ↦ h.below b old
    | inr new ↦ let f = found (λ a. is_among (successors image a) b) (filter set all) new in let lt = successors_below image f.0 b f.2 in omega (arith, lt, wide)
  ];
}

not_or : (a b : Bool) → (not a || b) ≡ true → a ≡ true → b ≡ true
not_or true b h e = h
not_or false b h e = absurd (let c : false ≡ true = e in cc)

not_false : (a b : Bool) → (not a || b) ≡ false → (a ≡ true) × (b ≡ false)
not_false true b h = (refl, h)
not_false false b h = absurd (let c : true ≡ false = h in cc)

-- a set to which nothing is added is the least closed one
complete : (image : ImageData) (root bound : ℕ) (all : List ℕ) (set : ℕ → Bool) → 2 ^ 64 ≤ bound → ((a : ℕ) → a < bound → is_among all a ≡ true) → IsStrictlySortedBy nat_cmp all → IsPart image root bound set → ((a : ℕ) → is_among all a ≡ true → (not (one_further image all set a) || set a) ≡ true) → IsReach image (root ∷ []) (filter set all)
complete image root bound all set wide every sorted h same = record {
  ordered = IsStrictlySortedBy-filter nat_cmp set all sorted;
  rooted = λ a m place. elim (either (root == a) false m) [
    | inl is ↦ let e = one_place root a is in let here : set a ≡ true = subst (λ x. set x ≡ true) e (h.rooted (ap (is_code_place image) e ∙ place)) in among_filter set all a here (every a (h.below a here))
    | inr no_more ↦ absurd (let c : false ≡ true = no_more in cc)
  ];
  closed = λ a b m next.
      let lt = successors_below image a b next in
      let there : is_among all b ≡ true = every b (omega (arith, lt, wide)) in
      let new : one_further image all set b ≡ true = or_second (set b) _ (any_of (λ x. is_among (successors image x) b) (filter set all) a m next) in
      among_filter set all b (not_or _ _ (same b there) new) there;
  least = λ other roots closed a m. h.reached other roots closed a (filter_passing set all a m);
}

close_by : (image : ImageData) (root bound : ℕ) (all : List ℕ) (set : ℕ → Bool) → 2 ^ 64 ≤ bound → ((a : ℕ) → a < bound → is_among all a ≡ true) → IsStrictlySortedBy nat_cmp all → IsPart image root bound set → (length (filter set all) + 1 ≤ length (filter (one_further image all set) all) → (places : List ℕ) × IsReach image (root ∷ []) places) → ((a : ℕ) × (is_among all a ≡ true) × ((not (one_further image all set a) || set a) ≡ false)) ⊎ ((a : ℕ) → is_among all a ≡ true → (not (one_further image all set a) || set a) ≡ true) → (places : List ℕ) × IsReach image (root ∷ []) places
close_by image root bound all set wide every sorted h more (inl f) =
    let new = not_false _ _ f.2 in
    more (fewer (one_further image all set) set (λ x m. or_first _ _ m) f.0 new.0 new.1 all f.1)
close_by image root bound all set wide every sorted h more (inr same) = (filter set all, complete image root bound all set wide every sorted h same)

-- either nothing is added, or one more is there
close : (image : ImageData) (root bound fuel : ℕ) (all : List ℕ) (set : ℕ → Bool) → 2 ^ 64 ≤ bound → ((a : ℕ) → a < bound → is_among all a ≡ true) → IsStrictlySortedBy nat_cmp all → IsPart image root bound set → length all ≤ length (filter set all) + fuel → (places : List ℕ) × IsReach image (root ∷ []) places
close image root bound zero all set wide every sorted h few =
    close_by image root bound all set wide every sorted h (λ grew. absurd (let short = filter_short (one_further image all set) all in omega (arith, short, grew, few))) (fails_or_all (λ a. not (one_further image all set a) || set a) all)
close image root bound (suc fuel) all set wide every sorted h few =
    close_by image root bound all set wide every sorted h (λ grew. close image root bound fuel all (one_further image all set) wide every sorted (further image root bound all set wide h) (omega (arith, grew, few))) (fails_or_all (λ a. not (one_further image all set a) || set a) all)

first_set : (image : ImageData) (root : ℕ) → IsPart image root (2 ^ 64 + (root + 1)) (λ b. (root == b) && is_code_place image b)
first_set image root = record {
  rooted = λ place. ap (λ b. b && is_code_place image root) (same_place root) ∙ place;
  reached = λ other roots closed a m. let h = both_of (root == a) (is_code_place image a) m in roots a (or_first _ _ h.0) h.1;
  below = λ a m. let h = both_of (root == a) (is_code_place image a) m in let e = one_place root a h.0 in omega arith;
}

numbers_sorted : (n : ℕ) → IsStrictlySortedBy nat_cmp (range_with_len 0 n)
numbers_sorted n = sorted_from_strictly_increasing (range_with_len 0 n) (numbers_up 0 n)

reach_within : (image : ImageData) (root bound : ℕ) → bound ≡ 2 ^ 64 + (root + 1) → (places : List ℕ) × IsReach image (root ∷ []) places
reach_within image root bound e =
    let set : ℕ → Bool = λ b. (root == b) && is_code_place image b in
    close image root bound (length (range_with_len 0 bound)) (range_with_len 0 bound) set (omega arith) (λ a lt. among_numbers 0 bound a (omega arith) (omega arith)) (numbers_sorted bound) (subst (λ n. IsPart image root n set) (sym e) (first_set image root)) (omega arith)

-- each place has a list of what is reached from it
pub has_reach : (image : ImageData) (root : ℕ) → (places : List ℕ) × IsReach image (root ∷ []) places
has_reach image root = reach_within image root (2 ^ 64 + (root + 1)) refl

-- ---- and only one

pub sorted_below : (x a : ℕ) (xs : List ℕ) → All (λ y. nat_cmp x y ≡ Less) xs → is_among xs a ≡ true → x < a
sorted_below x a [] all h = let none : false ≡ true = h in cc
sorted_below x a (y ∷ xs) all h = elim (either (y == a) (is_among xs a) h) [
  | inl e ↦ subst (λ z. x < z) (one_place y a e) (less x y (all 0 y (omega arith)))
  | inr rest ↦ sorted_below x a xs (λ i d lt. all (suc i) d (omega (arith, lt))) rest
]
  where
    less : (x y : ℕ) → nat_cmp x y ≡ Less → x < y
    less x y h = grind (arith, nat_tests)

front_same : (x y : ℕ) (xs ys : List ℕ) → IsStrictlySortedBy nat_cmp (x ∷ xs) → IsStrictlySortedBy nat_cmp (y ∷ ys) → ((a : ℕ) → is_among (x ∷ xs) a ≡ is_among (y ∷ ys) a) → x ≡ y
front_same x y xs ys p q same =
    elim (either (y == x) (is_among ys x) (sym (same x) ∙ or_first _ _ (same_place x))) [
      | inl e ↦ sym (one_place y x e)
      | inr in_ys ↦ elim (either (x == y) (is_among xs y) (same y ∙ or_first _ _ (same_place y))) [
        | inl e ↦ one_place x y e
        | inr in_xs ↦ let a = sorted_below y x ys (All-after_first nat_cmp y ys q) in_ys in let b = sorted_below x y xs (All-after_first nat_cmp x xs p) in_xs in absurd (omega (arith, a, b))
      ]
    ]

not_itself : (x a : ℕ) → x < a → (x == a) ≡ false
not_itself x a h = grind (arith, nat_tests)

same_truth : (a b : Bool) → (a ≡ true → b ≡ true) → (b ≡ true → a ≡ true) → a ≡ b
same_truth true b f g = sym (f refl)
same_truth false true f g = g refl
same_truth false false f g = refl

rest_member : (x a : ℕ) (xs ys : List ℕ) → All (λ y. nat_cmp x y ≡ Less) xs → ((b : ℕ) → is_among (x ∷ xs) b ≡ is_among (x ∷ ys) b) → is_among xs a ≡ true → is_among ys a ≡ true
rest_member x a xs ys above same h =
    let apart = not_itself x a (sorted_below x a xs above h) in
    let there : ((x == a) || is_among ys a) ≡ true = sym (same a) ∙ or_second (x == a) (is_among xs a) h in
    ap (λ b. b || is_among ys a) (sym apart) ∙ there

same_sorted : (xs ys : List ℕ) → IsStrictlySortedBy nat_cmp xs → IsStrictlySortedBy nat_cmp ys → ((a : ℕ) → is_among xs a ≡ is_among ys a) → xs ≡ ys
same_sorted [] [] p q same = refl
same_sorted [] (y ∷ ys) p q same = let none : false ≡ true = same y ∙ or_first _ _ (same_place y) in cc
same_sorted (x ∷ xs) [] p q same = let none : true ≡ false = sym (or_first _ _ (same_place x)) ∙ same x in cc
same_sorted (x ∷ xs) (y ∷ ys) p q same =
    let e : x ≡ y = front_same x y xs ys p q same in
    let above : All (λ z. nat_cmp x z ≡ Less) ys = subst (λ w. All (λ z. nat_cmp w z ≡ Less) ys) (sym e) (All-after_first nat_cmp y ys q) in
    let here : (a : ℕ) → is_among (x ∷ xs) a ≡ is_among (x ∷ ys) a = λ a. same a ∙ ap (λ w. is_among (w ∷ ys) a) (sym e) in
    let rest : (a : ℕ) → is_among xs a ≡ is_among ys a = λ a. same_truth _ _ (rest_member x a xs ys (All-after_first nat_cmp x xs p) here) (rest_member x a ys xs above (λ b. sym (here b))) in
    ap (λ w. w ∷ xs) e ∙ ap (λ w. y ∷ w) (same_sorted xs ys (sorted_tail nat_cmp x xs p) (sorted_tail nat_cmp y ys q) rest)

-- the least closed set is one
pub one_reach : (image : ImageData) (roots p q : List ℕ) → IsReach image roots p → IsReach image roots q → p ≡ q
one_reach image roots p q a b =
    same_sorted p q a.ordered b.ordered (λ x. same_truth _ _ (a.least (is_among q) b.rooted b.closed x) (b.least (is_among p) a.rooted a.closed x))

-- ---- the reach of every place

pub reach_of : ImageData → Reaches
reach_of image a = (has_reach image a).0

pub are_reaches : (image : ImageData) → AreReaches image (reach_of image)
unfolding reach_of
are_reaches image a = (has_reach image a).1

pub same_reaches : (image : ImageData) (p q : Reaches) → AreReaches image p → AreReaches image q → p ≡ q
same_reaches image p q a b = fun_ext (λ x. one_reach image (x ∷ []) (p x) (q x) (a x) (b x))

-- ---- one journal

same_journal : (a b : List Entry) (o : Option Run) → is_serial_by o a → is_serial_by o b → a ≡ b
same_journal a b None p q = absurd p
same_journal a b (Some run) p q = p ∙ sym q

-- a case and two numbers have at most one serial journal
pub serial_one : (c : CaseData) (r : Rules) (a b : List Entry) → IsSerial c r a → IsSerial c r b → a ≡ b
serial_one c r a b p q = same_journal a b (serial_by c (reach_of c.image) r) (p (reach_of c.image) (are_reaches c.image)) (q (reach_of c.image) (are_reaches c.image))

-- any right reach tells it
pub serial_told : (c : CaseData) (reach : Reaches) (r : Rules) (run : Run) → AreReaches c.image reach → serial_by c reach r ≡ Some run → IsSerial c r run.journal
serial_told c reach r run right e other same =
    subst (λ (o : Option Run). is_serial_by o run.journal) (sym e ∙ ap (λ x. serial_by c x r) (same_reaches c.image reach other right same)) refl

gated_by : (c : CaseData) (r : Rules) (journal : List Entry) (o : Option Run) → serial_by c (reach_of c.image) r ≡ o → is_serial_by o journal → IsGated c journal
gated_by c r journal None e p = absurd p
gated_by c r journal (Some run) e p = (run.both, subst (λ j. Leads c (begin c) j run.both) (sym p) (serial_goes c (reach_of c.image) r run (are_reaches c.image) e))

-- a serial journal is gated
pub serial_gated : (c : CaseData) (r : Rules) (journal : List Entry) → IsSerial c r journal → IsGated c journal
serial_gated c r journal p = gated_by c r journal (serial_by c (reach_of c.image) r) refl (p (reach_of c.image) (are_reaches c.image))
