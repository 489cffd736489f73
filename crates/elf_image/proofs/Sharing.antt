-- Addresses that two segments share, in the order of their headers and in the order of their addresses.
use Rattle.std.proofs.Common.{◌≡◌, ◌≢◌, ℕ, zero, suc, ◌+◌, ◌-◌, ◌<◌, ◌≤◌, Bool, true, false, ◌&&◌, nat_lt, nat_le, List, [], ◌∷◌, ◌++◌, length, get_or, drop, count_by, cond, drop-cons, append_assoc, Option, Some, None, sym, refl, ap, subst, ◌∙◌, inl, inr, arith}
use Rattle.std.specs.Prelude.{All, Contains, MatchOption, IsTrue, ◌↔◌}
use mathlib.Core.Bool.{false≢true}
use Rattle.std.specs.List.Sorted.{IsNonDecreasingBy, IsPermutation}
use Rattle.std.proofs.lemmas.Bool.{cases_lt}
use Rattle.std.proofs.lemmas.Bool.Decides.{nat_tests}
use Rattle.std.proofs.lemmas.Grind.{common_steps}
use Rattle.std.proofs.lemmas.List.{get_or_default, drop_all, append-nil}
use Rattle.std.proofs.lemmas.List.Elements.{Contains-get_or}
use Rattle.std.proofs.lemmas.List.Sorted.{Contains-permutation, IsPermutation-sym, sum_by-IsPermutation}
use Rattle.elf_image.specs.declared.header.ProgramHeader.{ProgramHeader}
use Rattle.elf_image.specs.declared.overlap.Span.{Span}
use Rattle.elf_image.specs.Elf.{is_segment, holds}
use Rattle.elf_image.specs.Loading.{IsHeader, is_at, Overlaps}
use Rattle.elf_image.specs.Spans.{meets, span, spans_from, IsShared, IsTop, IsLeastBefore, LeastBefore, lower, IsFirstOverlap}
use Rattle.elf_image.proofs.Counts.{count_two}
use Rattle.elf_image.proofs.Order.{no_header, by_test}

abbrev pub no_span : Span
no_span = record { number = 0; at = 0; end = 0 }

module _ {X : Type 0} (p : X → Bool) (d : X) where
  -- some element passes
  some_passes : (xs : List X) → 0 < count_by p xs → (j : ℕ) × (j < length xs) × (p (get_or xs j d) ≡ true)
  some_passes [] some = absurd (omega (arith, some))
  some_passes (x ∷ xs) some =
      by_test (p x) (λ is. (0, omega arith, is)) (λ is.
      let rest : 0 < count_by p xs = grind (arith, common_steps, is, some) in
      let there = some_passes xs rest in
      (suc there.0, omega (arith, there.1), there.2))

  -- one passes, and so does another
  pub count_other : (xs : List X) (i : ℕ) → i < length xs → p (get_or xs i d) ≡ true → 1 < count_by p xs → (j : ℕ) × (j < length xs) × (j ≢ i) × (p (get_or xs j d) ≡ true)
  count_other [] i lt is two = absurd (omega (arith, lt))
  count_other (x ∷ xs) zero lt is two =
      let rest : 0 < count_by p xs = grind (arith, common_steps, is, two) in
      let there = some_passes xs rest in
      (suc there.0, omega (arith, there.1), (λ e. omega (arith, e)), there.2)
  count_other (x ∷ xs) (suc i) lt is two =
      by_test (p x) (λ is_x. (0, omega arith, (λ e. omega (arith, e)), is_x)) (λ is_x.
      let rest : 1 < count_by p xs = grind (arith, common_steps, is_x, two) in
      let there = count_other xs i (omega arith) is rest in
      (suc there.0, omega (arith, there.1), (λ e. there.2 (omega (arith, e))), there.3))

  -- two that pass
  pub two_pass : (xs : List X) → 1 < count_by p xs → (i j : ℕ) × (i < j) × (j < length xs) × (p (get_or xs i d) ≡ true) × (p (get_or xs j d) ≡ true)
  two_pass xs two =
      let one = some_passes xs (omega (arith, two)) in
      let other = count_other xs one.0 one.1 one.2 two in
      elim (cases_lt one.0 other.0) [
        | inl before ↦ (one.0, other.0, before, other.1, one.2, other.3)
        | inr rest ↦ (other.0, one.0, omega (arith, rest, other.2), one.1, other.3, one.2)
      ]

-- ---- the spans of headers

count_cons : {X : Type 0} (p : X → Bool) (x : X) (xs : List X) → count_by p (x ∷ xs) ≡ cond (p x) 1 0 + count_by p xs
count_cons p x xs = grind (arith, common_steps)

count_spans : (a n : ℕ) (hs : List ProgramHeader) → count_by (meets a) (spans_from n hs) ≡ count_by (is_at a) hs
count_spans a n [] = refl
count_spans a n (h ∷ hs) =
    let more = count_cons (is_at a) h hs in
    let rest = count_spans a (n + 1) hs in
    by_test (is_segment h)
    (λ is.
    let split : spans_from n (h ∷ hs) ≡ span n h ∷ spans_from (n + 1) hs = rw is refl in
    let first = count_cons (meets a) (span n h) (spans_from (n + 1) hs) in
    let same : is_at a h ≡ meets a (span n h) = rw is refl in
    let e : count_by (is_at a) (h ∷ hs) ≡ cond (meets a (span n h)) 1 0 + count_by (is_at a) hs = more ∙ ap (λ (b : Bool). cond {A = ℕ} b 1 0 + count_by (is_at a) hs) same in
    let f : count_by (meets a) (span n h ∷ spans_from (n + 1) hs) ≡ count_by (is_at a) (h ∷ hs) = omega (arith, first, rest, e) in
    ap (count_by (meets a)) split ∙ f)
    (λ is.
    let skip : spans_from n (h ∷ hs) ≡ spans_from (n + 1) hs = rw is refl in
    let none : is_at a h ≡ false = rw is refl in
    let e : count_by (is_at a) (h ∷ hs) ≡ 0 + count_by (is_at a) hs = more ∙ ap (λ (b : Bool). cond {A = ℕ} b 1 0 + count_by (is_at a) hs) none in
    let f : count_by (meets a) (spans_from (n + 1) hs) ≡ count_by (is_at a) (h ∷ hs) = omega (arith, rest, e) in
    ap (count_by (meets a)) skip ∙ f)

-- a span is that of a header
record IsOf (hs : List ProgramHeader) (n : ℕ) (s : Span) : Type 0 where
  index : ℕ
  in_range : index < length hs
  number : s.number ≡ n + index
  segment : (d : ProgramHeader) → is_segment (get_or hs index d) ≡ true
  at : (d : ProgramHeader) → s.at ≡ (get_or hs index d).vaddr
  end : (d : ProgramHeader) → s.end ≡ (get_or hs index d).vaddr + (get_or hs index d).memsz

shift : (h : ProgramHeader) (hs : List ProgramHeader) (n : ℕ) (s : Span) → IsOf hs (n + 1) s → IsOf (h ∷ hs) n s
shift h hs n s o = record {
  index = suc o.index;
  in_range = omega (arith, o.in_range);
  number = omega (arith, o.number);
  segment = λ d. o.segment d;
  at = λ d. o.at d;
  end = λ d. o.end d;
}

of_cons : (h : ProgramHeader) (hs : List ProgramHeader) (n k : ℕ) (d : Span) → is_segment h ≡ true → k < length (span n h ∷ spans_from (n + 1) hs) → ((i : ℕ) → i < length (spans_from (n + 1) hs) → IsOf hs (n + 1) (get_or (spans_from (n + 1) hs) i d)) → IsOf (h ∷ hs) n (get_or (span n h ∷ spans_from (n + 1) hs) k d)
of_cons h hs n zero d is lt rest = record { index = 0; in_range = omega arith; number = omega arith; segment = λ e. is; at = λ e. refl; end = λ e. refl }
of_cons h hs n (suc k) d is lt rest = shift h hs n (get_or (spans_from (n + 1) hs) k d) (rest k (omega arith))

of_header : (hs : List ProgramHeader) (n k : ℕ) (d : Span) → k < length (spans_from n hs) → IsOf hs n (get_or (spans_from n hs) k d)
of_header [] n k d lt = absurd (omega (arith, lt))
of_header (h ∷ hs) n k d lt =
    by_test (is_segment h)
    (λ is. rw is (of_cons h hs n k d is (rw is at lt) (λ i less. of_header hs (n + 1) i d less)))
    (λ is. rw is (shift h hs n (get_or (spans_from (n + 1) hs) k d) (of_header hs (n + 1) k d (rw is at lt))))

contains_cons : (x y : Span) (xs : List Span) → Contains xs y → Contains (x ∷ xs) y
contains_cons x y xs there = (suc there.0, omega (arith, there.1), there.2)

span_there : (hs : List ProgramHeader) (n k : ℕ) → k < length hs → is_segment (get_or hs k no_header) ≡ true → Contains (spans_from n hs) (span (n + k) (get_or hs k no_header))
span_there [] n k lt is = absurd (omega (arith, lt))
span_there (h ∷ hs) n zero lt is =
    let e : n ≡ n + 0 = omega arith in
    rw is (0, omega arith, ap (λ (m : ℕ). span m h) e)
span_there (h ∷ hs) n (suc k) lt is =
    let e : n + 1 + k ≡ n + suc k = omega arith in
    let later : Contains (spans_from (n + 1) hs) (span (n + suc k) (get_or hs k no_header)) = subst (λ (m : ℕ). Contains (spans_from (n + 1) hs) (span m (get_or hs k no_header))) e (span_there hs (n + 1) k (omega arith) is) in
    by_test (is_segment h)
    (λ segment. rw segment (contains_cons (span n h) (span (n + suc k) (get_or hs k no_header)) (spans_from (n + 1) hs) later))
    (λ segment. rw segment later)

pub spans_occupied : (hs : List ProgramHeader) → All (λ s. s.at < s.end) (spans_from 0 hs)
spans_occupied hs k d lt =
    let o = of_header hs 0 k d lt in
    let segment = o.segment no_header in
    grind (arith, nat_tests, o.at no_header, o.end no_header, segment)

-- one more header
pub spans_more : (hs : List ProgramHeader) (n : ℕ) (h : ProgramHeader) (so_far : List Span) → n < length hs → h ≡ get_or hs n h → so_far ++ spans_from n (drop n hs) ≡ spans_from 0 hs → (is_segment h ≡ true → (so_far ++ span n h ∷ []) ++ spans_from (n + 1) (drop (n + 1) hs) ≡ spans_from 0 hs) × (is_segment h ≡ false → so_far ++ spans_from (n + 1) (drop (n + 1) hs) ≡ spans_from 0 hs)
spans_more hs n h so_far lt is same =
    let split : drop n hs ≡ h ∷ drop (suc n) hs = drop-cons hs n h lt ∙ ap (λ (x : ProgramHeader). x ∷ drop (suc n) hs) (sym is) in
    let e : n + 1 ≡ suc n = omega arith in
    let same' = rw split at same in
    ((λ segment. rw e (append_assoc so_far (span n h ∷ []) (spans_from (suc n) (drop (suc n) hs)) ∙ (let t = rw (segment, e) at same' in t))), (λ other. rw e (rw (other, e) at same')))

-- ---- in the order of addresses

module _ (sorted : List Span) (rising : IsNonDecreasingBy (λ s. s.at) sorted) (occupied : All (λ s. s.at < s.end) sorted) (i : ℕ) (lt : i < length sorted) (d : Span) where
  -- a span before it reaches further than its first address
  pub shared_before : (top : ℕ) → IsTop sorted i top → (get_or sorted i d).at < top → IsShared sorted (get_or sorted i d)
  shared_before top is_top below =
      let at = (get_or sorted i d).at in
      let far = is_top.reached d (omega arith) in
      let before = rising far.0 i d (omega (arith, far.1)) lt in
      let some = occupied i d lt in
      let reach = far.2 in
      (at, grind (arith, nat_tests), count_two (meets at) sorted far.0 i d far.1 lt (grind (arith, nat_tests)) (grind (arith, nat_tests)))

  -- the next begins before it ends
  pub shared_after : i + 1 < length sorted → (get_or sorted (i + 1) d).at < (get_or sorted i d).end → IsShared sorted (get_or sorted i d)
  shared_after next below =
      let at = (get_or sorted (i + 1) d).at in
      let before = rising i (i + 1) d (omega arith) next in
      let some = occupied (i + 1) d next in
      (at, grind (arith, nat_tests), count_two (meets at) sorted i (i + 1) d (omega arith) next (grind (arith, nat_tests)) (grind (arith, nat_tests)))

  -- neither is so
  pub not_shared : (top : ℕ) → IsTop sorted i top → top ≤ (get_or sorted i d).at → (i + 1 < length sorted → (get_or sorted i d).end ≤ (get_or sorted (i + 1) d).at) → IsShared sorted (get_or sorted i d) → ⊥
  not_shared top is_top above after shared =
      let other = count_other (meets shared.0) d sorted i lt shared.1 shared.2 in
      let j = other.0 in
      let here = shared.1 in
      let there = other.3 in
      let differs = other.2 in
      elim (cases_lt j i) [
        | inl before ↦ let reach = is_top.above j d before in grind (arith, nat_tests)
        | inr rest ↦
            let less : i + 1 ≤ j = omega (arith, differs) in
            let next : i + 1 < length sorted = omega (arith, other.1) in
            let up = rising (i + 1) j d less other.1 in
            let gap = after next in
            grind (arith, nat_tests)
      ]

  -- as contracts say it
  pub anywhere : (e : Span) → IsShared sorted (get_or sorted i d) → IsShared sorted (get_or sorted i e)
  anywhere e shared = rw (get_or_default sorted i e d lt) shared

  pub back : (e : Span) → IsShared sorted (get_or sorted i e) → IsShared sorted (get_or sorted i d)
  back e shared = rw (get_or_default sorted i d e lt) shared

  pub before_is : (top : ℕ) → IsTop sorted i top → (get_or sorted i d).at < top → (e : Span) → IsTrue true ↔ IsShared sorted (get_or sorted i e)
  before_is top is_top below e = ((λ t. anywhere e (shared_before top is_top below)), (λ t. refl))

  pub last_is : (top : ℕ) → IsTop sorted i top → top ≤ (get_or sorted i d).at → i + 1 ≡ length sorted → (e : Span) → IsTrue false ↔ IsShared sorted (get_or sorted i e)
  last_is top is_top above last e = ((λ t. absurd (false≢true t)), (λ shared. absurd (not_shared top is_top above (λ next. absurd (omega (arith, last, next))) (back e shared))))

  pub next_is : (top : ℕ) → IsTop sorted i top → top ≤ (get_or sorted i d).at → i + 1 < length sorted → (e : Span) → IsTrue (nat_lt (get_or sorted (i + 1) d).at (get_or sorted i d).end) ↔ IsShared sorted (get_or sorted i e)
  next_is top is_top above next e =
      by_test (nat_lt (get_or sorted (i + 1) d).at (get_or sorted i d).end)
      (λ less. ((λ t. anywhere e (shared_after next (grind (arith, nat_tests, less)))), (λ shared. less)))
      (λ more.
      let after : (get_or sorted i d).end ≤ (get_or sorted (i + 1) d).at = grind (arith, nat_tests, more) in
      ((λ less. absurd (false≢true (sym more ∙ less))), (λ shared. absurd (not_shared top is_top above (λ _. after) (back e shared)))))

-- no span is before the first, and one more may reach further
pub no_top : (sorted : List Span) → IsTop sorted 0 0
no_top sorted = record { above = λ k d lt. absurd (omega (arith, lt)); reached = λ d some. absurd (omega (arith, some)) }

module _ (sorted : List Span) (i top : ℕ) (s : Span) (lt : i < length sorted) (is : s ≡ get_or sorted i s) (so_far : IsTop sorted i top) where
  end_is : (d : Span) → (get_or sorted i d).end ≡ s.end
  end_is d = ap (λ (x : Span). x.end) (get_or_default sorted i d s lt ∙ sym is)

  pub top_more : top < s.end → IsTop sorted (i + 1) s.end
  top_more more = record {
    above = λ k d less. elim (cases_lt k i) [
      | inl earlier ↦ omega (arith, so_far.above k d earlier)
      | inr rest ↦ let e : k ≡ i = omega arith in rw e (omega (arith, end_is d))
    ];
    reached = λ d some. (i, omega arith, end_is d);
  }

  pub top_same : s.end ≤ top → IsTop sorted (i + 1) top
  top_same no_more = record {
    above = λ k d less. elim (cases_lt k i) [
      | inl earlier ↦ so_far.above k d earlier
      | inr rest ↦ let e : k ≡ i = omega arith in rw e (omega (arith, end_is d))
    ];
    reached = λ d some. let old = so_far.reached d some in (old.0, omega (arith, old.1), old.2);
  }

-- ---- the least number so far

pub lower_more : (spans : List Span) (i : ℕ) (s : Span) (least : Option ℕ) (b : Bool) → i < length spans → s ≡ get_or spans i s → ((d : Span) → IsTrue b ↔ IsShared spans (get_or spans i d)) → LeastBefore spans i least → LeastBefore spans (i + 1) (lower least b s.number)
lower_more spans i s None true lt is test before = (
  (λ d. (i, omega arith, ap (λ (x : Span). x.number) (get_or_default spans i d s lt ∙ sym is), (test d).0 refl)),
  (λ k d less shared. elim (cases_lt k i) [
    | inl earlier ↦ absurd (before k d earlier shared)
    | inr rest ↦ let e : k ≡ i = omega arith in let number = ap (λ (x : Span). x.number) (get_or_default spans i d s lt ∙ sym is) in rw e (omega arith)
  ]),
)
lower_more spans i s None false lt is test before = λ k d less shared. elim (cases_lt k i) [
  | inl earlier ↦ before k d earlier shared
  | inr rest ↦ let e : k ≡ i = omega arith in false≢true ((test d).1 (rw e at shared))
]
lower_more spans i s (Some n) false lt is test before = (
  (λ d. let old = before.0 d in (old.0, omega (arith, old.1), old.2, old.3)),
  (λ k d less shared. elim (cases_lt k i) [
    | inl earlier ↦ before.1 k d earlier shared
    | inr rest ↦ let e : k ≡ i = omega arith in absurd (false≢true ((test d).1 (rw e at shared)))
  ]),
)
lower_more spans i s (Some n) true lt is test before = by_order (nat_lt s.number n) refl
  where
    number : (d : Span) → (get_or spans i d).number ≡ s.number
    number d = ap (λ (x : Span). x.number) (get_or_default spans i d s lt ∙ sym is)

    by_order : (c : Bool) → nat_lt s.number n ≡ c → LeastBefore spans (i + 1) (Some (cond c s.number n))
    by_order true less = (
      (λ d. (i, omega arith, number d, (test d).0 refl)),
      (λ k d below shared. elim (cases_lt k i) [
        | inl earlier ↦ let old = before.1 k d earlier shared in grind (arith, nat_tests, less)
        | inr rest ↦ let e : k ≡ i = omega arith in rw e (omega (arith, number d))
      ]),
    )
    by_order false more = (
      (λ d. let old = before.0 d in (old.0, omega (arith, old.1), old.2, old.3)),
      (λ k d below shared. elim (cases_lt k i) [
        | inl earlier ↦ before.1 k d earlier shared
        | inr rest ↦ let e : k ≡ i = omega arith in rw e (let same = number d in grind (arith, nat_tests, more))
      ]),
    )

-- ---- in the order of headers

module _ (hs : List ProgramHeader) (sorted : List Span) (moved : IsPermutation (spans_from 0 hs) sorted) where
  same_count : (a : ℕ) → count_by (meets a) sorted ≡ count_by (is_at a) hs
  same_count a = sum_by-IsPermutation (λ s. cond (meets a s) 1 0) (spans_from 0 hs) sorted moved ∙ count_spans a 0 hs

  -- the first of two that share an address is a shared span
  first_shared : (i j : ℕ) → Overlaps hs i j → (s : Span) × Contains sorted s × (s.number ≡ i) × IsShared sorted s
  first_shared i j two =
      let a = two.1.0 in
      let here = two.1.1.1 no_header in
      let h = get_or hs i no_header in
      let lt : i < length hs = two.1.1.0 in
      let count : 1 < count_by (is_at a) hs = count_two (is_at a) hs i j no_header two.0 two.1.2.0 here (two.1.2.1 no_header) in
      (span (0 + i) h, Contains-permutation (spans_from 0 hs) sorted (span (0 + i) h) moved (span_there hs 0 i lt (grind (arith, nat_tests, here))), omega arith, (a, grind (arith, nat_tests, here), rw (same_count a) count))

  pub none_overlap : LeastBefore sorted (length sorted) None → (i j : ℕ) → Overlaps hs i j → ⊥
  none_overlap none i j two =
      let shared = first_shared i j two in
      let s = shared.0 in
      let place = shared.1 in
      none place.0 s place.1 (rw place.2 shared.3)

  pub least_below : (n : ℕ) → IsLeastBefore sorted (length sorted) n → (i j : ℕ) → Overlaps hs i j → n ≤ i
  least_below n least i j two =
      let shared = first_shared i j two in
      let s = shared.0 in
      let place = shared.1 in
      let below : n ≤ (get_or sorted place.0 s).number = least.1 place.0 s place.1 (rw place.2 shared.3) in
      omega (arith, below, ap (λ (x : Span). x.number) place.2, shared.2)

  pub partner_there : (n : ℕ) → IsLeastBefore sorted (length sorted) n → (m : ℕ) × Overlaps hs n m
  partner_there n least =
      let at = least.0 no_span in
      let s = get_or sorted at.0 no_span in
      let place = Contains-permutation sorted (spans_from 0 hs) s (IsPermutation-sym (spans_from 0 hs) sorted moved) (Contains-get_or sorted at.0 no_span at.1) in
      let o : IsOf hs 0 s = subst (IsOf hs 0) place.2 (of_header hs 0 place.0 s place.1) in
      let k = o.index in
      let same : k ≡ n = omega (arith, o.number, at.2) in
      let a = at.3.0 in
      let has = at.3.1 in
      let held : (d : ProgramHeader) → is_at a (get_or hs k d) ≡ true = λ d. grind (arith, nat_tests, has, o.segment d, o.at d, o.end d) in
      let two : 1 < count_by (is_at a) hs = rw (← same_count a) at.3.2 in
      let other = count_other (is_at a) no_header hs k o.in_range (held no_header) two in
      let j = other.0 in
      let differs = other.2 in
      let held' : (d : ProgramHeader) → is_at a (get_or hs j d) ≡ true = λ d. rw (get_or_default hs j d no_header other.1) other.3 in
      elim (cases_lt j n) [
        | inl before ↦
            let pair : Overlaps hs j n = rw (← same) (omega (arith, before, same), (a, (other.1, held'), (o.in_range, held))) in
            absurd (omega (arith, least_below n least j n pair, before))
        | inr rest ↦
            let less : k < j = omega (arith, differs, rest, same) in
            (j, rw (← same) (less, (a, (o.in_range, held), (other.1, held'))))
      ]

-- ---- two headers

pub overlap_is : (hs : List ProgramHeader) (n m : ℕ) → n < m → m < length hs → (a : ℕ) × IsTrue (is_at a (get_or hs n no_header)) × IsTrue (is_at a (get_or hs m no_header)) → Overlaps hs n m
overlap_is hs n m less lt both =
    let n_lt : n < length hs = omega arith in
    (less, (both.0, (n_lt, (λ d. rw (get_or_default hs n d no_header n_lt) both.1)), (lt, (λ d. rw (get_or_default hs m d no_header lt) both.2))))

pub overlap_has : (hs : List ProgramHeader) (n m : ℕ) → Overlaps hs n m → (a : ℕ) × IsTrue (is_at a (get_or hs n no_header)) × IsTrue (is_at a (get_or hs m no_header))
overlap_has hs n m two = (two.1.0, two.1.1.1 no_header, two.1.2.1 no_header)

-- an address in both, and how their first addresses lie
pub both_at : (g h : ProgramHeader) → is_segment g ≡ true → is_segment h ≡ true → g.vaddr ≤ h.vaddr → h.vaddr - g.vaddr < g.memsz → (a : ℕ) × IsTrue (is_at a g) × IsTrue (is_at a h)
both_at g h g_is h_is le near = (h.vaddr, grind (arith, nat_tests, g_is, h_is), grind (arith, nat_tests, g_is, h_is))

pub near_from : (g h : ProgramHeader) → g.vaddr ≤ h.vaddr → (a : ℕ) × IsTrue (is_at a g) × IsTrue (is_at a h) → h.vaddr - g.vaddr < g.memsz
near_from g h le both = let g_has = both.1 in let h_has = both.2 in grind (arith, nat_tests)

-- the test on the first addresses
pub overlaps_is : (g h : ProgramHeader) → is_segment g ≡ true → is_segment h ≡ true → g.vaddr ≤ h.vaddr → IsTrue (nat_lt (h.vaddr - g.vaddr) g.memsz) ↔ ((a : ℕ) × IsTrue (is_at a g) × IsTrue (is_at a h))
overlaps_is g h g_is h_is le = (
  (λ near. both_at g h g_is h_is le (grind (arith, nat_tests, near))),
  (λ both. let near = near_from g h le both in grind (arith, nat_tests)),
)

pub swapped : {P Q : ℕ → Type 0} {T : Type 0} → T ↔ ((a : ℕ) × P a × Q a) → T ↔ ((a : ℕ) × Q a × P a)
swapped same = ((λ t. let both = same.0 t in (both.0, both.2, both.1)), (λ both. same.1 (both.0, both.2, both.1)))

pub spans_all : (hs : List ProgramHeader) (n : ℕ) (so_far : List Span) → length hs ≤ n → so_far ++ spans_from n (drop n hs) ≡ spans_from 0 hs → so_far ≡ spans_from 0 hs
spans_all hs n so_far past same =
    let none : drop n hs ≡ [] = drop_all n hs past in
    sym (append-nil so_far) ∙ rw none at same
