-- Lists of places, of which some are grown.
use Rattle.std.proofs.Common.{◌≡◌, ℕ, ◌+◌, ◌-◌, ◌<◌, ◌≤◌, Bool, true, false, cond, List, [], ◌∷◌, ◌++◌, None, get_or, take, refl, ap, ◌∙◌, arith, ◌==◌, not, ◌||◌, inl, inr, length}
use Rattle.std.specs.Prelude.{filter}
use Rattle.std.specs.List.{last_or}
use Rattle.std.specs.List.Sorted.{IsStrictlySortedBy}
use Rattle.std.specs.Ordering.{nat_cmp}
use Rattle.std.proofs.lemmas.Bool.Decides.{nat_tests}
use Rattle.std.proofs.lemmas.List.{length-append, take_all}
use Rattle.std.proofs.lemmas.List.Filters.{length-filter_more}
use Rattle.std.proofs.lemmas.Map.Keys.{sorted_tail}
use Rattle.std.proofs.lemmas.Map.Views.{All-after_first}
use Rattle.elf_image.specs.Layout.{ImageData}
use Rattle.basic_blocks.specs.Places.{is_code_place}
use Rattle.basic_blocks.specs.Reach.{IsReach, IsReachAbove, is_among}
use Rattle.basic_blocks.specs.Span.{block_at, targets_after}
use Rattle.machine_model.specs.Gated.{most_grown}
use Rattle.machine_model.specs.Serial.{ungrown}
use Rattle.machine_model.proofs.Reaches.{among_filter, either, filter_passing, or_first, or_second, same_place, sorted_below}
use Rattle.machine_model.proofs.SerialGated.{Among, fewer}

apart : (x a : ℕ) → x < a → (x == a) ≡ false
apart x a h = grind (arith, nat_tests)

pub among_head : (x : ℕ) (xs : List ℕ) → is_among (x ∷ xs) x ≡ true
among_head x xs = or_first (x == x) (is_among xs x) (same_place x)

pub among_tail : (x : ℕ) (xs ys : List ℕ) → Among (x ∷ xs) ys → Among xs ys
among_tail x xs ys h a m = h a (or_second (x == a) (is_among xs a) m)

-- ---- what isn't grown, of places one of which is

-- lists that a test leaves agree where the tests do
same_filter : (p q : ℕ → Bool) (xs : List ℕ) → ((a : ℕ) → is_among xs a ≡ true → p a ≡ q a) → filter p xs ≡ filter q xs
same_filter p q [] h = refl
same_filter p q (x ∷ xs) h =
    ap (λ b. cond b (x ∷ filter p xs) (filter p xs)) (h x (among_head x xs))
    ∙ ap (λ ys. cond (q x) (x ∷ ys) ys) (same_filter p q xs (λ a m. h a (or_second (x == a) (is_among xs a) m)))

-- a place below the others is none of them
pub ungrown_above : (grown rest : List ℕ) (x : ℕ) → IsStrictlySortedBy nat_cmp (x ∷ rest) → ungrown (x ∷ grown) rest ≡ ungrown grown rest
ungrown_above grown rest x sorted =
    same_filter (λ a. not (is_among (x ∷ grown) a)) (λ a. not (is_among grown a)) rest (λ a m. ap (λ b. not (b || is_among grown a)) (apart x a (sorted_below x a rest (All-after_first nat_cmp x rest sorted) m)))

pub ungrown_in : (grown rest : List ℕ) (x : ℕ) → is_among grown x ≡ true → ungrown grown (x ∷ rest) ≡ ungrown grown rest
ungrown_in grown rest x e = ap (λ b. cond (not b) (x ∷ ungrown grown rest) (ungrown grown rest)) e

pub ungrown_out : (grown rest : List ℕ) (x : ℕ) → is_among grown x ≡ false → ungrown grown (x ∷ rest) ≡ x ∷ ungrown grown rest
ungrown_out grown rest x e = ap (λ b. cond (not b) (x ∷ ungrown grown rest) (ungrown grown rest)) e

grown_less : (grown : List ℕ) (a x : ℕ) → not (is_among (a ∷ grown) x) ≡ true → not (is_among grown x) ≡ true
grown_less grown a x h = elim (a == x) as (λ b. not (b || is_among grown x) ≡ true → not (is_among grown x) ≡ true) [ true ↦ λ k. absurd (let e : false ≡ true = k in cc) | false ↦ λ k. k ] h

-- one place more is grown, and one less of them isn't
pub ungrown_less : (grown places : List ℕ) (a : ℕ) → is_among grown a ≡ false → is_among places a ≡ true → length (ungrown (a ∷ grown) places) + 1 ≤ length (ungrown grown places)
ungrown_less grown places a out within =
    fewer (λ x. not (is_among grown x)) (λ x. not (is_among (a ∷ grown) x)) (grown_less grown a) a (ap not out) (ap (λ b. not (b || is_among grown a)) (same_place a)) places within

-- ---- how many

filter_short : (p : ℕ → Bool) (xs : List ℕ) → length (filter p xs) ≤ length xs
filter_short p [] = omega arith
filter_short p (x ∷ xs) = let h = filter_short p xs in elim (p x) as (λ b. length (cond b (x ∷ filter p xs) (filter p xs)) ≤ length (x ∷ xs)) [ true ↦ omega arith | false ↦ omega arith ]

-- rising places that are all among others are no more than those
short : (xs ys : List ℕ) → IsStrictlySortedBy nat_cmp xs → Among xs ys → length xs ≤ length ys
short [] ys sorted h = omega arith
short (x ∷ xs) ys sorted h =
    let other : ℕ → Bool = λ y. not (x == y) in
    let one = fewer (λ _. true) other (λ _ _. refl) x refl (ap not (same_place x)) ys (h x (among_head x xs)) in
    let all = filter_short (λ _. true) ys in
    let above = All-after_first nat_cmp x xs sorted in
    let rest = short xs (filter other ys) (sorted_tail nat_cmp x xs sorted) (λ a m. among_filter other ys a (ap not (apart x a (sorted_below x a xs above m))) (among_tail x xs ys h a m)) in
    omega (arith, one, all, rest)

among_left : (xs ys : List ℕ) (a : ℕ) → is_among xs a ≡ true → is_among (xs ++ ys) a ≡ true
among_left [] ys a m = absurd (let e : false ≡ true = m in cc)
among_left (x ∷ xs) ys a m = elim (either (x == a) (is_among xs a) m) [ inl e ↦ or_first (x == a) (is_among (xs ++ ys) a) e | inr k ↦ or_second (x == a) (is_among (xs ++ ys) a) (among_left xs ys a k) ]

among_right : (xs ys : List ℕ) (a : ℕ) → is_among ys a ≡ true → is_among (xs ++ ys) a ≡ true
among_right [] ys a m = m
among_right (x ∷ xs) ys a m = or_second (x == a) (is_among (xs ++ ys) a) (among_right xs ys a m)

covered_by : (grown places : List ℕ) (a : ℕ) (b : Bool) → is_among grown a ≡ b → is_among places a ≡ true → is_among (grown ++ ungrown grown places) a ≡ true
covered_by grown places a true e m = among_left grown (ungrown grown places) a e
covered_by grown places a false e m = among_right grown (ungrown grown places) a (among_filter (λ x. not (is_among grown x)) places a (ap not e) m)

-- the grown places and those that aren't are at least as many as rising places among these
at_least : (grown places some : List ℕ) → IsStrictlySortedBy nat_cmp some → Among some places → length some ≤ length grown + length (ungrown grown places)
at_least grown places some sorted h =
    let n = short some (grown ++ ungrown grown places) sorted (λ a m. covered_by grown places a (is_among grown a) refl (h a m)) in
    omega (arith, n, length-append grown (ungrown grown places))

-- ---- what is reached

-- more places are reached than may be grown
pub too_many : (image : ImageData) (a : ℕ) (grown places : List ℕ) → IsReachAbove image (a ∷ []) 65536 → IsReach image (a ∷ []) places → most_grown < length grown + length (ungrown grown places)
too_many image a grown places above reach =
    let more = above.2 in
    let n = at_least grown places above.0 above.1 (above.3 (is_among places) reach.rooted reach.closed) in
    omega (arith, more, n)

-- what is reached are code places
pub reached_code : (image : ImageData) (roots places : List ℕ) → IsReach image roots places → (a : ℕ) → is_among places a ≡ true → is_code_place image a ≡ true
reached_code image roots places h = h.least (is_code_place image) (λ a _ place. place) (λ a b _ next. filter_passing (is_code_place image) (targets_after (last_or None (block_at image a))) b next)

-- ---- counted from the list's length down

abbrev counted_by : Bool → ℕ
counted_by b = cond (not b) 1 0

-- of so many places from the front those that are grown are taken off
abbrev pub Counted : List ℕ → List ℕ → ℕ → ℕ → Type 0
Counted grown places i n = n + i ≡ length (ungrown grown (take i places)) + length places

pub counted_first : (grown places : List ℕ) (n : ℕ) → n ≡ length places → Counted grown places 0 n
counted_first grown places n e = omega (arith, e)

pub counted_some : (grown places : List ℕ) (i n : ℕ) → i < length places → Counted grown places i n → 0 < n
counted_some grown places i n lt e = omega (arith, lt, e)

pub counted_in : (grown places : List ℕ) (i n m : ℕ) → i < length places → is_among grown (get_or places i 0) ≡ true → m ≡ n - 1 → Counted grown places i n → Counted grown places (i + 1) m
counted_in grown places i n m lt there less e =
    let more = length-filter_more (λ x. not (is_among grown x)) places i 0 lt in
    let none : ◌≡◌ {A = ℕ} (cond (not (is_among grown (get_or places i 0))) 1 0) 0 = ap (λ (b : Bool). counted_by b) there in
    omega (arith, more, none, lt, less, e)

pub counted_out : (grown places : List ℕ) (i n m : ℕ) → i < length places → is_among grown (get_or places i 0) ≡ false → m ≡ n → Counted grown places i n → Counted grown places (i + 1) m
counted_out grown places i n m lt new same e =
    let more = length-filter_more (λ x. not (is_among grown x)) places i 0 lt in
    let one : ◌≡◌ {A = ℕ} (cond (not (is_among grown (get_or places i 0))) 1 0) 1 = ap (λ (b : Bool). counted_by b) new in
    omega (arith, more, one, lt, same, e)

pub counted_last : (grown places : List ℕ) (i n : ℕ) → length places ≤ i → i ≤ length places → Counted grown places i n → n ≡ length (ungrown grown places)
counted_last grown places i n le ge e =
    let all = ap (λ l. length (ungrown grown l)) (take_all i places le) in
    omega (arith, all, le, ge, e)
