-- Accepted blocks: where they stand, and how many they are.
use Rattle.std.proofs.Common.{◌≡◌, ℕ, suc, ◌+◌, ◌<◌, ◌≤◌, Bool, true, false, cond, List, [], ◌∷◌, ◌++◌, get_or, length, take, refl, sym, ap, subst, ◌∙◌, arith, ◌==◌, not, inl, inr}
use Rattle.std.specs.Prelude.{filter}
use Rattle.std.specs.List.Sorted.{IsStrictlySortedBy}
use Rattle.std.specs.Ordering.{nat_cmp}
use Rattle.std.proofs.Math.Seq.{take-suc}
use Rattle.std.proofs.lemmas.Bool.{eqb-true}
use Rattle.std.proofs.lemmas.Bool.Decides.{nat_tests}
use Rattle.std.proofs.lemmas.Map.Keys.{sorted_tail}
use Rattle.std.proofs.lemmas.Map.Views.{All-after_first}
use Rattle.elf_image.specs.Layout.{ImageData}
use Rattle.ir_syntax.specs.declared.block.Block.{Block}
use Rattle.basic_blocks.specs.Places.{is_code_place}
use Rattle.basic_blocks.specs.Reach.{is_among}
use Rattle.block_lift.specs.Accepted.{AreAccepted, AreRight, places_of}
use Rattle.machine_model.proofs.Reaches.{among_filter, either, same_place, sorted_below}
use Rattle.machine_model.proofs.SerialGated.{Among, fewer}
use Rattle.guest_entries.proofs.Grown.{among_head, among_tail}
use Rattle.run_start.specs.First.{AreCodePlaces}
use Rattle.run_start.proofs.Lifting.{all_code}

-- ---- where they stand

right_code : (image : ImageData) (blocks : List Block) → AreRight image blocks → (a : ℕ) → is_among (places_of blocks) a ≡ true → is_code_place image a ≡ true
right_code image [] h a m = absurd (let e : false ≡ true = m in cc)
right_code image (b ∷ bs) h a m = elim (either (b.at == a) (is_among (places_of bs) a) m) [ inl e ↦ subst (λ z. is_code_place image z ≡ true) (eqb-true b.at a e) h.0.0 | inr k ↦ right_code image bs h.2 a k ]

pub accepted_code : (image : ImageData) (blocks all : List Block) → AreAccepted image blocks all → AreCodePlaces image (places_of all)
accepted_code image blocks all h = all_code image (places_of all) (λ a m. right_code image blocks h.right a (sym (h.same a) ∙ m))

-- ---- how many

filter_short : (p : ℕ → Bool) (xs : List ℕ) → length (filter p xs) ≤ length xs
filter_short p [] = omega arith
filter_short p (x ∷ xs) = let h = filter_short p xs in elim (p x) as (λ b. length (cond b (x ∷ filter p xs) (filter p xs)) ≤ length (x ∷ xs)) [ true ↦ omega arith | false ↦ omega arith ]

differs : (x a : ℕ) → x < a → (x == a) ≡ false
differs x a h = grind (arith, nat_tests)

-- rising places that are all among others are no more than those
short : (xs ys : List ℕ) → IsStrictlySortedBy nat_cmp xs → Among xs ys → length xs ≤ length ys
short [] ys sorted h = omega arith
short (x ∷ xs) ys sorted h =
    let other : ℕ → Bool = λ y. not (x == y) in
    let one = fewer (λ _. true) other (λ _ _. refl) x refl (ap not (same_place x)) ys (h x (among_head x xs)) in
    let all = filter_short (λ _. true) ys in
    let above = All-after_first nat_cmp x xs sorted in
    let rest = short xs (filter other ys) (sorted_tail nat_cmp x xs sorted) (λ a m. among_filter other ys a (ap not (differs x a (sorted_below x a xs above m))) (among_tail x xs ys h a m)) in
    omega (arith, one, all, rest)

many : (blocks : List Block) → length (places_of blocks) ≡ length blocks
many [] = refl
many (b ∷ bs) = ap suc (many bs)

pub accepted_few : (image : ImageData) (blocks all : List Block) → AreAccepted image blocks all → length (places_of all) ≤ length blocks
accepted_few image blocks all h =
    let n = short (places_of all) (places_of blocks) h.rising (λ a m. sym (h.same a) ∙ m) in
    let k = many blocks in
    omega (arith, n, k)

-- ---- gathered one by one

more_places : (blocks : List Block) (b : Block) → places_of (blocks ++ b ∷ []) ≡ places_of blocks ++ b.at ∷ []
more_places [] b = refl
more_places (c ∷ blocks) b = ap (λ z. c.at ∷ z) (more_places blocks b)

pub next_place : (blocks : List Block) (i : ℕ) (d : Block) (places : List ℕ) → i < length blocks → places ≡ places_of (take i blocks) → places ++ (get_or blocks i d).at ∷ [] ≡ places_of (take (i + 1) blocks)
next_place blocks i d places lt e =
    ap (λ z. z ++ (get_or blocks i d).at ∷ []) e
    ∙ sym (more_places (take i blocks) (get_or blocks i d))
    ∙ ap places_of (sym (ap (λ n. take n blocks) (let one : i + 1 ≡ suc i = omega arith in one) ∙ take-suc blocks i d lt))
