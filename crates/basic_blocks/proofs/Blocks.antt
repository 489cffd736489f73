-- Blocks, instruction by instruction.
use Rattle.std.proofs.Common.{◌≡◌, ℕ, zero, suc, ◌+◌, ◌-◌, ◌<◌, ◌≤◌, ◌%◌, ◌^◌, Bool, true, false, List, [], ◌∷◌, ◌++◌, Option, Some, None, refl, sym, ap, ◌∙◌, arith, length, take, get_or, add-one}
use Rattle.std.proofs.lemmas.List.{append_assoc, append-nil, take_all, map-append}
use Rattle.std.proofs.lemmas.List.Elements.{filter-append}
use Rattle.std.specs.Prelude.{slice_get, filter, map}
use Rattle.std.specs.List.{last_or}
use Rattle.elf_image.specs.Layout.{ImageData}
use Rattle.x86_forms.specs.declared.instructions.Instr.{Instr}
use Rattle.x86_forms.specs.Groups.{is_transfer}
use Rattle.basic_blocks.specs.Places.{instr_at}
use Rattle.basic_blocks.specs.Span.{placed, block_with, block_from, block_up_to, block_at}
use Rattle.basic_blocks.specs.Placed.{Placed}

one_left : (k : ℕ) → k < 64 → 64 - k ≡ suc (64 - (k + 1))
one_left k h = omega arith

pub block_begins : (image : ImageData) (a : ℕ) (done : List Placed) → done ≡ [] → done ++ block_up_to image (64 - 0) a ≡ block_at image a
block_begins image a done e = rw e refl

pub block_goes_on : (image : ImageData) (k at : ℕ) (i : Instr) (len : ℕ) (done all : List Placed) → k < 64 → instr_at image at ≡ Some (i, len) → is_transfer i ≡ false → done ++ block_up_to image (64 - k) at ≡ all → (done ++ placed at (i, len) ∷ []) ++ block_up_to image (64 - (k + 1)) ((at + len) % 2 ^ 64) ≡ all
unfolding block_up_to
block_goes_on image k at i len done all lt there more h =
    let rest = block_up_to image (64 - (k + 1)) ((at + len) % 2 ^ 64) in
    let here : block_up_to image (64 - k) at ≡ placed at (i, len) ∷ rest = rw (one_left k lt, there, more) refl in
    append_assoc done (placed at (i, len) ∷ []) rest ∙ ap (λ x. done ++ x) (sym here) ∙ h

pub block_ends : (image : ImageData) (k at : ℕ) (i : Instr) (len : ℕ) (done all : List Placed) → k < 64 → instr_at image at ≡ Some (i, len) → is_transfer i ≡ true → done ++ block_up_to image (64 - k) at ≡ all → done ++ placed at (i, len) ∷ [] ≡ all
unfolding block_up_to
block_ends image k at i len done all lt there last h =
    let here : block_up_to image (64 - k) at ≡ placed at (i, len) ∷ [] = rw (one_left k lt, there, last) refl in
    ap (λ x. done ++ x) (sym here) ∙ h

pub block_stops : (image : ImageData) (k at : ℕ) (done all : List Placed) → k < 64 → instr_at image at ≡ None → done ++ block_up_to image (64 - k) at ≡ all → done ≡ all
unfolding block_up_to
block_stops image k at done all lt there h =
    let here : block_up_to image (64 - k) at ≡ [] = rw (one_left k lt, there) refl in
    sym (append-nil done) ∙ ap (λ x. done ++ x) (sym here) ∙ h

pub block_full : (image : ImageData) (k at : ℕ) (done all : List Placed) → 64 ≤ k → done ++ block_up_to image (64 - k) at ≡ all → done ≡ all
unfolding block_up_to
block_full image k at done all le h =
    let e : 64 - k ≡ zero = omega arith in
    let here : block_up_to image (64 - k) at ≡ [] = rw e refl in
    sym (append-nil done) ∙ ap (λ x. done ++ x) (sym here) ∙ h

-- the last of a list is at its last index
pub last_at : (xs : List Placed) → slice_get xs (length xs - 1) ≡ last_or None xs
last_at [] = refl
last_at (x ∷ xs) = let e : length (x ∷ xs) - 1 ≡ length xs = omega arith in rw e (from x xs)
  where
    from : (x : Placed) (xs : List Placed) → slice_get (x ∷ xs) (length xs) ≡ last_or (Some x) xs
    from x [] = refl
    from x (y ∷ xs) = from y xs

-- ---- the elements that are kept

taken_more : (xs : List ℕ) (i d : ℕ) → i < length xs → take (i + 1) xs ≡ take i xs ++ get_or xs i d ∷ []
taken_more xs i d lt = ap (λ n. take n xs) (add-one i) ∙ by_suc xs i d lt
  where
    by_suc : (xs : List ℕ) (i d : ℕ) → i < length xs → take (suc i) xs ≡ take i xs ++ get_or xs i d ∷ []
    by_suc [] i d lt = absurd (omega arith)
    by_suc (x ∷ xs) zero d lt = refl
    by_suc (x ∷ xs) (suc i) d lt = ap (λ y. x ∷ y) (by_suc xs i d (omega arith))

pub kept_in : (p : ℕ → Bool) (xs done : List ℕ) (i d : ℕ) → i < length xs → p (get_or xs i d) ≡ true → done ≡ filter p (take i xs) → done ++ get_or xs i d ∷ [] ≡ filter p (take (i + 1) xs)
kept_in p xs done i d lt pass h =
    let one : filter p (get_or xs i d ∷ []) ≡ get_or xs i d ∷ [] = rw pass refl in
    ap (λ x. x ++ get_or xs i d ∷ []) h ∙ ap (λ x. filter p (take i xs) ++ x) (sym one) ∙ sym (filter-append p (take i xs) (get_or xs i d ∷ [])) ∙ ap (filter p) (sym (taken_more xs i d lt))

pub kept_out : (p : ℕ → Bool) (xs done : List ℕ) (i d : ℕ) → i < length xs → p (get_or xs i d) ≡ false → done ≡ filter p (take i xs) → done ≡ filter p (take (i + 1) xs)
kept_out p xs done i d lt pass h =
    let one : filter p (get_or xs i d ∷ []) ≡ [] = rw pass refl in
    h ∙ sym (append-nil (filter p (take i xs))) ∙ ap (λ x. filter p (take i xs) ++ x) (sym one) ∙ sym (filter-append p (take i xs) (get_or xs i d ∷ [])) ∙ ap (filter p) (sym (taken_more xs i d lt))

pub kept_all : (p : ℕ → Bool) (xs done : List ℕ) (i : ℕ) → length xs ≤ i → done ≡ filter p (take i xs) → done ≡ filter p xs
kept_all p xs done i le h = h ∙ ap (filter p) (take_all i xs le)

-- ---- their addresses

placed_more : (xs : List Placed) (i : ℕ) (d : Placed) → i < length xs → take (suc i) xs ≡ take i xs ++ get_or xs i d ∷ []
placed_more [] i d lt = absurd (omega arith)
placed_more (x ∷ xs) zero d lt = refl
placed_more (x ∷ xs) (suc i) d lt = ap (λ y. x ∷ y) (placed_more xs i d (omega arith))

pub one_address : (xs : List Placed) (places : List ℕ) (i at : ℕ) (d : Placed) → i < length xs → at ≡ (get_or xs i d).at → places ≡ map (λ p. p.at) (take i xs) → places ++ at ∷ [] ≡ map (λ p. p.at) (take (i + 1) xs)
one_address xs places i at d lt is h =
    ap (λ x. x ++ at ∷ []) h
    ∙ ap (λ x. map (λ p. p.at) (take i xs) ++ x ∷ []) is
    ∙ sym (map-append (λ p. p.at) (take i xs) (get_or xs i d ∷ []))
    ∙ ap (map (λ p. p.at)) (sym (ap (λ n. take n xs) (add-one i) ∙ placed_more xs i d lt))

pub all_addresses : (xs : List Placed) (places : List ℕ) (i : ℕ) → length xs ≤ i → places ≡ map (λ p. p.at) (take i xs) → places ≡ map (λ p. p.at) xs
all_addresses xs places i le h = h ∙ ap (map (λ p. p.at)) (take_all i xs le)
