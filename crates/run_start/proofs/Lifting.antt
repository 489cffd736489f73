-- The blocks of first places.
use Rattle.std.proofs.Common.{◌≡◌, ℕ, zero, suc, ◌+◌, ◌<◌, ◌≤◌, Bool, true, false, cond, List, [], ◌∷◌, ◌++◌, Option, Some, None, get_or, length, map, take, refl, sym, ap, subst, ◌∙◌, arith, ◌==◌}
use Rattle.std.specs.Prelude.{IsTrue}
use Rattle.std.specs.List.Sorted.{IsStrictlySortedBy}
use Rattle.std.specs.Ordering.{nat_cmp}
use Rattle.std.proofs.Math.Seq.{take-suc, take-length}
use Rattle.std.proofs.lemmas.Bool.{eqb-true}
use Rattle.std.proofs.lemmas.Map.Keys.{sorted_tail}
use Rattle.std.proofs.lemmas.Map.Views.{All-after_first}
use Rattle.std.proofs.lemmas.Option.{none-some, same_Some}
use Rattle.elf_image.specs.Layout.{ImageData}
use Rattle.ir_syntax.specs.declared.block.Block.{Block}
use Rattle.ir_syntax.specs.Typed.{IsWellTyped}
use Rattle.basic_blocks.specs.Places.{is_code_place}
use Rattle.basic_blocks.specs.Reach.{IsReach, is_among}
use Rattle.lift_table.specs.Block.{IsFaithful, lifted_block}
use Rattle.hall_core.specs.Hall.{FitTheirPlaces, Placed, block_in, places_of}
use Rattle.machine_model.specs.Own.{HasNoRepeats}
use Rattle.machine_model.proofs.Reaches.{sorted_below}
use Rattle.guest_entries.proofs.Grown.{among_head, among_tail, reached_code}
use Rattle.run_start.specs.First.{AreCodePlaces, AreLifted, IsLifted}

-- ---- places

pub all_code : (image : ImageData) (places : List ℕ) → ((a : ℕ) → is_among places a ≡ true → is_code_place image a ≡ true) → AreCodePlaces image places
all_code image [] h = tt
all_code image (a ∷ places) h = (h a (among_head a places), all_code image places (λ b m. h b (among_tail a places (a ∷ places) (λ c n. n) b m)))

pub reached_places : (image : ImageData) (roots places : List ℕ) → IsReach image roots places → AreCodePlaces image places
reached_places image roots places h = all_code image places (reached_code image roots places h)

pub place_at : (image : ImageData) (places : List ℕ) (i d : ℕ) → AreCodePlaces image places → i < length places → IsTrue (is_code_place image (get_or places i d))
place_at image [] i d h lt = absurd (omega (arith, lt))
place_at image (a ∷ places) zero d h lt = h.0
place_at image (a ∷ places) (suc i) d h lt = place_at image places i d h.1 (omega (arith, lt))

apart_by : (x : ℕ) (xs : List ℕ) (b : Bool) → is_among xs x ≡ b → IsStrictlySortedBy nat_cmp (x ∷ xs) → is_among xs x ≡ false
apart_by x xs true e h = absurd (omega (arith, sorted_below x x xs (All-after_first nat_cmp x xs h) e))
apart_by x xs false e h = e

pub no_repeats : (xs : List ℕ) → IsStrictlySortedBy nat_cmp xs → HasNoRepeats xs
no_repeats [] h = tt
no_repeats (x ∷ xs) h = (apart_by x xs (is_among xs x) refl h, no_repeats xs (sorted_tail nat_cmp x xs h))

-- ---- blocks

lifted_more : (image : ImageData) (places : List ℕ) (blocks : List (Placed Block)) (a : ℕ) (p : Placed Block) → AreLifted image places blocks → IsLifted image a p → AreLifted image (places ++ a ∷ []) (blocks ++ p ∷ [])
lifted_more image [] [] a p h l = (l, tt)
lifted_more image [] (q ∷ blocks) a p h l = absurd h
lifted_more image (b ∷ places) [] a p h l = absurd h
lifted_more image (b ∷ places) (q ∷ blocks) a p h l = (h.0, lifted_more image places blocks a p h.1 l)

pub lifted_none : (image : ImageData) → AreLifted image [] []
lifted_none image = tt

pub lifted_next : (image : ImageData) (places : List ℕ) (blocks : List (Placed Block)) (i d : ℕ) (p : Placed Block) → i < length places → AreLifted image (take i places) blocks → IsLifted image (get_or places i d) p → AreLifted image (take (i + 1) places) (blocks ++ p ∷ [])
lifted_next image places blocks i d p lt h l = subst (λ z. AreLifted image z (blocks ++ p ∷ [])) (sym (ap (λ n. take n places) (let one : i + 1 ≡ suc i = omega arith in one) ∙ take-suc places i d lt)) (lifted_more image (take i places) blocks (get_or places i d) p h l)

pub places_same : (image : ImageData) (places : List ℕ) (blocks : List (Placed Block)) → AreLifted image places blocks → places_of blocks ≡ places
places_same image [] [] h = refl
places_same image [] (q ∷ blocks) h = absurd h
places_same image (b ∷ places) [] h = absurd h
places_same image (b ∷ places) (q ∷ blocks) h = ap (λ z. z ∷ places_of blocks) h.0.at ∙ ap (λ z. b ∷ z) (places_same image places blocks h.1)

abbrev pub Fitting : ImageData → ℕ → Block → Type 0
Fitting image a b = (b ≡ lifted_block image a) × IsWellTyped b × IsFaithful image b

fits_by : (image : ImageData) (c : ℕ) (q : Placed Block) (blocks : List (Placed Block)) (a : ℕ) (b : Block) (t : Bool) → (q.0 == a) ≡ t → IsLifted image c q → (block_in blocks a ≡ Some b → Fitting image a b) → cond t (Some q.1.value) (block_in blocks a) ≡ Some b → Fitting image a b
fits_by image c q blocks a b true same l rest e = subst (λ x. Fitting image a x) (same_Some q.1.value b e) (subst (λ x. Fitting image x q.1.value) (sym l.at ∙ eqb-true q.0 a same) l.fits)
fits_by image c q blocks a b false other l rest e = rest e

pub blocks_fit : (image : ImageData) (places : List ℕ) (blocks : List (Placed Block)) → AreLifted image places blocks → (a : ℕ) (b : Block) → block_in blocks a ≡ Some b → Fitting image a b
blocks_fit image places [] h a b e = absurd (none-some b e)
blocks_fit image [] (q ∷ blocks) h a b e = absurd h
blocks_fit image (c ∷ places) (q ∷ blocks) h a b e = fits_by image c q blocks a b (q.0 == a) refl h.0 (blocks_fit image places blocks h.1 a b) e
