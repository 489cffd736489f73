-- The table of blocks at hand, and where the instruction of each part stands.
use Rattle.std.proofs.Common.{◌≡◌, ℕ, zero, suc, ◌+◌, ◌<◌, ◌≤◌, Bool, true, false, cond, List, [], ◌∷◌, inl, inr, drop, length, ◌++◌, Option, Some, None, IfSome, slice_index_or, slice_set, refl, sym, subst, ap, arith, ◌∙◌, ◌⊎◌}
use Rattle.std.proofs.lemmas.List.{append-nil, get_or-set_other, get_or_past, length-set}
use Rattle.std.proofs.lemmas.Grind.{get_or-set_at}
use Rattle.std.proofs.Math.ListN.{drop_of_length-le}
use Rattle.std.proofs.Math.Seq.{drop-cons}
use Rattle.std.proofs.lemmas.Bool.{cases_eq, cases_lt}
use Rattle.std.proofs.lemmas.Option.{none-some, same_Some}
use Rattle.elf_image.specs.Layout.{ImageData}
use Rattle.ir_syntax.specs.declared.block.Block.{Block}
use Rattle.ir_syntax.specs.declared.block.Part.{Part}
use Rattle.basic_blocks.specs.Placed.{Placed}
use Rattle.basic_blocks.specs.Span.{block_at}
use Rattle.lift_table.specs.Faithful.{left_after, takes_answer}
use Rattle.guest_parts.specs.Standing.{places_in, places_of}
use Rattle.guest_steps.specs.Kept.{AreKept, IsKept, KeptData, KeepsBlocks}

-- what a changed table has was there before, or was put there
set_item : (table : List (Option KeptData)) (i j : ℕ) (o : Option KeptData) (x : KeptData) → slice_index_or (slice_set table i o) j None ≡ Some x → (o ≡ Some x) ⊎ (slice_index_or table j None ≡ Some x)
set_item table i j o x e =
    elim (cases_eq j i) [
      | inl same ↦ (elim (cases_lt i (length table)) [
        | inl lt ↦ inl (sym (get_or-set_at table i j o None same lt) ∙ e)
        | inr le ↦ absurd (none-some x (sym (get_or_past (slice_set table i o) j None (omega (arith, same, le, length-set table i o))) ∙ e))
      ])
      | inr other ↦ inr (sym (get_or-set_other table i j o None other) ∙ e)
    ]

-- a slot is emptied
pub emptied : (table : List (Option KeptData)) (i : ℕ) → KeepsBlocks table (slice_set table i None)
emptied table i = λ image grown h j x at.
    elim (set_item table i j None x at) [
      | inl e ↦ absurd (none-some x e)
      | inr was ↦ h j x was
    ]

-- a block is put into one
pub filled : (table : List (Option KeptData)) (i : ℕ) (y : KeptData) (image : ImageData) (grown : List ℕ) → AreKept image grown table → IsKept image grown y → AreKept image grown (slice_set table i (Some y))
filled table i y image grown h k = λ j x e.
    elim (set_item table i j (Some y) x e) [
      | inl is ↦ subst (IsKept image grown) (same_Some y x is) k
      | inr was ↦ h j x was
    ]

-- ---- places

pub places_length : (a : ℕ) (is : List Placed) (ps : List Part) → length (places_in a is ps) ≡ length ps
unfolding places_in
places_length a is [] = refl
places_length a [] (p ∷ ps) = ap suc (places_length a [] ps)
places_length a (i ∷ is) (p ∷ ps) = ap suc (places_length a (left_after p i is) ps)

pub place_none : (a : ℕ) (is : List Placed) (n : ℕ) (p : Part) (ps : List Part) → length is ≤ n → a ∷ places_in a (drop n is) ps ≡ places_in a (drop n is) (p ∷ ps)
unfolding places_in
place_none a [] zero p ps le = refl
place_none a [] (suc n) p ps le = refl
place_none a (i ∷ is) zero p ps le = absurd (omega (arith, le))
place_none a (i ∷ is) (suc n) p ps le = place_none a is n p ps (omega (arith, le))

left_is : (is js : List Placed) (n m : ℕ) (i : Placed) (p : Part) (b : Bool) → takes_answer p.end ≡ b → drop n is ≡ i ∷ js → drop (suc n) is ≡ js → m ≡ cond b n (n + 1) → left_after p i js ≡ drop m is
left_is is js n m i p true t e f same = ap (λ x. cond x (i ∷ js) js) t ∙ sym e ∙ ap (λ k. drop k is) (sym same)
left_is is js n m i p false t e f same = let k : suc n ≡ m = omega (arith, same) in ap (λ x. cond x (i ∷ js) js) t ∙ sym f ∙ ap (λ z. drop z is) k

pub place_some : (a : ℕ) (is : List Placed) (n m : ℕ) (i : Placed) (p : Part) (ps : List Part) → n < length is → i ≡ slice_index_or is n i → m ≡ cond (takes_answer p.end) n (n + 1) → i.at ∷ places_in a (drop m is) ps ≡ places_in a (drop n is) (p ∷ ps)
unfolding places_in
place_some a is n m i p ps lt at same =
    let e : drop n is ≡ i ∷ drop (suc n) is = drop-cons is n i lt ∙ ap (λ x. x ∷ drop (suc n) is) (sym at) in
    ap (λ l. i.at ∷ places_in a l ps) (sym (left_is is (drop (suc n) is) n m i p (takes_answer p.end) refl e refl same)) ∙ ap (λ l. places_in a l (p ∷ ps)) (sym e)

pub left_by : (t : Bool) (n : ℕ) (b : Bool) → t ≡ b → cond t n (n + 1) ≡ cond b n (n + 1)
left_by t n b e = ap (λ x. cond x n (n + 1)) e

pub places_long : (image : ImageData) (b : Block) → length (places_of image b) ≡ length b.parts
places_long image b = places_length b.at (block_at image b.at) b.parts

-- ---- what is taken out

any_default : {A : Type 0} (l : List A) (i : ℕ) (x y : A) → i < length l → slice_index_or l i x ≡ slice_index_or l i y
any_default [] i x y lt = absurd (omega (arith, lt))
any_default (z ∷ l) zero x y lt = refl
any_default (z ∷ l) (suc i) x y lt = any_default l i x y (omega (arith, lt))

pub same_at : (items : List (Option KeptData)) (i : ℕ) (o p : Option KeptData) → o ≡ slice_index_or items i o → p ≡ o → p ≡ slice_index_or items i p
same_at items i o p e q = subst (λ z. z ≡ slice_index_or items i z) (sym q) e

pub taken : (items : List (Option KeptData)) (i a : ℕ) (o p : Option KeptData) (x : KeptData) → i < length items → o ≡ slice_index_or items i o → p ≡ slice_index_or items i p → p ≡ Some x → x.block.at ≡ a → IfSome o (λ y. (y.block.at ≡ a) × ((image : ImageData) (grown : List ℕ) → AreKept image grown items → IsKept image grown y))
taken items i a o p x lt e f g at =
    let there : slice_index_or items i None ≡ Some x = any_default items i None p lt ∙ sym f ∙ g in
    let q : o ≡ Some x = e ∙ any_default items i o None lt ∙ there in
    let P : Option KeptData → Type 0 = λ z. IfSome z (λ y. (y.block.at ≡ a) × ((image : ImageData) (grown : List ℕ) → AreKept image grown items → IsKept image grown y)) in
    subst P (sym q) (at, λ image grown h. h i x there)

pub nothing_more : (a : ℕ) (is : List Placed) (ps : List Part) (n : ℕ) (places all : List ℕ) → length ps ≤ n → places ++ places_in a is (drop n ps) ≡ all → places ≡ all
unfolding places_in
nothing_more a is ps n places all le e = sym (append-nil places) ∙ ap (λ l. places ++ places_in a is l) (sym (drop_of_length-le ps le)) ∙ e

pub part_of : (l ps : List Part) (n : ℕ) (p : Part) → l ≡ ps → p ≡ slice_index_or l n p → p ≡ slice_index_or ps n p
part_of l ps n p e is = subst (λ z. p ≡ slice_index_or z n p) e is
