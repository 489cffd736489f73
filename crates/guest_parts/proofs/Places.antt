-- The instructions of a block, part by part.
use Rattle.std.proofs.Common.{◌≡◌, ℕ, zero, suc, ◌+◌, ◌-◌, ◌<◌, Bool, true, false, cond, List, [], ◌∷◌, Option, Some, None, refl, sym, ap, ◌∙◌, arith, length, drop}
use Rattle.std.proofs.lemmas.List.{length-drop}
use Rattle.std.specs.Prelude.{slice_index}
use Rattle.elf_image.specs.Layout.{ImageData}
use Rattle.x86_forms.specs.declared.instructions.Instr.{Instr}
use Rattle.x86_forms.specs.Groups.{is_transfer}
use Rattle.x86_forms.specs.Reading.{read}
use Rattle.x86_forms.proofs.Cuts.{test_some}
use Rattle.x86_model.specs.declared.cpu.Cpu.{Cpu}
use Rattle.x86_model.specs.declared.want.Want.{Want}
use Rattle.x86_model.specs.Want.{code_from}
use Rattle.ir_syntax.specs.declared.block.Part.{Part}
use Rattle.basic_blocks.specs.Onward.{next_after}
use Rattle.basic_blocks.specs.Placed.{Placed}
use Rattle.basic_blocks.specs.Places.{is_code_place, instr_at}
use Rattle.basic_blocks.specs.Span.{block_from, block_up_to, placed}
use Rattle.lift_table.specs.Block.{left_of, place_in}
use Rattle.lift_table.specs.Faithful.{AreFaithful, left_after, takes_answer, under_way}
use Rattle.guest_parts.specs.Standing.{last_after, last_in, places_in}

-- ---- lists of parts

pub nil_cons : {A : Type 0} (x : A) (xs : List A) → [] ≡ x ∷ xs → ⊥
nil_cons x xs e = cc

drop_none : (n : ℕ) (p : Part) (ps : List Part) → drop n [] ≡ p ∷ ps → ⊥
drop_none zero p ps e = nil_cons p ps e
drop_none (suc n) p ps e = nil_cons p ps e

-- one part further
pub further : (qs : List Part) (n : ℕ) (p : Part) (ps : List Part) → drop n qs ≡ p ∷ ps → drop (suc n) qs ≡ ps
further [] n p ps e = absurd (drop_none n p ps e)
further (q ∷ qs) zero p ps e = let h : q ∷ qs ≡ p ∷ ps = e in cc
further (q ∷ qs) (suc n) p ps e = further qs n p ps e

pub left_length : (qs ps : List Part) (n : ℕ) → drop n qs ≡ ps → length ps + n ≡ length qs + (n - length qs)
left_length qs ps n e = let h = length-drop n qs in let l = ap length e in omega (arith, h, l)

-- ---- places in a block

pub none_left : (under : Option Part) (qs : List Part) (n : ℕ) → (place_in under [] qs n).1 ≡ []
unfolding place_in
none_left under qs zero = refl
none_left under [] (suc n) = refl
none_left under (q ∷ qs) (suc n) = none_left (under_way q) qs n

no_first : {P : Type 0} (under : Option Part) (qs : List Part) (n : ℕ) (i : Placed) (js : List Placed) → (place_in under [] qs n).1 ≡ i ∷ js → P
no_first under qs n i js e = absurd (nil_cons i js (sym (none_left under qs n) ∙ e))

-- one part further, the instructions that are left are those after the part
pub next_place : (under : Option Part) (is : List Placed) (qs : List Part) (n : ℕ) (p : Part) (ps : List Part) → drop n qs ≡ p ∷ ps → place_in under is qs (suc n) ≡ (under_way p, left_of p (place_in under is qs n).1)
unfolding place_in
next_place under is [] n p ps e = absurd (drop_none n p ps e)
next_place under is (q ∷ qs) zero p ps e =
    let both : q ∷ qs ≡ p ∷ ps = e in
    let h : q ≡ p = cc in
    ap (λ x. (under_way x, left_of x is)) h
next_place under is (q ∷ qs) (suc n) p ps e = next_place (under_way q) (left_of q is) qs n p ps e

-- the parts that are left are faithful to the instructions that are left
pub faithful_at : (wants : Cpu → Want) (under : Option Part) (is : List Placed) (qs : List Part) (n : ℕ) → AreFaithful wants under is qs → AreFaithful wants (place_in under is qs n).0 (place_in under is qs n).1 (drop n qs)
unfolding place_in
faithful_at wants under is qs zero h = h
faithful_at wants under is [] (suc n) h = h
faithful_at wants under [] (q ∷ qs) (suc n) h = absurd h
faithful_at wants under (i ∷ is) (q ∷ qs) (suc n) h = faithful_at wants (under_way q) (left_after q i is) qs n h.1

-- ---- the instruction that was finished last

pub last_next : (last : ℕ) (under : Option Part) (is : List Placed) (qs : List Part) (n : ℕ) (p : Part) (ps : List Part) (i : Placed) (js : List Placed) → drop n qs ≡ p ∷ ps → (place_in under is qs n).1 ≡ i ∷ js → last_in last is qs (suc n) ≡ last_after (takes_answer p.end) (last_in last is qs n) i.at
unfolding last_in place_in
last_next last under is [] n p ps i js e at = absurd (drop_none n p ps e)
last_next last under [] (q ∷ qs) n p ps i js e at = no_first under (q ∷ qs) n i js at
last_next last under (j ∷ is) (q ∷ qs) zero p ps i js e at =
    let both : q ∷ qs ≡ p ∷ ps = e in
    let same : j ∷ is ≡ i ∷ js = at in
    let h : q ≡ p = cc in
    let k : j ≡ i = cc in
    ap (λ (x : Part). last_after (takes_answer x.end) last j.at) h ∙ ap (λ (x : Placed). last_after (takes_answer p.end) last x.at) k
last_next last under (j ∷ is) (q ∷ qs) (suc n) p ps i js e at = last_next (last_after (takes_answer q.end) last j.at) (under_way q) (left_after q j is) qs n p ps i js e at

-- ---- where parts stand

pub place_at : (a : ℕ) (under : Option Part) (is : List Placed) (qs : List Part) (n : ℕ) (p : Part) (ps : List Part) (i : Placed) (js : List Placed) → drop n qs ≡ p ∷ ps → (place_in under is qs n).1 ≡ i ∷ js → slice_index (places_in a is qs) n ≡ i.at
unfolding places_in place_in
place_at a under is [] n p ps i js e at = absurd (drop_none n p ps e)
place_at a under [] (q ∷ qs) n p ps i js e at = no_first under (q ∷ qs) n i js at
place_at a under (j ∷ is) (q ∷ qs) zero p ps i js e at = let same : j ∷ is ≡ i ∷ js = at in let k : j ≡ i = cc in ap (λ (x : Placed). x.at) k
place_at a under (j ∷ is) (q ∷ qs) (suc n) p ps i js e at = place_at a (under_way q) (left_after q j is) qs n p ps i js e at

pub place_none : (a : ℕ) (qs : List Part) (n : ℕ) → n < length qs → slice_index (places_in a [] qs) n ≡ a
unfolding places_in
place_none a [] n lt = absurd (omega arith)
place_none a (q ∷ qs) zero lt = refl
place_none a (q ∷ qs) (suc n) lt = place_none a qs n (omega arith)

-- ---- code places

abbrev pub AreCode : ImageData → List Placed → Type 0
AreCode image [] = Unit {0}
AreCode image (i ∷ is) = (is_code_place image i.at ≡ true) × AreCode image is

if_code : (image : ImageData) (b : Bool) (is : List Placed) → AreCode image is → AreCode image (cond b [] is)
if_code image true is h = tt
if_code image false is h = h

code_of : (image : ImageData) (a : ℕ) (x : Instr × ℕ) → instr_at image a ≡ Some x → is_code_place image a ≡ true
unfolding instr_at
code_of image a x e = (test_some (is_code_place image a) (read (code_from image.segments a)) x e).0

code_by : (image : ImageData) (n a : ℕ) (o : Option (Instr × ℕ)) → instr_at image a ≡ o → ((b : ℕ) → AreCode image (block_up_to image n b)) → AreCode image (block_from (block_up_to image n) a o)
code_by image n a None e more = tt
code_by image n a (Some x) e more = (code_of image a x e, if_code image (is_transfer x.0) _ (more _))

pub block_code : (image : ImageData) (n a : ℕ) → AreCode image (block_up_to image n a)
unfolding block_up_to
block_code image zero a = tt
block_code image (suc n) a = code_by image n a (instr_at image a) refl (block_code image n)

after_code : (image : ImageData) (b : Bool) (i : Placed) (is : List Placed) → AreCode image (i ∷ is) → AreCode image (cond b (i ∷ is) is)
after_code image true i is h = h
after_code image false i is h = h.1

pub code_at : (image : ImageData) (under : Option Part) (is : List Placed) (qs : List Part) (n : ℕ) → AreCode image is → AreCode image (place_in under is qs n).1
unfolding place_in
code_at image under is qs zero h = h
code_at image under is [] (suc n) h = h
code_at image under [] (q ∷ qs) (suc n) h = code_at image (under_way q) [] qs n h
code_at image under (i ∷ is) (q ∷ qs) (suc n) h = code_at image (under_way q) (left_after q i is) qs n (after_code image (takes_answer q.end) i is h)

-- ---- the first instruction

first_by : (rest : ℕ → List Placed) (a : ℕ) (o : Option (Instr × ℕ)) (i : Placed) (is : List Placed) → block_from rest a o ≡ i ∷ is → i.at ≡ a
first_by rest a None i is e = absurd (nil_cons i is e)
first_by rest a (Some x) i is e = let q : placed a x ∷ cond (is_transfer x.0) [] (rest (placed a x).next) ≡ i ∷ is = e in let h : placed a x ≡ i = cc in sym (ap (λ (z : Placed). z.at) h)

pub first_at : (image : ImageData) (n a : ℕ) (i : Placed) (is : List Placed) → block_up_to image (suc n) a ≡ i ∷ is → i.at ≡ a
unfolding block_up_to
first_at image n a i is e = first_by (block_up_to image n) a (instr_at image a) i is e

none_by : (rest : ℕ → List Placed) (a : ℕ) (o : Option (Instr × ℕ)) → block_from rest a o ≡ [] → o ≡ None
none_by rest a None e = refl
none_by rest a (Some x) e = absurd (nil_cons _ _ (sym e))

pub no_instr : (image : ImageData) (n a : ℕ) → block_up_to image (suc n) a ≡ [] → instr_at image a ≡ None
unfolding block_up_to
no_instr image n a e = none_by (block_up_to image n) a (instr_at image a) e

-- ---- the last instruction

next_one : (a : ℕ) (b : Bool) (i : Placed) (is : List Placed) (k : Placed) (ks : List Placed) → (cond b (i ∷ is) is ≡ [] → ⊥) → next_after a (cond b (i ∷ is) is) ≡ next_after a (k ∷ ks) → next_after a (i ∷ is) ≡ next_after a (k ∷ ks)
next_one a true i is k ks some e = e
next_one a false i [] k ks some e = absurd (some refl)
next_one a false i (j ∷ js) k ks some e = e

pub next_same : (a : ℕ) (under : Option Part) (is : List Placed) (qs : List Part) (n : ℕ) (i : Placed) (js : List Placed) → (place_in under is qs n).1 ≡ i ∷ js → next_after a is ≡ next_after a (i ∷ js)
unfolding place_in
next_same a under is qs zero i js e = ap (next_after a) e
next_same a under is [] (suc n) i js e = ap (next_after a) e
next_same a under [] (q ∷ qs) (suc n) i js e = no_first (under_way q) qs n i js e
next_same a under (j ∷ is) (q ∷ qs) (suc n) i js e =
    next_one a (takes_answer q.end) j is i js
    (λ none. no_first (under_way q) qs n i js (ap (λ x. (place_in (under_way q) x qs n).1) (sym none) ∙ e))
    (next_same a (under_way q) (left_after q j is) qs n i js e)
