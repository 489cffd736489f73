-- Blocks that are known by their bytes.
use Rattle.std.proofs.Common.{◌≡◌, ℕ, zero, suc, ◌+◌, ◌<◌, ◌≤◌, ◌%◌, ◌^◌, Bool, true, false, List, [], ◌∷◌, ◌++◌, Option, Some, None, refl, sym, ap, ◌∙◌, subst, arith, length, take, drop, append-nil, length-append}
use Rattle.std.specs.Prelude.{nat_lt, if◌then◌else◌}
use Rattle.std.proofs.lemmas.Bool.{and_parts, and_from}
use Rattle.std.proofs.lemmas.Option.{some_pair_parts}
use Rattle.std.proofs.lemmas.List.{take-append-drop, length-take, append_assoc, nil_from_length}
use Rattle.std.proofs.lemmas.List.Folds.{list_all-append}
use Rattle.elf_image.specs.Layout.{ImageData}
use Rattle.ir_syntax.specs.declared.block.Block.{Block}
use Rattle.ir_syntax.specs.declared.block.Part.{Part}
use Rattle.x86_forms.specs.declared.instructions.Instr.{Instr}
use Rattle.x86_forms.specs.Groups.{is_transfer}
use Rattle.x86_forms.specs.Spelling.{Spells, are_bytes}
use Rattle.x86_forms.specs.Reading.{read}
use Rattle.x86_forms.proofs.Again.{again}
use Rattle.x86_forms.proofs.Cuts.{test_some}
use Rattle.x86_model.specs.Want.{code_from}
use Rattle.x86_model.proofs.Standing.{read_within}
use Rattle.basic_blocks.specs.Placed.{Placed}
use Rattle.basic_blocks.specs.Places.{is_code_place, instr_at}
use Rattle.basic_blocks.specs.Span.{placed, block_with, block_from, block_up_to, block_at}
use Rattle.basic_blocks.specs.Bytes.{front, spelling_at, bytes_of}
use Rattle.lift_table.specs.Block.{lifted_block, block_of}
use Rattle.lift_table.specs.Faithful.{block_parts}
use Rattle.block_lift.proofs.Blocks.{block_with_all}
use Rattle.x86_forms.proofs.Sound.{front_spelled}
use Rattle.block_lift.specs.Spelled.{IsFirst, AreSpelled, IsOfItsBytes, SpellOneList, KnownByItsBytes}

-- ---- bytes

bytes_both : (xs ys : List ℕ) → are_bytes xs ≡ true → are_bytes ys ≡ true → are_bytes (xs ++ ys) ≡ true
bytes_both xs ys h k = list_all-append (λ b. nat_lt b 256) xs ys ∙ and_from (are_bytes xs) (are_bytes ys) h k

bytes_parts : (xs ys : List ℕ) → are_bytes (xs ++ ys) ≡ true → (are_bytes xs ≡ true) × (are_bytes ys ≡ true)
bytes_parts xs ys h = and_parts (are_bytes xs) (are_bytes ys) (sym (list_all-append (λ b. nat_lt b 256) xs ys) ∙ h)

spelled_bytes : (a : ℕ) (code : List ℕ) (is : List Placed) → AreSpelled a code is → are_bytes code ≡ true
spelled_bytes a code [] h = ap are_bytes h
spelled_bytes a code (p ∷ ps) h =
    let n = h.0.size in
    ap are_bytes (sym (take-append-drop n code)) ∙ bytes_both (take n code) (drop n code) h.0.spelled.bytes (spelled_bytes p.next (drop n code) ps h.1)

-- no instruction is spelled by no bytes
none_spelled : (i : Instr) → Spells i [] → ⊥
none_spelled i h =
    let p = h.parts in
    let after = p.modrm ++ (p.sib ++ (p.disp ++ p.imm)) in
    omega (arith, ap length h.string, length-append p.prefixes (p.rex ++ (p.escape ++ (p.opcode ++ after))), length-append p.rex (p.escape ++ (p.opcode ++ after)), length-append p.escape (p.opcode ++ after), length-append p.opcode after, h.form.opcode)

take_none : (n : ℕ) (xs : List ℕ) → length xs ≡ 0 → take n xs ≡ []
take_none zero [] e = refl
take_none (suc n) [] e = refl
take_none n (x ∷ xs) e = absurd (omega arith)

nothing_spelled : (a : ℕ) (is : List Placed) → AreSpelled a [] is → is ≡ []
nothing_spelled a [] h = refl
nothing_spelled a (p ∷ ps) h = absurd (none_spelled p.instr (subst (Spells p.instr) (take_none h.0.size [] refl) h.0.spelled))

-- ---- the first of them

-- what begins with a spelling reads as its instruction
reads : (i : Instr) (n : ℕ) (code : List ℕ) → n ≤ length code → Spells i (take n code) → read code ≡ Some (i, n)
reads i n code le h =
    let len : length (take n code) ≡ n = omega (arith, length-take n code) in
    ap read (sym (take-append-drop n code)) ∙ again i (take n code) (drop n code) h ∙ ap (λ (k : ℕ). Some (i, k)) len

same_first : (i j : Instr) (m n : ℕ) (code : List ℕ) → m ≤ length code → n ≤ length code → Spells i (take m code) → Spells j (take n code) → (i ≡ j) × (m ≡ n)
same_first i j m n code le lf h k = some_pair_parts i j m n (sym (reads i m code le h) ∙ reads j n code lf k)

abbrev placed_with : ℕ → Instr → ℕ → Placed
placed_with at instr next = record { at = at; instr = instr; next = next }

same_placed : (p q : Placed) → p.at ≡ q.at → p.instr ≡ q.instr → p.next ≡ q.next → p ≡ q
same_placed p q a i n = ap (λ x. placed_with x p.instr p.next) a ∙ ap (λ x. placed_with q.at x p.next) i ∙ ap (placed_with q.at q.instr) n

one_list : (a : ℕ) (code : List ℕ) (is js : List Placed) → AreSpelled a code is → AreSpelled a code js → is ≡ js
one_list a code [] js h k = sym (nothing_spelled a js (subst (λ x. AreSpelled a x js) h k))
one_list a code (p ∷ ps) [] h k = absurd (none_spelled p.instr (subst (Spells p.instr) (take_none h.0.size code (ap length k)) h.0.spelled))
one_list a code (p ∷ ps) (q ∷ qs) h k =
    let same = same_first p.instr q.instr h.0.size k.0.size code h.0.within k.0.within h.0.spelled k.0.spelled in
    let next : p.next ≡ q.next = h.0.next ∙ ap (λ n. (a + n) % 2 ^ 64) same.1 ∙ sym k.0.next in
    let first : p ≡ q = same_placed p q (h.0.at ∙ sym k.0.at) same.0 next in
    let rest : AreSpelled p.next (drop h.0.size code) qs = subst (λ x. AreSpelled x (drop h.0.size code) qs) (sym next) (subst (λ n. AreSpelled q.next (drop n code) qs) (sym same.1) k.1) in
    ap (λ x. x ∷ ps) first ∙ ap (λ x. q ∷ x) (one_list p.next (drop h.0.size code) ps qs h.1 rest)

pub spell_one_list : SpellOneList
spell_one_list = one_list

-- ---- the block at a place is spelled by its bytes

read_there : (image : ImageData) (a : ℕ) (x : Instr × ℕ) → instr_at image a ≡ Some x → read (code_from image.segments a) ≡ Some x
unfolding instr_at
read_there image a x e = (test_some (is_code_place image a) (read (code_from image.segments a)) x e).1

spelling_is : (image : ImageData) (a : ℕ) (x : Instr × ℕ) → instr_at image a ≡ Some x → spelling_at image a ≡ take x.1 (code_from image.segments a)
spelling_is image a x e = ap (front (code_from image.segments a)) e

spelling_length : (image : ImageData) (a : ℕ) (x : Instr × ℕ) → instr_at image a ≡ Some x → length (spelling_at image a) ≡ x.1
spelling_length image a x e = ap length (spelling_is image a x e) ∙ omega (arith, length-take x.1 (code_from image.segments a), read_within (code_from image.segments a) x.0 x.1 (read_there image a x e))

spelled_there : (image : ImageData) (a : ℕ) (x : Instr × ℕ) → instr_at image a ≡ Some x → are_bytes (spelling_at image a) ≡ true → Spells x.0 (spelling_at image a)
spelled_there image a x e h =
    let is = spelling_is image a x e in
    subst (Spells x.0) (sym is) (front_spelled (code_from image.segments a) x.0 x.1 (subst (λ s. are_bytes s ≡ true) is h) (read_there image a x e))

take_front : (n : ℕ) (xs ys : List ℕ) → length xs ≡ n → take n (xs ++ ys) ≡ xs
take_front n [] ys e = ap (λ k. take k ys) (sym e)
take_front zero (x ∷ xs) ys e = absurd (omega arith)
take_front (suc n) (x ∷ xs) ys e = ap (λ l. x ∷ l) (take_front n xs ys (omega arith))

drop_front : (n : ℕ) (xs ys : List ℕ) → length xs ≡ n → drop n (xs ++ ys) ≡ ys
drop_front n [] ys e = ap (λ k. drop k ys) (sym e)
drop_front zero (x ∷ xs) ys e = absurd (omega arith)
drop_front (suc n) (x ∷ xs) ys e = drop_front n xs ys (omega arith)

abbrev first_there : (image : ImageData) (a : ℕ) (x : Instr × ℕ) (rest : List ℕ) → instr_at image a ≡ Some x → are_bytes (spelling_at image a) ≡ true → IsFirst a (spelling_at image a ++ rest) (placed a x)
first_there image a x rest e h =
    let len = spelling_length image a x e in
    record {
      at = refl;
      size = x.1;
      within = omega (arith, len, length-append (spelling_at image a) rest);
      spelled = subst (Spells x.0) (sym (take_front x.1 (spelling_at image a) rest len)) (spelled_there image a x e h);
      next = refl;
    }

rest_spelled : (image : ImageData) (n next : ℕ) (transfer : Bool) → are_bytes (bytes_of image (if transfer then [] else block_up_to image n next)) ≡ true → ((b : ℕ) → are_bytes (bytes_of image (block_up_to image n b)) ≡ true → AreSpelled b (bytes_of image (block_up_to image n b)) (block_up_to image n b)) → AreSpelled next (bytes_of image (if transfer then [] else block_up_to image n next)) (if transfer then [] else block_up_to image n next)
rest_spelled image n next true h more = refl
rest_spelled image n next false h more = more next h

from_spelled : (image : ImageData) (n a : ℕ) (o : Option (Instr × ℕ)) → instr_at image a ≡ o → are_bytes (bytes_of image (block_from (block_up_to image n) a o)) ≡ true → ((b : ℕ) → are_bytes (bytes_of image (block_up_to image n b)) ≡ true → AreSpelled b (bytes_of image (block_up_to image n b)) (block_up_to image n b)) → AreSpelled a (bytes_of image (block_from (block_up_to image n) a o)) (block_from (block_up_to image n) a o)
from_spelled image n a None e h more = refl
from_spelled image n a (Some x) e h more =
    let next = (a + x.1) % 2 ^ 64 in
    let later = if is_transfer x.0 then [] else block_up_to image n next in
    let both = bytes_parts (spelling_at image a) (bytes_of image later) h in
    let rest : AreSpelled next (bytes_of image later) later = rest_spelled image n next (is_transfer x.0) both.1 more in
    (first_there image a x (bytes_of image later) e both.0, subst (λ s. AreSpelled next s later) (sym (drop_front x.1 (spelling_at image a) (bytes_of image later) (spelling_length image a x e))) rest)

up_to_spelled : (image : ImageData) (n a : ℕ) → are_bytes (bytes_of image (block_up_to image n a)) ≡ true → AreSpelled a (bytes_of image (block_up_to image n a)) (block_up_to image n a)
unfolding block_up_to
up_to_spelled image zero a h = refl
up_to_spelled image (suc n) a h = from_spelled image n a (instr_at image a) refl h (up_to_spelled image n)

pub block_spelled : (image : ImageData) (a : ℕ) → are_bytes (bytes_of image (block_at image a)) ≡ true → AreSpelled a (bytes_of image (block_at image a)) (block_at image a)
block_spelled image a h = up_to_spelled image 64 a h

-- ---- the lifted block

pub known : KnownByItsBytes
known image b k same =
    let there : AreSpelled b.at (bytes_of image (block_at image b.at)) k.instrs = subst (λ s. AreSpelled b.at s k.instrs) same k.spelled in
    let one : k.instrs ≡ block_at image b.at = one_list b.at _ k.instrs (block_at image b.at) there (block_spelled image b.at (spelled_bytes b.at _ k.instrs there)) in
    ap (λ s. block_with_all b.at s b.parts) same ∙ ap (block_with_all b.at (bytes_of image (block_at image b.at))) (k.parts ∙ ap block_parts one)

of_its_bytes : (image : ImageData) (a : ℕ) → are_bytes (bytes_of image (block_at image a)) ≡ true → IsOfItsBytes (lifted_block image a)
of_its_bytes image a h = record { instrs = block_at image a; spelled = block_spelled image a h; parts = refl }

pub lifted_known : (image : ImageData) (a : ℕ) (b : Block) → b ≡ lifted_block image a → are_bytes b.code ≡ true → IsOfItsBytes b
lifted_known image a b e h = subst IsOfItsBytes (sym e) (of_its_bytes image a (ap (λ (x : Block). are_bytes x.code) (sym e) ∙ h))
