-- What is left of a block.
use Rattle.std.proofs.Common.{◌≡◌, ℕ, zero, suc, ◌+◌, ◌-◌, ◌%◌, ◌^◌, ◌<◌, Bool, true, false, cond, List, [], ◌∷◌, Some, None, refl, sym, ap, ◌∙◌, arith, map}
use Rattle.std.specs.Prelude.{◌==◌}
use Rattle.std.proofs.lemmas.Bool.Decides.{nat_tests}
use Rattle.elf_image.specs.Layout.{ImageData}
use Rattle.x86_forms.specs.declared.instructions.Instr.{Instr}
use Rattle.x86_forms.specs.Groups.{is_transfer}
use Rattle.basic_blocks.specs.Placed.{Placed}
use Rattle.basic_blocks.specs.Places.{instr_at}
use Rattle.basic_blocks.specs.Span.{block_from, block_up_to, placed}
use Rattle.machine_model.specs.Gated.{is_between, rest_of}
use Rattle.replay_view.specs.Gates.{addresses_from}

pub none_left : (image : ImageData) (a : ℕ) → addresses_from image 0 a ≡ []
unfolding block_up_to
none_left image a = refl

first_of : (a : ℕ) (b : Bool) (p : Placed) (rest : List Placed) → map (λ (q : Placed). q.at) (p ∷ cond b [] rest) ≡ p.at ∷ cond b [] (map (λ (q : Placed). q.at) rest)
first_of a true p rest = refl
first_of a false p rest = refl

-- where an instruction stands, it is left first
pub first_left : (image : ImageData) (n a : ℕ) (x : Instr × ℕ) → instr_at image a ≡ Some x → addresses_from image (suc n) a ≡ a ∷ cond (is_transfer x.0) [] (addresses_from image n ((a + x.1) % 2 ^ 64))
unfolding block_up_to
first_left image n a x e =
    ap (λ o. map (λ (p : Placed). p.at) (block_from (block_up_to image n) a o)) e ∙ first_of a (is_transfer x.0) (placed a x) (block_up_to image n ((a + x.1) % 2 ^ 64))

-- where none stands, nothing is left
pub nothing_left : (image : ImageData) (n a : ℕ) → instr_at image a ≡ None → addresses_from image n a ≡ []
unfolding block_up_to
nothing_left image zero a e = refl
nothing_left image (suc n) a e = ap (λ o. map (λ (p : Placed). p.at) (block_from (block_up_to image n) a o)) e

-- ---- whether something is left

some_room : (n : ℕ) → (suc n == 0) ≡ false
some_room n = grind (arith, nat_tests)

pub no_room : (image : ImageData) (n a : ℕ) → (n == 0) ≡ true → true ≡ is_between (addresses_from image n a)
no_room image zero a e = ap is_between (sym (none_left image a))
no_room image (suc n) a e = absurd (let no : false ≡ true = sym (some_room n) ∙ e in cc)

pub some_there : (image : ImageData) (n a : ℕ) (x : Instr × ℕ) → (n == 0) ≡ false → instr_at image a ≡ Some x → false ≡ is_between (addresses_from image n a)
some_there image zero a x e h = absurd (let no : true ≡ false = e in cc)
some_there image (suc n) a x e h = ap is_between (sym (first_left image n a x h))

pub none_there : (image : ImageData) (n a : ℕ) → instr_at image a ≡ None → true ≡ is_between (addresses_from image n a)
none_there image n a h = ap is_between (sym (nothing_left image n a h))

-- ---- what is left after the first

by_room : (n : ℕ) → 0 < n → suc (n - 1) ≡ n
by_room n h = omega arith

first_in : (image : ImageData) (n a : ℕ) (x : Instr × ℕ) → 0 < n → instr_at image a ≡ Some x → rest_of (addresses_from image n a) ≡ cond (is_transfer x.0) [] (addresses_from image (n - 1) ((a + x.1) % 2 ^ 64))
first_in image n a x some e = ap (λ k. rest_of (addresses_from image k a)) (sym (by_room n some)) ∙ ap rest_of (first_left image (n - 1) a x e)

pub past_transfer : (image : ImageData) (n a : ℕ) (instr : Instr) (len : ℕ) → 0 < n → instr_at image a ≡ Some (instr, len) → is_transfer instr ≡ true → [] ≡ rest_of (addresses_from image n a)
past_transfer image n a instr len some e t = sym (first_in image n a (instr, len) some e ∙ ap (λ b. cond b [] (addresses_from image (n - 1) ((a + len) % 2 ^ 64))) t)

pub past_another : (image : ImageData) (n a : ℕ) (instr : Instr) (len : ℕ) → 0 < n → instr_at image a ≡ Some (instr, len) → is_transfer instr ≡ false → addresses_from image (n - 1) ((a + len) % 2 ^ 64) ≡ rest_of (addresses_from image n a)
past_another image n a instr len some e t = sym (first_in image n a (instr, len) some e ∙ ap (λ b. cond b [] (addresses_from image (n - 1) ((a + len) % 2 ^ 64))) t)

pub still_none : (image : ImageData) (n a : ℕ) → (n == 0) ≡ true → addresses_from image n a ≡ rest_of (addresses_from image n a)
still_none image zero a e = none_left image a ∙ ap rest_of (sym (none_left image a))
still_none image (suc n) a e = absurd (let no : false ≡ true = sym (some_room n) ∙ e in cc)

pub none_past : (image : ImageData) (n a : ℕ) → instr_at image a ≡ None → addresses_from image n a ≡ rest_of (addresses_from image n a)
none_past image n a e = nothing_left image n a e ∙ ap rest_of (sym (nothing_left image n a e))
