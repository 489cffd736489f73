-- A block goes on after its bytes.
use Rattle.std.proofs.Common.{◌≡◌, ℕ, zero, suc, ◌+◌, ◌%◌, ◌^◌, ◌<◌, ◌≤◌, Bool, true, false, List, [], ◌∷◌, ◌++◌, Option, Some, None, refl, sym, ap, ◌∙◌, arith, length, take}
use Rattle.std.proofs.lemmas.List.{length-take, length-append}
use Rattle.std.specs.Prelude.{if◌then◌else◌}
use Rattle.elf_image.specs.Layout.{ImageData}
use Rattle.x86_forms.specs.declared.instructions.Instr.{Instr}
use Rattle.x86_forms.specs.Groups.{is_transfer}
use Rattle.x86_forms.specs.Reading.{read}
use Rattle.x86_forms.proofs.Cuts.{test_some}
use Rattle.x86_model.specs.Want.{code_from}
use Rattle.x86_model.proofs.Standing.{read_within}
use Rattle.basic_blocks.specs.Placed.{Placed}
use Rattle.basic_blocks.specs.Places.{is_code_place, instr_at}
use Rattle.basic_blocks.specs.Span.{placed, block_with, block_from, block_up_to, block_at}
use Rattle.basic_blocks.specs.Bytes.{front, spelling_at, bytes_of}
use Rattle.basic_blocks.specs.Onward.{next_after, GoesOnAfterItsBytes}

within : (image : ImageData) (a : ℕ) (x : Instr × ℕ) → instr_at image a ≡ Some x → x.1 ≤ length (code_from image.segments a)
unfolding instr_at
within image a x e = read_within (code_from image.segments a) x.0 x.1 (test_some (is_code_place image a) (read (code_from image.segments a)) x e).1

-- an instruction has as many bytes as it is long
counted : (image : ImageData) (a : ℕ) (x : Instr × ℕ) → instr_at image a ≡ Some x → length (spelling_at image a) ≡ x.1
counted image a x e =
    let here : spelling_at image a ≡ take x.1 (code_from image.segments a) = ap (front (code_from image.segments a)) e in
    ap length here ∙ omega (arith, length-take x.1 (code_from image.segments a), within image a x e)

rest_goes_on : (image : ImageData) (a : ℕ) (x : Instr × ℕ) (n : ℕ) (transfer : Bool) → instr_at image a ≡ Some x
    → ((b : ℕ) → b < 2 ^ 64 → next_after b (block_up_to image n b) ≡ (b + length (bytes_of image (block_up_to image n b))) % 2 ^ 64)
    → next_after ((a + x.1) % 2 ^ 64) (if transfer then [] else block_up_to image n ((a + x.1) % 2 ^ 64)) ≡ (a + (length (spelling_at image a) + length (bytes_of image (if transfer then [] else block_up_to image n ((a + x.1) % 2 ^ 64))))) % 2 ^ 64
rest_goes_on image a x n true e more = let c = counted image a x e in omega (arith, c)
rest_goes_on image a x n false e more =
    let c = counted image a x e in
    let m = length (bytes_of image (block_up_to image n ((a + x.1) % 2 ^ 64))) in
    let sum : ((a + x.1) % 2 ^ 64 + m) % 2 ^ 64 ≡ (a + (length (spelling_at image a) + m)) % 2 ^ 64 = omega (arith, c) in
    more ((a + x.1) % 2 ^ 64) (omega arith) ∙ sum

from_one : (image : ImageData) (n a : ℕ) (o : Option (Instr × ℕ)) → a < 2 ^ 64 → instr_at image a ≡ o
    → ((b : ℕ) → b < 2 ^ 64 → next_after b (block_up_to image n b) ≡ (b + length (bytes_of image (block_up_to image n b))) % 2 ^ 64)
    → next_after a (block_from (block_up_to image n) a o) ≡ (a + length (bytes_of image (block_from (block_up_to image n) a o))) % 2 ^ 64
from_one image n a None lt e more = omega (arith, lt)
from_one image n a (Some x) lt e more =
    let rest : List Placed = if is_transfer x.0 then [] else block_up_to image n ((a + x.1) % 2 ^ 64) in
    let sizes : length (spelling_at image a ++ bytes_of image rest) ≡ length (spelling_at image a) + length (bytes_of image rest) = length-append (spelling_at image a) (bytes_of image rest) in
    rest_goes_on image a x n (is_transfer x.0) e more ∙ ap (λ k. (a + k) % 2 ^ 64) (sym sizes)

up_to : (image : ImageData) (n a : ℕ) → a < 2 ^ 64 → next_after a (block_up_to image n a) ≡ (a + length (bytes_of image (block_up_to image n a))) % 2 ^ 64
unfolding block_up_to
up_to image zero a lt = omega (arith, lt)
up_to image (suc n) a lt = from_one image n a (instr_at image a) lt refl (up_to image n)

pub goes_on : GoesOnAfterItsBytes
goes_on image a lt = up_to image 64 a lt
