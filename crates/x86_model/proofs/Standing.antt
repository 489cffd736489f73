-- What stands at rip decides.
use Rattle.std.proofs.Common.{◌≡◌, ℕ, ◌-◌, ◌≤◌, List, length, take, Option, Some, None, refl, arith, ◌∙◌}
use Rattle.std.proofs.lemmas.List.{length-take}
use Rattle.std.proofs.lemmas.Option.{none-some, some_pair_parts}
use Rattle.elf_image.specs.Layout.{ImageData}
use Rattle.x86_forms.specs.declared.instructions.Instr.{Instr}
use Rattle.x86_forms.specs.Reading.{read, read_instr, counted}
use Rattle.x86_forms.specs.Laws.{ReadsExactly}
use Rattle.x86_model.specs.declared.cpu.Cpu.{Cpu}
use Rattle.x86_model.specs.declared.want.BadStep.TheVariants.{Code}
use Rattle.x86_model.specs.declared.want.Want.TheVariants.{Bad}
use Rattle.x86_model.specs.Want.{code_from, running, want}
use Rattle.x86_model.specs.Laws.{IsCode, Stands, RunsSpelled, RefusesUnspelled}

-- away from doors and library functions
at_code : (image : ImageData) (s : Cpu) (r : Option (Instr × ℕ)) → IsCode image s.rip → read (code_from image.segments s.rip) ≡ r → want image s ≡ running r s
unfolding want
at_code image s r h e = rw (h.no_door, h.no_function, e) refl

pub runs_spelled : ReadsExactly → RunsSpelled
runs_spelled law image s i n h at = at_code image s (Some (i, n)) h ((law (code_from image.segments s.rip) i n h.bytes at.inside).1 at.spelled)

-- a length that is counted is at most what there is
counted_within : (m : ℕ) (r : Option (Instr × List ℕ)) (i : Instr) (n : ℕ) → counted m r ≡ Some (i, n) → n ≤ m
counted_within m None i n e = absurd (none-some (i, n) e)
counted_within m (Some x) i n e =
    let same : m - length x.1 ≡ n = (some_pair_parts x.0 i (m - length x.1) n e).1 in
    omega (arith, same)

pub read_within : (bytes : List ℕ) (i : Instr) (n : ℕ) → read bytes ≡ Some (i, n) → n ≤ length bytes
unfolding read
read_within bytes i n e = omega (arith, counted_within (length (take 15 bytes)) (read_instr (take 15 bytes)) i n e, length-take 15 bytes)

refused : ReadsExactly → (image : ImageData) (s : Cpu) (r : Option (Instr × ℕ)) → IsCode image s.rip → ((i : Instr) (n : ℕ) → ¬ Stands image s.rip i n) → read (code_from image.segments s.rip) ≡ r → running r s ≡ Bad Code
refused law image s None h none_stands e = refl
refused law image s (Some x) h none_stands e =
    let code = code_from image.segments s.rip in
    let inside : x.1 ≤ length code = read_within code x.0 x.1 e in
    absurd (none_stands x.0 x.1 (record { inside = inside; spelled = (law code x.0 x.1 h.bytes inside).0 e }))

pub refuses_unspelled : ReadsExactly → RefusesUnspelled
refuses_unspelled law image s h none_stands =
    at_code image s (read (code_from image.segments s.rip)) h refl ∙ refused law image s (read (code_from image.segments s.rip)) h none_stands refl
