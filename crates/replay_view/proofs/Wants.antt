-- What a thread wants where an instruction stands, and where none does.
use Rattle.std.proofs.Common.{◌≡◌, ℕ, ◌+◌, ◌%◌, ◌^◌, Bool, true, false, cond, Option, Some, None, refl, sym, ap, ◌∙◌, ◌&&◌}
use Rattle.std.specs.Prelude.{is_none}
use Rattle.std.proofs.lemmas.Option.{none-some}
use Rattle.elf_image.specs.Layout.{ImageData, function_at}
use Rattle.elf_image.specs.declared.place.Function.{Function}
use Rattle.x86_forms.specs.declared.instructions.Instr.{Instr}
use Rattle.x86_forms.specs.Reading.{read}
use Rattle.x86_model.specs.declared.cpu.Cpu.{Cpu}
use Rattle.x86_model.specs.declared.want.Door.{Door}
use Rattle.x86_model.specs.declared.want.Want.{Want}
use Rattle.x86_model.specs.Want.{code_from, door_at, running, standing, want, want_of}
use Rattle.basic_blocks.specs.Places.{instr_at}
use Rattle.machine_model.specs.Step.{privately}

by_place : (d : Option Door) (f : Option Function) (s : Option (Instr × ℕ)) (cpu : Cpu) (x : Instr × ℕ) → cond (is_none d && is_none f) s None ≡ Some x → standing d f s cpu ≡ want_of x.0 ((cpu.rip + x.1) % 2 ^ 64) cpu
by_place None None s cpu x e = ap (λ o. running o cpu) e
by_place None (Some f) s cpu x e = absurd (none-some x e)
by_place (Some d) f s cpu x e = absurd (none-some x e)

pub want_at : (image : ImageData) (cpu : Cpu) (x : Instr × ℕ) → instr_at image cpu.rip ≡ Some x → want image cpu ≡ want_of x.0 ((cpu.rip + x.1) % 2 ^ 64) cpu
unfolding want instr_at
want_at image cpu x e = by_place (door_at cpu.rip) (function_at cpu.rip image.entries) (read (code_from image.segments cpu.rip)) cpu x e

by_nothing : (d : Option Door) (f : Option Function) (s : Option (Instr × ℕ)) (cpu : Cpu) → cond (is_none d && is_none f) s None ≡ None → privately (standing d f s cpu) ≡ None
by_nothing None None s cpu e = ap (λ o. privately (running o cpu)) e
by_nothing None (Some f) s cpu e = refl
by_nothing (Some d) f s cpu e = refl

-- without an instruction no step is private
pub never_at : (image : ImageData) (cpu : Cpu) → instr_at image cpu.rip ≡ None → privately (want image cpu) ≡ None
unfolding want instr_at
never_at image cpu e = by_nothing (door_at cpu.rip) (function_at cpu.rip image.entries) (read (code_from image.segments cpu.rip)) cpu e

code_if : (b : Bool) (s : Option (Instr × ℕ)) (x : Instr × ℕ) → cond b s None ≡ Some x → b ≡ true
code_if true s x e = refl
code_if false s x e = absurd (none-some x e)

-- an instruction stands at a code place
pub code_at : (image : ImageData) (a : ℕ) (x : Instr × ℕ) → instr_at image a ≡ Some x → (is_none (door_at a) && is_none (function_at a image.entries)) ≡ true
unfolding instr_at
code_at image a x e = code_if (is_none (door_at a) && is_none (function_at a image.entries)) (read (code_from image.segments a)) x e

-- the registers after a private step, by the instruction that stands there
pub privately_there : (image : ImageData) (cpu : Cpu) (instr : Instr) (len next : ℕ) (wanted : Want) (r : Option Cpu) → instr_at image cpu.rip ≡ Some (instr, len) → next ≡ (cpu.rip + len) % 2 ^ 64 → wanted ≡ want_of instr next cpu → r ≡ privately wanted → r ≡ privately (want image cpu)
privately_there image cpu instr len next wanted r here n w e = e ∙ ap privately (w ∙ ap (λ x. want_of instr x cpu) n ∙ sym (want_at image cpu (instr, len) here))
