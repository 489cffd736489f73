-- What is read is an instruction within its limits.
use Rattle.std.proofs.Common.{◌≡◌, ℕ, List, length, take, Option, Some, None, refl}
use Rattle.std.specs.Prelude.{IfSome, ◌≤◌, ◌↔◌}
use Rattle.x86_forms.specs.declared.instructions.Instr.{Instr}
use Rattle.x86_forms.specs.Laws.{SpelledFits}
use Rattle.x86_forms.specs.Limits.{InstrFits}
use Rattle.x86_forms.specs.Spelling.{Spells}

pub spelled_fits : (bytes : List ℕ) (r : Option (Instr × ℕ)) → SpelledFits → ((i : Instr) (n : ℕ) → n ≤ length bytes → (r ≡ Some (i, n)) ↔ Spells i (take n bytes)) → IfSome r (λ x. x.1 ≤ length bytes) → IfSome r (λ x. InstrFits x.0)
spelled_fits bytes None fits exact within = tt
spelled_fits bytes (Some x) fits exact within = fits x.0 (take x.1 bytes) ((exact x.0 x.1 within).0 refl)
