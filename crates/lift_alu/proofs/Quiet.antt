-- A private instruction touches no memory.
use Rattle.std.proofs.Common.{◌≡◌, Bool, true, false, refl}
use Rattle.std.specs.Prelude.{if◌then◌else◌}
use Rattle.x86_forms.specs.declared.instructions.Group.TheVariants as group
use Rattle.x86_forms.specs.declared.instructions.Instr.{Instr}
use Rattle.x86_forms.specs.Groups.{group_of, is_transfer, touches_memory}

untouched : (t m : Bool) → (if t then group.Transfer else if m then group.Memory else group.Private) ≡ group.Private → m ≡ false
untouched true m e = let no : ⊥ = cc in absurd no
untouched false true e = let no : ⊥ = cc in absurd no
untouched false false e = refl

pub quiet_of : (i : Instr) → group_of i ≡ group.Private → touches_memory i ≡ false
quiet_of i e = untouched (is_transfer i) (touches_memory i) e
