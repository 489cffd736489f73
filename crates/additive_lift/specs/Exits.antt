-- Where a block may go on, as the program keeps it.
use Rattle.std.specs.Prelude.{ℕ, List, [], ◌∷◌, ◌++◌, Option, Some, None}
use Rattle.x86_forms.specs.declared.instructions.Instr.{Instr}
use Rattle.basic_blocks.specs.Placed.{Placed}
use Rattle.additive_lift.specs.declared.exits.Exits.{Exits}

-- the last of the instructions and the address after it, or this one where there are none
abbrev pub ending : Option (Instr × ℕ) → List Placed → Option (Instr × ℕ)
ending o [] = o
ending o (p ∷ ps) = ending (Some (p.instr, p.next)) ps

abbrev pub listed : Option ℕ → List ℕ
listed None = []
listed (Some a) = a ∷ []

-- the places, in order
abbrev pub exits_of : Exits → List ℕ
exits_of e = listed e.first ++ listed e.second
