-- What an answer of the library makes of a guest that asked.
use Rattle.std.specs.Prelude.{ℕ, ⊤}
use Rattle.lib_table.specs.declared.answer.Stepped.{Stepped}
use Rattle.lib_table.specs.declared.answer.Stepped.TheVariants.{Bad, Done, Waits}
use Rattle.lib_table.specs.declared.ask.Asked.{Asked}
use Rattle.guest_parts.specs.Calls.{FitsRegisters, guest_after, place_after}
use Rattle.guest_parts.specs.Guest.{GuestData}
use Rattle.guest_steps.specs.declared.own.Position.{Position}
use Rattle.guest_steps.specs.declared.own.Position.TheVariants.{Between}

-- the guest that asked at an address: one that has to wait didn't tell its private steps yet
abbrev pub data_after : GuestData → ℕ → Asked → Stepped → GuestData
data_after g a what (Done called) = guest_after g a what called
data_after g a what Waits = g
data_after g a what (Bad kind) = record g { k = 0 }

abbrev pub at_after : Position → ℕ → Stepped → Position
at_after at a (Done called) = Between (place_after called a)
at_after at a Waits = at
at_after at a (Bad kind) = at

-- what an answer writes to registers fits them
abbrev pub FitsAfter : Stepped → Type 0
FitsAfter (Done called) = FitsRegisters called
FitsAfter Waits = ⊤
FitsAfter (Bad kind) = ⊤
