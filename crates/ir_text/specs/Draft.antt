-- The reader's draft, as what the pieces so far make; and what reading answers.
use Rattle.std.specs.Prelude.{◌≡◌, ◌-◌, ◌≤◌, ℕ, List, length, All, Result, Ok, Err, ⊤, Vec}
use Rattle.std.specs.declared.alloc.Global.{Global}
use Rattle.ir_syntax.specs.declared.block.Block.{Block}
use Rattle.ir_text.specs.declared.reading.Draft.{Draft}
use Rattle.ir_text.specs.declared.reading.Stop.{Stop}
use Rattle.ir_text.specs.declared.reading.Stop.TheVariants.{Left, Memory}
use Rattle.ir_text.specs.Text.{HasText, text}
use Rattle.ir_text.specs.Faults.{IsPlace}
use Rattle.ir_text.specs.Made.{Made}

abbrev pub made_by : Draft → Made
made_by d = record { blocks = d.blocks.items; at = d.at; code = d.code.items; parts = d.parts.items; ops = d.ops.items }

-- the blocks and the whole text, or where it goes wrong
abbrev pub IsReadOf : List ℕ → Result (Vec Block Global) Stop → Type 0
IsReadOf bytes (Ok v) = All HasText v.items × (bytes ≡ text v.items)
IsReadOf bytes (Err (Left left)) = (left ≤ length bytes) × IsPlace bytes (length bytes - left)
IsReadOf bytes (Err (Memory e)) = ⊤
