-- Where a text stops being the beginning of a text of the grammar.
use Rattle.std.specs.Prelude.{◌≡◌, ◌≢◌, ℕ, ◌+◌, ◌<◌, ◌≤◌, ◌==◌, if◌then◌else◌, List, [], ◌∷◌, ◌++◌, length, take, All, Result, Ok, Err, ⊤, Vec}
use Rattle.std.specs.declared.alloc.Global.{Global}
use Rattle.ir_syntax.specs.declared.block.Block.{Block}
use Rattle.ir_text.specs.declared.fault.TextFault.{TextFault}
use Rattle.ir_text.specs.declared.fault.TextFailure.{TextFailure}
use Rattle.ir_text.specs.declared.fault.TextFailure.TheVariants.{Fault, Memory}
use Rattle.ir_text.specs.Text.{HasText, text}

-- the bytes begin the text of some blocks
pub record IsBegun (front : List ℕ) : Type 0 where
  pub blocks : List Block
  pub have : All HasText blocks
  pub tail : List ℕ
  pub whole : front ++ tail ≡ text blocks

-- So many bytes, counted from the start, begin a text, and with the next byte they don't; where there is no next byte,
-- they are no text themselves.
pub record IsPlace (bytes : List ℕ) (n : ℕ) : Type 0 where
  pub within : n ≤ length bytes
  pub begun : IsBegun (take n bytes)
  pub next : n < length bytes → IsBegun (take (n + 1) bytes) → ⊥
  pub end : n ≡ length bytes → (blocks : List Block) → All HasText blocks → bytes ≢ text blocks

-- the line behind these bytes, from a line on
abbrev pub line_from : ℕ → List ℕ → ℕ
line_from line [] = line
line_from line (b ∷ bs) = if b == 10 then line_from (line + 1) bs else line_from line bs

-- the column behind these bytes, from a column on
abbrev pub column_from : ℕ → List ℕ → ℕ
column_from column [] = column
column_from column (b ∷ bs) = if b == 10 then column_from 1 bs else column_from (column + 1) bs

-- the line and the column behind these bytes, both counted from 1
abbrev pub IsBehind : List ℕ → TextFault → Type 0
IsBehind front fault = (fault.line ≡ line_from 1 front) × (fault.column ≡ column_from 1 front)

-- a fault stands at the first place, unless memory ran out
abbrev pub FaultAt : List ℕ → TextFailure → Type 0
FaultAt bytes (Fault f) = (n : ℕ) × IsPlace bytes n × IsBehind (take n bytes) f
FaultAt bytes (Memory e) = ⊤

-- the blocks were read, unless memory ran out
abbrev pub AreRead : List Block → Result (Vec Block Global) TextFailure → Type 0
AreRead blocks (Ok v) = v.items ≡ blocks
AreRead blocks (Err (Fault f)) = ⊥
AreRead blocks (Err (Memory e)) = ⊤

-- the text was refused behind these bytes, unless memory ran out
abbrev pub IsRefused : List ℕ → Result (Vec Block Global) TextFailure → Type 0
IsRefused front (Ok v) = ⊥
IsRefused front (Err (Fault f)) = IsBehind front f
IsRefused front (Err (Memory e)) = ⊤
