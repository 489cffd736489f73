-- The text of a report of misses, and what reading it answers.
use Rattle.std.specs.Prelude.{◌≡◌, ◌≢◌, ℕ, ◌+◌, List, [], ◌++◌, length, All, Result, Ok, Err, ⊤, Vec}
use Rattle.std.specs.List.{flat_map}
use Rattle.std.specs.declared.alloc.Global.{Global}
use Rattle.miss_report.specs.declared.miss.Miss.{Miss}
use Rattle.miss_report.specs.declared.reading.ReportFailure.{ReportFailure}
use Rattle.miss_report.specs.declared.reading.ReportFailure.TheVariants.{Fault, Memory}
use Rattle.miss_report.specs.Miss.{HasLine, line}

-- the text of a report: one line for each miss, in order
abbrev pub report : List Miss → List ℕ
report misses = flat_map line misses

-- The text begins with the lines of some misses, and what stands behind them begins with no line of a miss, though the
-- text goes on: a wrong line, or one without its newline. This is its number, counted from 1.
pub record IsFirstBadLine (bytes : List ℕ) (number : ℕ) : Type 0 where
  pub before : List Miss
  pub rest : List ℕ
  pub lines : All HasLine before
  pub parts : bytes ≡ report before ++ rest
  pub place : number ≡ length before + 1
  pub more : rest ≢ []
  pub bad : (m : Miss) (tail : List ℕ) → HasLine m → rest ≢ line m ++ tail

-- the misses were read, unless memory ran out
abbrev pub AreRead : List Miss → Result (Vec Miss Global) ReportFailure → Type 0
AreRead misses (Ok v) = v.items ≡ misses
AreRead misses (Err (Fault f)) = ⊥
AreRead misses (Err (Memory e)) = ⊤

-- the line of this number was refused, unless memory ran out
abbrev pub IsRefused : ℕ → Result (Vec Miss Global) ReportFailure → Type 0
IsRefused number (Ok v) = ⊥
IsRefused number (Err (Fault f)) = f.line ≡ number
IsRefused number (Err (Memory e)) = ⊤

-- the refused line is the first that is no line of a miss
abbrev pub RefusesFirst : List ℕ → Result (Vec Miss Global) ReportFailure → Type 0
RefusesFirst bytes (Ok v) = ⊤
RefusesFirst bytes (Err (Fault f)) = IsFirstBadLine bytes f.line
RefusesFirst bytes (Err (Memory e)) = ⊤
