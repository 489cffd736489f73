-- The line of a miss.
use Rattle.std.specs.Prelude.{ℕ, ◌^◌, ◌<◌, List, [], ◌∷◌, ◌++◌, false, codes}
use Rattle.std.specs.Fmt.{decimal, digits}
use Rattle.miss_report.specs.declared.miss.Miss.{Miss}
use Rattle.miss_report.specs.declared.miss.TheConstants.{THREADS}

-- a report can name the miss: its thread's number is below the bound
abbrev pub IsReportable : Miss → Type 0
IsReportable m = m.thread < THREADS

-- the miss has a line: a report can name it, and its addresses have 64 bits
pub record HasLine (m : Miss) : Type 0 where
  pub thread : IsReportable m
  pub source : m.source < 2 ^ 64
  pub target : m.target < 2 ^ 64

-- a line without its newline: the thread in decimal, the addresses in lower-case hexadecimal
abbrev pub text : Miss → List ℕ
text m = codes "miss thread " ++ (decimal m.thread ++ (codes " from 0x" ++ (digits 16 false m.source ++ (codes " to 0x" ++ digits 16 false m.target))))

-- a line, which a newline ends
abbrev pub line : Miss → List ℕ
line m = text m ++ 10 ∷ []
