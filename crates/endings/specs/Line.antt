-- The bytes of a line, and what writing it does to a sink.
use Rattle.std.specs.Prelude.{◌≡◌, ℕ, Bool, true, false, List, Option, string_bytes}
use Rattle.std.specs.Io.KnownBytes.{Appends}
use Rattle.mx_outside.specs.Bytes.{AppendsPrefix}
use Rattle.mx_outside.specs.Causes.{Rose}
use Rattle.endings.specs.declared.line.Line.{Line}
use Rattle.endings.specs.declared.line.Line.TheVariants.{Fixed, Made}

abbrev pub bytes_of : Line → List ℕ
bytes_of (Fixed text) = text.now
bytes_of (Made text) = string_bytes text

-- the line was appended and no fault counted, or a part of it was and the count of faults rose
abbrev pub LastLine : Bool → ℕ → ℕ → Option (List ℕ) → Option (List ℕ) → List ℕ → Type 0
LastLine true before now old new line = (now ≡ before) × Appends old new line
LastLine false before now old new line = Rose before now × AppendsPrefix old new line
