-- What writing a line does, whether or not all of it was written.
use Rattle.std.proofs.Common.{◌≡◌, ℕ, List, Option}
use Rattle.std.specs.Prelude.{Result, Ok, Err, OnOk, is_ok}
use Rattle.std.specs.Io.KnownBytes.{Appends}
use Rattle.mx_outside.specs.Bytes.{AppendsPrefix}
use Rattle.mx_outside.specs.Causes.{HasCause}
use Rattle.endings.specs.Line.{LastLine}

pub told_by : {T E : Type 0} (r : Result T E) (before now : ℕ) (old new : Option (List ℕ)) (bytes line : List ℕ) → OnOk r (Appends old new bytes) → AppendsPrefix old new bytes → HasCause before now r → bytes ≡ line → LastLine (is_ok r) before now old new line
told_by (Ok x) before now old new bytes line whole prefix cause e = (cause.kept, rw (← e) whole)
told_by (Err x) before now old new bytes line whole prefix cause e = (cause.failed, rw (← e) prefix)
