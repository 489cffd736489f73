-- What a run leaves of a sink.
use Rattle.std.specs.Prelude.{◌≡◌, ℕ, ◌≤◌, Bool, true, false, List, length, take, Option}
use Rattle.std.specs.Io.KnownBytes.{Appends}
use Rattle.mx_outside.specs.Bytes.{AppendsPrefix}
use Rattle.mx_outside.specs.Causes.{Rose}

-- a sink's count of faults and the bytes that it tells, before a call and after it
pub record Written : Type 0 where
  pub before : ℕ
  pub now : ℕ
  pub old : Option (List ℕ)
  pub new : Option (List ℕ)

-- a sink, by its count and its bytes, before a call and after it
abbrev pub written : {S : Type 0} → (S → ℕ) → (S → Option (List ℕ)) → S → S → Written
written faults held old new = record { before = faults old; now = faults new; old = held old; new = held new }

-- the bytes were appended, and no fault counted
abbrev pub Gains : Written → List ℕ → Type 0
Gains sink bytes = (sink.now ≡ sink.before) × Appends sink.old sink.new bytes

-- a first part of the bytes was appended, and the count rose
abbrev pub GainsPart : Written → List ℕ → Type 0
GainsPart sink bytes = Rose sink.before sink.now × AppendsPrefix sink.old sink.new bytes

-- a first part of the bytes was appended, and no fault counted
abbrev pub HoldsPart : Written → List ℕ → Type 0
HoldsPart sink bytes = (sink.now ≡ sink.before) × AppendsPrefix sink.old sink.new bytes

-- by whether the last write failed
abbrev pub GainsBy : Bool → Written → List ℕ → Type 0
GainsBy false sink bytes = Gains sink bytes
GainsBy true sink bytes = GainsPart sink bytes

-- the first n bytes were appended, and a first part of those after them, and the count rose
abbrev pub GainsFrom : ℕ → Written → List ℕ → Type 0
GainsFrom n sink bytes = Rose sink.before sink.now × ((k : ℕ) × (n ≤ k) × (k ≤ length bytes) × Appends sink.old sink.new (take k bytes))

-- by whether the last write failed, before which the first n bytes were there
abbrev pub GainsSince : Bool → ℕ → Written → List ℕ → Type 0
GainsSince false n sink bytes = Gains sink bytes
GainsSince true n sink bytes = GainsFrom n sink bytes
