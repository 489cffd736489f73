-- What reading to the end and writing the whole do to the bytes that a source has left and a sink holds, where those are known.
use Rattle.std.specs.Prelude.{◌≡◌, ℕ, ◌<◌, ◌≤◌, List, length, take, Option, Result, Vec, IfSome, MatchResult, ⊤}
use Rattle.std.specs.Io.KnownBytes.{Appends, Consumes}
use Rattle.mx_outside.specs.declared.fault.FilesFault.{FilesFault}
use Rattle.mx_outside.specs.declared.fault.FilesFault.TheVariants.{Failed, Absent, TooLong, Memory}

-- some first known bytes were taken
abbrev pub ConsumesSome : Option (List ℕ) → Option (List ℕ) → Type 0
ConsumesSome old new = (bytes : List ℕ) × Consumes old new bytes

-- known bytes grew by a prefix of these
abbrev pub AppendsPrefix : Option (List ℕ) → Option (List ℕ) → List ℕ → Type 0
AppendsPrefix old new bytes = (n : ℕ) × (n ≤ length bytes) × Appends old new (take n bytes)

-- a refusal to read to the end: `TooLong` only where more than max bytes were left, and never `Absent`
abbrev pub RefusesAll : Option (List ℕ) → ℕ → FilesFault → Type 0
RefusesAll left max Failed = ⊤
RefusesAll left max Absent = ⊥
RefusesAll left max TooLong = IfSome left (λ xs. max < length xs)
RefusesAll left max (Memory e) = ⊤

-- reading to the end gives every byte that was left, at most max, or refuses
abbrev pub GivesAll : {Z : Type 0} → Option (List ℕ) → ℕ → Result (Vec ℕ Z) FilesFault → Type 0
GivesAll left max r = MatchResult r (λ v. IfSome left (λ xs. (v.items ≡ xs) × (length xs ≤ max))) (RefusesAll left max)
