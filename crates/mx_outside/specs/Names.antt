-- Files as a finite map of names to bytes, and what reading and replacing a file by its name do, where that map is known.
use Rattle.std.specs.Prelude.{◌≡◌, ◌≢◌, ℕ, ◌<◌, ◌≤◌, List, map, length, Option, None, Some, Result, Vec, String, string_bytes, MatchResult, ⊤}
use Rattle.std.specs.Ordering.{nat_cmp}
use Rattle.std.specs.Cmp.Lexicographic.{slice_cmp}
use Rattle.std.specs.BTreeMap.{BTreeMap}
use Rattle.std.specs.FinMap.{FinMap, get, insert, from_entries, code}
use Rattle.std.specs.Coded.{Coded, coded_list, coded_ℕ}
use Rattle.mx_outside.specs.declared.fault.FilesFault.{FilesFault}
use Rattle.mx_outside.specs.declared.fault.FilesFault.TheVariants.{Failed, Absent, TooLong, Memory}

-- the bytes of each file, by the bytes of its name
abbrev pub NameMap : Type 0
NameMap = FinMap (slice_cmp nat_cmp) (List ℕ)

-- how proofs tell such maps apart
abbrev pub names_code : Coded NameMap
names_code = code (coded_list coded_ℕ) (coded_list coded_ℕ)

-- the map of names that a `BTreeMap` holds
abbrev pub names_of : {Y Z : Type 0} → BTreeMap (String Y) (Vec ℕ Z) → NameMap
names_of m = from_entries (map (λ e. (string_bytes e.0, e.1.items)) m.entries)

-- the answer `Ok`: the file is there with these bytes, at most max
abbrev pub GivesFile : Option (List ℕ) → ℕ → List ℕ → Type 0
GivesFile None max bytes = ⊥
GivesFile (Some held) max bytes = (bytes ≡ held) × (length held ≤ max)

-- a refusal: `Absent` only where no file is there, `TooLong` only where one with more than max bytes is
abbrev pub RefusesFile : Option (List ℕ) → ℕ → FilesFault → Type 0
RefusesFile file max Failed = ⊤
RefusesFile None max Absent = ⊤
RefusesFile (Some held) max Absent = ⊥
RefusesFile None max TooLong = ⊥
RefusesFile (Some held) max TooLong = max < length held
RefusesFile file max (Memory e) = ⊤

-- reading a file that has these bytes, or is not there at `None`, gives them or refuses
abbrev pub ReadsHeld : {Z : Type 0} → Option (List ℕ) → ℕ → Result (Vec ℕ Z) FilesFault → Type 0
ReadsHeld file max r = MatchResult r (λ v. GivesFile file max v.items) (RefusesFile file max)

-- reading by name gives the file's bytes, or refuses
abbrev pub ReadsNamed : {Z : Type 0} → Option NameMap → List ℕ → ℕ → Result (Vec ℕ Z) FilesFault → Type 0
ReadsNamed None name max r = ⊤
ReadsNamed (Some m) name max r = ReadsHeld (get m name) max r

-- each name but this one has what it had
abbrev pub KeepsOthers : NameMap → NameMap → List ℕ → Type 0
KeepsOthers old new name = (other : List ℕ) → other ≢ name → get new other ≡ get old other

-- writing by name replaces the whole file, and a refusal leaves each other name as it was
abbrev pub ReplacesNamed : {E : Type 0} → Option NameMap → Option NameMap → List ℕ → List ℕ → Result (Unit {0}) E → Type 0
ReplacesNamed None new name bytes r = ⊤
ReplacesNamed (Some m) None name bytes r = ⊥
ReplacesNamed (Some m) (Some n) name bytes r = MatchResult r (λ _. n ≡ insert m name bytes) (λ _. KeepsOthers m n name)
