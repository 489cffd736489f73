-- The bytes of a journal, and what reading them answers.
use Rattle.std.specs.Prelude.{◌≡◌, ◌≢◌, ℕ, List, [], ◌++◌, length, All, Result, Ok, Err, ⊤, ◌⊎◌, Vec, codes}
use Rattle.std.specs.List.{flat_map}
use Rattle.std.specs.declared.alloc.Global.{Global}
use Rattle.journal_pack.specs.declared.entry.Entry.{Entry}
use Rattle.journal_pack.specs.declared.fault.PackFailure.{PackFailure}
use Rattle.journal_pack.specs.declared.fault.PackFailure.TheVariants.{Fault, Memory}
use Rattle.journal_pack.specs.Entry.{HasSpelling, spelling}

-- a journal's file begins with these four bytes: 58 4A 30 31
abbrev pub head : List ℕ
head = codes "XJ01"

-- the bytes of the entries, one after another
abbrev pub spelled : List Entry → List ℕ
spelled entries = flat_map spelling entries

-- the bytes of a journal
abbrev pub packed : List Entry → List ℕ
packed entries = head ++ spelled entries

-- the bytes are those of the entries, each of which has a spelling
pub record IsSpelled (bytes : List ℕ) (entries : List Entry) : Type 0 where
  pub fit : All HasSpelling entries
  pub parts : bytes ≡ spelled entries

-- the bytes are a journal of the entries, each of which has a spelling
pub record IsPacked (bytes : List ℕ) (entries : List Entry) : Type 0 where
  pub fit : All HasSpelling entries
  pub whole : bytes ≡ packed entries

-- The bytes begin as a journal of some entries, and what stands behind them, though it isn't empty, begins with no
-- entry's spelling. At this offset it stands.
pub record IsFirstBadEntry (bytes : List ℕ) (offset : ℕ) : Type 0 where
  pub before : List Entry
  pub rest : List ℕ
  pub fit : All HasSpelling before
  pub parts : bytes ≡ packed before ++ rest
  pub place : offset ≡ length (packed before)
  pub more : rest ≢ []
  pub bad : (e : Entry) (tail : List ℕ) → HasSpelling e → rest ≢ spelling e ++ tail

-- the bytes don't begin as a journal does
abbrev pub HasNoHead : List ℕ → Type 0
HasNoHead bytes = (tail : List ℕ) → bytes ≢ head ++ tail

-- where bytes stop being a journal: at 0 where the head is wrong, else at the first entry that is none
abbrev pub IsFaultAt : List ℕ → ℕ → Type 0
IsFaultAt bytes offset = (HasNoHead bytes × (offset ≡ 0)) ⊎ IsFirstBadEntry bytes offset

-- the entries were read, unless memory ran out
abbrev pub AreRead : List Entry → Result (Vec Entry Global) PackFailure → Type 0
AreRead entries (Ok v) = v.items ≡ entries
AreRead entries (Err (Fault f)) = ⊥
AreRead entries (Err (Memory e)) = ⊤

-- the bytes were refused at this offset, unless memory ran out
abbrev pub IsRefused : ℕ → Result (Vec Entry Global) PackFailure → Type 0
IsRefused offset (Ok v) = ⊥
IsRefused offset (Err (Fault f)) = f.offset ≡ offset
IsRefused offset (Err (Memory e)) = ⊤

-- a refusal is where the bytes stop being a journal
abbrev pub RefusesRightly : List ℕ → Result (Vec Entry Global) PackFailure → Type 0
RefusesRightly bytes (Ok v) = ⊤
RefusesRightly bytes (Err (Fault f)) = IsFaultAt bytes f.offset
RefusesRightly bytes (Err (Memory e)) = ⊤
