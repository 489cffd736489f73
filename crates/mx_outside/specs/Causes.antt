-- When an answer may be a fault: only where the object's own count of faults rose.
use Rattle.std.specs.Prelude.{◌≡◌, ℕ, ◌+◌, ◌-◌, ◌^◌, ◌≤◌, min, Result, OnOk, OnErr, MatchResult}
use Rattle.mx_outside.specs.declared.fault.FilesFault.{FilesFault}
use Rattle.mx_outside.specs.declared.fault.FilesFault.TheVariants.{Failed, Absent, TooLong, Memory}

-- a count rose by one at least, or stands at the end of a `u64`
abbrev pub Rose : ℕ → ℕ → Type 0
Rose before now = min (before + 1) (2 ^ 64 - 1) ≤ now

-- a count of faults never falls, rose where the answer is `Err`, and is as before where it is `Ok`
pub record HasCause {T E : Type 0} (before now : ℕ) (result : Result T E) : Type 0 where
  pub later : before ≤ now
  pub failed : OnErr result (Rose before now)
  pub kept : OnOk result (now ≡ before)

-- a count of faults rose at `Failed`, and is as before at each other refusal
abbrev pub RefusalCause : ℕ → ℕ → FilesFault → Type 0
RefusalCause before now Failed = Rose before now
RefusalCause before now Absent = now ≡ before
RefusalCause before now TooLong = now ≡ before
RefusalCause before now (Memory e) = now ≡ before

-- a count of faults never falls, rose where the answer is `Failed`, and is as before at each other answer
pub record HasReadCause {T : Type 0} (before now : ℕ) (result : Result T FilesFault) : Type 0 where
  pub later : before ≤ now
  pub cause : MatchResult result (λ _. now ≡ before) (RefusalCause before now)
