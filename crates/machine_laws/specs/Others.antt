-- What entries leave of the slots that they don't name.
use Rattle.std.specs.Prelude.{◌≡◌, ℕ, true, ◌⊎◌, All, List, [], ◌++◌, Option, Some, None}
use Rattle.journal_pack.specs.declared.entry.Entry.{Entry}
use Rattle.journal_pack.specs.Entry.{thread_of}
use Rattle.lib_table.specs.declared.slot.Birth.{Birth}
use Rattle.lib_table.specs.Library.{birth, slot_at}
use Rattle.machine_model.specs.CaseData.{CaseData}
use Rattle.machine_model.specs.Gated.{Both, advance, no_spot, spot_at}
use Rattle.machine_model.specs.Play.{walk}
use Rattle.machine_model.specs.Serial.{Turn}
use Rattle.machine_model.specs.State.{Core, core_at, first_core, list_at, thread_in}
use Rattle.machine_model.specs.Step.{born_core, is_in_use}

-- A slot is as it was: its thread, or that none lives in it, what was told at its birth, what it works on, its waiting writes
-- and its spot. Where no thread lives in it, the number of its next one may have changed.
pub record IsSame (b n : Both) (s : ℕ) : Type 0 where
  pub thread : thread_in n.machine s ≡ thread_in b.machine s
  pub birth : birth n.machine.library s ≡ birth b.machine.library s
  pub core : core_at n.machine s ≡ core_at b.machine s
  pub writes : list_at n.machine s ≡ list_at b.machine s
  pub spot : spot_at n.gate s ≡ spot_at b.gate s
  pub slot : is_in_use b.machine.library s ≡ true → slot_at n.machine.library s ≡ slot_at b.machine.library s

-- A thread was born in a slot in which none lived: it works on what it was born with, no write waits, and it is between blocks.
pub record IsBorn (b n : Both) (s : ℕ) : Type 0 where
  pub before : thread_in b.machine s ≡ None
  pub born : Birth
  pub birth : birth n.machine.library s ≡ Some born
  pub thread : thread_in n.machine s ≡ Some born.thread
  pub core : core_at n.machine s ≡ born_core s (Some born)
  pub writes : list_at n.machine s ≡ []
  pub spot : spot_at n.gate s ≡ no_spot

-- what a slot's thread works on before its first entry: thread 0 was born for no function
abbrev pub starting_core : CaseData → ℕ → Option Birth → Core
starting_core c s None = first_core c
starting_core c s (Some born) = born_core s (Some born)

-- the thread of a slot is as it was born
pub record IsNew (c : CaseData) (b : Both) (s : ℕ) : Type 0 where
  pub core : core_at b.machine s ≡ starting_core c s (birth b.machine.library s)
  pub writes : list_at b.machine s ≡ []
  pub spot : spot_at b.gate s ≡ no_spot

abbrev pub Leaves : Both → Both → ℕ → Type 0
Leaves b n s = IsSame b n s ⊎ IsBorn b n s

-- all entries name thread t
abbrev pub AreOf : ℕ → List Entry → Type 0
AreOf t entries = All (λ e. thread_of e ≡ Some t) entries

-- a turn went on by entries of thread t alone
pub record GoesOn (c : CaseData) (t : ℕ) (before after : Turn) : Type 0 where
  pub entries : List Entry
  pub journal : after.journal ≡ before.journal ++ entries
  pub own : AreOf t entries
  pub leads : walk (advance c) before.both entries ≡ Some after.both
