-- What a turn may add to a journal.
use Rattle.std.specs.Prelude.{◌≡◌, ℕ, ◌≤◌, List, ◌++◌}
use Rattle.std.specs.List.{sum_by}
use Rattle.journal_pack.specs.declared.entry.Entry.{Entry}
use Rattle.journal_pack.specs.declared.entry.Entry.TheVariants.{Ev, Tick, Flush, Wait, Miss, Grow, Over, Full, Dead}
use Rattle.machine_model.specs.Play.{own}
use Rattle.machine_laws.specs.Others.{AreOf}

-- an event, a miss, and an entry that tells private steps alone cost one of a turn's budget
abbrev pub cost_of : Entry → ℕ
cost_of (Ev t k) = 1
cost_of (Tick t k) = 1
cost_of (Flush t) = 0
cost_of (Wait t k) = 0
cost_of (Miss t k source target) = 1
cost_of (Grow t a) = 0
cost_of (Over t k) = 0
cost_of (Full t) = 0
cost_of Dead = 0

-- an entry that tells private steps before a call that waits
abbrev pub wait_of : Entry → ℕ
wait_of (Ev t k) = 0
wait_of (Tick t k) = 0
wait_of (Flush t) = 0
wait_of (Wait t k) = 1
wait_of (Miss t k source target) = 0
wait_of (Grow t a) = 0
wait_of (Over t k) = 0
wait_of (Full t) = 0
wait_of Dead = 0

-- entries of thread t that cost at most so much, so many of them before a call that waits
pub record AreSpent (t most few : ℕ) (entries : List Entry) : Type 0 where
  pub own : AreOf t entries
  pub costs : sum_by cost_of entries ≤ most
  pub waits : sum_by wait_of entries ≤ few

-- such entries were added
pub record Spends (t most few : ℕ) (before after : List Entry) : Type 0 where
  pub entries : List Entry
  pub journal : after ≡ before ++ entries
  pub spent : AreSpent t most few entries

-- what entries cost together
abbrev pub costs : List Entry → ℕ
costs entries = sum_by cost_of entries

-- those of slot s
abbrev pub slot_costs : ℕ → List Entry → ℕ
slot_costs s journal = costs (own s journal)
