-- A turn under way, from the points at which its thread is.
use Rattle.std.specs.Prelude.{◌≡◌, ℕ, ◌-◌, true, false, List, Some}
use Rattle.journal_pack.specs.declared.entry.Entry.{Entry}
use Rattle.machine_model.specs.CaseData.{CaseData}
use Rattle.machine_model.specs.Gated.{Both, Stand}
use Rattle.machine_model.specs.Serial.{AreReaches, Point, Reaches, Rule, Turn, act, rule_at, stop_from, turn_from}

abbrev pub point_at : ℕ → Stand → Point
point_at k d = record { k = k; stand = d }

-- the machine and the gate, all entries so far, and the ages of the thread's waiting writes
abbrev pub turn_of : Both → List Entry → List ℕ → Turn
turn_of b journal ages = record { both = b; journal = journal; ages = ages; waiting = false }

-- a turn that came to a call that waits
abbrev pub waiting_of : Both → List Entry → List ℕ → Turn
waiting_of b journal ages = record { both = b; journal = journal; ages = ages; waiting = true }

-- from one point, the first point at which a rule of a turn holds is another one
pub record ComesTo (c : CaseData) (b : Both) (p q : Point) (r : Rule) : Type 0 where
  pub first : stop_from c b (4096 - p.k) p ≡ q
  pub rule : rule_at c b q ≡ r

-- For every right reach, what is left of the turn of thread t from p, with this budget, is what is left of it from q.
abbrev pub GoesOnAs : CaseData → ℕ → ℕ → Point → Turn → ℕ → Point → Turn → Type 0
GoesOnAs c t budget p s left q x = (reach : Reaches) → AreReaches c.image reach → turn_from c reach t budget p s ≡ turn_from c reach t left q x

-- for every right reach the turn of thread t from p, with this budget, comes to x before its waiting writes age
abbrev pub ComesOut : CaseData → ℕ → ℕ → Point → Turn → Turn → Type 0
ComesOut c t budget p s x = (reach : Reaches) → AreReaches c.image reach → turn_from c reach t budget p s ≡ Some x

-- what a thread does at a point where a rule holds leaves this
abbrev pub Acts : CaseData → ℕ → Point → Turn → Rule → Turn → Type 0
Acts c t q s r x = (reach : Reaches) → AreReaches c.image reach → act c reach t q s r ≡ Some x
