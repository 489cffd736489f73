-- Where a journal leads, and which entries may follow it.
use Rattle.std.specs.Prelude.{◌≡◌, List, [], ◌∷◌, Option, Some, None}
use Rattle.journal_pack.specs.declared.entry.Entry.{Entry}
use Rattle.machine_model.specs.CaseData.{CaseData}
use Rattle.machine_model.specs.Gated.{Both, IsAllowed, advance, begin}

abbrev pub or_stay : Both → Option Both → Both
or_stay b None = b
or_stay b (Some n) = n

-- an entry that is no step or may not come changes nothing
unfoldable pub walk_on : CaseData → Both → List Entry → Both
walk_on c b [] = b
walk_on c b (e ∷ es) = walk_on c (or_stay b (advance c b e)) es

-- the machine and the gate after a journal from the start
unfoldable pub both_of : CaseData → List Entry → Both
both_of c journal = walk_on c (begin c) journal

-- After a journal an entry is a step that runs only what is grown, and keeps the rule of growth.
pub record MayCome (c : CaseData) (journal : List Entry) (e : Entry) : Type 0 where
  pub next : Both
  pub step : advance c (both_of c journal) e ≡ Some next
  pub allowed : IsAllowed c.image (both_of c journal).gate e
