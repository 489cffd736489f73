-- Following a journal: which entries a walker takes, why it takes no further one, and what stands after so many.
use Rattle.std.specs.Prelude.{◌≡◌, ℕ, ◌+◌, ◌<◌, ◌≤◌, ◌^◌, true, false, List, [], ◌∷◌, length, take, slice_get, Some, None, is_some}
use Rattle.journal_pack.specs.declared.entry.Entry.{Entry}
use Rattle.machine_model.specs.CaseData.{CaseData}
use Rattle.machine_model.specs.Gated.{Both, IsAllowed, Leads, advance, begin}
use Rattle.machine_model.specs.Play.{play}
use Rattle.machine_model.specs.Step.{step}
use Rattle.replay_view.specs.declared.fault.EntryFault.{EntryFault}
use Rattle.replay_view.specs.declared.fault.EntryFault.TheVariants.{NoStep, NotGated, Crowded}
use Rattle.replay_machine.specs.Machines.{is_crowded}

-- the entry is a step that may come, and grows within the rule
pub record MayCome (c : CaseData) (b : Both) (e : Entry) (n : Both) : Type 0 where
  pub step : advance c b e ≡ Some n
  pub allowed : IsAllowed c.image b.gate e

-- the walker takes the entry: it may come, and there is room for a store
pub record IsTaken (c : CaseData) (b : Both) (e : Entry) (n : Both) : Type 0 where
  pub comes : MayCome c b e n
  pub room : is_crowded c.image b.machine e ≡ false

-- from b the walker takes these entries, and comes to n
unfoldable pub Follows : CaseData → Both → List Entry → Both → Type 0
Follows c b [] n = b ≡ n
Follows c b (e ∷ es) n = (x : Both) × IsTaken c b e x × Follows c x es n

-- Why the walker doesn't take an entry at place p, counted from 0: it is no step; it is one, and may not come or grows against
-- the rule; or it may come and finds no room.
abbrev pub Fits : CaseData → Both → Entry → ℕ → EntryFault → Type 0
Fits c b e p (NoStep at) = (at ≡ p) × (step c b.machine e ≡ None)
Fits c b e p (NotGated at) = (at ≡ p) × (is_some (step c b.machine e) ≡ true) × ((n : Both) → MayCome c b e n → ⊥)
Fits c b e p (Crowded at) = (at ≡ p) × ((n : Both) × MayCome c b e n) × (is_crowded c.image b.machine e ≡ true)

-- ---- the walker

-- the case, the machine with its gate, and how many entries were taken
pub record WalkData : Type 0 where
  pub case : CaseData
  pub both : Both
  pub taken : ℕ

-- the walker has taken these entries, one after another from the start
pub record HasTaken (w : WalkData) (entries : List Entry) : Type 0 where
  pub follows : Follows w.case (begin w.case) entries w.both
  pub count : length entries ≡ w.taken

-- some entries were taken, in a case whose limit is low enough
pub record IsWalked (w : WalkData) : Type 0 where
  pub entries : List Entry
  pub taken : HasTaken w entries
  pub limit : w.case.limit ≤ 2 ^ 27

-- one entry more was taken
pub record TakesOne (w : WalkData) (e : Entry) (n : WalkData) : Type 0 where
  pub case : n.case ≡ w.case
  pub taken : IsTaken w.case w.both e n.both
  pub count : n.taken ≡ w.taken + 1

-- ---- a journal

-- after the entries before place p, at which this entry stands, the fault fits it
pub record FitsIn (c : CaseData) (journal : List Entry) (fault : EntryFault) (p : ℕ) : Type 0 where
  pub both : Both
  pub entry : Entry
  pub before : Follows c (begin c) (take p journal) both
  pub here : slice_get journal p ≡ Some entry
  pub fits : Fits c both entry p fault

-- ---- what the definitions come to

-- what is followed is played, and gated all the way
abbrev pub FollowedIsPlayed : Type 0
FollowedIsPlayed = (c : CaseData) (entries : List Entry) (b : Both) → Follows c (begin c) entries b → Leads c (begin c) entries b × (play c entries ≡ Some b.machine)

-- a journal that is followed for n entries has no fault below n
abbrev pub OneAnswer : Type 0
OneAnswer = (c : CaseData) (journal : List Entry) (n p : ℕ) (b : Both) (fault : EntryFault) → Follows c (begin c) (take n journal) b → p < n → FitsIn c journal fault p → ⊥
