-- What running a thread's blocks comes to, before its next entry.
use Rattle.std.specs.Prelude.{◌≡◌, ℕ, ◌+◌, ◌-◌, ◌<◌, ◌≤◌, ◌⊎◌, nat_le, if◌then◌else◌, true, false, List, ◌∷◌, drop, Option, Some, None, Result, Ok, Err}
use Rattle.std.specs.declared.alloc.AllocError.{AllocError}
use Rattle.elf_image.specs.Layout.{ImageData}
use Rattle.guest_state.specs.declared.virtual_state.Virtual.{Virtual}
use Rattle.ir_syntax.specs.declared.block.Part.{Part}
use Rattle.ir_syntax.specs.declared.request.Request.{Request}
use Rattle.lib_table.specs.declared.ask.Asked.{Asked}
use Rattle.basic_blocks.specs.Places.{is_code_place}
use Rattle.basic_blocks.specs.Reach.{is_among}
use Rattle.machine_model.specs.CaseData.{CaseData}
use Rattle.machine_model.specs.Gated.{Both, Stand, gated_steps}
use Rattle.machine_model.specs.Serial.{is_missing}
use Rattle.guest_parts.specs.Calls.{asked_in}
use Rattle.guest_parts.specs.Requests.{IsWanted}
use Rattle.guest_parts.specs.Running.{leads_to}
use Rattle.guest_steps.specs.declared.begin.Begun.{Begun}
use Rattle.guest_steps.specs.declared.begin.Begun.TheVariants as begun
use Rattle.guest_steps.specs.declared.own.Own.{Own}
use Rattle.guest_steps.specs.declared.own.Position.TheVariants.{Between, Inside}
use Rattle.guest_steps.specs.declared.stretch.Came.{Came}
use Rattle.guest_steps.specs.declared.stretch.Came.TheVariants as came
use Rattle.guest_steps.specs.declared.stretch.Went.{Went}
use Rattle.guest_steps.specs.declared.stretch.Went.TheVariants as went
use Rattle.guest_steps.specs.Kept.{KeptData}
use Rattle.guest_steps.specs.Own.{Along}

-- ---- a place between blocks

-- a thread that is there asks this of the library
abbrev pub IsAsked : ImageData → ℕ → Asked → Type 0
IsAsked image a what = asked_in image a ≡ Some what

-- a block may stand there, and none is grown
pub record IsNew (c : CaseData) (b : Both) (a : ℕ) : Type 0 where
  pub place : is_code_place c.image a ≡ true
  pub new : is_among b.gate.grown a ≡ false

-- the guest is there
abbrev pub BegunIs : Result Begun AllocError → CaseData → Both → Own → Own → ℕ → Type 0
BegunIs (Ok begun.Inside) c b old new a = (x : KeptData) × (new.at ≡ Inside x 0)
BegunIs (Ok begun.Missing) c b old new a = (new ≡ old) × IsNew c b a
BegunIs (Ok (begun.Library what)) c b old new a = (new ≡ old) × IsAsked c.image a what
BegunIs (Err e) c b old new a = new ≡ old

-- ---- private steps

-- Private steps led a guest on from d to e, and it stands with its thread there.
pub record Moved (c : CaseData) (b : Both) (t : ℕ) (old new : Own) (table : List (Option KeptData)) (d e : Stand) : Type 0 where
  pub gated : gated_steps c.image b.gate.grown (new.k - old.k) d ≡ Some e
  pub along : Along c b t new table e
  pub later : old.k ≤ new.k
  pub below : (new.k ≡ old.k) ⊎ (b.machine.steps + new.k ≤ c.limit)
  pub frames : new.frames ≡ old.frames
  pub ages : new.ages ≡ old.ages

-- The part under way was run and asks for this; it is what the thread wants.
pub record AsksAt (c : CaseData) (b : Both) (own : Own) (r : Request) (e : Stand) : Type 0 where
  pub kept : KeptData
  pub part : ℕ
  pub at : own.at ≡ Inside kept part
  pub piece : Part
  pub rest : List Part
  pub there : drop part kept.block.parts ≡ piece ∷ rest
  pub wanted : IsWanted r c.image b.gate.grown piece kept.block part own.last own.state e
  pub public : leads_to kept.block r ≡ None

-- one step more is below the limit, and may be made before the private steps are told
pub record HasRoom (c : CaseData) (b : Both) (own : Own) : Type 0 where
  pub below : b.machine.steps + own.k < c.limit
  pub few : own.k < 4096

-- what running the block under way comes to
abbrev pub WentIs : Went → CaseData → Both → ℕ → Own → Own → List (Option KeptData) → Stand → Type 0
WentIs went.Nowhere c b t old new table d = Moved c b t old new table d d
WentIs went.Left c b t old new table d = (e : Stand) × Moved c b t old new table d e
WentIs went.Most c b t old new table d = (e : Stand) × Moved c b t old new table d e × (is_missing c.image b.gate.grown e ≡ false)
WentIs (went.Asks r) c b t old new table d = (v : Virtual) × (e : Stand) × Moved c b t old (record new { state = v }) table d e × AsksAt c b new r e

-- ---- where it stops

-- why a guest's own steps stop at e
abbrev pub StopsAt : Came → CaseData → Both → Own → Stand → Type 0
StopsAt came.Limit c b own e = c.limit ≤ b.machine.steps + own.k
StopsAt came.Most c b own e = (b.machine.steps + own.k < c.limit) × (own.k ≡ 4096) × (is_missing c.image b.gate.grown e ≡ false)
StopsAt (came.Missing a) c b own e = (b.machine.steps + own.k < c.limit) × (own.at ≡ Between a) × IsNew c b a
StopsAt (came.Library a what) c b own e = HasRoom c b own × (own.at ≡ Between a) × IsAsked c.image a what
StopsAt (came.Asks r) c b own e = HasRoom c b own × AsksAt c b own r e

-- before a part that asks, the registers were others
abbrev pub CameIs : Came → CaseData → Both → ℕ → Own → Own → List (Option KeptData) → Stand → Type 0
CameIs came.Limit c b t old new table d = (e : Stand) × Moved c b t old new table d e × StopsAt came.Limit c b new e
CameIs came.Most c b t old new table d = (e : Stand) × Moved c b t old new table d e × StopsAt came.Most c b new e
CameIs (came.Missing a) c b t old new table d = (e : Stand) × Moved c b t old new table d e × StopsAt (came.Missing a) c b new e
CameIs (came.Library a what) c b t old new table d = (e : Stand) × Moved c b t old new table d e × StopsAt (came.Library a what) c b new e
CameIs (came.Asks r) c b t old new table d = (v : Virtual) × (e : Stand) × Moved c b t old (record new { state = v }) table d e × StopsAt (came.Asks r) c b new e

abbrev pub StretchIs : Result Came AllocError → CaseData → Both → ℕ → Own → Own → List (Option KeptData) → Stand → Type 0
StretchIs (Ok r) c b t old new table d = CameIs r c b t old new table d
StretchIs (Err x) c b t old new table d = (e : Stand) × Moved c b t old new table d e

-- one block's steps: the guest goes on, or stops
abbrev pub OneIs : Result (Option Came) AllocError → CaseData → Both → ℕ → Own → Own → List (Option KeptData) → Stand → Type 0
OneIs (Ok None) c b t old new table d = (e : Stand) × Moved c b t old new table d e
OneIs (Ok (Some r)) c b t old new table d = CameIs r c b t old new table d
OneIs (Err x) c b t old new table d = (e : Stand) × Moved c b t old new table d e

-- where a guest stops after its block was run, if it does, where so many steps are left below the limit
abbrev pub stop_of : Went → ℕ → ℕ → Option Came
stop_of went.Nowhere k left = None
stop_of went.Left k left = None
stop_of went.Most k left = Some (if nat_le left k then came.Limit else came.Most)
stop_of (went.Asks r) k left = Some (came.Asks r)

-- where the guest is in no block it was between blocks; a block is left by a step
abbrev pub WentFurther : Went → Own → Own → Type 0
WentFurther went.Nowhere old new = (a : ℕ) × (old.at ≡ Between a)
WentFurther went.Left old new = old.k < new.k
WentFurther went.Most old new = Unit {0}
WentFurther (went.Asks r) old new = Unit {0}

-- a guest that goes on made a step, and not more than may be
abbrev pub Progresses : Result (Option Came) AllocError → ℕ → ℕ → Type 0
Progresses (Ok None) old new = (old < new) × (new ≤ 4096)
Progresses (Ok (Some r)) old new = Unit {0}
Progresses (Err e) old new = Unit {0}

-- so many private steps at most
abbrev pub WentWithin : Went → ℕ → ℕ → Type 0
WentWithin went.Nowhere k most = k ≤ most
WentWithin went.Left k most = k ≤ most
WentWithin went.Most k most = k ≡ most
WentWithin (went.Asks r) k most = k + 1 ≤ most

-- ---- counts

-- how many parts were run for so many steps
abbrev pub parts_by : Went → ℕ → ℕ
parts_by went.Nowhere j = j
parts_by went.Left j = j
parts_by went.Most j = j
parts_by (went.Asks r) j = j + 1

abbrev pub parts_for : Result Came AllocError → ℕ → ℕ
parts_for (Ok came.Limit) j = j
parts_for (Ok came.Most) j = j
parts_for (Ok (came.Missing a)) j = j
parts_for (Ok (came.Library a what)) j = j
parts_for (Ok (came.Asks r)) j = j + 1
parts_for (Err e) j = j

abbrev pub parts_of : Result (Option Came) AllocError → ℕ → ℕ
parts_of (Ok None) j = j
parts_of (Ok (Some r)) j = parts_for (Ok r) j
parts_of (Err e) j = j
