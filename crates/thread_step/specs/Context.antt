-- A guest with a pass to the shared state, and what other threads' entries leave of it.
use Rattle.std.specs.Prelude.{◌≡◌, ◌<◌, ◌+◌, ◌⊎◌, ℕ, false, List, [], ◌++◌, Option, Some, None, IsSome}
use Rattle.atomic_table.specs.Seated.{TableId}
use Rattle.address_space.specs.Slots.{slot_of}
use Rattle.ir_syntax.specs.declared.block.Block.{Block}
use Rattle.journal_pack.specs.declared.entry.Entry.{Entry}
use Rattle.turn_lock.specs.declared.pass.Pass.{Pass}
use Rattle.turn_lock.specs.declared.pass.Held.{Held}
use Rattle.turn_lock.specs.Journal as story
use Rattle.turn_lock.specs.Words.{held_case, lock_of, pass_case, pass_number, pass_seen, taken}
use Rattle.machine_model.specs.CaseData.{CaseData}
use Rattle.machine_model.specs.Gated.{Leads, Stand, begin}
use Rattle.machine_model.specs.Play.{own}
use Rattle.machine_model.specs.State.{is_live, list_at, thread_in}
use Rattle.machine_model.specs.Step.{slot_in}
use Rattle.hall_core.specs.Hall.{HallData, both, machine}
use Rattle.thread_step.specs.declared.guest.Guest.{Guest}
use Rattle.thread_step.specs.declared.context.Context.{Context}
use Rattle.thread_step.specs.declared.rules.Turned.{Turned}
use Rattle.thread_step.specs.declared.rules.Turned.TheVariants.{Ended, Idle, Memory, Ran, Waiting}
use Rattle.thread_step.specs.Costs.{AreSpent, slot_costs}
use Rattle.thread_step.specs.declared.worker.Looked.{Looked}
use Rattle.thread_step.specs.declared.worker.Looked.TheVariants as looked
use Rattle.thread_step.specs.declared.worker.Stepped.{Stepped}
use Rattle.thread_step.specs.declared.worker.Stepped.TheVariants as stepped
use Rattle.thread_step.specs.Guest.{IsLeft, IsReady, IsStanding}
use Rattle.thread_step.specs.Turned.{Ready, StandsAtWait}

abbrev pub HallOf : Type 0
HallOf = HallData Block

abbrev pub case_in : HallOf → CaseData
case_in h = h.case

abbrev pub journal_in : HallOf → List Entry
journal_in h = h.journal

-- ---- the shared state, as a pass saw it last

-- of the state the case and the journal
pub record Saw (p : Pass HallOf) (h : HallOf) : Type 0 where
  pub case : pass_case case_in p ≡ Some h.case
  pub journal : pass_seen journal_in p ≡ h.journal
  pub leads : Leads h.case (begin h.case) h.journal (both h)

-- the state as it was taken
pub record IsTaken (held : Held HallOf) (h : HallOf) : Type 0 where
  pub case : held_case case_in held ≡ Some h.case
  pub journal : taken journal_in held ≡ h.journal

-- entries that bear a slot's number were added
pub record Wrote (s : ℕ) (old new : HallOf) : Type 0 where
  pub case : new.case ≡ old.case
  pub adds : story.Adds slot_in s old.journal new.journal

-- entries of threads of other slots were added
pub record GoesOn (s : ℕ) (old new : HallOf) : Type 0 where
  pub case : new.case ≡ old.case
  pub before : Leads old.case (begin old.case) old.journal (both old)
  pub entries : List Entry
  pub journal : new.journal ≡ old.journal ++ entries
  pub others : own s entries ≡ []
  pub after : Leads new.case (begin new.case) new.journal (both new)

-- ---- the guest

-- the guest has begun the thread that lives in its slot, and the run goes on
pub record Runs (h : HallOf) (t : ℕ) (g : Guest) : Type 0 where
  pub low : g.slot < 64
  pub slot : slot_of t ≡ g.slot
  pub begun : g.thread ≡ Some t
  pub lives : thread_in (machine h) g.slot ≡ Some t
  pub going : (machine h).ending ≡ None
  pub stand : Stand
  pub ready : Ready h t g.own g.table.items stand

-- the first look at the shared state
abbrev pub LookedIs : Looked → HallOf → Guest → Guest → Type 0
LookedIs looked.Ended h old new = IsSome (machine h).ending × (new ≡ old)
LookedIs looked.Idle h old new = ((machine h).ending ≡ None) × (thread_in (machine h) old.slot ≡ None) × (new ≡ old)
LookedIs (looked.Lives t) h old new = Runs h t new

-- one step of a turn, with the state as it was taken and as it is now
abbrev pub SteppedIs : Stepped → HallOf → ℕ → Guest → Type 0
SteppedIs stepped.On new t g = Runs new t g
SteppedIs stepped.Waits new t g = Runs new t g × (g.own.k ≡ 0) × StandsAtWait new t × (list_at (machine new) g.slot ≡ [])
SteppedIs stepped.Gone new t g = ((machine new).ending ≡ None) × (is_live (machine new) t ≡ false) × IsReady new g
SteppedIs stepped.Ended new t g = IsSome (machine new).ending × (g.slot < 64)
SteppedIs (stepped.Memory e) new t g = IsStanding new g

-- ---- what a turn adds

-- Entries of thread t of the slot were added that cost at most so much of a budget, so many of them before a call that waits;
-- beside them there are those of other slots.
pub record Further (s t most few : ℕ) (old new : HallOf) : Type 0 where
  pub case : new.case ≡ old.case
  pub entries : List Entry
  pub is : own s new.journal ≡ own s old.journal ++ entries
  pub spent : AreSpent t most few entries
  pub more : List Entry
  pub journal : new.journal ≡ old.journal ++ more

-- what a step costs, and how many entries it makes before a call that waits
abbrev pub cost_in : Stepped → ℕ
cost_in stepped.On = 1
cost_in stepped.Waits = 0
cost_in stepped.Gone = 1
cost_in stepped.Ended = 1
cost_in (stepped.Memory e) = 1

abbrev pub wait_in : Stepped → ℕ
wait_in stepped.On = 0
wait_in stepped.Waits = 1
wait_in stepped.Gone = 0
wait_in stepped.Ended = 0
wait_in (stepped.Memory e) = 0

-- Steps with so much of a budget, by what the slot's entries cost before and after them: it was spent where the thread goes
-- on, and some is left where the thread waits.
abbrev pub BudgetIs : Stepped → ℕ → ℕ → ℕ → Type 0
BudgetIs stepped.On most before after = after ≡ before + most
BudgetIs stepped.Waits most before after = after < before + most
BudgetIs stepped.Gone most before after = Unit {0}
BudgetIs stepped.Ended most before after = Unit {0}
BudgetIs (stepped.Memory e) most before after = Unit {0}

-- the run went on and thread t lived in the slot at the turn's first look, before which other slots alone had entries
pub record Lived (s t : ℕ) (old new : HallOf) : Type 0 where
  pub first : HallOf
  pub goes : GoesOn s old first
  pub going : (machine first).ending ≡ None
  pub lives : thread_in (machine first) s ≡ Some t
  pub rest : List Entry
  pub journal : new.journal ≡ first.journal ++ rest

-- The thread lived at the first look. At the last one it stands at a call that waits, with no private steps and no waiting
-- writes, and less than the budget was spent.
pub record CameToWait (t most : ℕ) (old new : HallOf) (g : Guest) : Type 0 where
  pub going : (machine new).ending ≡ None
  pub lived : Lived g.slot t old new
  pub lives : thread_in (machine new) g.slot ≡ Some t
  pub stuck : StandsAtWait new t
  pub empty : list_at (machine new) g.slot ≡ []
  pub told : g.own.k ≡ 0
  pub left : slot_costs g.slot new.journal < slot_costs g.slot old.journal + most

-- the thread lived at the first look; just the budget was spent, or the thread's life ended
pub record RanOut (t most : ℕ) (old new : HallOf) (g : Guest) : Type 0 where
  pub going : (machine new).ending ≡ None
  pub lived : Lived g.slot t old new
  pub why : (slot_costs g.slot new.journal ≡ slot_costs g.slot old.journal + most) ⊎ (is_live (machine new) t ≡ false)

-- why a turn of thread t with this budget ended, by the state at its last look: it had an ending; no thread lived in the slot,
-- and no entry was made; the thread came to a call that waits; or the budget was spent or the thread's life ended
abbrev pub Cause : Turned → ℕ → ℕ → HallOf → HallOf → Guest → Type 0
Cause Ended t most old new g = IsSome (machine new).ending
Cause Idle t most old new g = ((machine new).ending ≡ None) × (thread_in (machine new) g.slot ≡ None) × (own g.slot new.journal ≡ own g.slot old.journal)
Cause Waiting t most old new g = CameToWait t most old new g
Cause Ran t most old new g = RanOut t most old new g
Cause (Memory e) t most old new g = Unit {0}

-- how a turn ends after its steps, once the waiting writes are older
abbrev pub EndsWith : Turned → HallOf → Type 0
EndsWith Ended new = IsSome (machine new).ending
EndsWith Idle new = ⊥
EndsWith Waiting new = ⊥
EndsWith Ran new = (machine new).ending ≡ None
EndsWith (Memory e) new = Unit {0}

-- ---- passes

-- the pass is of this lock, its number is the guest's slot, it saw this state, and the guest is ready there for a turn
pub record HoldsIn (key : TableId) (p : Pass HallOf) (g : Guest) (h : HallOf) : Type 0 where
  pub lock : lock_of p ≡ key
  pub number : pass_number p ≡ g.slot
  pub saw : Saw p h
  pub ready : IsReady h g

-- the same while its thread runs
pub record WorksIn (key : TableId) (p : Pass HallOf) (t : ℕ) (g : Guest) (h : HallOf) : Type 0 where
  pub lock : lock_of p ≡ key
  pub number : pass_number p ≡ g.slot
  pub saw : Saw p h
  pub runs : Runs h t g

-- after a look, before which entries of other slots alone were added
pub record LookedIn (a : Looked) (p : Pass HallOf) (old new : Guest) (h : HallOf) : Type 0 where
  pub hall : HallOf
  pub saw : Saw p hall
  pub goes : GoesOn old.slot h hall
  pub ready : IsReady hall old
  pub looked : LookedIs a hall old new

-- after steps of thread t
pub record SteppedIn (a : Stepped) (p : Pass HallOf) (t most few : ℕ) (new : Guest) (h : HallOf) : Type 0 where
  pub hall : HallOf
  pub saw : Saw p hall
  pub stepped : SteppedIs a hall t new
  pub further : Further new.slot t most few h hall

-- after a turn of thread t
pub record TurnedBy (a : Turned) (p : Pass HallOf) (t most : ℕ) (new : Guest) (h : HallOf) : Type 0 where
  pub hall : HallOf
  pub saw : Saw p hall
  pub left : IsLeft a hall new
  pub slot : slot_of t ≡ new.slot
  pub further : Further new.slot t most 1 h hall
  pub cause : Cause a t most h hall new

-- a turn is of one thread of the slot
abbrev pub TurnedIn : Turned → Pass HallOf → ℕ → Guest → HallOf → Type 0
TurnedIn a p most new h = (t : ℕ) × TurnedBy a p t most new h

-- ---- contexts

-- the context's pass is there, and its guest is ready for a turn in this state
pub record IsContext (key : TableId) (ctx : Context) (h : HallOf) : Type 0 where
  pub pass : Pass HallOf
  pub there : ctx.pass ≡ Some pass
  pub holds : HoldsIn key pass ctx.guest h

-- the context after a turn
pub record TookTurn (a : Turned) (key : TableId) (most : ℕ) (old new : Context) (h : HallOf) : Type 0 where
  pub pass : Pass HallOf
  pub there : new.pass ≡ Some pass
  pub lock : lock_of pass ≡ key
  pub number : pass_number pass ≡ new.guest.slot
  pub slot : new.guest.slot ≡ old.guest.slot
  pub turned : TurnedIn a pass most new.guest h

abbrev pub context_slot : Context → ℕ
context_slot ctx = ctx.guest.slot

-- the private steps of the slot's thread since its last entry
abbrev pub context_steps : Context → ℕ
context_steps ctx = ctx.guest.own.k

abbrev pub context_pass : Context → Option (Pass HallOf)
context_pass ctx = ctx.pass
