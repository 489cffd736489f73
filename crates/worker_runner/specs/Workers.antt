-- The workers of a run.
use Rattle.std.specs.Prelude.{◌≡◌, ℕ, ◌+◌, ◌<◌, List, [], length, slice_index_or, Some}
use Rattle.atomic_table.specs.Seated.{TableId}
use Rattle.turn_lock.specs.declared.pass.Pass.{Pass}
use Rattle.turn_lock.specs.Words.{lock_of, pass_number}
use Rattle.thread_step.specs.declared.context.Context.{Context}
use Rattle.thread_step.specs.declared.guest.Guest.{Guest}
use Rattle.thread_step.specs.declared.rules.Rules.{Rules}
use Rattle.thread_step.specs.declared.rules.Turned.{Turned}
use Rattle.thread_step.specs.Context.{HallOf, IsContext, Saw, context_pass, context_slot, context_steps}
use Rattle.thread_step.specs.Guest.{IsLeft, IsReady, guest_slot, private_steps}
use Rattle.thread_step.specs.Turned.{AreRules}
use Rattle.worker_runner.specs.declared.round.Worker.{Worker}

-- the context may take a turn
abbrev pub MayGo : TableId → Rules → Context → Type 0
MayGo key rules ctx = (h : HallOf) × IsContext key ctx h × AreRules h.case rules

-- the context after turns: its guest is as the last of them left it in the state that the pass saw last
pub record CameBack (a : Turned) (key : TableId) (old new : Context) (h : HallOf) : Type 0 where
  pub pass : Pass HallOf
  pub there : context_pass new ≡ Some pass
  pub lock : lock_of pass ≡ key
  pub number : pass_number pass ≡ context_slot new
  pub slot : context_slot new ≡ context_slot old
  pub hall : HallOf
  pub saw : Saw pass hall
  pub case : hall.case ≡ h.case
  pub left : IsLeft a hall new.guest

-- it took turns, from any state in which it was ready
abbrev pub TookIts : TableId → Context → Context → Turned → Type 0
TookIts key old new answer = (h : HallOf) → IsContext key old h → CameBack answer key old new h

-- ---- before the first round

-- the guest of a slot in the state before the first entry
pub record IsFirstGuest (h : HallOf) (slot : ℕ) (g : Guest) : Type 0 where
  pub slot_is : guest_slot g ≡ slot
  pub ready : IsReady h g
  pub told : private_steps g ≡ 0

-- the last one is that of slot 0
abbrev pub AreFirstGuests : HallOf → List Guest → Type 0
AreFirstGuests h guests = (k j : ℕ) (d : Guest) → k < length guests → k + j ≡ 63 → IsFirstGuest h j (slice_index_or guests k d)

-- the pass of this number saw the state
pub record IsFirstPass (key : TableId) (h : HallOf) (n : ℕ) (p : Pass HallOf) : Type 0 where
  pub lock : lock_of p ≡ key
  pub number : pass_number p ≡ n
  pub saw : Saw p h

-- passes whose numbers go up from n
abbrev pub AreFirstPasses : TableId → HallOf → ℕ → List (Pass HallOf) → Type 0
AreFirstPasses key h n passes = (k : ℕ) (d : Pass HallOf) → k < length passes → IsFirstPass key h (n + k) (slice_index_or passes k d)

module _ {N : Type 0} where
  -- the worker was made of these, and nothing was done with it
  pub record IsWorkerOf (guest : Guest) (pass : Pass HallOf) (engine : N) (w : Worker N) : Type 0 where
    pub context : (h : HallOf) → Saw pass h → IsReady h guest → IsContext (lock_of pass) w.ctx h
    pub slot : context_slot w.ctx ≡ guest_slot guest
    pub steps : context_steps w.ctx ≡ private_steps guest
    pub pass_is : context_pass w.ctx ≡ Some pass
    pub engine_is : w.engine ≡ engine

-- what a run by workers begins with
pub record Begins (key : TableId) (h : HallOf) (r : Rules) (guests : List Guest) (passes : List (Pass HallOf)) : Type 0 where
  pub none : h.journal ≡ []
  pub rules : AreRules h.case r
  pub few : length guests ≡ 64
  pub guests_are : AreFirstGuests h guests
  pub many : length passes ≡ 65
  pub passes_are : AreFirstPasses key h 0 passes
