-- What an entry leaves of a thread's turn and its guest.
use Rattle.std.specs.Prelude.{◌≡◌, ◌≢◌, ◌⊎◌, ℕ, Bool, true, false, List, [], ◌++◌, Some, None, IsSome, Result, Ok, Err, slice_index}
use Rattle.std.specs.declared.alloc.AllocError.{AllocError}
use Rattle.address_space.specs.Slots.{slot_of}
use Rattle.elf_image.specs.Layout.{ImageData}
use Rattle.guest_state.specs.declared.virtual_state.Virtual.{Virtual}
use Rattle.ir_syntax.specs.declared.block.Block.{Block}
use Rattle.ir_syntax.specs.declared.request.Request.{Request}
use Rattle.ir_syntax.specs.declared.request.Request.TheVariants as ask
use Rattle.ir_syntax.specs.declared.width.Width.{Width as IrWidth}
use Rattle.ir_syntax.specs.declared.width.Width.TheVariants as ir_size
use Rattle.journal_pack.specs.declared.entry.Entry.{Entry}
use Rattle.machine_model.specs.Gated.{Stand, stand_at}
use Rattle.machine_model.specs.Ready.{HasGrown}
use Rattle.machine_model.specs.Serial.{AreReaches, AtEvent, AtMiss, Reaches, Rule, Turn, act, flush, flush_some, settle}
use Rattle.machine_model.specs.State.{is_live}
use Rattle.hall_core.specs.Hall.{HallData, both, mark_at}
use Rattle.guest_parts.specs.Guest.{GuestData, IsGoing, IsWith}
use Rattle.guest_parts.specs.Requests.{StandOn}
use Rattle.guest_parts.specs.Standing.{StandsIn, end_of, places_of}
use Rattle.guest_parts.specs.Points.{Acts, point_at, turn_of, waiting_of}
use Rattle.guest_steps.specs.declared.own.Own.{Own}
use Rattle.guest_steps.specs.declared.own.Position.{Position}
use Rattle.guest_steps.specs.declared.own.Position.TheVariants.{Inside}
use Rattle.guest_steps.specs.Ages.{AreAges}
use Rattle.guest_steps.specs.Kept.{AreKept, IsKept, KeptData, Table}
use Rattle.guest_steps.specs.Own.{Along, IsUnder, position_of}
use Rattle.guest_entries.specs.Steps.{AddsFree, AddsMiss}
use Rattle.guest_steps.specs.Stretched.{AsksAt, HasRoom}

-- a guest along its thread after the journal of the shared state
abbrev pub AlongIn : HallData Block → ℕ → Own → Table → Stand → Type 0
AlongIn h t own table d = Along h.case (both h) t own table d

-- The part under way was run, which made these registers of those before it, and it asks for what the thread wants at d.
pub record Asking (h : HallData Block) (t : ℕ) (own : Own) (table : Table) (v : Virtual) (d : Stand) (r : Request) : Type 0 where
  pub along : AlongIn h t (record own { state = v }) table d
  pub room : HasRoom h.case (both h) own
  pub asks : AsksAt h.case (both h) own r d

-- the turn of a guest's thread so far
abbrev pub turn_in : HallData Block → List ℕ → Turn
turn_in h ages = turn_of (both h) h.journal ages

-- the marks of other threads stay
abbrev pub OthersKeepMarks : HallData Block → HallData Block → ℕ → Type 0
OthersKeepMarks old new t = (s : ℕ) → s ≢ slot_of t → mark_at new s ≡ mark_at old s

-- At the thread's point by the rule this was done, which is all that the turn does there; where the run goes on and the
-- thread lives, the guest told its private steps and stands with it, at no place that it would miss again.
pub record Entered (old new : HallData Block) (t : ℕ) (before after : Own) (table : Table) (d : Stand) (r : Rule) : Type 0 where
  pub case : new.case ≡ old.case
  pub acts : Acts old.case t (point_at before.k d) (turn_in old before.ages) r (turn_in new after.ages)
  pub on : (both new).machine.ending ≡ None → is_live (both new).machine t ≡ true → AlongIn new t after table (stand_at (both new) (slot_of t)) × HasGrown old.case.image (both new) (slot_of t)
  pub gone : (both new).machine.ending ≡ None → is_live (both new).machine t ≡ false → after.ages ≡ []
  pub told : after.k ≡ 0
  pub fresh : AreAges 255 before.ages → AreAges 255 after.ages
  pub marks : OthersKeepMarks old new t

-- the thread came to a call that waits, which is all that the turn does there, and is marked
pub record Waited (old new : HallData Block) (t : ℕ) (before after : Own) (table : Table) (d : Stand) : Type 0 where
  pub case : new.case ≡ old.case
  pub acts : Acts old.case t (point_at before.k d) (turn_in old before.ages) AtEvent (waiting_of (both new) new.journal after.ages)
  pub along : AlongIn new t after table (stand_at (both new) (slot_of t))
  pub settled : HasGrown old.case.image (both new) (slot_of t)
  pub told : after.k ≡ 0
  pub none : after.ages ≡ []
  pub marked : IsSome (mark_at new (slot_of t))
  pub marks : OthersKeepMarks old new t

-- The entries so far made no step, and the guest is as far past its last one that does; or a miss is among them, which told
-- the private steps.
abbrev pub TellsPartly : ℕ → List Entry → List Entry → ℕ → ℕ → Type 0
TellsPartly t old new before after = (AddsFree t old new × (after ≡ before)) ⊎ (AddsMiss t before old new × (after ≡ 0))

-- Memory was wanting: the guest stands with its thread somewhere, and what was done so far is how the turn's entries at its
-- point begin.
pub record Partly (old new : HallData Block) (t : ℕ) (before after : Own) (table : Table) (d : Stand) (r : Rule) : Type 0 where
  pub case : new.case ≡ old.case
  pub stand : Stand
  pub along : AlongIn new t after table stand
  pub fresh : AreAges 255 before.ages → AreAges 255 after.ages
  pub begins : (reach : Reaches) → AreReaches old.case.image reach → (x : Turn) → act old.case reach t (point_at before.k d) (turn_in old before.ages) r ≡ Some x → (rest : List Entry) × (x.journal ≡ new.journal ++ rest)
  pub tells : TellsPartly t old.journal new.journal before.k after.k
  pub marks : OthersKeepMarks old new t

-- what asking the library comes to: true where the thread has to wait
abbrev pub CallIs : Result Bool AllocError → HallData Block → HallData Block → ℕ → Own → Own → Table → Stand → Type 0
CallIs (Ok false) old new t before after table d = Entered old new t before after table d AtEvent
CallIs (Ok true) old new t before after table d = Waited old new t before after table d
CallIs (Err e) old new t before after table d = Partly old new t before after table d AtEvent

-- what a miss comes to
abbrev pub MissIs : Result (Unit {0}) AllocError → HallData Block → HallData Block → ℕ → Own → Own → Table → Stand → Type 0
MissIs (Ok u) old new t before after table d = Entered old new t before after table d AtMiss
MissIs (Err e) old new t before after table d = Partly old new t before after table d AtMiss

-- a write of the thread went to memory, and the guest is as far past its last entry as before
pub record FlushedBy (old new : HallData Block) (t : ℕ) (g : GuestData) (ages : List ℕ) (d : Stand) : Type 0 where
  pub case : new.case ≡ old.case
  pub going : IsGoing (both new) t
  pub with : IsWith old.case (both new) t (record g { ages = ages }) d
  pub grown : (both new).gate.grown ≡ (both old).gate.grown
  pub steps : (both new).machine.steps ≡ (both old).machine.steps
  pub is_flush : flush old.case t (turn_in old g.ages) ≡ Some (turn_in new ages)
  pub marks : OthersKeepMarks old new t

-- so many writes of the thread did
pub record FlushedSome (old new : HallData Block) (t n : ℕ) (g : GuestData) (ages : List ℕ) (d : Stand) : Type 0 where
  pub case : new.case ≡ old.case
  pub going : IsGoing (both new) t
  pub with : IsWith old.case (both new) t (record g { ages = ages }) d
  pub grown : (both new).gate.grown ≡ (both old).gate.grown
  pub steps : (both new).machine.steps ≡ (both old).machine.steps
  pub are_flushes : flush_some old.case t n (turn_in old g.ages) ≡ Some (turn_in new ages)
  pub marks : OthersKeepMarks old new t

-- the request is a store of this, after which a block leads to this address
abbrev pub StoresBy : Request → ℕ → IrWidth → ℕ → ℕ → Position → Type 0
StoresBy (ask.Store a w x) b u y to (Inside kept part) = (a ≡ b) × (w ≡ u) × (x ≡ y) × (to ≡ end_of kept.block)
StoresBy (ask.StoreGo a x target) b u y to (Inside kept part) = (a ≡ b) × (u ≡ ir_size.W64) × (x ≡ y) × (to ≡ target)
StoresBy _ b u y to _ = ⊥

-- at a turn's end the waiting writes grew older, and those that were too old went to memory
pub record SettledBy (old new : HallData Block) (t hold : ℕ) (g : GuestData) (ages : List ℕ) (d : Stand) : Type 0 where
  pub case : new.case ≡ old.case
  pub going : IsGoing (both new) t
  pub with : IsWith old.case (both new) t (record g { ages = ages }) d
  pub grown : (both new).gate.grown ≡ (both old).gate.grown
  pub settled : HasGrown old.case.image (both old) (slot_of t) → HasGrown old.case.image (both new) (slot_of t)
  pub is_settled : settle old.case t hold (turn_in old g.ages) ≡ Some (turn_in new ages)
  pub marks : OthersKeepMarks old new t

-- After a part of a kept block that finishes its instruction, after which the block leads to this address: the guest is
-- before the next part, or out of the block.
pub record Passed (kept : KeptData) (part to : ℕ) (old new : Own) (before after : Table) : Type 0 where
  pub own : new ≡ record old { at = new.at; last = new.last }
  pub under : IsUnder kept.image new.at
  pub stands : (grown : List ℕ) (e : Stand) → StandOn kept.image grown kept.block part old.last (slice_index (places_of kept.image kept.block) part) to old.state e → StandsIn kept.image grown (position_of new.at) new.last old.state e
  pub table : (image : ImageData) (grown : List ℕ) → AreKept image grown before → IsKept image grown kept → AreKept image grown after
