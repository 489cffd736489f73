-- What the engines of a run count.
use Rattle.std.specs.Prelude.{◌≡◌, ℕ, ◌+◌, ◌-◌, ◌<◌, List, length, slice_index_or, Some}
use Rattle.atomic_table.specs.Seated.{TableId}
use Rattle.journal_pack.specs.declared.entry.Entry.{Entry}
use Rattle.turn_lock.specs.declared.pass.Pass.{Pass}
use Rattle.machine_model.specs.CaseData.{CaseData}
use Rattle.guest_parts.specs.Running.{Rises}
use Rattle.thread_step.specs.declared.context.Context.{Context}
use Rattle.thread_step.specs.Context.{HallOf, IsContext, Saw, context_pass, context_slot, context_steps}
use Rattle.thread_step.specs.Counts.{slot_steps}
use Rattle.worker_runner.specs.declared.round.Worker.{Worker}

-- an engine that counted n counted the steps of the slot's entries, and the private steps since
abbrev pub HasCounted : ℕ → ℕ → Context → Type 0
HasCounted n slot ctx = (h : HallOf) (p : Pass HallOf) → context_pass ctx ≡ Some p → Saw p h → Rises 0 n (slot_steps h.case slot h.journal + context_steps ctx)

-- in a turn an engine's count rose by the steps of the entries that the turn added, and the private steps since
abbrev pub CountsIts : TableId → ℕ → ℕ → Context → Context → Type 0
CountsIts key a b old new = (h n : HallOf) (p : Pass HallOf) → IsContext key old h → context_pass new ≡ Some p → Saw p n → Rises a b ((slot_steps n.case (context_slot old) n.journal + context_steps new) - (slot_steps h.case (context_slot old) h.journal + context_steps old))

-- each worker's engine counted its slot's steps
abbrev pub AreCounted : {N : Type 0} → (N → ℕ) → List (Worker N) → Type 0
AreCounted {N} count workers = (k : ℕ) (d : Worker N) → k < length workers → HasCounted (count (slice_index_or workers k d).engine) k (slice_index_or workers k d).ctx

-- of its slot's steps the journal has just those of the state that the pass saw
abbrev pub AreKept : CaseData → List Entry → List (Pass HallOf) → Type 0
AreKept c journal passes = (k : ℕ) (d : Pass HallOf) → k < length passes → (h : HallOf) → Saw (slice_index_or passes k d) h → slot_steps c k journal ≡ slot_steps h.case k h.journal

-- no step of the slot was made yet
pub record IsFresh (h : HallOf) (ctx : Context) : Type 0 where
  pub pass : Pass HallOf
  pub there : context_pass ctx ≡ Some pass
  pub saw : Saw pass h
  pub none : context_steps ctx ≡ 0

abbrev pub AreFresh : {N : Type 0} → HallOf → List (Worker N) → Type 0
AreFresh {N} h workers = (k : ℕ) (d : Worker N) → k < length workers → IsFresh h (slice_index_or workers k d).ctx
