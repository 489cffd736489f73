-- What an entry does to the controls of pthread_once, and to the calls back that run their routines.
use Rattle.std.specs.Prelude.{◌≡◌, ℕ, ◌-◌, true, length, [], ◌∷◌, ◌++◌, Option, Some, None}
use Rattle.std.specs.FinMap.{get}
use Rattle.address_space.specs.Slots.{slot_of}
use Rattle.callbacks.specs.declared.Frame.{Frame}
use Rattle.elf_image.specs.declared.place.Function.{Function}
use Rattle.journal_pack.specs.declared.entry.Entry.{Entry}
use Rattle.lib_table.specs.declared.ask.Asked.TheVariants.{Lib, CallDoor}
use Rattle.sync_more.specs.declared.state.Control.{Control}
use Rattle.sync_more.specs.declared.state.Control.TheVariants.{Running, Done}
use Rattle.sync_more.specs.Once.{is_running}
use Rattle.machine_model.specs.CaseData.{CaseData}
use Rattle.machine_model.specs.Frames.{control_at}
use Rattle.machine_model.specs.Gated.{Both}
use Rattle.machine_model.specs.Own.{frames_at}
use Rattle.machine_model.specs.Step.{without_top}
use Rattle.machine_laws.specs.Lives.{Requests}

-- whether the routine of a control runs or has run; none where nobody asked for it
abbrev pub control_of : Both → ℕ → Option Control
control_of b x = get b.machine.library.rooms.controls x

-- the control whose routine the innermost call back of a thread runs, if it is no search
abbrev pub innermost_control : Both → ℕ → Option ℕ
innermost_control b t = control_at b.machine (slot_of t) (length (frames_at b t) - 1)

-- A routine begins: nobody had asked for its control, and the thread that does has one call back more, which runs it.
pub record IsEnteredBy (c : CaseData) (b n : Both) (e : Entry) (x : ℕ) : Type 0 where
  pub before : control_of b x ≡ None
  pub thread : ℕ
  pub after : control_of n x ≡ Some (Running thread)
  pub function : Function
  pub call : Requests c b e thread (Lib function)
  pub frame : Frame
  pub control : frame.control ≡ Some x
  pub frames : frames_at n thread ≡ frames_at b thread ++ frame ∷ []

-- A routine has run: a thread returned to the call door from its innermost call back, which ran it, and that call back is gone.
pub record IsLeftBy (c : CaseData) (b n : Both) (e : Entry) (x : ℕ) : Type 0 where
  pub before : is_running b.machine.library.rooms x ≡ true
  pub after : control_of n x ≡ Some Done
  pub thread : ℕ
  pub call : Requests c b e thread CallDoor
  pub innermost : innermost_control b thread ≡ Some x
  pub frames : frames_at n thread ≡ without_top (frames_at b thread)

-- what an entry does to a control
pub data ControlGoes (c : CaseData) (b n : Both) (e : Entry) (x : ℕ) : Type 0 where
  Stays : control_of n x ≡ control_of b x → ControlGoes c b n e x
  Entered : IsEnteredBy c b n e x → ControlGoes c b n e x
  Left : IsLeftBy c b n e x → ControlGoes c b n e x
