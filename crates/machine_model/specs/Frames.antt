-- The calls back from the library that threads have under way: searches, and routines of controls.
use Rattle.std.specs.Prelude.{◌≡◌, ℕ, ◌<◌, ◌≤◌, true, false, All, List, length, slice_get, Option, Some, None, option_and_then, IsSome, ⊤}
use Rattle.std.specs.FinMap.{get, insert}
use Rattle.callbacks.specs.declared.Frame.{Frame}
use Rattle.lib_table.specs.declared.answer.Called.{Called}
use Rattle.lib_table.specs.declared.answer.Called.TheVariants.{Back, Probe, Over, Stay}
use Rattle.lib_table.specs.declared.ask.Ask.{Ask}
use Rattle.lib_table.specs.declared.ask.Asked.{Asked}
use Rattle.lib_table.specs.declared.ask.Asked.TheVariants.{Lib, EndDoor, CallDoor}
use Rattle.lib_table.specs.Library.{LibraryData}
use Rattle.sync_more.specs.declared.state.Control.TheVariants.{Running, Done}
use Rattle.sync_more.specs.Once.{is_running}
use Rattle.machine_model.specs.State.{Machine, core_at}

-- ---- frames of one thread

-- a search under way has elements left
abbrev pub HasElements : Frame → Type 0
HasElements f = f.lo < f.hi

-- at most 16 calls, and each search has elements left
pub record AreFrames (frames : List Frame) : Type 0 where
  pub few : length frames ≤ 16
  pub left : All HasElements frames

-- the control whose routine the i-th call runs, if it is no search
abbrev pub control_in : List Frame → ℕ → Option ℕ
control_in frames i = option_and_then (λ f. f.control) (slice_get frames i)

-- ---- what a request does to them

-- a probe is of a search with elements left, for which there is room
abbrev pub HasRoom : Asked → Ask → Type 0
HasRoom (Lib f) ask = ask.depth < 16
HasRoom CallDoor ask = IsSome ask.top
HasRoom EndDoor ask = ⊥

abbrev pub IsAnswer : Asked → Ask → Called → Type 0
IsAnswer what ask (Back rax rsp rip popped) = ⊤
IsAnswer what ask (Probe frame place) = HasElements frame × HasRoom what ask
IsAnswer what ask Stay = ⊤
IsAnswer what ask Over = ⊤

-- the controls are as they were
abbrev pub SameControls : LibraryData → LibraryData → Type 0
SameControls l after = after.rooms.controls ≡ l.rooms.controls

-- the routine of this control has run
abbrev pub ControlsDone : Option ℕ → LibraryData → LibraryData → Type 0
ControlsDone None l after = SameControls l after
ControlsDone (Some c) l after = after.rooms.controls ≡ insert l.rooms.controls c Done

-- thread t runs the routine of this control, which none ran before
abbrev pub ControlsBegun : Option ℕ → LibraryData → LibraryData → ℕ → Type 0
ControlsBegun None l after t = SameControls l after
ControlsBegun (Some c) l after t = (get l.rooms.controls c ≡ None) × (after.rooms.controls ≡ insert l.rooms.controls c (Running t))

-- the innermost call is over
pub record IsReturn (l after : LibraryData) (what : Asked) (ask : Ask) : Type 0 where
  pub door : what ≡ CallDoor
  pub frame : Frame
  pub top : ask.top ≡ Some frame
  pub controls : ControlsDone frame.control l after

-- a call begins
pub record IsBegin (l after : LibraryData) (t : ℕ) (ask : Ask) (frame : Frame) : Type 0 where
  pub room : ask.depth < 16
  pub left : HasElements frame
  pub controls : ControlsBegun frame.control l after t

-- the innermost search goes on
pub record IsNextProbe (l after : LibraryData) (ask : Ask) (frame : Frame) : Type 0 where
  pub before : Frame
  pub top : ask.top ≡ Some before
  pub left : HasElements frame
  pub search : frame.control ≡ None
  pub controls : SameControls l after

abbrev pub IsProbe : Asked → LibraryData → LibraryData → ℕ → Ask → Frame → Type 0
IsProbe (Lib f) l after t ask frame = IsBegin l after t ask frame
IsProbe CallDoor l after t ask frame = IsNextProbe l after ask frame
IsProbe EndDoor l after t ask frame = ⊥

-- what an answer says of calls and controls
abbrev pub Calls : Asked → LibraryData → LibraryData → ℕ → Ask → Called → Type 0
Calls what l after t ask (Back rax rsp rip false) = SameControls l after
Calls what l after t ask (Back rax rsp rip true) = IsReturn l after what ask
Calls what l after t ask (Probe frame place) = IsProbe what l after t ask frame
Calls what l after t ask Stay = SameControls l after
Calls what l after t ask Over = SameControls l after

-- ---- all threads

abbrev pub control_at : Machine → ℕ → ℕ → Option ℕ
control_at m s i = control_in (core_at m s).frames i

-- each thread's calls are such, the routine of each control in them runs, and no two of them have one control
pub record AreCalls (m : Machine) : Type 0 where
  pub frames : (s : ℕ) → AreFrames (core_at m s).frames
  pub running : (s i c : ℕ) → control_at m s i ≡ Some c → is_running m.library.rooms c ≡ true
  pub distinct : (s i u j c : ℕ) → control_at m s i ≡ Some c → control_at m u j ≡ Some c → (s ≡ u) × (i ≡ j)
