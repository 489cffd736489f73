-- One-time initialisation: POSIX pthread_once.
use Rattle.std.specs.Prelude.{ℕ, Bool, true, false, if◌then◌else◌, Option, Some, None}
use Rattle.std.specs.FinMap.{get, insert}
use Rattle.sync_more.specs.declared.ask.Outcome.TheVariants.{Answer, Begin, Deep, Waits}
use Rattle.sync_more.specs.declared.state.Control.{Control}
use Rattle.sync_more.specs.declared.state.Control.TheVariants.{Running, Done}
use Rattle.sync_more.specs.Rooms.{RoomsData, Reply, told}

abbrev pub with_control : RoomsData → ℕ → Control → RoomsData
with_control r control state = record r { controls = insert r.controls control state }

abbrev pub begun_unless : Option Control → RoomsData → ℕ → ℕ → Bool → Reply
begun_unless (Some Done) r t control free = told r (Answer 0)
begun_unless (Some (Running owner)) r t control free = told r Waits
begun_unless None r t control free = if free then told (with_control r control (Running t)) Begin else told r Deep

-- pthread_once(control, routine) of thread t: the first call begins the routine, where there is room for it among the calls that the thread has under way; later ones wait until it ran
unfoldable pub once : RoomsData → ℕ → ℕ → Bool → Reply
once r t control free = begun_unless (get r.controls control) r t control free

abbrev pub is_run : Option Control → Bool
is_run None = false
is_run (Some Done) = false
is_run (Some (Running owner)) = true

-- the control's routine runs
abbrev pub is_running : RoomsData → ℕ → Bool
is_running r control = is_run (get r.controls control)
