-- What the driver of a run finds and writes.
use Rattle.std.specs.Prelude.{◌≡◌, ℕ, Bool, true, false, ◌||◌, List, [], ◌++◌, drop, length, IsSome}
use Rattle.lib_table.specs.Library.{LibraryData}
use Rattle.turn_lock.specs.declared.pass.Pass.{Pass}
use Rattle.hall_core.specs.Hall.{machine}
use Rattle.ir_runner.specs.Outputs.{Gains, GainsBy, Written}
use Rattle.thread_step.specs.Context.{HallOf, Saw}
use Rattle.worker_runner.specs.declared.watch.Over.{Over}
use Rattle.worker_runner.specs.declared.watch.Over.TheVariants as over
use Rattle.worker_runner.specs.declared.watch.Place.{Place}

abbrev pub library_of : HallOf → LibraryData
library_of h = (machine h).library

-- both outputs grew at their ends
pub record Grew (old new : HallOf) : Type 0 where
  pub first : List ℕ
  pub first_is : (library_of new).out1 ≡ (library_of old).out1 ++ first
  pub second : List ℕ
  pub second_is : (library_of new).out2 ≡ (library_of old).out2 ++ second

-- so many bytes of each output of a state were written
pub record IsPlace (place : Place) (h : HallOf) : Type 0 where
  pub first : place.first ≡ length (library_of h).out1
  pub second : place.second ≡ length (library_of h).out2

-- what grew since a state was written, or a first part of it where a write failed
pub record WroteSince (first second : Bool) (old new : HallOf) (one two : Written) : Type 0 where
  pub out : GainsBy first one (drop (length (library_of old).out1) (library_of new).out1)
  pub err : GainsBy second two (drop (length (library_of old).out2) (library_of new).out2)

abbrev pub OverIs : Over → HallOf → HallOf → Written → Written → Type 0
OverIs over.On old new out err = WroteSince false false old new out err
OverIs over.Ended old new out err = WroteSince false false old new out err × IsSome (machine new).ending
OverIs (over.Stopped first second) old new out err = ((first || second) ≡ true) × WroteSince first second old new out err
OverIs (over.Memory e) old new out err = Gains out [] × Gains err []

-- the driver's pass saw this state last, and nothing changed of the outputs but at their ends
pub record WatchedIn (a : Over) (p : Pass HallOf) (at : Place) (out err : Written) (h : HallOf) : Type 0 where
  pub hall : HallOf
  pub saw : Saw p hall
  pub case : hall.case ≡ h.case
  pub grew : Grew h hall
  pub over : OverIs a h hall out err
  pub place : IsPlace at hall
