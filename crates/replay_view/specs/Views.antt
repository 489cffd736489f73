-- What a walker shows, and what stands after so many entries of a journal.
use Rattle.std.specs.Prelude.{◌≡◌, List, length, Some}
use Rattle.journal_pack.specs.declared.entry.Entry.{Entry}
use Rattle.machine_model.specs.CaseData.{CaseData}
use Rattle.machine_model.specs.Gated.{Both, begin}
use Rattle.machine_model.specs.Play.{play}
use Rattle.replay_machine.specs.Views.{threads_of}
use Rattle.replay_view.specs.declared.view.View.{View}
use Rattle.replay_view.specs.Follow.{Follows}

-- the steps, the count of grown places, the ending, and the live and ended threads by number
abbrev pub view_of : Both → View
view_of b = record { steps = b.machine.steps; grown = length b.gate.grown; ending = b.machine.ending; threads = threads_of b.machine }

-- The entries are followed from the start, so they are played and gated, and this is the view of the machine after them.
pub record IsViewAfter (c : CaseData) (entries : List Entry) (view : View) : Type 0 where
  pub both : Both
  pub follows : Follows c (begin c) entries both
  pub machine : play c entries ≡ Some both.machine
  pub shows : view ≡ view_of both
