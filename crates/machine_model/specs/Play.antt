-- Journals played on the plain machine.
use Rattle.std.specs.Prelude.{ℕ, ◌==◌, List, [], ◌∷◌, filter, Option, Some, option_and_then}
use Rattle.journal_pack.specs.declared.entry.Entry.{Entry}
use Rattle.machine_model.specs.CaseData.{CaseData}
use Rattle.machine_model.specs.State.{Machine, start}
use Rattle.machine_model.specs.Step.{step, slot_in}

-- a step for each item of a list, in order; none where one item is no step
unfoldable pub walk : {S E : Type 0} → (S → E → Option S) → S → List E → Option S
walk f s [] = Some s
walk f s (e ∷ es) = option_and_then (λ next. walk f next es) (f s e)

-- the machine after a journal from the start, or none where one of its entries is no step
unfoldable pub play : CaseData → List Entry → Option Machine
play c journal = walk (step c) (start c) journal

-- the entries that name a thread of slot n, in order; those of 64 are `Dead`
abbrev pub own : ℕ → List Entry → List Entry
own n journal = filter (λ e. slot_in e == n) journal
