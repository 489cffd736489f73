-- How many steps of instructions the entries of a slot make.
use Rattle.std.specs.Prelude.{ℕ, zero, suc, ◌+◌, ◌==◌, if◌then◌else◌, List, [], ◌∷◌}
use Rattle.journal_pack.specs.declared.entry.Entry.{Entry}
use Rattle.machine_model.specs.CaseData.{CaseData}
use Rattle.machine_model.specs.Comes.{or_stay}
use Rattle.machine_model.specs.Gated.{Both, advance, begin}
use Rattle.machine_model.specs.Step.{slot_in}
use Rattle.guest_entries.specs.Steps.{entry_steps}

-- the steps of the entries that name a thread of slot s, where all entries lead the machine on
unfoldable pub slot_steps_from : CaseData → ℕ → Both → List Entry → ℕ
slot_steps_from c s b [] = 0
slot_steps_from c s b (e ∷ es) = (if slot_in e == s then entry_steps c.image b.machine e else 0) + slot_steps_from c s (or_stay b (advance c b e)) es

-- of a whole journal
abbrev pub slot_steps : CaseData → ℕ → List Entry → ℕ
slot_steps c s journal = slot_steps_from c s (begin c) journal

-- of the slots below n together
unfoldable pub slots_steps : CaseData → ℕ → List Entry → ℕ
slots_steps c zero journal = 0
slots_steps c (suc n) journal = slots_steps c n journal + slot_steps c n journal
