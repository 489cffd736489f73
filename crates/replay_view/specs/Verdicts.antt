-- What a verdict says.
use Rattle.std.specs.Prelude.{◌≡◌, true, false, None, is_some}
use Rattle.journal_pack.specs.declared.entry.Entry.{Entry}
use Rattle.machine_model.specs.CaseData.{CaseData}
use Rattle.machine_model.specs.Gated.{Both}
use Rattle.machine_model.specs.Step.{step}
use Rattle.replay_view.specs.declared.moment.Verdict.{Verdict}
use Rattle.replay_view.specs.declared.moment.Verdict.TheVariants.{NoStep, NotGated, Crowded, Taken}
use Rattle.replay_view.specs.Follow.{MayCome}
use Rattle.replay_view.specs.Gates.{position_of}
use Rattle.replay_machine.specs.Machines.{is_crowded, overfills_by}
use Rattle.replay_view.specs.Moments.{IsBarred, IsBegun, IsPlaced}

abbrev pub Weighs : CaseData → Both → Entry → Verdict → Type 0
Weighs c b e NoStep = step c b.machine e ≡ None
Weighs c b e NotGated = (is_some (step c b.machine e) ≡ true) × IsBarred c b e
Weighs c b e Crowded = ((n : Both) × MayCome c b e n) × (is_crowded c.image b.machine e ≡ true)
Weighs c b e (Taken cpu wanted spot) = IsBegun c b.machine e cpu wanted × IsPlaced c b e (position_of c.image spot) × (overfills_by b.machine e wanted ≡ false)
