-- From a hall and what its run came to, to the run that was made.
use Rattle.std.proofs.Common.{◌≡◌, ℕ, Bool, true, false, List, Option, Some, None, sym, subst}
use Rattle.std.specs.Prelude.{IsSome}
use Rattle.ir_syntax.specs.declared.block.Block.{Block}
use Rattle.machine_model.specs.Gated.{Leads, begin}
use Rattle.machine_model.specs.Play.{play}
use Rattle.machine_model.specs.declared.ending.RunEnd.{RunEnd}
use Rattle.hall_core.specs.Hall.{HallData, both, machine}
use Rattle.thread_step.specs.declared.rules.Rules.{Rules}
use Rattle.thread_step.specs.Turned.{serial_rules}
use Rattle.ir_runner.specs.declared.run.Ran.{Ran}
use Rattle.ir_runner.specs.declared.run.Ran.TheVariants.{Ended, Stopped, Memory}
use Rattle.ir_runner.specs.Outputs.{Written, GainsBy, GainsSince}
use Rattle.ir_runner.specs.Runs.{JournalIs, OutputsAre}
use Rattle.worker_runner.specs.Ending.{WroteAll}
use Rattle.recompile_core.specs.declared.run.Came.{Came}
use Rattle.recompile_core.specs.Runs.{CameBy, CameTo, IsMade}

no-true : false ≡ true → ⊥
no-true e = cc

none-some : (o : Option RunEnd) → None ≡ o → IsSome o → ⊥
none-some None e h = no-true h
none-some (Some x) e h = cc

since_by : (failed : Bool) (n : ℕ) (sink : Written) (bytes : List ℕ) → GainsSince failed n sink bytes → GainsBy failed sink bytes
since_by false n sink bytes g = g
since_by true n sink bytes (rose, (k, more, few, appends)) = (rose, (k, few, appends))

came-to : (h : HallData Block) (ran : Ran) (end : Option RunEnd) (how : Came) (r : Rules) (out err : Written) → JournalIs ran h r → OutputsAre ran h r out err → end ≡ (machine h).ending → CameBy ran end how → CameTo how h.case (Some (serial_rules r)) h.journal (machine h) out err
came-to h Ended None how r out err j o e b = absurd (none-some (machine h).ending e j.1)
came-to h Ended (Some x) how r out err j o e b = let P : Came → Type 0 = λ w. CameTo w h.case (Some (serial_rules r)) h.journal (machine h) out err in subst P (sym b) (j.0, sym e, o.0, o.1)
came-to h (Stopped x y) end how r out err j o e b = let P : Came → Type 0 = λ w. CameTo w h.case (Some (serial_rules r)) h.journal (machine h) out err in subst P (sym b) (j, o.failed, since_by x _ out (machine h).library.out1 o.wrote_out, since_by y _ err (machine h).library.out2 o.wrote_err)
came-to h (Memory x) end how r out err j o e b = let P : Came → Type 0 = λ w. CameTo w h.case (Some (serial_rules r)) h.journal (machine h) out err in subst P (sym b) (j, o.0, o.1)

-- the run that was made
pub made_by : (h : HallData Block) (ran : Ran) (end : Option RunEnd) (how : Came) (r : Rules) (out err : Written) → Leads h.case (begin h.case) h.journal (both h) → play h.case h.journal ≡ Some (machine h) → JournalIs ran h r → OutputsAre ran h r out err → end ≡ (machine h).ending → CameBy ran end how → IsMade h.case (Some (serial_rules r)) h.journal how out err
made_by h ran end how r out err leads played j o e b = record { machine = machine h; played = played; gated = (both h, leads); came = came-to h ran end how r out err j o e b }

-- ---- by workers

came-by-workers : (h : HallData Block) (ran : Ran) (end : Option RunEnd) (how : Came) (out err : Written) → WroteAll ran h out err → end ≡ (machine h).ending → CameBy ran end how → CameTo how h.case None h.journal (machine h) out err
came-by-workers h Ended None how out err o e b = absurd (none-some (machine h).ending e o.0)
came-by-workers h Ended (Some x) how out err o e b = let P : Came → Type 0 = λ w. CameTo w h.case None h.journal (machine h) out err in subst P (sym b) (tt, sym e, o.1, o.2)
came-by-workers h (Stopped x y) end how out err o e b = let P : Came → Type 0 = λ w. CameTo w h.case None h.journal (machine h) out err in subst P (sym b) (tt, o.0, o.1, o.2)
came-by-workers h (Memory x) end how out err o e b = let P : Came → Type 0 = λ w. CameTo w h.case None h.journal (machine h) out err in subst P (sym b) (tt, o.0, o.1)

pub made_by_workers : (h : HallData Block) (ran : Ran) (end : Option RunEnd) (how : Came) (out err : Written) → Leads h.case (begin h.case) h.journal (both h) → play h.case h.journal ≡ Some (machine h) → WroteAll ran h out err → end ≡ (machine h).ending → CameBy ran end how → IsMade h.case None h.journal how out err
made_by_workers h ran end how out err leads played o e b = record { machine = machine h; played = played; gated = (both h, leads); came = came-by-workers h ran end how out err o e b }
