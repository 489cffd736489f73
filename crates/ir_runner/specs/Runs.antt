-- Whole runs: their journals, and what they leave of the two sinks.
use Rattle.std.specs.Prelude.{◌≡◌, ℕ, Bool, true, false, ◌||◌, List, [], ◌++◌, drop, length, Option, Some, None, IsSome}
use Rattle.ir_syntax.specs.declared.block.Block.{Block}
use Rattle.journal_pack.specs.declared.entry.Entry.{Entry}
use Rattle.machine_model.specs.CaseData.{CaseData}
use Rattle.machine_model.specs.Serial as serial
use Rattle.machine_model.specs.Comes.{both_of}
use Rattle.machine_model.specs.Serial.{AreReaches, IsSerial, Reaches, Run, at_start, round, rounds}
use Rattle.hall_core.specs.Hall.{HallData, machine}
use Rattle.thread_step.specs.declared.guest.Guest.{Guest}
use Rattle.thread_step.specs.declared.rules.Rules.{Rules}
use Rattle.thread_step.specs.Turned.{serial_rules}
use Rattle.ir_runner.specs.declared.run.Ran.{Ran}
use Rattle.ir_runner.specs.declared.run.Ran.TheVariants.{Ended, Stopped, Memory}
use Rattle.ir_runner.specs.Outputs.{Gains, GainsBy, GainsSince, HoldsPart, Written}
use Rattle.ir_runner.specs.Rounds.{BeganRound, TookRound}

-- the serial journal begins so
abbrev pub BeginsSerial : CaseData → serial.Rules → List Entry → Type 0
BeginsSerial c r journal = (rest : List Entry) × IsSerial c r (journal ++ rest)

-- the whole journal of the serial run, after which it has its ending, or what it begins with
abbrev pub JournalIs : Ran → HallData Block → Rules → Type 0
JournalIs Ended h r = IsSerial h.case (serial_rules r) h.journal × IsSome (machine h).ending
JournalIs (Stopped out err) h r = BeginsSerial h.case (serial_rules r) h.journal
JournalIs (Memory e) h r = BeginsSerial h.case (serial_rules r) h.journal

-- after so many whole rounds the journal is `before`, and after the next one it is `journal`
abbrev pub IsLastRound : CaseData → serial.Rules → List Entry → List Entry → Type 0
IsLastRound c r before journal = (reach : Reaches) → AreReaches c.image reach → (n : ℕ) × (x : Run) × (y : Run) × (rounds c reach r n (at_start c) ≡ Some x) × (x.journal ≡ before) × (round c reach r x ≡ Some y) × (y.journal ≡ journal)

-- The run stopped after the round in which a write failed: each sink has the whole output, or, where its write failed, all
-- that was there before the round, a first part of what grew in it, and one fault more.
pub record StopsAfter (h : HallData Block) (r : Rules) (first second : Bool) (out err : Written) : Type 0 where
  pub failed : (first || second) ≡ true
  pub before : List Entry
  pub round : IsLastRound h.case (serial_rules r) before h.journal
  pub wrote_out : GainsSince first (length (both_of h.case before).machine.library.out1) out (machine h).library.out1
  pub wrote_err : GainsSince second (length (both_of h.case before).machine.library.out2) err (machine h).library.out2

-- Each sink has the whole output, or what a failed write left of it. Where memory was wanting each has a first part, and
-- no fault more.
abbrev pub OutputsAre : Ran → HallData Block → Rules → Written → Written → Type 0
OutputsAre Ended h r out err = Gains out (machine h).library.out1 × Gains err (machine h).library.out2
OutputsAre (Stopped first second) h r out err = StopsAfter h r first second out err
OutputsAre (Memory e) h r out err = HoldsPart out (machine h).library.out1 × HoldsPart err (machine h).library.out2

-- ---- one round of a run

-- the next round was made, and what grew in it was written, or a first part of it where a write failed
pub record WroteRound (old new : HallData Block) (guests after : List Guest) (r : Rules) (first second : Bool) (out err : Written) : Type 0 where
  pub made : TookRound old new guests after r
  pub wrote_out : GainsBy first out (drop (length (machine old).library.out1) (machine new).library.out1)
  pub wrote_err : GainsBy second err (drop (length (machine old).library.out2) (machine new).library.out2)

-- why a run stops after a round, if it does
abbrev pub RoundIs : Option Ran → HallData Block → HallData Block → List Guest → List Guest → Rules → Written → Written → Type 0
RoundIs None old new guests after r out err = WroteRound old new guests after r false false out err
RoundIs (Some Ended) old new guests after r out err = ⊥
RoundIs (Some (Stopped first second)) old new guests after r out err = ((first || second) ≡ true) × WroteRound old new guests after r first second out err
RoundIs (Some (Memory e)) old new guests after r out err = BeganRound old new guests r × Gains out [] × Gains err []
