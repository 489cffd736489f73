-- One round of a run, and the run up to there.
use Rattle.std.proofs.Common.{◌≡◌, ℕ, ◌-◌, ◌<◌, ◌≤◌, Bool, true, false, cond, List, [], ◌++◌, Option, Some, None, refl, sym, ap, ◌∙◌, subst, arith, length, length-append}
use Rattle.std.specs.Prelude.{◌||◌, is_some, map, replicate, drop}
use Rattle.std.specs.FinMap.{FinMap, get}
use Rattle.std.specs.Ordering.{nat_cmp}
use Rattle.std.proofs.lemmas.List.{append_assoc}
use Rattle.elf_image.specs.Layout.{ImageData}
use Rattle.ir_syntax.specs.declared.block.Block.{Block}
use Rattle.basic_blocks.specs.Reach.{is_among}
use Rattle.lift_table.specs.Block.{lifted_block}
use Rattle.journal_pack.specs.declared.entry.Entry.{Entry}
use Rattle.machine_model.specs.declared.ending.RunEnd.{RunEnd}
use Rattle.machine_model.specs.CaseData.{CaseData}
use Rattle.machine_model.specs.Comes.{both_of, walk_on}
use Rattle.machine_model.specs.Gated.{Both, Leads, begin, most_grown}
use Rattle.machine_model.specs.Serial.{IsSerial}
use Rattle.machine_model.specs.State.{start}
use Rattle.machine_model.proofs.Gates.{grows, halfway, leads_same}
use Rattle.machine_model.proofs.NamesDead.{serial_there}
use Rattle.hall_core.specs.Hall.{HallData, both, grown, machine}
use Rattle.guest_parts.specs.Running.{Rises}
use Rattle.thread_step.specs.declared.guest.Guest.{Guest}
use Rattle.thread_step.specs.declared.rules.Rules.{Rules}
use Rattle.thread_step.specs.Guest.{guest_ages}
use Rattle.guest_entries.specs.Steps.{instruction_steps, steps_from}
use Rattle.thread_step.specs.Turned.{serial_rules}
use Rattle.ir_runner.specs.declared.run.Ran.{Ran}
use Rattle.ir_runner.specs.declared.run.Ran.TheVariants.{Ended, Stopped, Memory}
use Rattle.ir_runner.specs.Outputs.{Gains, GainsBy, GainsSince, Written, written}
use Rattle.ir_runner.specs.Rounds.{AreGuests, BeganRound, HasRun, TookRound, run_of}
use Rattle.ir_runner.specs.Runs.{BeginsSerial, IsLastRound, JournalIs, OutputsAre, RoundIs, WroteRound}
use Rattle.ir_runner.proofs.Counting.{Grew}
use Rattle.ir_runner.proofs.JournalOutputs.{leads_write}
use Rattle.ir_runner.proofs.RowOutputs.{Grows}
use Rattle.ir_runner.proofs.Serials.{CanRun, InSerial, begins_serial, broken_begins, serial_begins, serial_ends, serial_on, took_adds}
use Rattle.ir_runner.proofs.Sinks.{gains_nothing, gains_on, gains_since, holds_on}

-- ---- one round

-- the outputs grew
pub round_grows : (old new : HallData Block) (guests after : List Guest) (r : Rules) → Leads old.case (begin old.case) old.journal (both old) → TookRound old new guests after r → Grows (machine old).library (machine new).library
round_grows old new guests after r leads t = let a = took_adds old new guests after r leads t in leads_write old.case (both old) (both new) a.more a.leads

longer_list : (old new more : List ℕ) → new ≡ old ++ more → length old ≤ length new
longer_list old new more e = let l = ap length e in let n = length-append old more in omega (arith, l, n)

pub first_within : (old new : HallData Block) (guests after : List Guest) (r : Rules) → Leads old.case (begin old.case) old.journal (both old) → TookRound old new guests after r → length (machine old).library.out1 ≤ length (machine new).library.out1
first_within old new guests after r leads t = let g = round_grows old new guests after r leads t in longer_list _ _ g.more1 g.out1

pub second_within : (old new : HallData Block) (guests after : List Guest) (r : Rules) → Leads old.case (begin old.case) old.journal (both old) → TookRound old new guests after r → length (machine old).library.out2 ≤ length (machine new).library.out2
second_within old new guests after r leads t = let g = round_grows old new guests after r leads t in longer_list _ _ g.more2 g.out2

pub round_is : (first second : Bool) (old new : HallData Block) (guests after : List Guest) (r : Rules) (out err : Written) → WroteRound old new guests after r first second out err → RoundIs (cond (first || second) (Some (Stopped first second)) None) old new guests after r out err
round_is true true old new guests after r out err w = (refl, w)
round_is true false old new guests after r out err w = (refl, w)
round_is false true old new guests after r out err w = (refl, w)
round_is false false old new guests after r out err w = w

-- ---- a run so far

-- the rounds so far are those of the serial order, and all that was written stands in the sinks
pub record SoFar {O E : Type 0} (faults : O → ℕ) (held : O → Option (List ℕ)) (faults_err : E → ℕ) (held_err : E → Option (List ℕ)) (start h : HallData Block) (mid : List Guest) (r : Rules) (out out_now : O) (err err_now : E) : Type 0 where
  pub case : h.case ≡ start.case
  pub are : (machine h).ending ≡ None → AreGuests h mid
  pub serial : InSerial h mid r
  pub wrote_out : Gains (written faults held out out_now) (machine h).library.out1
  pub wrote_err : Gains (written faults_err held_err err err_now) (machine h).library.out2

module _ {O E : Type 0} (faults : O → ℕ) (held : O → Option (List ℕ)) (faults_err : E → ℕ) (held_err : E → Option (List ℕ)) (start h new : HallData Block) (mid after : List Guest) (r : Rules) (out out_now out_new : O) (err err_now err_new : E) (few : length start.case.first ≤ most_grown) (turn : 0 < r.turn) (going : (machine h).ending ≡ None) (leads : Leads h.case (begin h.case) h.journal (both h)) (so : SoFar faults held faults_err held_err start h mid r out out_now err err_now) (case : new.case ≡ h.case) (after_leads : Leads new.case (begin new.case) new.journal (both new)) where
  can : CanRun h.case r
  can = record { few = subst (λ (c : CaseData). length c.first ≤ most_grown) (sym so.case) few; turn = turn }

  abbrev first_change : Written
  first_change = written faults held out_now out_new

  abbrev second_change : Written
  second_change = written faults_err held_err err_now err_new

  wrote_first : (failed : Bool) → TookRound h new mid after r → GainsBy failed first_change (drop (length (machine h).library.out1) (machine new).library.out1) → GainsBy failed (written faults held out out_new) (machine new).library.out1
  wrote_first failed t w = let g = round_grows h new mid after r leads t in gains_on faults held out out_now out_new (machine h).library.out1 (machine new).library.out1 g.more1 failed g.out1 so.wrote_out w

  wrote_second : (failed : Bool) → TookRound h new mid after r → GainsBy failed second_change (drop (length (machine h).library.out2) (machine new).library.out2) → GainsBy failed (written faults_err held_err err err_new) (machine new).library.out2
  wrote_second failed t w = let g = round_grows h new mid after r leads t in gains_on faults_err held_err err err_now err_new (machine h).library.out2 (machine new).library.out2 g.more2 failed g.out2 so.wrote_err w

  last_round : TookRound h new mid after r → IsLastRound new.case (serial_rules r) h.journal new.journal
  last_round t = subst (λ (c : CaseData). IsLastRound c (serial_rules r) h.journal new.journal) (sym case) (λ reach right. let n = so.serial.after reach right in (n.0, run_of h mid, run_of new after, n.1, refl, t reach right, refl))

  -- what was made of a round writes no less
  broken_grows : BeganRound h new mid r → Grows (machine h).library (machine new).library
  broken_grows b =
      let there : Leads h.case (begin h.case) (h.journal ++ b.grew.0) (both new) = subst (λ j. Leads h.case (begin h.case) j (both new)) b.grew.1 (subst (λ (c : CaseData). Leads c (begin c) new.journal (both new)) case after_leads) in
      let middle = halfway h.case (begin h.case) (both new) h.journal b.grew.0 there in
      let same : middle.middle ≡ both h = leads_same h.case (begin h.case) middle.middle (both h) h.journal middle.before leads in
      leads_write h.case (both h) (both new) b.grew.0 (subst (λ (x : Both). Leads h.case x b.grew.0 (both new)) same middle.after)

  pub on : WroteRound h new mid after r false false first_change second_change → ((machine new).ending ≡ None → AreGuests new after) → SoFar faults held faults_err held_err start new after r out out_new err err_new
  on w are = record {
    case = case ∙ so.case;
    are = are;
    serial = serial_on h new mid after r can so.serial going case w.made;
    wrote_out = wrote_first false w.made w.wrote_out;
    wrote_err = wrote_second false w.made w.wrote_err;
  }

  pub stops : (x : Ran) → RoundIs (Some x) h new mid after r first_change second_change → JournalIs x new r × OutputsAre x new r (written faults held out out_new) (written faults_err held_err err err_new)
  stops Ended w = absurd w
  stops (Stopped first second) w =
      let t = w.1.made in
      let g = round_grows h new mid after r leads t in (
        serial_begins new after r (subst (λ (c : CaseData). CanRun c r) (sym case) can) after_leads (serial_on h new mid after r can so.serial going case t),
        record {
          failed = w.0;
          before = h.journal;
          round = last_round t;
          wrote_out = subst (λ (c : CaseData). GainsSince first (length (both_of c h.journal).machine.library.out1) (written faults held out out_new) (machine new).library.out1) (sym case) (gains_since faults held out out_now out_new (machine h).library.out1 (machine new).library.out1 g.more1 first g.out1 so.wrote_out w.1.wrote_out);
          wrote_err = subst (λ (c : CaseData). GainsSince second (length (both_of c h.journal).machine.library.out2) (written faults_err held_err err err_new) (machine new).library.out2) (sym case) (gains_since faults_err held_err err err_now err_new (machine h).library.out2 (machine new).library.out2 g.more2 second g.out2 so.wrote_err w.1.wrote_err);
        },
      )
  stops (Memory e) w =
      let g = broken_grows w.0 in
      (broken_begins h new mid r can leads so.serial going case w.0, (holds_on faults held out out_now out_new (machine h).library.out1 (machine new).library.out1 g.more1 g.out1 so.wrote_out w.1, holds_on faults_err held_err err err_now err_new (machine h).library.out2 (machine new).library.out2 g.more2 g.out2 so.wrote_err w.2))

-- the whole run
pub ends : {O E : Type 0} (faults : O → ℕ) (held : O → Option (List ℕ)) (faults_err : E → ℕ) (held_err : E → Option (List ℕ)) (start h : HallData Block) (mid : List Guest) (r : Rules) (out out_now : O) (err err_now : E) → SoFar faults held faults_err held_err start h mid r out out_now err err_now → is_some (machine h).ending ≡ true → JournalIs Ended h r × OutputsAre Ended h r (written faults held out out_now) (written faults_err held_err err err_now)
ends faults held faults_err held_err start h mid r out out_now err err_now so ended = ((serial_ends h mid r so.serial ended, ended), (so.wrote_out, so.wrote_err))

-- ---- before the first round, and after the last

pub begins_so_far : {O E : Type 0} (faults : O → ℕ) (held : O → Option (List ℕ)) (faults_err : E → ℕ) (held_err : E → Option (List ℕ)) (h : HallData Block) (guests : List Guest) (r : Rules) (out : O) (err : E) → h.journal ≡ [] → AreGuests h guests → map guest_ages guests ≡ replicate 64 [] → SoFar faults held faults_err held_err h h guests r out out err err
unfolding both_of walk_on begin start
begins_so_far faults held faults_err held_err h guests r out err none are ages = record {
  case = refl;
  are = λ going. are;
  serial = begins_serial h guests r none ages;
  wrote_out = subst (Gains (written faults held out out)) (ap (λ j. (both_of h.case j).machine.library.out1) (sym none)) (gains_nothing faults held out);
  wrote_err = subst (Gains (written faults_err held_err err err)) (ap (λ j. (both_of h.case j).machine.library.out2) (sym none)) (gains_nothing faults_err held_err err);
}

pub none_end : (o : Option RunEnd) → is_some o ≡ false → o ≡ None
none_end None e = refl
none_end (Some x) e = absurd (let no : true ≡ false = e in cc)

-- a round adds to the journal
pub round_grew : (stop : Option Ran) (old new : HallData Block) (guests after : List Guest) (r : Rules) (out err : Written) → Leads old.case (begin old.case) old.journal (both old) → RoundIs stop old new guests after r out err → Grew old new
round_grew None old new guests after r out err leads w = let a = took_adds old new guests after r leads w.made in (a.more, a.journal)
round_grew (Some Ended) old new guests after r out err leads w = absurd w
round_grew (Some (Stopped first second)) old new guests after r out err leads w = let a = took_adds old new guests after r leads w.1.made in (a.more, a.journal)
round_grew (Some (Memory e)) old new guests after r out err leads w = w.0.grew

pub grew_on : (x y z : HallData Block) → Grew x y → Grew y z → Grew x z
grew_on x y z g h = (g.0 ++ h.0, h.1 ∙ ap (λ l. l ++ h.0) g.1 ∙ append_assoc x.journal g.0 h.0)

-- an empty journal is how the serial one begins
pub nothing_begins : (c : CaseData) (r : Rules) (journal : List Entry) → length c.first ≤ most_grown → 0 < r.turn → journal ≡ [] → BeginsSerial c (serial_rules r) journal
nothing_begins c r journal few turn none =
    let s = serial_there c (serial_rules r) few turn in
    (s.0, subst (λ j. IsSerial c (serial_rules r) (j ++ s.0)) (sym none) s.1)

-- at first the case's first places are grown
pub first_grown : (h : HallData Block) → h.journal ≡ [] → grown h ≡ h.case.first
unfolding both_of walk_on begin
first_grown h none = ap (λ j. (both_of h.case j).gate.grown) none

-- grown places stay grown
pub stays_grown : (old new : HallData Block) (a : ℕ) → old.journal ≡ [] → new.case ≡ old.case → Leads new.case (begin new.case) new.journal (both new) → is_among (grown old) a ≡ true → is_among (grown new) a ≡ true
unfolding begin
stays_grown old new a none case leads m = grows new.case (begin new.case) (both new) new.journal leads a (subst (λ (c : CaseData). is_among c.first a ≡ true) (sym case) (subst (λ l. is_among l a ≡ true) (first_grown old none) m))

there_by : (o : Option Block) (b : Block) → is_some o ≡ true → ((x : Block) → o ≡ Some x → x ≡ b) → o ≡ Some b
there_by None b e same = absurd (let no : false ≡ true = e in cc)
there_by (Some x) b e same = ap (λ y. Some y) (same x refl)

-- each block that was grown is the very same
pub blocks_stay : (image : ImageData) (old new : FinMap nat_cmp Block) (old_grown new_grown : List ℕ) → ((a : ℕ) (b : Block) → get old a ≡ Some b → b ≡ lifted_block image a) → ((a : ℕ) (b : Block) → get new a ≡ Some b → b ≡ lifted_block image a) → ((a : ℕ) → is_some (get old a) ≡ is_among old_grown a) → ((a : ℕ) → is_some (get new a) ≡ is_among new_grown a) → ((a : ℕ) → is_among old_grown a ≡ true → is_among new_grown a ≡ true) → (a : ℕ) (b : Block) → get old a ≡ Some b → get new a ≡ Some b
blocks_stay image old new old_grown new_grown lifted_old lifted_new there_old there_new stays a b e =
    let there : is_some (get new a) ≡ true = there_new a ∙ stays a (sym (there_old a) ∙ ap (λ o. is_some o) e) in
    there_by (get new a) b there (λ x q. lifted_new a x q ∙ sym (lifted_old a b e))

-- the engine's count over the whole run
pub whole_ran : (a b : ℕ) (x y : HallData Block) → x.journal ≡ [] → y.case ≡ x.case → HasRun a b x y → Rises a b (instruction_steps y.case y.journal)
unfolding steps_from
whole_ran a b x y none case h =
    let z : instruction_steps x.case x.journal ≡ 0 = ap (instruction_steps x.case) none in
    let n : instruction_steps x.case y.journal - instruction_steps x.case x.journal ≡ instruction_steps y.case y.journal = let e = ap (λ (c : CaseData). instruction_steps c y.journal) case in omega (arith, z, e) in
    subst (Rises a b) n h
