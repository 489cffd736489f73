-- Rounds, one after another, are those of the serial order.
use Rattle.std.proofs.Common.{◌≡◌, ℕ, zero, suc, ◌+◌, ◌*◌, ◌<◌, ◌≤◌, true, false, List, [], Option, Some, None, refl, sym, ap, ◌∙◌, subst, length, replicate}
use Rattle.std.specs.Prelude.{map, option_and_then, IsSome}
use Rattle.std.proofs.lemmas.Option.{none-some, option_and_then_some, same_Some}
use Rattle.ir_syntax.specs.declared.block.Block.{Block}
use Rattle.machine_model.specs.declared.ending.RunEnd.{RunEnd}
use Rattle.machine_model.specs.CaseData.{CaseData}
use Rattle.machine_model.specs.Comes.{both_of, walk_on}
use Rattle.machine_model.specs.Gated.{Leads, begin, most_grown}
use Rattle.machine_model.specs.Serial.{AreReaches, IsSerial, Reaches, Run, at_start, is_serial_by, round, rounds, rounds_on, serial_by}
use Rattle.machine_model.proofs.NamesDead.{serial_named}
use Rattle.machine_model.proofs.Reaches.{are_reaches, reach_of, serial_told}
use Rattle.machine_model.proofs.SerialGated.{spots_from}
use Rattle.machine_model.proofs.SerialRounds.{round_longer}
use Rattle.hall_core.specs.Hall.{HallData, both, machine}
use Rattle.thread_step.specs.declared.guest.Guest.{Guest}
use Rattle.thread_step.specs.declared.rules.Rules.{Rules}
use Rattle.thread_step.specs.Guest.{guest_ages}
use Rattle.thread_step.specs.Turned.{serial_rules}
use Rattle.ir_runner.specs.Rounds.{BeganRound, HasRound, TookRound, run_of}
use Rattle.ir_runner.specs.Runs.{BeginsSerial}
use Rattle.ir_runner.proofs.Following.{Adds, begins_on, round_adds, rounds_add}
use Rattle.ir_runner.proofs.Turns.{same_run}

-- what is left of the serial run is so many rounds from here at most
pub record InSerial (h : HallData Block) (guests : List Guest) (r : Rules) : Type 0 where
  pub after : (reach : Reaches) → AreReaches h.case.image reach → (n : ℕ) × (rounds h.case reach (serial_rules r) n (at_start h.case) ≡ Some (run_of h guests))
  pub left : (reach : Reaches) → AreReaches h.case.image reach → (n : ℕ) × (serial_by h.case reach (serial_rules r) ≡ rounds h.case reach (serial_rules r) n (run_of h guests))

-- what a run's case has to be like
pub record CanRun (c : CaseData) (r : Rules) : Type 0 where
  pub few : length c.first ≤ most_grown
  pub turn : 0 < r.turn

pub begins_serial : (h : HallData Block) (guests : List Guest) (r : Rules) → h.journal ≡ [] → map guest_ages guests ≡ replicate 64 [] → InSerial h guests r
unfolding both_of walk_on rounds
begins_serial h guests r none ages = record { after = λ reach right. (0, ap (λ (x : Run). Some x) (same_run (at_start h.case) (run_of h guests) (ap (both_of h.case) (sym none)) (sym none) (sym ages))); left = λ reach right. (2 * h.case.limit + 65537, ap (rounds h.case reach (serial_rules r) (2 * h.case.limit + 65537)) (same_run (at_start h.case) (run_of h guests) (ap (both_of h.case) (sym none)) (sym none) (sym ages))) }

some_not : {P : Type 0} (o : Option RunEnd) → IsSome o → o ≡ None → P
some_not None h e = absurd (let no : false ≡ true = h in cc)
some_not (Some x) h e = absurd (none-some x (sym e))

-- rounds, and one more
one_more_by : (c : CaseData) (reach : Reaches) (r : Rules) (n : ℕ) (a run : Run) (end : Option RunEnd) → a.both.machine.ending ≡ end → run.both.machine.ending ≡ None → rounds_on (λ x. option_and_then (rounds c reach (serial_rules r) n) (round c reach (serial_rules r) x)) a end ≡ Some run → (x : Run) × (a.both.machine.ending ≡ None) × (round c reach (serial_rules r) a ≡ Some x) × (rounds c reach (serial_rules r) n x ≡ Some run)
one_more_by c reach r n a run None e going p = option_and_then_some (rounds c reach (serial_rules r) n) (round c reach (serial_rules r) a) run p (λ x q w. (x, e, q, w))
one_more_by c reach r n a run (Some end) e going p = absurd (none-some end (sym going ∙ ap (λ (z : Run). z.both.machine.ending) (sym (same_Some a run p)) ∙ e))

one_round : (c : CaseData) (reach : Reaches) (r : Rules) (n : ℕ) (a x : Run) (to : Option Run) → a.both.machine.ending ≡ None → round c reach (serial_rules r) a ≡ Some x → rounds c reach (serial_rules r) n x ≡ to → rounds c reach (serial_rules r) (suc n) a ≡ to
unfolding rounds
one_round c reach r n a x to going p q = ap (rounds_on (λ y. option_and_then (rounds c reach (serial_rules r) n) (round c reach (serial_rules r) y)) a) going ∙ ap (option_and_then (rounds c reach (serial_rules r) n)) p ∙ q

one_round_more : (c : CaseData) (reach : Reaches) (r : Rules) (n : ℕ) (a run next : Run) → rounds c reach (serial_rules r) n a ≡ Some run → run.both.machine.ending ≡ None → round c reach (serial_rules r) run ≡ Some next → rounds c reach (serial_rules r) (suc n) a ≡ Some next
unfolding rounds
one_round_more c reach r zero a run next p going q =
    let same : a ≡ run = same_Some a run p in
    one_round c reach r 0 a next (Some next) (ap (λ (z : Run). z.both.machine.ending) same ∙ going) (ap (round c reach (serial_rules r)) same ∙ q) refl
one_round_more c reach r (suc n) a run next p going q =
    let h = one_more_by c reach r n a run a.both.machine.ending refl going p in
    one_round c reach r (suc n) a h.0 (Some next) h.1 h.2 (one_round_more c reach r n h.0 run next h.3 going q)

-- one round of them is left at least
record Left (c : CaseData) (reach : Reaches) (r : Rules) (run : Run) : Type 0 where
  final : Run
  rest : ℕ
  next : Run
  whole : serial_by c reach (serial_rules r) ≡ Some final
  same : serial_by c reach (serial_rules r) ≡ option_and_then (rounds c reach (serial_rules r) rest) (round c reach (serial_rules r) run)
  made : round c reach (serial_rules r) run ≡ Some next
  goes : rounds c reach (serial_rules r) rest next ≡ Some final

left_by : (c : CaseData) (reach : Reaches) (r : Rules) (n : ℕ) (run final : Run) → serial_by c reach (serial_rules r) ≡ Some final → IsSome final.both.machine.ending → serial_by c reach (serial_rules r) ≡ rounds c reach (serial_rules r) n run → run.both.machine.ending ≡ None → Left c reach r run
unfolding rounds
left_by c reach r zero run final whole ended p going = some_not final.both.machine.ending ended (ap (λ (x : Run). x.both.machine.ending) (sym (same_Some run final (sym p ∙ whole))) ∙ going)
left_by c reach r (suc n) run final whole ended p going =
    let on : Run → Option Run = λ x. option_and_then (rounds c reach (serial_rules r) n) (round c reach (serial_rules r) x) in
    let q : serial_by c reach (serial_rules r) ≡ on run = p ∙ ap (rounds_on on run) going in
    option_and_then_some (rounds c reach (serial_rules r) n) (round c reach (serial_rules r) run) final (sym q ∙ whole) (λ x a b.
    record { final = final; rest = n; next = x; whole = whole; same = q; made = a; goes = b })

left_of : (h : HallData Block) (guests : List Guest) (r : Rules) → CanRun h.case r → InSerial h guests r → (machine h).ending ≡ None → (reach : Reaches) → AreReaches h.case.image reach → Left h.case reach r (run_of h guests)
left_of h guests r can i going reach right =
    let s = serial_named h.case reach (serial_rules r) right can.few can.turn in
    let n = i.left reach right in
    left_by h.case reach r n.0 (run_of h guests) s.0 s.1 s.2 n.1 going

pub has_round : (h : HallData Block) (guests : List Guest) (r : Rules) → CanRun h.case r → InSerial h guests r → (machine h).ending ≡ None → HasRound h guests r
has_round h guests r can i going = λ reach right. let l = left_of h guests r can i going reach right in (l.next, l.made)

pub serial_on : (h new : HallData Block) (guests after : List Guest) (r : Rules) → CanRun h.case r → InSerial h guests r → (machine h).ending ≡ None → new.case ≡ h.case → TookRound h new guests after r → InSerial new after r
serial_on h new guests after r can i going case t = record {
  after = λ reach right.
      let here : AreReaches h.case.image reach = subst (λ (c : CaseData). AreReaches c.image reach) case right in
      let n = i.after reach here in
      let q : rounds h.case reach (serial_rules r) (suc n.0) (at_start h.case) ≡ Some (run_of new after) = one_round_more h.case reach r n.0 (at_start h.case) (run_of h guests) (run_of new after) n.1 going (t reach here) in
      (suc n.0, subst (λ (c : CaseData). rounds c reach (serial_rules r) (suc n.0) (at_start c) ≡ Some (run_of new after)) (sym case) q);
  left = λ reach right.
      let here : AreReaches h.case.image reach = subst (λ (c : CaseData). AreReaches c.image reach) case right in
      let l = left_of h guests r can i going reach here in
      let q : serial_by h.case reach (serial_rules r) ≡ rounds h.case reach (serial_rules r) l.rest (run_of new after) = l.same ∙ ap (option_and_then (rounds h.case reach (serial_rules r) l.rest)) (t reach here) in
      (l.rest, subst (λ (c : CaseData). serial_by c reach (serial_rules r) ≡ rounds c reach (serial_rules r) l.rest (run_of new after)) (sym case) q);
}

ended_rounds : (c : CaseData) (reach : Reaches) (r : Rules) (n : ℕ) (run : Run) (e : RunEnd) → run.both.machine.ending ≡ Some e → rounds c reach (serial_rules r) n run ≡ Some run
unfolding rounds
ended_rounds c reach r zero run e p = refl
ended_rounds c reach r (suc n) run e p = ap (rounds_on (λ x. option_and_then (rounds c reach (serial_rules r) n) (round c reach (serial_rules r) x)) run) p

an_end : (o : Option RunEnd) → IsSome o → (e : RunEnd) × (o ≡ Some e)
an_end None h = absurd (let no : false ≡ true = h in cc)
an_end (Some e) h = (e, refl)

-- a run with an ending is the whole
pub serial_ends : (h : HallData Block) (guests : List Guest) (r : Rules) → InSerial h guests r → IsSome (machine h).ending → IsSerial h.case (serial_rules r) h.journal
serial_ends h guests r i ended = λ reach right.
    let n = i.left reach right in
    let e = an_end (machine h).ending ended in
    let p : serial_by h.case reach (serial_rules r) ≡ Some (run_of h guests) = n.1 ∙ ended_rounds h.case reach r n.0 (run_of h guests) e.0 e.1 in
    subst (λ o. is_serial_by o h.journal) (sym p) refl

-- any run is how the whole begins
pub serial_begins : (h : HallData Block) (guests : List Guest) (r : Rules) → CanRun h.case r → Leads h.case (begin h.case) h.journal (both h) → InSerial h guests r → BeginsSerial h.case (serial_rules r) h.journal
serial_begins h guests r can leads i =
    let c = h.case in
    let reach = reach_of c.image in
    let right = are_reaches c.image in
    let s = serial_named c reach (serial_rules r) right can.few can.turn in
    let n = i.left reach right in
    let a = rounds_add c reach (serial_rules r) n.0 (run_of h guests) s.0 right (spots_from c (both h) h.journal leads) (sym n.1 ∙ s.1) in
    (a.more, subst (IsSerial c (serial_rules r)) a.journal (serial_told c reach (serial_rules r) s.0 right s.1))

pub broken_begins : (h new : HallData Block) (guests : List Guest) (r : Rules) → CanRun h.case r → Leads h.case (begin h.case) h.journal (both h) → InSerial h guests r → (machine h).ending ≡ None → new.case ≡ h.case → BeganRound h new guests r → BeginsSerial new.case (serial_rules r) new.journal
broken_begins h new guests r can leads i going case b =
    let c = h.case in
    let reach = reach_of c.image in
    let right = are_reaches c.image in
    let l = left_of h guests r can i going reach right in
    let one = round_adds c reach (serial_rules r) (run_of h guests) l.next right (spots_from c (both h) h.journal leads) l.made in
    let more = rounds_add c reach (serial_rules r) l.rest l.next l.final right one.spots l.goes in
    let w = begins_on c l.next l.final new.journal (b.begins reach l.next right l.made) more in
    subst (λ (k : CaseData). BeginsSerial k (serial_rules r) new.journal) (sym case) (w.0, subst (IsSerial c (serial_rules r)) w.1 (serial_told c reach (serial_rules r) l.final right l.whole))

-- what a round added
pub took_adds : (h new : HallData Block) (guests after : List Guest) (r : Rules) → Leads h.case (begin h.case) h.journal (both h) → TookRound h new guests after r → Adds h.case (run_of h guests) (run_of new after)
took_adds h new guests after r leads t = round_adds h.case (reach_of h.case.image) (serial_rules r) (run_of h guests) (run_of new after) (are_reaches h.case.image) (spots_from h.case (both h) h.journal leads) (t (reach_of h.case.image) (are_reaches h.case.image))

-- a round makes an entry
pub took_longer : (h new : HallData Block) (guests after : List Guest) (r : Rules) → Leads h.case (begin h.case) h.journal (both h) → TookRound h new guests after r → length h.journal + 1 ≤ length new.journal
took_longer h new guests after r leads t = round_longer h.case (reach_of h.case.image) (serial_rules r) (run_of h guests) (run_of new after) (are_reaches h.case.image) (spots_from h.case (both h) h.journal leads) (t (reach_of h.case.image) (are_reaches h.case.image))
