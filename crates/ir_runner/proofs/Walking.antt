-- A round slot by slot.
use Rattle.std.proofs.Common.{◌≡◌, ◌≢◌, ℕ, suc, ◌+◌, ◌-◌, ◌<◌, ◌≤◌, true, false, List, [], ◌∷◌, ◌++◌, inl, inr, Option, Some, None, refl, sym, ap, ◌∙◌, subst, arith, ◌==◌, ◌&&◌, ◌||◌, length}
use Rattle.std.specs.Prelude.{is_some, not, option_and_then, IsSome}
use Rattle.std.specs.List.{list_all, range_with_len}
use Rattle.std.proofs.lemmas.Bool.{cases_eq}
use Rattle.std.proofs.lemmas.Bool.Decides.{nat_tests}
use Rattle.std.proofs.lemmas.List.{append-nil, append_assoc}
use Rattle.std.proofs.lemmas.Option.{none-some, option_and_then_some, same_Some}
use Rattle.ir_syntax.specs.declared.block.Block.{Block}
use Rattle.journal_pack.specs.declared.entry.Entry.{Entry}
use Rattle.journal_pack.specs.declared.entry.Entry.TheVariants.{Dead}
use Rattle.lib_table.specs.declared.ask.Ask.{Ask}
use Rattle.lib_table.specs.declared.life.Life.{Life}
use Rattle.lib_table.specs.declared.life.Life.TheVariants.{Unborn, Live, Ended, Joined}
use Rattle.lib_table.specs.Library.{is_running, live_number, number_at, slot_at}
use Rattle.machine_model.specs.CaseData.{CaseData}
use Rattle.machine_model.specs.Comes.{both_of}
use Rattle.machine_model.specs.Gated.{Both, Leads, advance, begin}
use Rattle.machine_model.specs.Play.{walk}
use Rattle.machine_model.specs.Serial.{AreReaches, Reaches, Run, dead_if, one_turn, round, with_dead}
use Rattle.machine_model.specs.State.{slots, thread_in}
use Rattle.machine_model.specs.Step.{after_private, cpu_at, is_deadlocked, is_in_use, slot_in, step, step_from}
use Rattle.machine_model.proofs.Comes.{both_more}
use Rattle.machine_model.proofs.Costs.{came}
use Rattle.machine_model.proofs.Independence.{if_some}
use Rattle.machine_model.proofs.Reaches.{are_reaches, reach_of}
use Rattle.machine_model.proofs.SerialGated.{spots_from}
use Rattle.machine_model.proofs.Gates.{leads_on}
use Rattle.machine_model.proofs.Slots.{all_slots}
use Rattle.hall_core.specs.Hall.{HallData, both, is_dead, machine, mark_at}
use Rattle.thread_step.specs.declared.guest.Guest.{Guest}
use Rattle.thread_step.specs.declared.rules.Rules.{Rules}
use Rattle.thread_step.specs.Turned.{serial_rules}
use Rattle.ir_runner.specs.Rounds.{AreGuests, BeganRound, BeganTurn, HasRound, TookRound, TookTurn, run_of}
use Rattle.ir_runner.proofs.Following.{Adds, adds_length, adds_none, begins_on, dead_adds, turn_adds, walk_adds}

-- a round came to slot s: what is left of it is the walk over the slots from there
pub record Way (start now : HallData Block) (guests mid : List Guest) (r : Rules) (s : ℕ) : Type 0 where
  pub case : now.case ≡ start.case
  pub are : AreGuests now mid
  pub leads : Leads now.case (begin now.case) now.journal (both now)
  pub walk : (reach : Reaches) → AreReaches start.case.image reach → walk (one_turn start.case reach (serial_rules r)) (run_of start guests) slots ≡ walk (one_turn start.case reach (serial_rules r)) (run_of now mid) (range_with_len s (64 - s))
  pub longer : length start.journal ≤ length now.journal
  pub added : (entries : List Entry) × (now.journal ≡ start.journal ++ entries)
  pub same : length now.journal ≡ length start.journal → both now ≡ both start
  pub marked : (u t : ℕ) → length now.journal ≡ length start.journal → (machine now).ending ≡ None → u < s → thread_in (machine now) u ≡ Some t → IsSome (mark_at now u)

pub way_begins : (h : HallData Block) (guests : List Guest) (r : Rules) → AreGuests h guests → Leads h.case (begin h.case) h.journal (both h) → Way h h guests guests r 0
unfolding slots
way_begins h guests r are leads = record { case = refl; are = are; leads = leads; walk = λ reach right. refl; longer = omega arith; added = ([], sym (append-nil h.journal)); same = λ e. refl; marked = λ u t e going lt. absurd (omega (arith, lt)) }

from_next : (s : ℕ) → s < 64 → range_with_len s (64 - s) ≡ s ∷ range_with_len (s + 1) (64 - (s + 1))
from_next s lt = let n : 64 - s ≡ suc (64 - (s + 1)) = omega (arith, lt) in ap (range_with_len s) n

walk_next : (f : Run → ℕ → Option Run) (run next : Run) (s : ℕ) (es : List ℕ) → f run s ≡ Some next → walk f run (s ∷ es) ≡ walk f next es
unfolding walk
walk_next f run next s es p = ap (option_and_then (λ x. walk f x es)) p

spots_of : (h : HallData Block) (guests : List Guest) → Leads h.case (begin h.case) h.journal (both h) → length (run_of h guests).both.gate.spots ≡ 64
spots_of h guests leads = spots_from h.case (both h) h.journal leads

grown_on : (a b c : List Entry) → (xs : List Entry) × (b ≡ a ++ xs) → (ys : List Entry) × (c ≡ b ++ ys) → (zs : List Entry) × (c ≡ a ++ zs)
grown_on a b c x y = (x.0 ++ y.0, y.1 ∙ ap (λ l. l ++ y.0) x.1 ∙ append_assoc a x.0 y.0)

-- what the turn of a slot added
pub took_adds : (now new : HallData Block) (mid after : List Guest) (r : Rules) (s : ℕ) → Leads now.case (begin now.case) now.journal (both now) → TookTurn now new mid after r s → Adds now.case (run_of now mid) (run_of new after)
took_adds now new mid after r s leads t = turn_adds now.case (reach_of now.case.image) (serial_rules r) (run_of now mid) (run_of new after) s (are_reaches now.case.image) (spots_of now mid leads) (t.turn (reach_of now.case.image) (are_reaches now.case.image))

marked_on : (now new : HallData Block) (s u t : ℕ) → both now ≡ both new → ((v : ℕ) → v ≢ s → mark_at new v ≡ mark_at now v) → ((v t : ℕ) → v < s → thread_in (machine now) v ≡ Some t → IsSome (mark_at now v)) → ((t : ℕ) → thread_in (machine new) s ≡ Some t → IsSome (mark_at new s)) → u < s + 1 → thread_in (machine new) u ≡ Some t → IsSome (mark_at new u)
marked_on now new s u t same others before here lt lives =
    elim (cases_eq u s) [
      | inl is ↦ subst (λ v. IsSome (mark_at new v)) (sym is) (here t (subst (λ v. thread_in (machine new) v ≡ Some t) is lives))
      | inr ne ↦ subst IsSome (sym (others u ne)) (before u t (omega (arith, lt, ne)) (ap (λ (b : Both). thread_in b.machine u) same ∙ lives))
    ]

pub way_on : (start now new : HallData Block) (guests mid after : List Guest) (r : Rules) (s : ℕ) → s < 64 → new.case ≡ now.case → TookTurn now new mid after r s → ((u : ℕ) → u ≢ s → mark_at new u ≡ mark_at now u) → Way start now guests mid r s → Way start new guests after r (s + 1)
way_on start now new guests mid after r s lt case t marks w =
    let a = took_adds now new mid after r s w.leads t in
    let more = adds_length now.case (run_of now mid) (run_of new after) a in
    let began = w.longer in
    let whole : Leads now.case (begin now.case) new.journal (both new) = subst (λ j. Leads now.case (begin now.case) j (both new)) (sym a.journal) (leads_on now.case (begin now.case) (both now) (both new) now.journal a.more w.leads a.leads) in
    record {
      case = case ∙ w.case;
      are = t.ready;
      leads = subst (λ (c : CaseData). Leads c (begin c) new.journal (both new)) (sym case) whole;
      walk = λ reach right.
          let one : one_turn start.case reach (serial_rules r) (run_of now mid) s ≡ Some (run_of new after) = subst (λ (c : CaseData). one_turn c reach (serial_rules r) (run_of now mid) s ≡ Some (run_of new after)) w.case (t.turn reach (subst (λ (c : CaseData). AreReaches c.image reach) (sym w.case) right)) in
          w.walk reach right ∙ ap (walk (one_turn start.case reach (serial_rules r)) (run_of now mid)) (from_next s lt) ∙ walk_next (one_turn start.case reach (serial_rules r)) (run_of now mid) (run_of new after) s (range_with_len (s + 1) (64 - (s + 1))) one;
      longer = omega (arith, more, began);
      added = grown_on start.journal now.journal new.journal w.added (a.more, a.journal);
      same = λ e.
          let still : length new.journal ≡ length now.journal = omega (arith, more, began, e) in
          sym (adds_none now.case (run_of now mid) (run_of new after) a still) ∙ w.same (sym still ∙ e);
      marked = λ u t1 e going below lives.
          let still : length new.journal ≡ length now.journal = omega (arith, more, began, e) in
          let unmoved : both now ≡ both new = adds_none now.case (run_of now mid) (run_of new after) a still in
          let goes : (machine now).ending ≡ None = ap (λ (b : Both). b.machine.ending) unmoved ∙ going in
          marked_on now new s u t1 unmoved marks (λ v t2 lt2 q. w.marked v t2 (sym still ∙ e) goes lt2 q) (λ t2 q. t.marked t2 still going q) below lives;
    }

-- memory was wanting in the turn of a slot
pub way_breaks : (start now new : HallData Block) (guests mid : List Guest) (r : Rules) (s : ℕ) → s < 64 → BeganTurn now new mid r s → Way start now guests mid r s → BeganRound start new guests r
unfolding round walk
way_breaks start now new guests mid r s lt b w = record {
  grew = grown_on start.journal now.journal new.journal w.added b.grew;
  begins = λ reach x right p.
      let c = start.case in
      let f = one_turn c reach (serial_rules r) in
      let spots = spots_of now mid w.leads in
      option_and_then_some (λ (after : Run). dead_if c after (length after.journal == length start.journal)) (walk f (run_of start guests) slots) x p (λ after q d.
      let left : walk f (run_of now mid) (s ∷ range_with_len (s + 1) (64 - (s + 1))) ≡ Some after = ap (walk f (run_of now mid)) (sym (from_next s lt)) ∙ sym (w.walk reach right) ∙ q in
      option_and_then_some (λ y. walk f y (range_with_len (s + 1) (64 - (s + 1)))) (f (run_of now mid) s) after left (λ y one rest.
      let first = turn_adds c reach (serial_rules r) (run_of now mid) y s right spots one in
      let second = walk_adds c reach (serial_rules r) y after (range_with_len (s + 1) (64 - (s + 1))) right first.spots rest in
      let third = dead_adds c after x (length after.journal == length start.journal) second.spots d in
      let began = b.begins reach y (subst (λ (k : CaseData). AreReaches k.image reach) (sym w.case) right) (subst (λ (k : CaseData). one_turn k reach (serial_rules r) (run_of now mid) s ≡ Some y) (sym w.case) one) in
      begins_on c after x new.journal (begins_on c y after new.journal began second) third));
}

not_same : (a b : ℕ) → a ≢ b → (a == b) ≡ false
not_same a b ne = grind (arith, nat_tests)

same_test : (a b : ℕ) → a ≡ b → (a == b) ≡ true
same_test a b e = grind (arith, nat_tests)

-- the whole walk
walked : (start now : HallData Block) (guests mid : List Guest) (r : Rules) → Way start now guests mid r 64 → (reach : Reaches) → AreReaches start.case.image reach → walk (one_turn start.case reach (serial_rules r)) (run_of start guests) slots ≡ Some (run_of now mid)
unfolding walk
walked start now guests mid r w reach right = w.walk reach right

-- a round in which an entry was made
pub way_ends : (start now : HallData Block) (guests mid : List Guest) (r : Rules) → Way start now guests mid r 64 → length now.journal ≢ length start.journal → TookRound start now guests mid r
unfolding round
way_ends start now guests mid r w ne = λ reach right.
    let c = start.case in
    ap (option_and_then (λ (after : Run). dead_if c after (length after.journal == length start.journal))) (walked start now guests mid r w reach right)
    ∙ ap (dead_if c (run_of now mid)) (not_same (length now.journal) (length start.journal) ne)

-- ---- a round in which none was

dead_by : (run x : Run) (o : Option Both) → with_dead run o ≡ Some x → (n : Both) × (o ≡ Some n)
dead_by run x None p = absurd (none-some x p)
dead_by run x (Some n) p = (n, refl)

-- the run ends
pub record Stuck (now : HallData Block) : Type 0 where
  pub next : Both
  pub comes : advance now.case (both now) Dead ≡ Some next

pub way_stuck : (start now : HallData Block) (guests mid : List Guest) (r : Rules) → Way start now guests mid r 64 → length now.journal ≡ length start.journal → HasRound start guests r → Stuck now
unfolding round
way_stuck start now guests mid r w e has =
    let c = start.case in
    let reach = reach_of c.image in
    let right = are_reaches c.image in
    let h = has reach right in
    let d : dead_if c (run_of now mid) true ≡ Some h.0 = sym (ap (option_and_then (λ (after : Run). dead_if c after (length after.journal == length start.journal))) (walked start now guests mid r w reach right) ∙ ap (dead_if c (run_of now mid)) (same_test (length now.journal) (length start.journal) e)) ∙ h.1 in
    let n = dead_by (run_of now mid) h.0 (advance c (both now) Dead) d in
    record { next = n.0; comes = subst (λ (k : CaseData). advance k (both now) Dead ≡ Some n.0) (sym w.case) n.1 }

deadlocked : (c : CaseData) (b n : Both) → advance c b Dead ≡ Some n → is_deadlocked c.image b.machine ≡ true
unfolding step
deadlocked c b n p =
    let q = if_some _ _ n.machine (came c b n Dead p).stepped in
    option_and_then_some (step_from c b.machine Dead) (after_private c.image 0 (cpu_at b.machine (slot_in Dead))) n.machine q.1 (λ cpu v w. (if_some (is_deadlocked c.image b.machine) _ n.machine w).0)

marked_by : (number : ℕ) (life : Life) (mark : Option Ask) → ((t : ℕ) → live_number number life ≡ Some t → IsSome mark) → (not (is_running life) || is_some mark) ≡ true
marked_by number Unborn mark h = refl
marked_by number (Live a b) mark h = h number refl
marked_by number (Ended v) mark h = refl
marked_by number Joined mark h = refl

pub way_dead : (start now : HallData Block) (guests mid : List Guest) (r : Rules) → Way start now guests mid r 64 → length now.journal ≡ length start.journal → (machine start).ending ≡ None → Stuck now → is_dead now ≡ true
way_dead start now guests mid r w e going stuck =
    let goes : (machine now).ending ≡ None = ap (λ (b : Both). b.machine.ending) (w.same e) ∙ going in
    let all : list_all (λ s. not (is_in_use (machine now).library s) || is_some (mark_at now s)) slots ≡ true = all_slots (λ s. not (is_in_use (machine now).library s) || is_some (mark_at now s)) (λ u lt. marked_by (number_at (machine now).library u) (slot_at (machine now).library u).life (mark_at now u) (λ t q. w.marked u t e goes lt q)) in
    ap (λ b. b && is_deadlocked now.case.image (machine now)) all ∙ deadlocked now.case (both now) stuck.next stuck.comes

same_run : (x y : Run) → x.both ≡ y.both → x.journal ≡ y.journal → x.ages ≡ y.ages → x ≡ y
same_run x y p q a = ap (λ (b : Both). record { both = b; journal = x.journal; ages = x.ages }) p ∙ ap (λ (j : List Entry). record { both = y.both; journal = j; ages = x.ages }) q ∙ ap (λ (l : List (List ℕ)). record { both = y.both; journal = y.journal; ages = l }) a

pub way_ended : (start now new : HallData Block) (guests mid : List Guest) (r : Rules) → Way start now guests mid r 64 → length now.journal ≡ length start.journal → Stuck now → new.case ≡ now.case → new.journal ≡ now.journal ++ Dead ∷ [] → TookRound start new guests mid r
unfolding round
way_ended start now new guests mid r w e stuck case journal = λ reach right.
    let c = start.case in
    let comes : advance c (both now) Dead ≡ Some stuck.next = subst (λ (k : CaseData). advance k (both now) Dead ≡ Some stuck.next) w.case stuck.comes in
    let there : both_of now.case (now.journal ++ Dead ∷ []) ≡ stuck.next = both_more now.case now.journal Dead stuck.next stuck.comes in
    let after : both new ≡ stuck.next = ap (λ (k : CaseData). both_of k new.journal) case ∙ ap (both_of now.case) journal ∙ there in
    let last : Run = record { both = stuck.next; journal = now.journal ++ Dead ∷ []; ages = (run_of now mid).ages } in
    ap (option_and_then (λ (x : Run). dead_if c x (length x.journal == length start.journal))) (walked start now guests mid r w reach right)
    ∙ ap (dead_if c (run_of now mid)) (same_test (length now.journal) (length start.journal) e)
    ∙ ap (with_dead (run_of now mid)) comes
    ∙ ap (λ (x : Run). Some x) (same_run last (run_of new mid) (sym after) (sym journal) refl)

-- what was made when memory for the last entry was wanting
pub way_lacks : (start now new : HallData Block) (guests mid : List Guest) (r : Rules) → Way start now guests mid r 64 → new.journal ≡ now.journal → BeganRound start new guests r
unfolding round
way_lacks start now new guests mid r w journal = record {
  grew = (w.added.0, journal ∙ w.added.1);
  begins = λ reach x right p.
      let c = start.case in
      option_and_then_some (λ (after : Run). dead_if c after (length after.journal == length start.journal)) (walk (one_turn c reach (serial_rules r)) (run_of start guests) slots) x p (λ after q d.
      let same : run_of now mid ≡ after = same_Some (run_of now mid) after (sym (walked start now guests mid r w reach right) ∙ q) in
      let spots : length after.both.gate.spots ≡ 64 = subst (λ (y : Run). length y.both.gate.spots ≡ 64) same (spots_of now mid w.leads) in
      let a = dead_adds c after x (length after.journal == length start.journal) spots d in
      (a.more, a.journal ∙ ap (λ (y : Run). y.journal ++ a.more) (sym same) ∙ ap (λ j. j ++ a.more) (sym journal)));
}
