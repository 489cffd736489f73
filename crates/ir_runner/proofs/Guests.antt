-- What the turn of a guest is, by its answer.
use Rattle.std.proofs.Common.{◌≡◌, ◌≢◌, ℕ, ◌<◌, List, [], ◌++◌, Option, Some, None, refl, sym, ap, ◌∙◌, subst, length}
use Rattle.std.specs.Prelude.{IsSome}
use Rattle.std.proofs.lemmas.List.{append-nil}
use Rattle.ir_syntax.specs.declared.block.Block.{Block}
use Rattle.journal_pack.specs.declared.entry.Entry.{Entry}
use Rattle.machine_model.specs.declared.ending.RunEnd.{RunEnd}
use Rattle.machine_model.specs.Gated.{Leads, Stand, begin, gated_steps, stand_at}
use Rattle.machine_model.specs.Own.{IsAhead}
use Rattle.machine_model.specs.Serial.{AreReaches, Point, Reaches, Run, Turn, turn}
use Rattle.machine_model.specs.State.{thread_in}
use Rattle.machine_model.proofs.Reaches.{are_reaches, reach_of}
use Rattle.machine_model.proofs.SerialGated.{spots_from, turn_follows}
use Rattle.hall_core.specs.Hall.{HallData, both, machine, mark_at}
use Rattle.thread_step.specs.declared.guest.Guest.{Guest}
use Rattle.thread_step.specs.declared.rules.Rules.{Rules}
use Rattle.thread_step.specs.declared.rules.Turned.{Turned}
use Rattle.thread_step.specs.declared.rules.Turned.TheVariants.{Ran, Waiting, Ended, Idle, Memory}
use Rattle.thread_step.specs.Alone.{InRun, IsAt, IsOneTurn, TakesTurn}
use Rattle.thread_step.specs.Guest.{IsLeft, IsReady, guest_slot, private_steps}
use Rattle.thread_step.specs.Turned.{serial_rules}
use Rattle.ir_runner.proofs.Quiet.{turn_works}
use Rattle.ir_runner.proofs.Turns.{GuestTurn, IsDone}

done_run : (x : Turned) (reach : Reaches) (r : Rules) (run : Run) (old new : HallData Block) (g after : Guest) → IsDone x → InRun x reach r run old new g after → IsOneTurn reach r run old new g after
done_run Ran reach r run old new g after done h = h
done_run Waiting reach r run old new g after done h = h
done_run Ended reach r run old new g after done h = h
done_run Idle reach r run old new g after done h = h
done_run (Memory e) reach r run old new g after done h = absurd done

-- a serial turn adds to the journal
turn_grew : (old : HallData Block) (r : Rules) (t : ℕ) (p : Point) (s x : Turn) → length s.both.gate.spots ≡ 64 → turn old.case (reach_of old.case.image) (serial_rules r) t p s ≡ Some x → (entries : List Entry) × (x.journal ≡ s.journal ++ entries)
turn_grew old r t p s x spots e = let f = turn_follows old.case (reach_of old.case.image) (serial_rules r) t p s x (are_reaches old.case.image) spots e in (f.more, sym f.added)

module _ (result : Turned) (old new : HallData Block) (g after : Guest) (r : Rules) (leads : Leads old.case (begin old.case) old.journal (both old)) (some : 0 < r.turn) (no_steps : (machine old).ending ≡ None → private_steps g ≡ 0) (ended : IsSome (machine old).ending → (result ≡ Ended) × (new ≡ old) × (after ≡ g)) (idle : (machine old).ending ≡ None → thread_in (machine old) (guest_slot g) ≡ None → (result ≡ Idle) × (new ≡ old) × (after ≡ g)) (takes : (t : ℕ) (d : Stand) → (machine old).ending ≡ None → thread_in (machine old) (guest_slot g) ≡ Some t → IsAhead old.case (both old) (guest_slot g) (private_steps g) d → TakesTurn result old new t r g after d) where
  here : Stand
  here = stand_at (both old) (guest_slot g)

  ahead : (machine old).ending ≡ None → IsAhead old.case (both old) (guest_slot g) (private_steps g) here
  unfolding here gated_steps
  ahead going = ap (λ k. gated_steps old.case.image (both old).gate.grown k (stand_at (both old) (guest_slot g))) (no_steps going)

  spots : length (both old).gate.spots ≡ 64
  spots = spots_from old.case (both old) old.journal leads

  -- the run had an ending, no thread lived in the slot, or the turn of one was made
  by_who : {P : Type 0} (who : Option ℕ) → (machine old).ending ≡ None → thread_in (machine old) (guest_slot g) ≡ who → ((machine old).ending ≡ None → thread_in (machine old) (guest_slot g) ≡ None → P) → ((t : ℕ) → TakesTurn result old new t r g after here → P) → P
  by_who None going e none one = none going e
  by_who (Some t) going e none one = one t (takes t here going e (ahead going))

  by_end : {P : Type 0} (end : Option RunEnd) → (machine old).ending ≡ end → (IsSome (machine old).ending → P) → ((machine old).ending ≡ None → thread_in (machine old) (guest_slot g) ≡ None → P) → ((t : ℕ) → TakesTurn result old new t r g after here → P) → P
  by_end None e over none one = by_who (thread_in (machine old) (guest_slot g)) e refl none one
  by_end (Some x) e over none one = over (subst IsSome (sym e) refl)

  cases : {P : Type 0} → (IsSome (machine old).ending → P) → ((machine old).ending ≡ None → thread_in (machine old) (guest_slot g) ≡ None → P) → ((t : ℕ) → TakesTurn result old new t r g after here → P) → P
  cases over none one = by_end (machine old).ending refl over none one

  ends : result ≡ Ended → IsSome (machine new).ending
  ends is = cases
      (λ e. subst (λ (h : HallData Block). IsSome (machine h).ending) (sym (ended e).1) e)
      (λ going e. absurd (let no : Ended ≡ Idle = sym is ∙ (idle going e).0 in cc))
      (λ t h. let q = subst (λ x. TakesTurn x old new t r g after here) is h in q.ended)

  idle_by : result ≡ Idle → (thread_in (machine old) (guest_slot g) ≡ None) × (new ≡ old) × (after ≡ g)
  idle_by is = cases
      (λ e. absurd (let no : Idle ≡ Ended = sym is ∙ (ended e).0 in cc))
      (λ going e. (e, (idle going e).1, (idle going e).2))
      (λ t h. absurd (subst (λ x. TakesTurn x old new t r g after here) is h))

  same_grew : new ≡ old → (entries : List Entry) × (new.journal ≡ old.journal ++ entries)
  same_grew e = ([], ap (λ (h : HallData Block). h.journal) e ∙ sym (append-nil old.journal))

  grew_by : (x : Turned) (t : ℕ) → TakesTurn x old new t r g after here → (entries : List Entry) × (new.journal ≡ old.journal ++ entries)
  grew_by Ran t h = turn_grew old r t _ _ _ spots (h.turn (reach_of old.case.image) (are_reaches old.case.image))
  grew_by Waiting t h = turn_grew old r t _ _ _ spots (h.turn (reach_of old.case.image) (are_reaches old.case.image))
  grew_by Ended t h = turn_grew old r t _ _ _ spots (h.turn (reach_of old.case.image) (are_reaches old.case.image))
  grew_by Idle t h = absurd h
  grew_by (Memory e) t h = (h.adds.entries, h.adds.journal)

  grew : (entries : List Entry) × (new.journal ≡ old.journal ++ entries)
  grew = cases (λ e. same_grew (ended e).1) (λ going e. same_grew (idle going e).1) (λ t h. grew_by result t h)

  worked : result ≡ Ran → length old.journal < length new.journal
  worked is = cases
      (λ e. absurd (let no : Ran ≡ Ended = sym is ∙ (ended e).0 in cc))
      (λ going e. absurd (let no : Ran ≡ Idle = sym is ∙ (idle going e).0 in cc))
      (λ t h. let q = subst (λ x. TakesTurn x old new t r g after here) is h in turn_works old.case (reach_of old.case.image) (serial_rules r) t _ _ _ (are_reaches old.case.image) spots some (q.turn (reach_of old.case.image) (are_reaches old.case.image)) refl)

  pub guest_turn : guest_slot after ≡ guest_slot g → ((reach : Reaches) (run : Run) → AreReaches old.case.image reach → IsAt run old g → private_steps g ≡ 0 → InRun result reach r run old new g after) → IsLeft result new after → ((x : Guest) → guest_slot x ≢ guest_slot g → IsReady old x → IsReady new x) → (result ≡ Ran → private_steps after ≡ 0) × (result ≡ Waiting → private_steps after ≡ 0) → (result ≡ Waiting → IsSome (mark_at new (guest_slot g))) → GuestTurn result old new g after r
  guest_turn slot in_run ready others told marked = record {
    slot = slot;
    ended = ended;
    ends = ends;
    idle = idle_by;
    serial = λ reach run right at_run none done. done_run result reach r run old new g after done (in_run reach run right at_run none);
    broken = λ reach run next e right at_run none is p. subst (λ x. InRun x reach r run old new g after) is (in_run reach run right at_run none) next p;
    ready = ready;
    others = others;
    told = told;
    worked = worked;
    grew = grew;
    marked = marked;
  }
