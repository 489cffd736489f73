-- The turn of a slot, by what the turn of its guest is.
use Rattle.std.proofs.Common.{◌≡◌, ◌≢◌, ℕ, ◌<◌, true, false, List, [], ◌++◌, inl, inr, Option, Some, None, refl, sym, ap, ◌∙◌, subst, arith, length, length-set}
use Rattle.std.specs.Prelude.{get_or, map, slice_set, IsSome, ⊤}
use Rattle.std.specs.declared.alloc.AllocError.{AllocError}
use Rattle.std.proofs.lemmas.Bool.{cases_eq}
use Rattle.std.proofs.lemmas.List.{ext_get_or, get_or-map, get_or-set_other, get_or-set_same, length-map, map-set, set-get_or}
use Rattle.std.proofs.lemmas.Option.{none-some}
use Rattle.ir_syntax.specs.declared.block.Block.{Block}
use Rattle.journal_pack.specs.declared.entry.Entry.{Entry}
use Rattle.machine_model.specs.declared.ending.RunEnd.{RunEnd}
use Rattle.machine_model.specs.Gated.{Both}
use Rattle.machine_model.specs.Serial.{AreReaches, Reaches, Run, one_turn, turn_unless}
use Rattle.machine_model.specs.State.{thread_in}
use Rattle.hall_core.specs.Hall.{HallData, machine, mark_at}
use Rattle.thread_step.specs.declared.guest.Guest.{Guest}
use Rattle.thread_step.specs.declared.rules.Rules.{Rules}
use Rattle.thread_step.specs.declared.rules.Turned.{Turned}
use Rattle.thread_step.specs.declared.rules.Turned.TheVariants.{Ran, Waiting, Ended, Idle, Memory}
use Rattle.thread_step.specs.Alone.{IsAt, IsOneTurn}
use Rattle.thread_step.specs.Guest.{IsLeft, IsReady, guest_ages, guest_slot, private_steps}
use Rattle.thread_step.specs.Turned.{serial_rules}
use Rattle.ir_runner.specs.Rounds.{AreGuests, BeganTurn, IsGuestOf, TookTurn, run_of}

pub same_run : (x y : Run) → x.both ≡ y.both → x.journal ≡ y.journal → x.ages ≡ y.ages → x ≡ y
same_run x y p q a = ap (λ (b : Both). record { both = b; journal = x.journal; ages = x.ages }) p ∙ ap (λ (j : List Entry). record { both = y.both; journal = j; ages = x.ages }) q ∙ ap (λ (l : List (List ℕ)). record { both = y.both; journal = y.journal; ages = l }) a

-- an answer for which memory wasn't wanting
abbrev pub IsDone : Turned → Type 0
IsDone Ran = ⊤
IsDone Waiting = ⊤
IsDone Ended = ⊤
IsDone Idle = ⊤
IsDone (Memory e) = ⊥

-- what the turn of the guest is, by its answer
pub record GuestTurn (result : Turned) (old new : HallData Block) (g after : Guest) (r : Rules) : Type 0 where
  pub slot : guest_slot after ≡ guest_slot g
  pub ended : IsSome (machine old).ending → (result ≡ Ended) × (new ≡ old) × (after ≡ g)
  pub ends : result ≡ Ended → IsSome (machine new).ending
  pub idle : result ≡ Idle → (thread_in (machine old) (guest_slot g) ≡ None) × (new ≡ old) × (after ≡ g)
  pub serial : (reach : Reaches) (run : Run) → AreReaches old.case.image reach → IsAt run old g → private_steps g ≡ 0 → IsDone result → IsOneTurn reach r run old new g after
  pub broken : (reach : Reaches) (run next : Run) (e : AllocError) → AreReaches old.case.image reach → IsAt run old g → private_steps g ≡ 0 → result ≡ Memory e → one_turn old.case reach (serial_rules r) run (guest_slot g) ≡ Some next → (rest : List Entry) × (next.journal ≡ new.journal ++ rest)
  pub ready : IsLeft result new after
  pub others : (x : Guest) → guest_slot x ≢ guest_slot g → IsReady old x → IsReady new x
  pub told : (result ≡ Ran → private_steps after ≡ 0) × (result ≡ Waiting → private_steps after ≡ 0)
  pub worked : result ≡ Ran → length old.journal < length new.journal
  pub grew : (entries : List Entry) × (new.journal ≡ old.journal ++ entries)
  pub marked : result ≡ Waiting → IsSome (mark_at new (guest_slot g))

-- while the run goes on it went on before
went_on : (old new : HallData Block) (end : Option RunEnd) → (machine old).ending ≡ end → (IsSome end → new ≡ old) → (machine new).ending ≡ None → (machine old).ending ≡ None
went_on old new None e same going = e
went_on old new (Some x) e same going = absurd (none-some x (sym going ∙ ap (λ (h : HallData Block). (machine h).ending) (same refl) ∙ e))

clash : {P : Type 0} (o : Option RunEnd) → IsSome o → o ≡ None → P
clash None h e = absurd (let no : false ≡ true = h in cc)
clash (Some x) h e = absurd (none-some x (sym e))

module _ (old new : HallData Block) (guests : List Guest) (g after : Guest) (r : Rules) (s : ℕ) (low : s < 64) (are : AreGuests old guests) (is : g ≡ get_or guests s g) where
  within : s < length guests
  within = let n = are.count in omega (arith, low, n)

  own : IsGuestOf old s g
  own = subst (IsGuestOf old s) (sym is) (are.each s g low)

  abbrev run : Run
  run = run_of old guests

  there : IsAt run old g
  there = record {
    both = refl;
    journal = refl;
    count = length-map guests guest_ages ∙ are.count;
    ages = ap (λ i. get_or (map guest_ages guests) i []) own.slot ∙ get_or-map guest_ages guests s g [] within ∙ ap guest_ages (sym is);
  }

  module _ (result : Turned) (t : GuestTurn result old new g after r) where
    abbrev pub put : List Guest
    put = slice_set guests s after

    going_before : (machine new).ending ≡ None → (machine old).ending ≡ None
    going_before going = went_on old new (machine old).ending refl (λ q. (t.ended q).1) going

    after_slot : guest_slot after ≡ s
    after_slot = t.slot ∙ own.slot

    told_before : (machine new).ending ≡ None → private_steps g ≡ 0
    told_before going = own.told (going_before going)

    told_by : (x : Turned) → result ≡ x → IsDone x → (machine new).ending ≡ None → private_steps after ≡ 0
    told_by Ran e done going = t.told.0 e
    told_by Waiting e done going = t.told.1 e
    told_by Ended e done going = clash (machine new).ending (t.ends e) going
    told_by Idle e done going = ap private_steps (t.idle e).2 ∙ told_before going
    told_by (Memory x) e done going = absurd done

    ready_by : (x : Turned) → result ≡ x → IsDone x → IsReady new after
    ready_by Ran e done = subst (λ y. IsLeft y new after) e t.ready
    ready_by Waiting e done = subst (λ y. IsLeft y new after) e t.ready
    ready_by Ended e done = subst (λ y. IsLeft y new after) e t.ready
    ready_by Idle e done = subst (λ y. IsLeft y new after) e t.ready
    ready_by (Memory x) e done = absurd done

    one_after : IsDone result → (u : ℕ) (d : Guest) → u < 64 → IsGuestOf new u (get_or put u d)
    one_after done u d lt = elim (cases_eq u s) [
      | inl e ↦ subst (IsGuestOf new u) (sym (ap (λ i. get_or put i d) e ∙ get_or-set_same guests s after d within)) (record { slot = after_slot ∙ sym e; ready = ready_by result refl done; told = told_by result refl done })
      | inr ne ↦
          let x = are.each u d lt in
          subst (IsGuestOf new u) (sym (get_or-set_other guests s u after d ne)) (record {
            slot = x.slot;
            ready = t.others (get_or guests u d) (λ q. ne (sym x.slot ∙ q ∙ own.slot)) x.ready;
            told = λ going. x.told (going_before going);
          })
    ]

    guests_after : IsDone result → AreGuests new put
    guests_after done = record { count = length-set guests s after ∙ are.count; each = one_after done }

    marked_by : (x : Turned) → result ≡ x → IsDone x → (u : ℕ) → length new.journal ≡ length old.journal → (machine new).ending ≡ None → thread_in (machine new) s ≡ Some u → IsSome (mark_at new s)
    marked_by Ran e done u still going lives = absurd (let more = t.worked e in omega (arith, more, still))
    marked_by Waiting e done u still going lives = subst (λ i. IsSome (mark_at new i)) own.slot (t.marked e)
    marked_by Ended e done u still going lives = clash (machine new).ending (t.ends e) going
    marked_by Idle e done u still going lives =
        let i = t.idle e in
        absurd (none-some u (sym i.0 ∙ ap (thread_in (machine old)) own.slot ∙ ap (λ (h : HallData Block). thread_in (machine h) s) (sym i.1) ∙ lives))
    marked_by (Memory x) e done u still going lives = absurd done

    ages_at : (next : Run) → guest_ages after ≡ get_or next.ages s [] → ((u : ℕ) → u ≢ s → get_or next.ages u [] ≡ get_or (map guest_ages guests) u []) → (u : ℕ) → get_or next.ages u [] ≡ get_or (map guest_ages put) u []
    ages_at next here others u =
        let m : map guest_ages put ≡ slice_set (map guest_ages guests) s (guest_ages after) = map-set guest_ages guests s after in
        let lt : s < length (map guest_ages guests) = let n = length-map guests guest_ages in omega (arith, n, within) in
        elim (cases_eq u s) [
          | inl e ↦ ap (λ i. get_or next.ages i []) e ∙ sym here ∙ sym (get_or-set_same (map guest_ages guests) s (guest_ages after) [] lt) ∙ ap (λ i. get_or (slice_set (map guest_ages guests) s (guest_ages after)) i []) (sym e) ∙ ap (λ l. get_or l u []) (sym m)
          | inr ne ↦ others u ne ∙ sym (get_or-set_other (map guest_ages guests) s u (guest_ages after) [] ne) ∙ ap (λ l. get_or l u []) (sym m)
        ]

    next_is : (reach : Reaches) → IsOneTurn reach r run old new g after → one_turn old.case reach (serial_rules r) run s ≡ Some (run_of new put)
    next_is reach one =
        let same : one.next.ages ≡ map guest_ages put = ext_get_or [] one.next.ages (map guest_ages put) (one.there.count ∙ sym (length-map put guest_ages ∙ length-set guests s after ∙ are.count)) (λ u lt. ages_at one.next (sym one.there.ages ∙ ap (λ i. get_or one.next.ages i []) after_slot) (λ v ne. one.others v (λ q. ne (q ∙ own.slot))) u) in
        ap (one_turn old.case reach (serial_rules r) run) (sym own.slot) ∙ one.is ∙ ap (λ (x : Run). Some x) (same_run one.next (run_of new put) one.there.both one.there.journal same)

    stays_ended : (reach : Reaches) (x : RunEnd) → (machine old).ending ≡ Some x → one_turn old.case reach (serial_rules r) run s ≡ Some run
    unfolding one_turn
    stays_ended reach x e = ap (turn_unless old.case reach (serial_rules r) run s) e

    turn_by : IsDone result → (end : Option RunEnd) → (machine old).ending ≡ end → (reach : Reaches) → AreReaches old.case.image reach → one_turn old.case reach (serial_rules r) run s ≡ Some (run_of new put)
    turn_by done None e reach right = next_is reach (t.serial reach run right there (own.told e) done)
    turn_by done (Some x) e reach right =
        let q = t.ended (subst IsSome (sym e) refl) in
        let same : put ≡ guests = ap (slice_set guests s) (q.2 ∙ is) ∙ set-get_or guests s g in
        stays_ended reach x e ∙ ap (λ (h : HallData Block). Some (run_of h guests)) (sym q.1) ∙ ap (λ l. Some (run_of new l)) (sym same)

    pub took : IsDone result → TookTurn old new guests put r s
    took done = record {
      turn = turn_by done (machine old).ending refl;
      ready = guests_after done;
      marked = marked_by result refl done;
    }

    began_by : (end : Option RunEnd) → (machine old).ending ≡ end → (e : AllocError) → result ≡ Memory e → BeganTurn old new guests r s
    began_by None going e is_memory = record { grew = t.grew; begins = λ reach x right p. t.broken reach run x e right there (own.told going) is_memory (ap (one_turn old.case reach (serial_rules r) run) own.slot ∙ p) }
    began_by (Some y) q e is_memory = absurd (let no : Ended ≡ Memory e = sym (t.ended (subst IsSome (sym q) refl)).0 ∙ is_memory in cc)

    pub began : (e : AllocError) → result ≡ Memory e → BeganTurn old new guests r s
    began e is_memory = began_by (machine old).ending refl e is_memory
