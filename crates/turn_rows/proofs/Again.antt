-- A turn that memory broke off before an entry was made.
use Rattle.std.proofs.Common.{◌≡◌, ◌==◌, ℕ, suc, true, ◌+◌, arith, List, [], ◌∷◌, ◌++◌, Option, Some, None, length, refl, sym, ap, subst, ◌∙◌}
use Rattle.std.specs.Prelude.{IsSome}
use Rattle.std.specs.declared.alloc.AllocError.{AllocError}
use Rattle.std.proofs.lemmas.List.{append-nil, length-append}
use Rattle.ir_syntax.specs.declared.block.Block.{Block}
use Rattle.journal_pack.specs.declared.entry.Entry.{Entry}
use Rattle.machine_model.specs.CaseData.{CaseData}
use Rattle.machine_model.specs.Comes.{both_of}
use Rattle.machine_model.specs.declared.ending.RunEnd.{RunEnd}
use Rattle.machine_model.specs.Gated.{Stand, gated_steps, stand_at}
use Rattle.machine_model.specs.Own.{IsAhead}
use Rattle.machine_model.specs.Ready.{HasGrown}
use Rattle.machine_model.specs.State.{thread_in}
use Rattle.hall_core.specs.Hall.{HallData, both, machine}
use Rattle.thread_step.specs.Alone.{TakesTurn}
use Rattle.thread_step.specs.declared.guest.Guest.{Guest}
use Rattle.thread_step.specs.declared.rules.Rules.{Rules}
use Rattle.thread_step.specs.declared.rules.Turned.{Turned}
use Rattle.thread_step.specs.declared.rules.Turned.TheVariants.{Ended, Idle, Memory}
use Rattle.thread_step.specs.Guest.{IsLeft, IsReady, IsStanding, guest_slot, private_steps}

too_long : (a b : ℕ) → a + suc b ≡ a → ⊥
too_long a b e = omega (arith, e)

-- two numbers that were compared are those that are meant
pub compared : (a b x y : ℕ) → a ≡ x → b ≡ y → (a == b) ≡ true → x ≡ y
compared a b x y p q h = grind (arith, p, q, h)

-- what was added is nothing where the length stands still
nothing : (xs ys zs : List Entry) → zs ≡ xs ++ ys → length zs ≡ length xs → zs ≡ xs
nothing xs [] zs e n = e ∙ append-nil xs
nothing xs (y ∷ ys) zs e n = absurd (too_long (length xs) (length ys) (sym (length-append xs (y ∷ ys)) ∙ subst (λ z. length z ≡ length xs) e n))

module _ (old new : HallData Block) (g after : Guest) where
  -- a guest stays ready where no entry was made and it still stands with its thread
  ready_by : (entries : List Entry) × (new.journal ≡ old.journal ++ entries) → length new.journal ≡ length old.journal → new.case ≡ old.case → guest_slot after ≡ guest_slot g → IsReady old g → IsStanding new after → IsReady new after
  ready_by grew n case slot ready stands =
      let j = nothing old.journal grew.0 new.journal grew.1 n in
      let b : both new ≡ both old = ap (λ (c : CaseData). both_of c new.journal) case ∙ ap (both_of old.case) j in
      record {
        stands = stands;
        grown = λ t going lives. subst (λ (c : CaseData). HasGrown c.image (both new) (guest_slot after)) (sym case) (subst (λ x. HasGrown old.case.image x (guest_slot after)) (sym b) (subst (HasGrown old.case.image (both old)) (sym slot) (ready.grown t (subst (λ x. x.machine.ending ≡ None) b going) (subst (λ s. thread_in (machine old) s ≡ Some t) slot (subst (λ x. thread_in x.machine (guest_slot after) ≡ Some t) b lives)))));
      }

  module _ (result : Turned) (r : Rules) (told : private_steps g ≡ 0) (ended : IsSome (machine old).ending → (result ≡ Ended) × (new ≡ old) × (after ≡ g)) (idle : (machine old).ending ≡ None → thread_in (machine old) (guest_slot g) ≡ None → (result ≡ Idle) × (new ≡ old) × (after ≡ g)) (takes : (t : ℕ) (d : Stand) → (machine old).ending ≡ None → thread_in (machine old) (guest_slot g) ≡ Some t → IsAhead old.case (both old) (guest_slot g) (private_steps g) d → TakesTurn result old new t r g after d) where
    here : Stand
    here = stand_at (both old) (guest_slot g)

    ahead : IsAhead old.case (both old) (guest_slot g) (private_steps g) here
    unfolding here gated_steps
    ahead = ap (λ k. gated_steps old.case.image (both old).gate.grown k (stand_at (both old) (guest_slot g))) told

    broke_of : (e : AllocError) (t : ℕ) → result ≡ Memory e → TakesTurn result old new t r g after here → (entries : List Entry) × (new.journal ≡ old.journal ++ entries)
    broke_of e t is h = let q = subst (λ x. TakesTurn x old new t r g after here) is h in (q.adds.entries, q.adds.journal)

    by_who : (e : AllocError) (who : Option ℕ) → result ≡ Memory e → (machine old).ending ≡ None → thread_in (machine old) (guest_slot g) ≡ who → (entries : List Entry) × (new.journal ≡ old.journal ++ entries)
    by_who e None is going w = absurd (let no : Memory e ≡ Idle = sym is ∙ (idle going w).0 in cc)
    by_who e (Some t) is going w = broke_of e t is (takes t here going w ahead)

    by_end : (e : AllocError) (end : Option RunEnd) → result ≡ Memory e → (machine old).ending ≡ end → (entries : List Entry) × (new.journal ≡ old.journal ++ entries)
    by_end e None is over = by_who e (thread_in (machine old) (guest_slot g)) is over refl
    by_end e (Some x) is over = absurd (let no : Memory e ≡ Ended = sym is ∙ (ended (subst IsSome (sym over) refl)).0 in cc)

    standing : (e : AllocError) → result ≡ Memory e → IsLeft result new after → IsStanding new after
    standing e is left = subst (λ x. IsLeft x new after) is left

    -- memory was wanting in a turn of a ready guest, which told its private steps, before an entry was made
    pub ready_again : (e : AllocError) → result ≡ Memory e → length new.journal ≡ length old.journal → new.case ≡ old.case → guest_slot after ≡ guest_slot g → IsReady old g → IsLeft result new after → IsReady new after
    ready_again e is n case slot ready left = ready_by (by_end e (machine old).ending is refl) n case slot ready (standing e is left)
