-- Small steps of a round.
use Rattle.std.proofs.Common.{◌≡◌, ◌≢◌, ℕ, ◌+◌, ◌<◌, Bool, true, false, cond, List, [], ◌∷◌, ◌++◌, inl, inr, Some, None, refl, sym, ap, ◌∙◌, subst, arith, length, length-append, replicate}
use Rattle.std.specs.Prelude.{get_or, map, IsSome, OnErr, Result, Ok, Err}
use Rattle.std.specs.declared.alloc.AllocError.{AllocError}
use Rattle.std.proofs.lemmas.Bool.{cases_eq}
use Rattle.std.proofs.lemmas.List.{get_or_push, replicate_more}
use Rattle.std.proofs.Math.ListN.{get_or-append}
use Rattle.std.proofs.lemmas.Option.{option_and_then_some, same_Some}
use Rattle.ir_syntax.specs.declared.block.Block.{Block}
use Rattle.journal_pack.specs.declared.entry.Entry.TheVariants.{Dead}
use Rattle.machine_model.specs.CaseData.{CaseData}
use Rattle.machine_model.specs.Comes.{both_of}
use Rattle.machine_model.specs.Gated.{Both, advance}
use Rattle.machine_model.specs.Step.{after_private, cpu_at, is_deadlocked, slot_in, step, step_from}
use Rattle.machine_model.proofs.Comes.{both_more}
use Rattle.machine_model.proofs.Costs.{came}
use Rattle.machine_model.proofs.Independence.{if_some}
use Rattle.hall_core.specs.Hall.{HallData, added, both, is_dead, machine}
use Rattle.thread_step.specs.declared.guest.Guest.{Guest}
use Rattle.thread_step.specs.declared.rules.Turned.{Turned}
use Rattle.thread_step.specs.declared.rules.Turned.TheVariants.{Ran, Waiting, Ended, Idle, Memory}
use Rattle.thread_step.specs.Guest.{IsReady, guest_ages, guest_slot, private_steps}
use Rattle.ir_runner.specs.Rounds.{AreGuests, IsGuestOf}
use Rattle.ir_runner.proofs.Turns.{IsDone}
use Rattle.ir_runner.proofs.Walking.{Stuck}

pub done_by : (x : Turned) → ((e : AllocError) → x ≢ Memory e) → IsDone x
done_by Ran h = tt
done_by Waiting h = tt
done_by Ended h = tt
done_by Idle h = tt
done_by (Memory e) h = absurd (h e refl)

pub dead_added : (old mid new : HallData Block) (b : Bool) → mid ≡ record old { spare = mid.spare } → is_dead old ≡ true → b ≡ is_dead mid → new ≡ cond b (added mid Dead) mid → new.journal ≡ old.journal ++ Dead ∷ []
dead_added old mid new b same dead is put =
    let b_true : b ≡ true = is ∙ ap (λ (h : HallData Block). is_dead h) same ∙ dead in
    let made : new ≡ added mid Dead = put ∙ ap (λ x. cond x (added mid Dead) mid) b_true in
    ap (λ (h : HallData Block). h.journal) made ∙ ap (λ (h : HallData Block). h.journal ++ Dead ∷ []) same

dead_ends : (c : CaseData) (b n : Both) → advance c b Dead ≡ Some n → IsSome n.machine.ending
unfolding step
dead_ends c b n p =
    let q = if_some _ _ n.machine (came c b n Dead p).stepped in
    option_and_then_some (step_from c b.machine Dead) (after_private c.image 0 (cpu_at b.machine (slot_in Dead))) n.machine q.1 (λ cpu v w.
    subst (λ m. IsSome m.ending) (same_Some _ n.machine (if_some (is_deadlocked c.image b.machine) _ n.machine w).1) refl)

-- after `Dead` the run has an ending
pub ended_then : {P : Type 0} (now new : HallData Block) → Stuck now → new.case ≡ now.case → new.journal ≡ now.journal ++ Dead ∷ [] → (machine new).ending ≡ None → P
ended_then now new stuck case journal going =
    let there : both_of now.case (now.journal ++ Dead ∷ []) ≡ stuck.next = both_more now.case now.journal Dead stuck.next stuck.comes in
    let after : both new ≡ stuck.next = ap (λ (k : CaseData). both_of k new.journal) case ∙ ap (both_of now.case) journal ∙ there in
    let e : IsSome (machine new).ending = subst (λ (b : Both). IsSome b.machine.ending) (sym after) (dead_ends now.case (both now) stuck.next stuck.comes) in
    absurd (let no : false ≡ true = subst IsSome going e in cc)

-- ---- the guests of the first slots

pub record Firsts (h : HallData Block) (guests : List Guest) (n : ℕ) : Type 0 where
  pub count : length guests ≡ n
  pub each : (s : ℕ) (d : Guest) → s < n → IsGuestOf h s (get_or guests s d)
  pub ages : map guest_ages guests ≡ replicate n []

map_push : {A B : Type 0} (f : A → B) (xs : List A) (y : A) → map f (xs ++ y ∷ []) ≡ map f xs ++ f y ∷ []
map_push f [] y = refl
map_push f (x ∷ xs) y = ap (λ l. f x ∷ l) (map_push f xs y)

pub one_first : (h : HallData Block) (guests : List Guest) (n : ℕ) (g : Guest) → Firsts h guests n → guest_slot g ≡ n → IsReady h g → private_steps g ≡ 0 → guest_ages g ≡ [] → Firsts h (guests ++ g ∷ []) (n + 1)
one_first h guests n g f slot ready told ages = record {
  count = length-append guests (g ∷ []) ∙ ap (λ k. k + 1) f.count;
  each = λ s d lt. elim (cases_eq s n) [
    | inl e ↦ subst (IsGuestOf h s) (sym (get_or_push guests g d s (f.count ∙ sym e))) (record { slot = slot ∙ sym e; ready = ready; told = λ going. told })
    | inr ne ↦ let below : s < length guests = let k = f.count in omega (arith, lt, ne, k) in subst (IsGuestOf h s) (sym (get_or-append guests (g ∷ []) d s below)) (f.each s d (omega (arith, lt, ne)))
  ];
  ages = map_push guest_ages guests g ∙ ap (λ l. l ++ guest_ages g ∷ []) f.ages ∙ ap (λ x. replicate n [] ++ x ∷ []) ages ∙ replicate_more n [];
}

pub first_guests : (h : HallData Block) (guests : List Guest) → Firsts h guests 64 → AreGuests h guests
first_guests h guests f = record { count = f.count; each = f.each }

pub on_err : {A E : Type 0} (r : Result A E) (P : Type 0) → P → OnErr r P
on_err (Ok x) P p = tt
on_err (Err e) P p = p
