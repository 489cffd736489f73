-- Walks over lists, and played journals.
use Rattle.std.proofs.Common.{◌≡◌, cond, List, [], ◌∷◌, ◌++◌, Option, Some, None, refl, ap, ◌∙◌}
use Rattle.std.specs.Prelude.{option_and_then, is_none, nat_le, ◌&&◌}
use Rattle.std.proofs.lemmas.Option.{none-some}
use Rattle.machine_model.specs.declared.ending.RunEnd.{RunEnd}
use Rattle.journal_pack.specs.declared.entry.Entry.{Entry}
use Rattle.machine_model.specs.CaseData.{CaseData}
use Rattle.machine_model.specs.State.{Machine, start}
use Rattle.journal_pack.specs.Entry.{private_of, thread_of}
use Rattle.machine_model.specs.Step.{step, lives, slot_in, cpu_at, step_from, after_private}
use Rattle.machine_model.specs.Play.{walk, play}

pub walk_append : {S E : Type 0} (f : S → E → Option S) (s : S) (xs ys : List E) → walk f s (xs ++ ys) ≡ option_and_then (λ n. walk f n ys) (walk f s xs)
unfolding walk
walk_append f s [] ys = refl
walk_append f s (e ∷ xs) ys =
    elim (f s e) as (λ o. option_and_then (λ n. walk f n (xs ++ ys)) o ≡ option_and_then (λ n. walk f n ys) (option_and_then (λ n. walk f n xs) o)) [
      | None ↦ refl
      | Some n ↦ walk_append f n xs ys
    ]

pub walk_one : {S E : Type 0} (f : S → E → Option S) (s : S) (e : E) → walk f s (e ∷ []) ≡ f s e
unfolding walk
walk_one f s e = elim (f s e) as (λ o. option_and_then (λ n. walk f n []) o ≡ o) [ None ↦ refl | Some n ↦ refl ]

pub walk_more : {S E : Type 0} (f : S → E → Option S) (s : S) (xs : List E) (e : E) → walk f s (xs ++ e ∷ []) ≡ option_and_then (λ n. f n e) (walk f s xs)
walk_more f s xs e =
    walk_append f s xs (e ∷ [])
    ∙ elim (walk f s xs) as (λ o. option_and_then (λ n. walk f n (e ∷ [])) o ≡ option_and_then (λ n. f n e) o) [ None ↦ refl | Some n ↦ walk_one f n e ]

-- a journal and one more entry is one step more
pub play_more : (c : CaseData) (journal : List Entry) (e : Entry) → play c (journal ++ e ∷ []) ≡ option_and_then (λ m. step c m e) (play c journal)
unfolding play
play_more c journal e = walk_more (step c) (start c) journal e

-- after an ending nothing is a step
pub ended_no_step : (c : CaseData) (m : Machine) (e : Entry) (end : RunEnd) → m.ending ≡ Some end → step c m e ≡ None
unfolding step
ended_no_step c m e end p =
    elim m.ending as (λ o. o ≡ Some end → cond (is_none o && lives m (thread_of e) && nat_le (private_of e) 4096) (option_and_then (step_from c m e) (after_private c.image (private_of e) (cpu_at m (slot_in e)))) None ≡ None) [
      | None ↦ λ q. absurd (none-some end q)
      | Some x ↦ λ q. refl
    ] p

pub ended_no_more : (c : CaseData) (m : Machine) (journal : List Entry) (e : Entry) (end : RunEnd) → play c journal ≡ Some m → m.ending ≡ Some end → play c (journal ++ e ∷ []) ≡ None
ended_no_more c m journal e end p q = play_more c journal e ∙ ap (option_and_then (λ m. step c m e)) p ∙ ended_no_step c m e end q
