-- All passes of a lock, in one row.
use Rattle.std.proofs.Common.{◌≡◌, ℕ, ◌<◌, List, [], ◌∷◌, ◌++◌, length, get_or, sym, ap, ◌∙◌, subst, arith, append_assoc, All, Option, Some}
use mathlib.Core.Option.{some}
use lib.ListN.{get_elem?}
use Rattle.std.specs.List.{flat_map}
use Rattle.std.proofs.lemmas.List.{flat_map_more}
use Rattle.atomic_table.specs.Table.{Me, Final, Seen}
use Rattle.turn_lock.specs.declared.view.View.{View}
use Rattle.turn_lock.specs.declared.pass.Pass.{Pass}
use Rattle.turn_lock.specs.Rule.{gathered, standing_for, HasNumber, Extends, Ruled, Keeps, number_of, seen_of, case_of}
use Rattle.turn_lock.specs.Words.{InOrder}
use Rattle.turn_lock.specs.Journal.{StartsWith, own}
use Rattle.turn_lock.proofs.Lists.{at_flat}
use Rattle.turn_lock.proofs.Steps.{closing}

module _ {T : Type 0} where
  -- what a pass stands for
  abbrev pub stands : Pass T → List (ℕ × T)
  stands p = p.seat.me.0.passes

  -- a seat that stands for numbers alone, after it took in another
  pub joined_passes : (old new : Me (Option T) (View T)) (w : View T) → new ≡ (gathered old.0 w, old.1) → new.0.passes ≡ w.passes ++ old.0.passes
  joined_passes old new w e = ap (λ (m : Me (Option T) (View T)). m.0.passes) e

  pub stands_still : (old new : Me (Option T) (View T)) (w : View T) → new ≡ (gathered old.0 w, old.1) → old ≡ (standing_for old.0.passes, []) → new ≡ (standing_for new.0.passes, [])
  stands_still old new w e is = let q : new ≡ (standing_for (w.passes ++ old.0.passes), []) = e ∙ ap (λ (m : Me (Option T) (View T)). (gathered m.0 w, m.1)) is in
      q ∙ ap (λ (ps : List (ℕ × T)). (standing_for ps, [])) (sym (joined_passes old new w e))

  -- one more pass is taken off the end
  pub one_more : (old rest all : List (Pass T)) (p : Pass T) (ps : List (ℕ × T)) → old ≡ rest ++ p ∷ [] → flat_map stands old ++ ps ≡ flat_map stands all
      → flat_map stands rest ++ (stands p ++ ps) ≡ flat_map stands all
  one_more old rest all p ps e kept = sym (append_assoc (flat_map stands rest) (stands p) ps)
      ∙ (ap (λ (z : List (ℕ × T)). z ++ ps) (flat_map_more stands [] rest p ∙ ap (flat_map stands) (sym e)) ∙ kept)

  -- what the pass at each place stands for stands at that place
  pub at_pass : (passes : List (Pass T)) (k : ℕ) (d : Pass T) → k < length passes → (a : ℕ × T) × (stands (get_or passes k d) ≡ a ∷ []) × (get_elem? (flat_map stands passes) k ≡ some a)
  at_pass passes k d h = at_flat stands (λ p. p.idle.2) passes k d h

  numbers_from : (passes : List (Pass T)) → InOrder passes → (d : Pass T) (n : ℕ) → n < length passes → HasNumber (standing_for (flat_map stands passes)) n
  numbers_from passes order d n h = let a = at_pass passes n d h in
      (n, a.0, a.2, sym (ap (λ (z : List (ℕ × T)). number_of (standing_for z)) a.1) ∙ order n d h)

  -- passes in order of their numbers stand for each number below their count
  pub all_numbers : (passes : List (Pass T)) → InOrder passes → (n : ℕ) → n < length passes → HasNumber (standing_for (flat_map stands passes)) n
  all_numbers [] order n h = absurd (omega arith)
  all_numbers (p ∷ ps) order n h = numbers_from (p ∷ ps) order p n h

module _ {T C E : Type 0} (case : T → C) (entries : T → List E) (number : E → ℕ) where
  keeps_one : (v : View T) (a : ℕ × T) (y : T) → v.passes ≡ a ∷ [] → Extends case entries number y a.1 a.0 → Keeps case entries number v y
  keeps_one v a y is more = record {
    same_case = subst (λ (z : List (ℕ × T)). case_of case (standing_for z) ≡ Some (case y)) (sym is) (ap Some (sym more.same_case));
    begins = subst (λ (z : List (ℕ × T)). StartsWith (entries y) (seen_of entries (standing_for z))) (sym is) more.begins;
    same_own = subst (λ (z : List (ℕ × T)). own number (number_of (standing_for z)) (entries y) ≡ own number (number_of (standing_for z)) (seen_of entries (standing_for z))) (sym is) more.same_own;
  }

  -- where all passes are back, the value is in its slot and keeps what each pass knows
  pub closes : (limit id : ℕ) (v : View T) (words : List ℕ) (xs : List (Option T)) (passes : List (Pass T)) → length passes ≡ limit → InOrder passes → v ≡ standing_for (flat_map stands passes)
      → Final (Seen (Ruled case entries number limit) id v) words xs → (y : T) × (get_elem? xs 0 ≡ some (Some y)) × All (λ p. Keeps case entries number p.seat.me.0 y) passes
  closes limit id v words xs passes all order is f = let all_of = all_numbers passes order in
      let end = closing case entries number limit id v words xs
      (λ n h. subst (λ (z : View T). HasNumber z n) (sym is) (all_of n (omega arith))) (ap (λ (z : View T). z.holds) is) f in (
        end.0,
        end.1,
        λ k d h. let a = at_pass passes k d h in
            keeps_one (get_or passes k d).seat.me.0 a.0 end.0 a.1 (end.2 k a.0 (ap (λ (z : View T). get_elem? z.passes k) is ∙ a.2)),
      )

  -- the same of the value that was found there
  pub closes_with : (limit id : ℕ) (v : View T) (words : List ℕ) (xs : List (Option T)) (passes : List (Pass T)) (y : T) → length passes ≡ limit → InOrder passes
      → v ≡ standing_for (flat_map stands passes) → Final (Seen (Ruled case entries number limit) id v) words xs → get_elem? xs 0 ≡ some (Some y) → All (λ p. Keeps case entries number p.seat.me.0 y) passes
  closes_with limit id v words xs passes y all order is f found = let end = closes limit id v words xs passes all order is f in let there = end.1 in
      let same : end.0 ≡ y = cc in subst (λ (z : T). All (λ p. Keeps case entries number p.seat.me.0 z) passes) same end.2
