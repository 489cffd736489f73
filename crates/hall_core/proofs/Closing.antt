-- From what contracts see of a hall to its fields, and back.
use Rattle.std.proofs.Common.{◌≡◌, ℕ, ◌-◌, List, [], ◌∷◌, ◌++◌, Option, None, sym, subst, slice_set}
use Rattle.std.specs.FinMap as map
use Rattle.std.specs.FinMap.{FinMap}
use Rattle.std.specs.Ordering.{nat_cmp}
use Rattle.elf_image.specs.Layout.{ImageData}
use Rattle.lib_table.specs.declared.ask.Ask.{Ask}
use Rattle.journal_pack.specs.declared.entry.Entry.{Entry}
use Rattle.journal_pack.specs.Growing.{Growing}
use Rattle.machine_model.specs.CaseData.{CaseData}
use Rattle.machine_model.specs.Step.{slot_in}
use Rattle.hall_core.specs.Shared.{SharedState}
use Rattle.hall_core.specs.Hall.{HallData, IsHall, added, with_block}

module _ {B : Type 0} where
  abbrev pub hall_of : CaseData → Growing → FinMap nat_cmp B → List (Option Ask) → HallData B
  hall_of case log blocks marks = record { case = case; journal = log.entries; blocks = blocks; marks = marks; spare = log.spare }

  -- the fields of a hall are one
  pub opened : (fits : ImageData → ℕ → B → Type 0) (h v : HallData B) (s : SharedState) → h ≡ v → IsHall fits h s → IsHall fits v s
  opened fits h v s e is = subst (λ x. IsHall fits x s) e is

  -- fields that were changed as an entry changes them
  pub closed : (fits : ImageData → ℕ → B → Type 0) (case : CaseData) (log after : Growing) (blocks : FinMap nat_cmp B) (marks left : List (Option Ask)) (v : HallData B) (s t : SharedState) (e : Entry) → hall_of case log blocks marks ≡ v → after ≡ record { entries = log.entries ++ e ∷ []; spare = log.spare - 1 } → left ≡ slice_set marks (slot_in e) None → s ≡ t → IsHall fits (added v e) t → IsHall fits (hall_of case after blocks left) s
  closed fits case log after blocks marks left v s t e here logged unmarked same is =
      let a : IsHall fits (added (hall_of case log blocks marks) e) t = subst (λ (x : HallData B). IsHall fits (added x e) t) (sym here) is in
      let b : IsHall fits (hall_of case (record { entries = log.entries ++ e ∷ []; spare = log.spare - 1 }) blocks (slice_set marks (slot_in e) None)) s = subst (IsHall fits (added (hall_of case log blocks marks) e)) (sym same) a in
      subst (λ (x : List (Option Ask)). IsHall fits (hall_of case after blocks x) s) (sym unmarked) (subst (λ (x : Growing). IsHall fits (hall_of case x blocks (slice_set marks (slot_in e) None)) s) (sym logged) b)

  -- and one block more
  pub closed_grown : (fits : ImageData → ℕ → B → Type 0) (case : CaseData) (log after : Growing) (blocks kept : FinMap nat_cmp B) (marks left : List (Option Ask)) (v : HallData B) (s : SharedState) (e : Entry) (a : ℕ) (b : B) → hall_of case log blocks marks ≡ v → after ≡ record { entries = log.entries ++ e ∷ []; spare = log.spare - 1 } → left ≡ slice_set marks (slot_in e) None → kept ≡ map.insert blocks a b → IsHall fits (with_block (added v e) a b) s → IsHall fits (hall_of case after kept left) s
  closed_grown fits case log after blocks kept marks left v s e a b here logged unmarked more is =
      let z : IsHall fits (with_block (added (hall_of case log blocks marks) e) a b) s = subst (λ (x : HallData B). IsHall fits (with_block (added x e) a b) s) (sym here) is in
      let y : IsHall fits (hall_of case (record { entries = log.entries ++ e ∷ []; spare = log.spare - 1 }) kept (slice_set marks (slot_in e) None)) s = subst (λ (x : FinMap nat_cmp B). IsHall fits (hall_of case (record { entries = log.entries ++ e ∷ []; spare = log.spare - 1 }) x (slice_set marks (slot_in e) None)) s) (sym more) z in
      subst (λ (x : List (Option Ask)). IsHall fits (hall_of case after kept x) s) (sym unmarked) (subst (λ (x : Growing). IsHall fits (hall_of case x kept (slice_set marks (slot_in e) None)) s) (sym logged) y)
