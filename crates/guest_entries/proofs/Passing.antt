-- After a part that finishes its instruction.
use Rattle.std.proofs.Common.{◌≡◌, ℕ, ◌+◌, true, false, List, refl, sym, subst}
use Rattle.std.specs.Prelude.{slice_index}
use Rattle.elf_image.specs.Layout.{ImageData}
use Rattle.guest_parts.specs.Standing.{StandsAfter, has_more, places_of}
use Rattle.guest_steps.specs.declared.own.Own.{Own}
use Rattle.guest_steps.specs.declared.own.Position.TheVariants.{Between, Inside}
use Rattle.guest_steps.specs.Kept.{AreKept, IsKept, KeptData, Table}
use Rattle.guest_entries.specs.Entered.{Passed}

pub passed_on : (kept : KeptData) (part to : ℕ) (old new : Own) (table : Table) → true ≡ has_more kept.block part → new ≡ record old { at = Inside kept (part + 1) } → Passed kept part to old new table table
passed_on kept part to old new table more is = subst (λ n. Passed kept part to old n table table) (sym is) (record {
  own = refl;
  under = refl;
  stands = λ grown e h. subst (λ z. StandsAfter z kept.image grown kept.block part old.last (slice_index (places_of kept.image kept.block) part) to old.state e) (sym more) h;
  table = λ image grown h k. h;
})

pub passed_out : (kept : KeptData) (part to : ℕ) (old new : Own) (table left : Table) → false ≡ has_more kept.block part → new ≡ record old { at = Between to; last = slice_index (places_of kept.image kept.block) part } → ((image : ImageData) (grown : List ℕ) → AreKept image grown table → IsKept image grown kept → AreKept image grown left) → Passed kept part to old new table left
passed_out kept part to old new table left more is keeps = subst (λ n. Passed kept part to old n table left) (sym is) (record {
  own = refl;
  under = tt;
  stands = λ grown e h. subst (λ z. StandsAfter z kept.image grown kept.block part old.last (slice_index (places_of kept.image kept.block) part) to old.state e) (sym more) h;
  table = keeps;
})
