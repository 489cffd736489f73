-- The reaches that are kept, slot by slot.
use Rattle.std.proofs.Common.{ℕ, zero, suc, ◌<◌, arith, List, [], ◌∷◌, ◌++◌, Option, Some, None, length, get_or, slice_set}
use Rattle.std.specs.Prelude.{All}
use Rattle.std.proofs.lemmas.List.Elements.{All-set, All-append}
use Rattle.elf_image.specs.Layout.{ImageData}
use Rattle.replay_view.specs.declared.reached.Reach.{Reach}
use Rattle.replay_view.specs.Gates.{KeepsReach}

-- none is kept any longer
pub taken : (image : ImageData) (kept : List (Option Reach)) (s : ℕ) → All (KeepsReach image) kept → All (KeepsReach image) (slice_set kept s None)
taken image kept s h = All-set (KeepsReach image) kept s None tt h

-- a reach is kept
pub put : (image : ImageData) (kept : List (Option Reach)) (s : ℕ) (reach : Reach) → All (KeepsReach image) kept → KeepsReach image (Some reach) → All (KeepsReach image) (slice_set kept s (Some reach))
put image kept s reach h is = All-set (KeepsReach image) kept s (Some reach) is h

-- what is kept for a slot
pub kept_at : (image : ImageData) (kept : List (Option Reach)) (s : ℕ) (d : Option Reach) → All (KeepsReach image) kept → s < length kept → KeepsReach image (get_or kept s d)
kept_at image kept s d h lt = h s d lt

none_kept : (image : ImageData) (i : ℕ) (d : Option Reach) → i < 1 → KeepsReach image (get_or (None ∷ []) i d)
none_kept image zero d lt = tt
none_kept image (suc i) d lt = absurd (omega (arith, lt))

-- one slot more, for which none is
pub one_more : (image : ImageData) (kept : List (Option Reach)) → All (KeepsReach image) kept → All (KeepsReach image) (kept ++ None ∷ [])
one_more image kept h = All-append (KeepsReach image) kept (None ∷ []) h (λ i d lt. none_kept image i d lt)
