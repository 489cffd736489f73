-- The rule of growth.
use Rattle.std.proofs.Common.{◌≡◌, ◌≢◌, ℕ, ◌+◌, ◌≤◌, ◌⊎◌, ◌↔◌, inl, inr, Bool, true, false, List, [], ◌∷◌, refl, sym, ◌∙◌, subst, arith, length}
use Rattle.std.specs.Prelude.{nat_le, IsTrue, ⊤}
use Rattle.std.proofs.lemmas.Bool.Decides.{nat_tests}
use Rattle.elf_image.specs.Layout.{ImageData}
use Rattle.basic_blocks.specs.Reach.{is_among, IsReach}
use Rattle.machine_model.specs.Gated.{most_grown, IsWithinReach}
use Rattle.machine_model.proofs.Reaches.{one_reach}
use Rattle.replay_view.specs.Grown.{new_places}

no_way : (X : Type 0) → (X → ⊥) → IsTrue false ↔ X
no_way X h = (λ e. let none : false ≡ true = e in cc, λ x. absurd (h x))

le_from_test : (n m : ℕ) → nat_le n m ≡ true → n ≤ m
le_from_test n m h = grind (arith, nat_tests)

test_from_le : (n m : ℕ) → n ≤ m → nat_le n m ≡ true
test_from_le n m h = grind (arith, nat_tests)

pub reaches_if_it_fits : (image : ImageData) (grown places : List ℕ) (g a : ℕ) (fits : Bool) → IsReach image (g ∷ []) places → is_among places a ≡ true → fits ≡ nat_le (length grown + new_places grown places) most_grown → IsTrue fits ↔ IsWithinReach image grown g a
reaches_if_it_fits image grown places g a fits reach member is = (
  λ h. record { places = places; reach = reach; member = member; fits = le_from_test _ _ (sym is ∙ h) },
  λ w. is ∙ test_from_le _ _ (subst (λ x. length grown + new_places grown x ≤ most_grown) (one_reach image (g ∷ []) w.places places w.reach reach) w.fits),
)

pub not_reached : (image : ImageData) (grown places : List ℕ) (g a : ℕ) → IsReach image (g ∷ []) places → is_among places a ≡ false → IsTrue false ↔ IsWithinReach image grown g a
not_reached image grown places g a reach absent =
    no_way _ (λ w. let none : false ≡ true = sym absent ∙ subst (λ x. is_among x a ≡ true) (one_reach image (g ∷ []) w.places places w.reach reach) w.member in cc)

pub growth_of_target : (a g : ℕ) (X : Type 0) → a ≡ g → IsTrue true ↔ ((a ≡ g) ⊎ X)
growth_of_target a g X e = (λ h. inl e, λ h. refl)

pub growth_of_none : (a g : ℕ) (there : Bool) (X : Type 0) → a ≢ g → there ≡ false → IsTrue false ↔ ((a ≡ g) ⊎ (IsTrue there × X))
growth_of_none a g there X ne absent = no_way _ (λ h. elim h [ inl e ↦ ne e | inr w ↦ (let none : false ≡ true = sym absent ∙ w.0 in cc) ])

pub growth_of_reach : (a g : ℕ) (there b : Bool) (X : Type 0) → a ≢ g → there ≡ true → IsTrue b ↔ X → IsTrue b ↔ ((a ≡ g) ⊎ (IsTrue there × X))
growth_of_reach a g there b X ne is h = (λ t. inr (is, h.0 t), λ w. elim w [ inl e ↦ absurd (ne e) | inr p ↦ h.1 p.1 ])

pub no_growth : IsTrue false ↔ ⊥
no_growth = no_way ⊥ (λ h. h)

pub always : IsTrue true ↔ ⊤
always = (λ h. tt, λ h. refl)
