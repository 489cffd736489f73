-- A table as its readers see it.
use Rattle.std.specs.Prelude.{ℕ, ◌==◌, Bool, false, Option, Some, None, refl}
use Rattle.std.specs.Ordering.{nat_cmp}
use Rattle.std.specs.FinMap.{FinMap, code}
use Rattle.std.specs.Coded.{Coded, code_by, coded×, coded_ℕ}

-- the values by their numbers, and for how many more there is room
pub record Places (V : Type 0) : Type 0 where
  pub places : FinMap nat_cmp V
  pub room : ℕ

abbrev pub places_code : {V : Type 0} → Coded V → Coded (Places V)
places_code {V} v =
    code_by (FinMap nat_cmp V × ℕ) (coded× (code coded_ℕ v) coded_ℕ) (λ t. (t.places, t.room)) (λ p. record { places = p.0; room = p.1 }) (λ _. refl)

-- whether the newest value, if there is one, is that of this number
abbrev pub is_newest : {V : Type 0} → Option (ℕ × V) → ℕ → Bool
is_newest None k = false
is_newest (Some e) k = e.0 == k
