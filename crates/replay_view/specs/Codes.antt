-- A gate tells itself from another: by its numbers.
use Rattle.std.specs.Prelude.{◌≡◌, ℕ, zero, suc, List, Option, Some, None, refl}
use Rattle.std.specs.Coded.{Coded, code_by, coded×, coded_list, coded_option, coded_ℕ}
use Rattle.machine_model.specs.Gated.{Gate, Latest, Other, Missed, Growing, Spot}

-- the target of a miss, and whether all since are growths
abbrev pub miss_of : Latest → Option (ℕ × ℕ)
miss_of Other = None
miss_of (Missed target) = Some (target, 0)
miss_of (Growing target) = Some (target, 1)

abbrev pub by_target : ℕ → ℕ → Latest
by_target target zero = Missed target
by_target target (suc n) = Growing target

abbrev pub latest_by : Option (ℕ × ℕ) → Latest
latest_by None = Other
latest_by (Some m) = by_target m.0 m.1

pub same_latest : (x : Latest) → latest_by (miss_of x) ≡ x
same_latest Other = refl
same_latest (Missed target) = refl
same_latest (Growing target) = refl

abbrev pub latest_code : Coded Latest
latest_code = code_by (Option (ℕ × ℕ)) (coded_option (coded× coded_ℕ coded_ℕ)) miss_of latest_by same_latest

abbrev pub spot_code : Coded Spot
spot_code = code_by (List ℕ × Latest) (coded× (coded_list coded_ℕ) latest_code) (λ s. (s.left, s.latest)) (λ p. record { left = p.0; latest = p.1 }) (λ _. refl)

abbrev pub gate_code : Coded Gate
gate_code = code_by (List ℕ × List Spot) (coded× (coded_list coded_ℕ) (coded_list spot_code)) (λ g. (g.grown, g.spots)) (λ p. record { grown = p.0; spots = p.1 }) (λ _. refl)
