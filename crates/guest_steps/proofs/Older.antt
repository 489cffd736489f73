-- How long writes have waited, as the turns in which they were stored tell it.
use Rattle.std.proofs.Common.{◌≡◌, ℕ, ◌+◌, ◌-◌, ◌%◌, ◌^◌, ◌≤◌, false, List, [], ◌∷◌, map, refl, ap, ◌∙◌, arith}
use Rattle.std.proofs.lemmas.Bool.Decides.{nat_tests}
use Rattle.machine_model.specs.Gated.{rest_of}
use Rattle.guest_steps.specs.Ages.{AreAges, ages_in, is_too_old}

-- ---- a turn later

older : (now s : ℕ) → (now + (2 ^ 64 - s)) % 2 ^ 64 ≤ 255 → ((now + 1) % 2 ^ 64 + (2 ^ 64 - s)) % 2 ^ 64 ≡ (now + (2 ^ 64 - s)) % 2 ^ 64 + 1
older now s h = omega (arith, h)

pub all_older : (now most : ℕ) (turns : List ℕ) → most ≤ 255 → AreAges most (ages_in now turns) → ages_in ((now + 1) % 2 ^ 64) turns ≡ map (λ a. a + 1) (ages_in now turns)
all_older now most [] few h = refl
all_older now most (s ∷ turns) few h =
    let le : (now + (2 ^ 64 - s)) % 2 ^ 64 ≤ 255 = omega (arith, few, h.0) in
    ap (λ a. a ∷ ages_in ((now + 1) % 2 ^ 64) turns) (older now s le) ∙ ap (λ (l : List ℕ). ((now + (2 ^ 64 - s)) % 2 ^ 64 + 1) ∷ l) (all_older now ((now + (2 ^ 64 - s)) % 2 ^ 64) turns le h.1)

-- ---- ages

pub ages_older : (most : ℕ) (ages : List ℕ) → AreAges most ages → AreAges (most + 1) (map (λ a. a + 1) ages)
ages_older most [] h = tt
ages_older most (a ∷ ages) h = (omega (arith, h.0), ages_older a ages h.1)

pub ages_rest : (most : ℕ) (ages : List ℕ) → AreAges most ages → AreAges most (rest_of ages)
ages_rest most [] h = tt
ages_rest most (a ∷ []) h = tt
ages_rest most (a ∷ b ∷ ages) h = (omega (arith, h.0, h.1.0), h.1.1)

-- none is too old where the oldest isn't
pub ages_within : (most hold : ℕ) (ages : List ℕ) → AreAges most ages → is_too_old hold ages ≡ false → AreAges hold ages
ages_within most hold [] h young = tt
ages_within most hold (a ∷ ages) h young = (grind (arith, nat_tests), h.1)
