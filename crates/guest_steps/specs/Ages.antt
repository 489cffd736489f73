-- How long a thread's writes have waited.
use Rattle.std.specs.Prelude.{ℕ, ◌+◌, ◌-◌, ◌%◌, ◌^◌, ◌≤◌, Bool, false, nat_lt, List, [], ◌∷◌, map}

-- the ages of writes that were stored in these turns of a thread, in the turn with this number; numbers of turns wrap around
abbrev pub ages_in : ℕ → List ℕ → List ℕ
ages_in now turns = map (λ s. (now + (2 ^ 64 - s)) % 2 ^ 64) turns

-- the oldest is at most so old, and each next one is no older
abbrev pub AreAges : ℕ → List ℕ → Type 0
AreAges most [] = Unit {0}
AreAges most (a ∷ ages) = (a ≤ most) × AreAges a ages

-- the oldest write is older than it may be
abbrev pub is_too_old : ℕ → List ℕ → Bool
is_too_old hold [] = false
is_too_old hold (a ∷ ages) = nat_lt hold a
