-- What a journal is to a beginning of it, and to the entries of one number.
use Rattle.std.specs.Prelude.{◌≡◌, ℕ, ◌==◌, List, ◌++◌, All}
use Rattle.std.specs.List.{filter}

module _ {E : Type 0} where
  -- the journal begins with what was seen
  abbrev pub StartsWith : List E → List E → Type 0
  StartsWith journal seen = (rest : List E) × (journal ≡ seen ++ rest)

  -- the entries that bear the number n, in their order
  abbrev pub own : (E → ℕ) → ℕ → List E → List E
  own number n journal = filter (λ e. number e == n) journal

  -- the journal given is the one taken with entries behind it, which bear the number n
  abbrev pub Adds : (E → ℕ) → ℕ → List E → List E → Type 0
  Adds number n taken given = (more : List E) × (given ≡ taken ++ more) × All (λ e. number e ≡ n) more
