-- Reading from the front, on lists: the value that was read, and the bytes after it.
use Rattle.std.specs.Prelude.{ℕ, ◌+◌, ◌-◌, ◌*◌, ◌^◌, ◌&&◌, ◌==◌, nat_le, nat_lt, nat_eq, if◌then◌else◌, List, [], ◌∷◌, length, drop, Option, Some, None, codes}
use Rattle.std.specs.List.{starts_with}
use Rattle.miss_report.specs.declared.miss.Miss.{Miss}
use Rattle.miss_report.specs.declared.miss.TheConstants.{THREADS}

infixl 10 ◌>>=◌
abbrev pub ◌>>=◌ : {A B : Type 0} → Option A → (A → Option B) → Option B
(Some x) >>= f = f x
None >>= f = None

-- what follows the literal
unfoldable pub after : List ℕ → List ℕ → Option (List ℕ)
after literal bytes = if starts_with nat_eq bytes literal then Some (drop (length literal) bytes) else None

-- a digit of the base
abbrev pub below : ℕ → ℕ → Option ℕ
below base d = if nat_lt d base then Some d else None

-- the value of a digit, `0` to `9` and `a` to `f`
unfoldable pub digit_of : ℕ → ℕ → Option ℕ
digit_of base c =
    if nat_le 48 c && nat_le c 57 then below base (c - 48)
    else (if nat_le 97 c && nat_le c 102 then below base (c - 87) else None)

-- one more digit behind the number n, where there is one: none may follow 0, and the number stays below 2 ^ 64
unfoldable pub next_digit : ℕ → ℕ → List ℕ → Option ℕ → (ℕ → Option (ℕ × List ℕ)) → Option (ℕ × List ℕ)
next_digit base n bytes None go_on = Some (n, bytes)
next_digit base n bytes (Some d) go_on = if n == 0 then None else (if nat_lt (n * base + d) (2 ^ 64) then go_on (n * base + d) else None)

-- the digits that go on after the number n
unfoldable pub more_digits : ℕ → ℕ → List ℕ → Option (ℕ × List ℕ)
more_digits base n [] = Some (n, [])
more_digits base n (c ∷ cs) = next_digit base n (c ∷ cs) (digit_of base c) (λ m. more_digits base m cs)

-- a number without leading zeros
unfoldable pub number_at : ℕ → List ℕ → Option (ℕ × List ℕ)
number_at base [] = None
number_at base (c ∷ cs) = do
  d ← digit_of base c
  more_digits base d cs

-- a line, with its newline
unfoldable pub miss_at : List ℕ → Option (Miss × List ℕ)
miss_at bytes = do
  a ← after (codes "miss thread ") bytes
  thread ← number_at 10 a
  b ← after (codes " from 0x") thread.1
  source ← number_at 16 b
  c ← after (codes " to 0x") source.1
  target ← number_at 16 c
  rest ← after (10 ∷ []) target.1
  if nat_lt thread.0 THREADS then Some (record { thread = thread.0; source = source.0; target = target.0 }, rest) else None
