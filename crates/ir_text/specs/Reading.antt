-- Reading from the front, on lists: a value and the bytes after it, or how many bytes are left where the text goes wrong.
use Rattle.std.specs.Prelude.{ℕ, ◌+◌, ◌-◌, ◌*◌, ◌&&◌, ◌==◌, nat_lt, nat_le, min, if◌then◌else◌, List, [], ◌∷◌, ◌++◌, length, Option, Some, None, Result, Ok, Err, codes}

abbrev pub Reading : Type 0 → Type 0
Reading A = Result (A × List ℕ) ℕ

infixl 10 ◌>>=◌
abbrev pub ◌>>=◌ : {A B : Type 0} → Result A ℕ → (A → Result B ℕ) → Result B ℕ
(Ok x) >>= f = f x
(Err left) >>= f = Err left

-- what was read, seen otherwise
abbrev pub seen : {X Y : Type 0} → (X → Y) → Result X ℕ → Result Y ℕ
seen f (Ok x) = Ok (f x)
seen f (Err left) = Err left

-- what follows these bytes
unfoldable pub literal : List ℕ → List ℕ → Result (List ℕ) ℕ
literal [] s = Ok s
literal (c ∷ cs) [] = Err 0
literal (c ∷ cs) (d ∷ ds) = if d == c then literal cs ds else Err (length (d ∷ ds))

abbrev pub found_or : {A : Type 0} → A → Result (List ℕ) ℕ → (ℕ → Reading A) → Reading A
found_or a (Ok rest) others = Ok (a, rest)
found_or a (Err there) others = others there

-- the first word of the list that stands in front, with its end; else the last place at which one of them stops
unfoldable pub word_from : {A : Type 0} → ℕ → List (List ℕ × A) → List ℕ → List ℕ → Reading A
word_from left [] end s = Err left
word_from left (x ∷ xs) end s = found_or x.1 (literal (x.0 ++ end) s) (λ there. word_from (min left there) xs end s)

abbrev pub word_at : {A : Type 0} → List (List ℕ × A) → List ℕ → List ℕ → Reading A
word_at words end s = word_from (length s) words end s

-- the value of a digit, `0` to `9` and `a` to `f`
unfoldable pub digit_of : ℕ → Option ℕ
digit_of c = if nat_le 48 c && nat_le c 57 then Some (c - 48) else (if nat_le 97 c && nat_le c 102 then Some (c - 87) else None)

-- a number with one more digit: none follows 0, and it stays below the bound
unfoldable pub longer : ℕ → ℕ → Option ℕ → Option ℕ
longer bound n None = None
longer bound n (Some d) = if n == 0 then None else (if nat_lt (n * 16 + d) bound then Some (n * 16 + d) else None)

abbrev pub go_on : {A : Type 0} → Option ℕ → ℕ → (ℕ → Reading A) → Reading A
go_on None left go = Err left
go_on (Some n) left go = go n

-- the digits that go on after the number n, up to its end
unfoldable pub more_digits : ℕ → ℕ → ℕ → List ℕ → Reading ℕ
more_digits bound end n [] = Err 0
more_digits bound end n (c ∷ cs) = if c == end then Ok (n, cs) else go_on (longer bound n (digit_of c)) (length (c ∷ cs)) (λ m. more_digits bound end m cs)

unfoldable pub digits_at : ℕ → ℕ → List ℕ → Reading ℕ
digits_at bound end [] = Err 0
digits_at bound end (c ∷ cs) = go_on (digit_of c) (length (c ∷ cs)) (λ d. more_digits bound end d cs)

-- a number below the bound, as `0x2f` and the byte that ends it
unfoldable pub number_at : ℕ → ℕ → List ℕ → Reading ℕ
number_at bound end s = literal (codes "0x") s >>= λ t. digits_at bound end t

-- one digit
unfoldable pub digit_at : List ℕ → Reading ℕ
digit_at [] = Err 0
digit_at (c ∷ cs) = go_on (digit_of c) (length (c ∷ cs)) (λ d. Ok (d, cs))

-- one digit, or the byte that stands in its place
unfoldable pub digit_or : ℕ → List ℕ → Reading (Option ℕ)
digit_or stop [] = Err 0
digit_or stop (c ∷ cs) = if c == stop then Ok (None, cs) else go_on (digit_of c) (length (c ∷ cs)) (λ d. Ok (Some d, cs))
