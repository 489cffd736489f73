-- A kind of line as data: its fields one after another, each of which may choose what follows it.
use Rattle.std.specs.Prelude.{◌≡◌, ℕ, ◌<◌, List, [], ◌∷◌, ◌++◌, Option, Some, None, Ok, codes, false}
use Rattle.std.specs.Fmt.{digits, digit_glyph}
use Rattle.ir_text.specs.Reading.{Reading, ◌>>=◌, literal, word_at, number_at, digits_at, digit_at, digit_or}

-- a field: how it is read, which values it has, and their text, with the byte that ends it
pub record Field (A : Type 0) : Type 1 where
  pub read : List ℕ → Reading A
  pub Has : A → Type 0
  pub text : A → List ℕ

pub data Row (B : Type 0) : Type 1 where
  Done : B → Row B
  Last : (A : Type 0) → Field A → (A → B) → Row B
  Then : (A : Type 0) → Field A → (A → Row B) → Row B
  After : List ℕ → Row B → Row B

abbrev pub reading : {B : Type 0} → Row B → List ℕ → Reading B
reading (Done b) s = Ok (b, s)
reading (Last A f make) s = f.read s >>= λ x. Ok (make x.0, x.1)
reading (Then A f next) s = f.read s >>= λ x. reading (next x.0) x.1
reading (After word row) s = literal word s >>= λ t. reading row t

-- these bytes, and then the row's text for the value
abbrev pub SpellsFrom : {B : Type 0} → Row B → B → List ℕ → List ℕ → Type 0
SpellsFrom (Done b) o before s = (b ≡ o) × (before ≡ s)
SpellsFrom (Last A f make) o before s = (a : A) × f.Has a × (make a ≡ o) × (before ++ f.text a ≡ s)
SpellsFrom (Then A f next) o before s = (a : A) × f.Has a × SpellsFrom (next a) o (before ++ f.text a) s
SpellsFrom (After word row) o before s = SpellsFrom row o (before ++ word) s

-- the row's text for the value
abbrev pub Spells : {B : Type 0} → Row B → B → List ℕ → Type 0
Spells (Done b) o s = (b ≡ o) × ([] ≡ s)
Spells {B} (Last A f make) o s = (a : A) × f.Has a × (make a ≡ o) × (f.text a ≡ s)
Spells {B} (Then A f next) o s = (a : A) × f.Has a × ((t : List ℕ) × Spells (next a) o t × (f.text a ++ t ≡ s))
Spells {B} (After word row) o s = (t : List ℕ) × Spells row o t × (word ++ t ≡ s)

-- ---- fields

-- a word of a table, and what ends it
abbrev pub worded : {A : Type 0} → List (List ℕ × A) → (A → Type 0) → (A → List ℕ) → List ℕ → Field A
worded words Has name end = record { read = word_at words end; Has = Has; text = λ a. name a ++ end }

-- a word of a table that holds its end
abbrev pub token : {A : Type 0} → List (List ℕ × A) → (A → Type 0) → (A → List ℕ) → Field A
token words Has name = record { read = word_at words []; Has = Has; text = name }

-- a number below the bound
abbrev pub number : ℕ → ℕ → Field ℕ
number bound end = record { read = number_at bound end; Has = λ n. n < bound; text = λ n. codes "0x" ++ digits 16 false n ++ end ∷ [] }

-- the digits of a number behind its `0x`
abbrev pub number_digits : ℕ → ℕ → Field ℕ
number_digits bound end = record { read = digits_at bound end; Has = λ n. n < bound; text = λ n. digits 16 false n ++ end ∷ [] }

abbrev pub digit : Field ℕ
digit = record { read = digit_at; Has = λ d. d < 16; text = λ d. digit_glyph false d ∷ [] }

abbrev pub IsDigit : Option ℕ → Type 0
IsDigit None = Unit {0}
IsDigit (Some d) = d < 16

abbrev pub digit_text : ℕ → Option ℕ → List ℕ
digit_text stop None = stop ∷ []
digit_text stop (Some d) = digit_glyph false d ∷ []

-- a digit, or this byte
abbrev pub digit_unless : ℕ → Field (Option ℕ)
digit_unless stop = record { read = digit_or stop; Has = IsDigit; text = digit_text stop }
