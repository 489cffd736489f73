-- A text as a run of pieces: which may come next, and how each is spelled.
use Rattle.std.specs.Prelude.{◌≡◌, ℕ, ◌+◌, ◌*◌, ◌<◌, true, false, List, [], ◌∷◌, ◌++◌, Option, Some, None, codes}
use Rattle.ir_text.specs.declared.pieces.Item.{Item}
use Rattle.ir_text.specs.declared.pieces.Item.TheVariants.{Address, Byte, CodeEnd, Op, Part, End}
use Rattle.ir_text.specs.declared.pieces.State.{State}
use Rattle.ir_text.specs.declared.pieces.State.TheVariants as state
use Rattle.ir_text.specs.Text.{HasOp, HasEnd, IsNumber, op_text, end_text, byte_text, spaced, hex}
use Rattle.ir_text.specs.Row.{Row, Done, Last, Then, After, number, digit, digit_unless}
use Rattle.ir_text.specs.Grammar.{top, line_row}

-- what may come after a piece, or none where the piece may not stand
abbrev pub next : State → Item → Option State
next state.Between (Address n) = Some state.Code
next state.Code (Byte c) = Some state.InCode
next state.Code CodeEnd = Some state.Inside
next state.InCode (Byte c) = Some state.InCode
next state.InCode CodeEnd = Some state.Inside
next state.Inside (Op o) = Some state.Inside
next state.Inside (Part e) = Some state.After
next state.After (Op o) = Some state.Inside
next state.After (Part e) = Some state.After
next state.After End = Some state.Between
next _ _ = None

abbrev pub HasItem : Item → Type 0
HasItem (Address n) = IsNumber n
HasItem (Byte c) = c < 256
HasItem CodeEnd = Unit {0}
HasItem (Op o) = HasOp o
HasItem (Part e) = HasEnd e
HasItem End = Unit {0}

-- no code is a dash
abbrev pub code_end : State → List ℕ
code_end state.Code = codes "-\n"
code_end _ = codes "\n"

abbrev pub item_text : State → Item → List ℕ
item_text q (Address n) = codes "block " ++ spaced (hex n)
item_text q (Byte c) = byte_text c
item_text q CodeEnd = code_end q
item_text q (Op o) = op_text o
item_text q (Part e) = end_text e
item_text q End = codes "end\n"

-- the piece may come next, and is spelled so
abbrev pub IsItem : State → Item → List ℕ → Type 0
IsItem q i s = HasItem i × ((p : State) × (next q i ≡ Some p)) × (item_text q i ≡ s)

-- ---- the rows to read them by

abbrev pub byte_row : ℕ → Row Item
byte_row d = Last ℕ digit (λ e. Byte (d * 16 + e))

abbrev pub first_code : Option ℕ → Row Item
first_code None = After (codes "\n") (Done CodeEnd)
first_code (Some d) = byte_row d

abbrev pub more_code : Option ℕ → Row Item
more_code None = Done CodeEnd
more_code (Some d) = byte_row d

abbrev pub item_row : State → Row Item
item_row state.Between = After (codes "block ") (Last ℕ (number top 32) (λ n. Address n))
item_row state.Code = Then (Option ℕ) (digit_unless 45) first_code
item_row state.InCode = Then (Option ℕ) (digit_unless 10) more_code
item_row state.Inside = line_row false
item_row state.After = line_row true

-- ---- runs

-- the pieces come one after another, from one state to another, and are spelled so
abbrev pub IsRun : State → List Item → State → List ℕ → Type 0
IsRun q [] r s = (q ≡ r) × ([] ≡ s)
IsRun q (i ∷ is) r s = HasItem i × ((p : State) × (next q i ≡ Some p) × ((t : List ℕ) × IsRun p is r t × (item_text q i ++ t ≡ s)))
