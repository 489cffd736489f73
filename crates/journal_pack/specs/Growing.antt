-- What contracts see of a journal that grows, and what the journals' types keep of their bytes.
use Rattle.std.specs.Prelude.{◌≡◌, ℕ, ◌+◌, ◌*◌, ◌<◌, ◌≤◌, List, [], ◌∷◌, length, drop, nat_eq, if◌then◌else◌, Option, Some, None}
use Rattle.std.specs.List.{starts_with}
use Rattle.journal_pack.specs.declared.entry.Entry.{Entry}
use Rattle.journal_pack.specs.Packed.{head, IsPacked}
use Rattle.journal_pack.specs.Reading.{entries_at}

-- the entries so far, and how many more can be pushed
pub record Growing : Type 0 where
  pub entries : List Entry
  pub spare : ℕ

-- a journal without entries may keep no bytes, not even the head
abbrev pub or_head : List ℕ → List ℕ
or_head [] = head
or_head (b ∷ bs) = b ∷ bs

-- what stands behind the head
unfoldable pub body : List ℕ → Option (List ℕ)
body bytes = if starts_with nat_eq bytes head then Some (drop (length head) bytes) else None

abbrev pub entries_behind : Option (List ℕ) → List Entry
entries_behind None = []
entries_behind (Some rest) = entries_at rest

-- the entries behind the head
unfoldable pub entries_of : List ℕ → List Entry
entries_of bytes = entries_behind (body bytes)

-- what is kept of a journal: its bytes, and the number of its entries
pub record IsKept (bytes : List ℕ) (count : ℕ) : Type 0 where
  pub packed : IsPacked (or_head bytes) (entries_of bytes)
  pub counted : count ≡ length (entries_of bytes)

-- there is room for so many entries, 28 bytes each, and before the first one the head stands
pub record HasRoom (len capacity spare : ℕ) : Type 0 where
  pub fits : len + 28 * spare ≤ capacity
  pub begun : 0 < spare → 0 < len
