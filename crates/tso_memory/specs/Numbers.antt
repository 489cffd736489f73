-- Numbers of waiting writes, by classes of addresses, and what a look into a buffer finds. No public contract cites them.
use Rattle.std.specs.Prelude.{◌≡◌, ℕ, ◌+◌, ◌*◌, ◌/◌, ◌%◌, ◌^◌, ◌<◌, ◌≤◌, true, List, length, slice_get, slice_index, Some, ⊤}
use Rattle.tso_memory.specs.declared.write.PendingWrite.{PendingWrite}
use Rattle.tso_memory.specs.declared.found.Found.{Found}
use Rattle.tso_memory.specs.declared.found.Found.TheVariants.{Nothing, Number, Several}
use Rattle.tso_memory.specs.Buffer.{covers, seen}
use Rattle.tso_memory.specs.Memory.{number_from}

-- the class of the eight bytes of this number: one of 1,024
unfoldable pub class_of_eight : ℕ → ℕ
class_of_eight q = (q + 67 * (q / 1024)) % 1024

-- the class of an address, by the eight bytes that it is in
abbrev pub class_of : ℕ → ℕ
class_of x = class_of_eight (x / 8)

-- the waiting writes have numbers from first on, in their order; the newest write that covers an address of a class has
-- a number below the class's, and no class's number is past those of the waiting writes
pub record IsNumbered (ps : List PendingWrite) (first : ℕ) (newest : List ℕ) : Type 0 where
  pub classes : length newest ≡ 1024
  pub named : (i x : ℕ) (p : PendingWrite) → slice_get ps i ≡ Some p → covers p x ≡ true → first + i < slice_index newest (class_of x)
  pub bound : (c : ℕ) → c < 1024 → slice_index newest c ≤ first + length ps
  pub small : first + length ps ≤ 2 ^ 63

-- what the writes say of the n bytes from an address on
abbrev pub IsFound : List PendingWrite → ℕ → ℕ → Found → Type 0
IsFound ps a n Nothing = (x b : ℕ) → a ≤ x → x < a + n → seen ps x b ≡ b
IsFound ps a n (Number v) = (v < 256 ^ n) × ((f : ℕ → ℕ) → v ≡ number_from (λ x. seen ps x (f x)) n a)
IsFound ps a n Several = ⊤
