-- What an entry names, and its spelling.
use Rattle.std.specs.Prelude.{ℕ, ◌^◌, ◌<◌, ◌≤◌, List, [], ◌∷◌, ◌++◌, Option, Some, None}
use Rattle.journal_pack.specs.declared.entry.Entry.{Entry}
use Rattle.journal_pack.specs.declared.entry.Entry.TheVariants.{Ev, Tick, Flush, Wait, Miss, Grow, Over, Full, Dead}
use Rattle.journal_pack.specs.Leb128.{leb128}

-- the thread that the entry names
abbrev pub thread_of : Entry → Option ℕ
thread_of (Ev t k) = Some t
thread_of (Tick t k) = Some t
thread_of (Flush t) = Some t
thread_of (Wait t k) = Some t
thread_of (Miss t k source target) = Some t
thread_of (Grow t a) = Some t
thread_of (Over t k) = Some t
thread_of (Full t) = Some t
thread_of Dead = None

-- with how many private steps the entry begins
abbrev pub private_of : Entry → ℕ
private_of (Ev t k) = k
private_of (Tick t k) = k
private_of (Flush t) = 0
private_of (Wait t k) = k
private_of (Miss t k source target) = k
private_of (Grow t a) = 0
private_of (Over t k) = k
private_of (Full t) = 0
private_of Dead = 0

-- a number from `least` up to, but without, `limit`
abbrev pub IsWithin : ℕ → ℕ → ℕ → Type 0
IsWithin least limit n = (least ≤ n) × (n < limit)

-- a thread's number has 32 bits
abbrev pub IsThread : ℕ → Type 0
IsThread t = IsWithin 0 (2 ^ 32) t

-- private steps, from `least` to 4,096
abbrev pub IsSteps : ℕ → ℕ → Type 0
IsSteps least k = IsWithin least 4097 k

-- an address has 64 bits
abbrev pub IsAddress : ℕ → Type 0
IsAddress a = IsWithin 0 (2 ^ 64) a

-- the entry has a spelling: its numbers are in range, and `Tick` and `Wait` have a private step
abbrev pub HasSpelling : Entry → Type 0
HasSpelling (Ev t k) = IsThread t × IsSteps 0 k
HasSpelling (Tick t k) = IsThread t × IsSteps 1 k
HasSpelling (Flush t) = IsThread t
HasSpelling (Wait t k) = IsThread t × IsSteps 1 k
HasSpelling (Miss t k source target) = IsThread t × IsSteps 0 k × IsAddress source × IsAddress target
HasSpelling (Grow t a) = IsThread t × IsAddress a
HasSpelling (Over t k) = IsThread t × IsSteps 0 k
HasSpelling (Full t) = IsThread t
HasSpelling Dead = Unit {0}

-- an entry's bytes: its kind, and its numbers in order
abbrev pub spelling : Entry → List ℕ
spelling (Ev t k) = 0 ∷ (leb128 t ++ leb128 k)
spelling (Tick t k) = 1 ∷ (leb128 t ++ leb128 k)
spelling (Flush t) = 2 ∷ leb128 t
spelling (Wait t k) = 3 ∷ (leb128 t ++ leb128 k)
spelling (Miss t k source target) = 4 ∷ (leb128 t ++ (leb128 k ++ (leb128 source ++ leb128 target)))
spelling (Grow t a) = 5 ∷ (leb128 t ++ leb128 a)
spelling (Over t k) = 6 ∷ (leb128 t ++ leb128 k)
spelling (Full t) = 7 ∷ leb128 t
spelling Dead = 8 ∷ []
