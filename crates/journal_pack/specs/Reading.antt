-- Reading from the front, on lists: the value that was read, and the bytes after it.
use Rattle.std.specs.Prelude.{ℕ, zero, suc, ◌+◌, ◌-◌, ◌*◌, ◌^◌, ◌&&◌, ◌==◌, nat_le, nat_lt, if◌then◌else◌, List, [], ◌∷◌, length, Option, Some, None}
use Rattle.journal_pack.specs.declared.entry.Entry.{Entry}
use Rattle.journal_pack.specs.declared.entry.Entry.TheVariants.{Ev, Tick, Flush, Wait, Miss, Grow, Over, Full, Dead}

infixl 10 ◌>>=◌
abbrev pub ◌>>=◌ : {A B : Type 0} → Option A → (A → Option B) → Option B
(Some x) >>= f = f x
None >>= f = None

-- the number of these higher bits and these seven lower ones: the higher ones aren't all 0, and leave it below 2 ^ 64
unfoldable pub with_low : ℕ → ℕ → Option ℕ
with_low low higher = if higher == 0 then None else (if nat_lt (128 * higher + low) (2 ^ 64) then Some (128 * higher + low) else None)

-- a number of at most so many bytes
unfoldable pub number_within : ℕ → List ℕ → Option (ℕ × List ℕ)
number_within zero bytes = None
number_within (suc more) [] = None
number_within (suc more) (b ∷ bs) = if nat_lt b 128 then Some (b, bs) else (if nat_lt b 256 then number_within more bs >>= (λ x. with_low (b - 128) x.0 >>= (λ n. Some (n, x.1))) else None)

-- a number of at most ten bytes, from `least` up to, but without, `limit`
unfoldable pub number_at : ℕ → ℕ → List ℕ → Option (ℕ × List ℕ)
number_at least limit bytes = do
  n ← number_within 10 bytes
  if nat_le least n.0 && nat_lt n.0 limit then Some n else None

abbrev pub thread_at : List ℕ → Option (ℕ × List ℕ)
thread_at bytes = number_at 0 (2 ^ 32) bytes

abbrev pub steps_at : ℕ → List ℕ → Option (ℕ × List ℕ)
steps_at least bytes = number_at least 4097 bytes

abbrev pub address_at : List ℕ → Option (ℕ × List ℕ)
address_at bytes = number_within 10 bytes

-- a thread's number, and private steps
unfoldable pub pair_at : ℕ → List ℕ → Option (ℕ × ℕ × List ℕ)
pair_at least bytes = do
  thread ← thread_at bytes
  steps ← steps_at least thread.1
  Some (thread.0, steps.0, steps.1)

-- what stands behind the kind of a miss
unfoldable pub miss_at : List ℕ → Option (Entry × List ℕ)
miss_at bytes = do
  front ← pair_at 0 bytes
  source ← address_at front.2
  target ← address_at source.1
  Some (Miss front.0 front.1 source.0 target.0, target.1)

-- what stands behind the kind of a growth
unfoldable pub grow_at : List ℕ → Option (Entry × List ℕ)
grow_at bytes = do
  thread ← thread_at bytes
  place ← address_at thread.1
  Some (Grow thread.0 place.0, place.1)

-- what stands behind the kind of an entry with a thread's number and private steps
abbrev pub pair_as : (ℕ → ℕ → Entry) → Option (ℕ × ℕ × List ℕ) → Option (Entry × List ℕ)
pair_as make None = None
pair_as make (Some x) = Some (make x.0 x.1, x.2)

-- what stands behind the kind of an entry with a thread's number alone
abbrev pub thread_as : (ℕ → Entry) → Option (ℕ × List ℕ) → Option (Entry × List ℕ)
thread_as make None = None
thread_as make (Some x) = Some (make x.0, x.1)

-- an entry of this kind, whose numbers stand in front
unfoldable pub entry_of : ℕ → List ℕ → Option (Entry × List ℕ)
entry_of kind bytes =
    if kind == 0 then pair_as Ev (pair_at 0 bytes)
    else (if kind == 1 then pair_as Tick (pair_at 1 bytes)
    else (if kind == 2 then thread_as Flush (thread_at bytes)
    else (if kind == 3 then pair_as Wait (pair_at 1 bytes)
    else (if kind == 4 then miss_at bytes
    else (if kind == 5 then grow_at bytes
    else (if kind == 6 then pair_as Over (pair_at 0 bytes)
    else (if kind == 7 then thread_as Full (thread_at bytes)
    else (if kind == 8 then Some (Dead, bytes) else None))))))))

-- an entry
unfoldable pub entry_at : List ℕ → Option (Entry × List ℕ)
entry_at [] = None
entry_at (kind ∷ bytes) = entry_of kind bytes

-- the entry that was read, and those that are read behind it
abbrev pub with_first : Option (Entry × List ℕ) → (List ℕ → List Entry) → List Entry
with_first None more = []
with_first (Some x) more = x.0 ∷ more x.1

-- at most so many entries
unfoldable pub entries_within : ℕ → List ℕ → List Entry
entries_within zero bytes = []
entries_within (suc n) bytes = with_first (entry_at bytes) (λ rest. entries_within n rest)

-- the entries that stand here one after another
unfoldable pub entries_at : List ℕ → List Entry
entries_at bytes = entries_within (length bytes) bytes
