-- The library's data in the guest's terms: which threads live, who holds which mutex, the input and the outputs.
use Rattle.std.specs.Prelude.{ℕ, ◌+◌, ◌-◌, ◌^◌, ◌<◌, ◌≡◌, ◌==◌, nat_lt, ◌||◌, not, Bool, true, false, if◌then◌else◌, List, [], ◌∷◌, ◌++◌, drop, replicate, position, slice_index_or, slice_set, Option, Some, None, is_some, option_map}
use Rattle.std.specs.Ordering.{nat_cmp}
use Rattle.std.specs.FinMap.{FinMap, empty, get, insert, remove}
use Rattle.address_space.specs.declared.TheConstants.{SLOTS}
use Rattle.address_space.specs.Slots.{slot_of, generation_of, number_in}
use Rattle.sync_more.specs.Rooms.{RoomsData, no_rooms}
use Rattle.lib_table.specs.declared.life.Life.{Life}
use Rattle.lib_table.specs.declared.life.Life.TheVariants.{Unborn, Live, Ended, Joined}
use Rattle.lib_table.specs.declared.slot.Slot.{Slot}
use Rattle.lib_table.specs.declared.slot.Birth.{Birth}

-- the slots; the thread that holds a mutex, by the mutex's address; who waits at condition variables, barriers and controls; the input that is still to come; the bytes written to outputs 1 and 2
pub record LibraryData : Type 0 where
  pub slots : List Slot
  pub held : FinMap nat_cmp ℕ
  pub rooms : RoomsData
  pub input : List ℕ
  pub out1 : List ℕ
  pub out2 : List ℕ

-- a slot before its first thread
abbrev pub new_slot : Slot
new_slot = record { generation = 0; life = Unborn }

-- thread 0 alone lives, nothing is held, no thread waits, and nothing is written
abbrev pub start_of : List ℕ → LibraryData
start_of input = record { slots = record { generation = 0; life = Live 0 0 } ∷ replicate (SLOTS - 1) new_slot; held = empty; rooms = no_rooms; input = input; out1 = []; out2 = [] }

-- lives

abbrev pub is_unborn : Life → Bool
is_unborn Unborn = true
is_unborn (Live start argument) = false
is_unborn (Ended value) = false
is_unborn Joined = false

abbrev pub is_running : Life → Bool
is_running Unborn = false
is_running (Live start argument) = true
is_running (Ended value) = false
is_running Joined = false

-- the thread was born and not joined
abbrev pub is_kept : Life → Bool
is_kept Unborn = false
is_kept (Live start argument) = true
is_kept (Ended value) = true
is_kept Joined = false

abbrev pub is_joined : Life → Bool
is_joined Unborn = false
is_joined (Live start argument) = false
is_joined (Ended value) = false
is_joined Joined = true

-- slots

-- the least number of the slot that wasn't joined is unborn
abbrev pub is_free : Slot → Bool
is_free s = is_unborn s.life

-- Of the slot's numbers, those of smaller generations were joined, that of the slot's own has the slot's life, and those of greater ones are unborn.
unfoldable pub life_in : Slot → ℕ → Life
life_in s generation = if nat_lt generation s.generation then Joined else if generation == s.generation then s.life else Unborn

-- The number of a thread that lives or has ended in the slot is below 2 ^ 32, and the slot's life is none of a joined thread.
pub record IsSlot (s : Slot) : Type 0 where
  pub number : is_free s ≡ false → s.generation < 2 ^ 26
  pub kept : is_joined s.life ≡ false

abbrev pub slot_at : LibraryData → ℕ → Slot
slot_at l s = slice_index_or l.slots s new_slot

abbrev pub with_slot : LibraryData → ℕ → Slot → LibraryData
with_slot l s slot = record l { slots = slice_set l.slots s slot }

-- the least of the slot's numbers that wasn't joined: that of the thread that lives or has ended in it, else that of the next one
abbrev pub number_at : LibraryData → ℕ → ℕ
number_at l s = number_in s (slot_at l s).generation

-- threads

-- the life of a thread's number
abbrev pub life_at : LibraryData → ℕ → Life
life_at l u = life_in (slot_at l (slot_of u)) (generation_of u)

abbrev pub is_live : LibraryData → ℕ → Bool
is_live l u = is_running (life_at l u)

-- a thread that is the least of its slot that wasn't joined has this life
abbrev pub with_life : LibraryData → ℕ → Life → LibraryData
with_life l u life = with_slot l (slot_of u) (record { generation = generation_of u; life = life })

-- a thread was joined: its slot is free for the next number
abbrev pub with_joined : LibraryData → ℕ → LibraryData
with_joined l u = with_slot l (slot_of u) (record { generation = generation_of u + 1; life = Unborn })

-- the least slot without a live or ended thread
abbrev pub free_slot : LibraryData → Option ℕ
free_slot l = position is_free l.slots

-- the number that the next thread gets: of the least free slot the least that no thread had
abbrev pub next_number : LibraryData → Option ℕ
next_number l = option_map (number_at l) (free_slot l)

-- a new thread: its number, and the library in which it lives; none where every slot has one
abbrev pub new_thread : LibraryData → ℕ → ℕ → Option (ℕ × LibraryData)
new_thread l start argument = option_map (λ u. (u, with_life l u (Live start argument))) (next_number l)

-- each slot without a live or ended thread has an unborn number
abbrev pub HasNumbers : LibraryData → Type 0
HasNumbers l = (s : ℕ) → s < SLOTS → is_free (slot_at l s) ≡ true → number_at l s < 2 ^ 32

-- the same slot by slot, to be computed
abbrev pub has_number : Slot → Bool
has_number s = not (is_free s) || nat_lt s.generation (2 ^ 26)

-- the thread in a slot

abbrev pub live_number : ℕ → Life → Option ℕ
live_number u Unborn = None
live_number u (Live start argument) = Some u
live_number u (Ended value) = None
live_number u Joined = None

abbrev pub thread_in : LibraryData → ℕ → Option ℕ
thread_in l s = live_number (number_at l s) (slot_at l s).life

-- the number of the thread that lives or has ended there
abbrev pub kept_in : LibraryData → ℕ → Option ℕ
kept_in l s = if is_kept (slot_at l s).life then Some (number_at l s) else None

abbrev pub born_for : ℕ → Life → Option Birth
born_for u Unborn = None
born_for u (Live start argument) = Some (record { thread = u; start = start; argument = argument })
born_for u (Ended value) = None
born_for u Joined = None

-- its number, start function and argument; thread 0, the only one of slot 0, was born for none
abbrev pub birth : LibraryData → ℕ → Option Birth
birth l s = if s == 0 then None else born_for (number_at l s) (slot_at l s).life

-- a thread's id is its number and 1
abbrev pub id_of : ℕ → ℕ
id_of u = u + 1

-- mutexes: each is its address

abbrev pub holder : LibraryData → ℕ → Option ℕ
holder l a = get l.held a

abbrev pub is_held : LibraryData → ℕ → Bool
is_held l a = is_some (holder l a)

abbrev pub is_thread : Option ℕ → ℕ → Bool
is_thread None t = false
is_thread (Some o) t = o == t

abbrev pub is_held_by : LibraryData → ℕ → ℕ → Bool
is_held_by l a t = is_thread (holder l a) t

abbrev pub with_held : LibraryData → ℕ → ℕ → LibraryData
with_held l a t = record l { held = insert l.held a t }

abbrev pub without_held : LibraryData → ℕ → LibraryData
without_held l a = record l { held = remove l.held a }

-- condition variables, barriers and controls

abbrev pub with_rooms : LibraryData → RoomsData → LibraryData
with_rooms l rooms = record l { rooms = rooms }

-- input and output

-- after the next n bytes of the input were given
abbrev pub with_input : LibraryData → ℕ → LibraryData
with_input l n = record l { input = drop n l.input }

-- with bytes appended to output 1, or to output 2
abbrev pub with_output : LibraryData → ℕ → List ℕ → LibraryData
with_output l fd bytes = if fd == 1 then record l { out1 = l.out1 ++ bytes } else record l { out2 = l.out2 ++ bytes }
