-- The stack as a process is entered (System V x86-64 psABI, section 3.4.1, "Initial Stack and Register State").
use Rattle.std.specs.Prelude.{ℕ, ◌+◌, ◌-◌, ◌*◌, ◌/◌, List, [], ◌∷◌, ◌++◌, length}
use Rattle.byteorder.specs.Endian.{little_bytes}
use Rattle.address_space.specs.Addresses.{top, bottom}
use Rattle.guest_map.specs.Addresses.{zeros}

-- a number rounded up to a multiple of 16
abbrev pub up16 : ℕ → ℕ
up16 n = (n + 15) / 16 * 16

-- the arguments' strings one after the other, each with its zero byte
unfoldable pub strings : List (List ℕ) → List ℕ
strings [] = []
strings (arg ∷ args) = arg ++ (0 ∷ strings args)

-- where each of them begins, the first at an address
unfoldable pub pointers : ℕ → List (List ℕ) → List ℕ
pointers at [] = []
pointers at (arg ∷ args) = at ∷ pointers (at + (length arg + 1)) args

-- where the first string stands
abbrev pub string_base : List (List ℕ) → ℕ
string_base args = top 0 - up16 (length (strings args))

-- the stack pointer at the entry
abbrev pub entry_rsp : List (List ℕ) → ℕ
entry_rsp args = string_base args - up16 (8 * (length args + 5))

-- the eightbytes from the stack pointer upwards: argc, argv with its null, the null of an empty environment, and an
-- auxiliary vector of one pair of zeros
abbrev pub entry_words : List (List ℕ) → List ℕ
entry_words args = length args ∷ (pointers (string_base args) args ++ (0 ∷ 0 ∷ 0 ∷ 0 ∷ []))

-- numbers as eight bytes each, the lowest first
unfoldable pub eightbytes : List ℕ → List ℕ
eightbytes [] = []
eightbytes (x ∷ xs) = little_bytes 8 x ++ eightbytes xs

-- the bytes of the stack from its lowest address up: nothing yet, the eightbytes, the strings
unfoldable pub entry_stack : List (List ℕ) → List ℕ
entry_stack args =
    zeros (bottom 0) (entry_rsp args)
    ++ (eightbytes (entry_words args)
    ++ (zeros (entry_rsp args + 8 * (length args + 5)) (string_base args)
    ++ (strings args
    ++ zeros (string_base args + length (strings args)) (top 0))))
