-- One step of a call that calls back. Of `bsearch`, as POSIX has it: the elements from lo up to hi are left. Of
-- `pthread_once`: the routine runs for a control.
use Rattle.std.specs.Prelude.{ℕ, zero, suc, ◌+◌, ◌-◌, ◌*◌, ◌/◌, ◌%◌, ◌^◌, nat_lt, if◌then◌else◌, ℤ, pos, negsuc, Option, Some, None}
use Rattle.callbacks.specs.declared.Frame.{Frame}
use Rattle.callbacks.specs.declared.Next.{Next}
use Rattle.callbacks.specs.declared.Next.TheVariants.{Probe, Done}

-- the element in the middle of those that are left
abbrev pub middle : Frame → ℕ
middle f = f.lo + (f.hi - f.lo) / 2

-- the address of the i-th element, modulo 2 ^ 64
abbrev pub element : Frame → ℕ → ℕ
element f i = (f.base + i * f.size) % 2 ^ 64

-- a probe of the middle while elements are left, else the end without one
unfoldable pub probe : Frame → Next
probe f = if nat_lt f.lo f.hi then Probe (element f (middle f)) else Done 0

abbrev pub probing : Frame → Frame × Next
probing f = (f, probe f)

-- what an answer to the probe leaves: a negative one the elements before the middle, a positive one those after it, and
-- 0 ends the search at the middle
unfoldable pub searched : Frame → ℤ → Frame × Next
searched f (negsuc n) = probing (record f { hi = middle f })
searched f (pos zero) = (f, Done (element f (middle f)))
searched f (pos (suc n)) = probing (record f { lo = middle f + 1 })

-- the routine of a control has run, and its call ends with 0; a search goes on with the answer
abbrev pub resumed_for : Option ℕ → Frame → ℤ → Frame × Next
resumed_for (Some control) f answer = (f, Done 0)
resumed_for None f answer = searched f answer

unfoldable pub resumed : Frame → ℤ → Frame × Next
resumed f answer = resumed_for f.control f answer
