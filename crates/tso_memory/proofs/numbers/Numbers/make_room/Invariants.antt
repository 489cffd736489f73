use Rattle.std.proofs.Common.{◌≡◌, ℕ, ◌<◌, length, slice_index}
use Rattle.tso_memory.proofs.numbers.Numbers.make_room.Given as goal

-- the classes below this one have the number
abbrev pub invariant-loop-class : goal.invariant-loop-class
invariant-loop-class l = (length l.self.newest.items ≡ 1024) × ((c : ℕ) → c < l.class → slice_index l.self.newest.items c ≡ l.waiting)
