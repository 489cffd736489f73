use Rattle.std.proofs.Common.{◌≡◌, ℕ, ◌+◌, ◌<◌, ◌≤◌, true}
use Rattle.tso_memory.specs.Memory.{may, Memory}
use Rattle.tso_memory.specs.declared.access.Access.{Access}
use Rattle.tso_memory.proofs.space.AddressSpace.check.Given as goal

-- all before x may be accessed, and there are more
pub record Passed (m : Memory) (access : Access) (a n x left : ℕ) : Type 0 where
  pub rest : x + left ≡ a + n
  pub more : 0 < left
  pub from : a ≤ x
  pub allowed : (y : ℕ) → a ≤ y → y < x → may m access y ≡ true

abbrev pub invariant-loop-i : goal.invariant-loop-i
invariant-loop-i l = Passed l.self l.access l.a l.n l.x l.left

abbrev pub decreases-loop-i : goal.decreases-loop-i
decreases-loop-i l = l.left
