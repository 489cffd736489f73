use Rattle.std.proofs.Common.{◌≡◌, List, ◌++◌, length}
use Rattle.hall_core.specs.Hall.{AreFilled, Placed}
use Rattle.hall_core.proofs.make.filled.Given as goal

abbrev pub invariant-loop-placed : goal.invariant-loop-placed
invariant-loop-placed g l = (rest : List (Placed g.row.B.Denot)) × (l.blocks.items ++ rest ≡ l.initial.blocks.items) × AreFilled rest l.book.blocks

abbrev pub decreases-loop-placed : goal.decreases-loop-placed
decreases-loop-placed g l = length l.blocks.items
