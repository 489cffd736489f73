-- What growing a block answers.
use Rattle.std.specs.Prelude.{◌≡◌, ℕ, ◌<◌, Option, None, IsSome, Result, Ok, Err}
use Rattle.std.specs.declared.alloc.Global.{Global}
use Rattle.std.specs.declared.sync.Arc.{Arc}
use Rattle.cfg_book.specs.declared.book.GrowFault.{GrowFault}
use Rattle.cfg_book.specs.declared.book.GrowFault.TheVariants.{Grown, Full}
use Rattle.cfg_book.specs.declared.book.TheConstants.{MAX_BLOCKS}

-- What growing a block answers, where this block (if any) is grown at the place and this many are grown in all. No two of
-- the cases meet: the block handed in comes back exactly where one is grown there, else the book is full or it grows.
abbrev pub Outcome : {B : Type 0} → Option B → ℕ → Arc B Global → Result (Unit {0}) (GrowFault B) → Type 0
Outcome there count block (Ok u) = (there ≡ None) × (count < MAX_BLOCKS)
Outcome there count block (Err (Grown back)) = IsSome there × (back ≡ block)
Outcome there count block (Err Full) = (there ≡ None) × (count ≡ MAX_BLOCKS)
