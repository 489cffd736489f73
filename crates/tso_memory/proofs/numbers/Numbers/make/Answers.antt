use Rattle.std.proofs.Common.{refl}
use Rattle.tso_memory.proofs.NumberLemmas.{numbered_none}
use Rattle.tso_memory.proofs.numbers.Numbers.make.Goals as goal

pub returns : goal.returns
returns c = numbered_none c.in_ok-newest.newest.items 1024 (c.in_ok-newest.ensures.items_if_clones_equal (λ y e. e)) refl
