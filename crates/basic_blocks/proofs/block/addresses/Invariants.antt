use Rattle.std.proofs.Common.{◌≡◌, take}
use Rattle.std.specs.Prelude.{map}
use Rattle.basic_blocks.proofs.block.addresses.Given as goal

abbrev pub invariant-loop-p : goal.invariant-loop-p
invariant-loop-p l = l.places.items ≡ map (λ p. p.at) (take l.p-index l.block)
