use Rattle.std.proofs.Common.{◌≡◌, take}
use Rattle.std.specs.Prelude.{filter}
use Rattle.basic_blocks.specs.Places.{is_code_place}
use Rattle.basic_blocks.proofs.block.code_places.Given as goal

abbrev pub invariant-loop-a : goal.invariant-loop-a
invariant-loop-a l = l.kept.items ≡ filter (is_code_place l.image) (take l.a-index l.places)
