use Rattle.std.proofs.Common.{◌≡◌, map, take}
use Rattle.guest_map.specs.Layout.{piece_of}
use Rattle.guest_map.proofs.start.pieces_of.Given as goal

abbrev pub invariant-loop-segment : goal.invariant-loop-segment
invariant-loop-segment l = l.pieces.items ≡ map piece_of (take l.segment-index l.segment-items)
