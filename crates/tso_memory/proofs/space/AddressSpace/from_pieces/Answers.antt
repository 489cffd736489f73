use Rattle.std.proofs.Common.{◌≡◌, length, ◌∙◌, arith}
use Rattle.tso_memory.specs.Memory.{memory_of}
use Rattle.tso_memory.proofs.MakeLemmas.{laid_none, comes_off, off_apart, off_low, off_next, all_off}
use Rattle.tso_memory.proofs.SortLemmas.{apart_permuted, low_permuted, memory_permuted}
use Rattle.tso_memory.proofs.space.AddressSpace.from_pieces.Goals as goal

pub loop-piece-init : goal.loop-piece-init
unfolding memory_of
loop-piece-init c = laid_none c.sort_unstable_by_key.new.self.items c.make-space.result c.make-space.ensures

pub add-requires-clause-apart : goal.add-requires-clause-apart
add-requires-clause-apart c =
    let l = c.loop-piece.invariant in
    let sorted = c.sort_unstable_by_key.new.self.items in
    off_apart sorted c.loop-piece.pieces.items c.pop.new.self.items c.in-Some.piece c.loop-piece.space (apart_permuted c.args.pieces.items sorted c.sort_unstable_by_key.ensures.permutation c.requires.apart) l
    (comes_off sorted c.loop-piece.pieces.items c.pop.new.self.items c.in-Some.piece c.loop-piece.space l c.in-Some.ensures.items)

pub add-requires-clause-low : goal.add-requires-clause-low
add-requires-clause-low c =
    let sorted = c.sort_unstable_by_key.new.self.items in
    off_low sorted c.loop-piece.pieces.items c.pop.new.self.items c.in-Some.piece (low_permuted c.args.pieces.items sorted c.sort_unstable_by_key.ensures.permutation c.requires.low)
    (comes_off sorted c.loop-piece.pieces.items c.pop.new.self.items c.in-Some.piece c.loop-piece.space c.loop-piece.invariant c.in-Some.ensures.items)

pub loop-piece-preserved : goal.loop-piece-preserved
loop-piece-preserved c =
    let l = c.loop-piece.invariant in
    let sorted = c.sort_unstable_by_key.new.self.items in
    off_next sorted c.loop-piece.pieces.items c.pop.new.self.items c.in-Some.piece c.loop-piece.space c.add.new.self l
    (comes_off sorted c.loop-piece.pieces.items c.pop.new.self.items c.in-Some.piece c.loop-piece.space l c.in-Some.ensures.items) c.in_ok-add.ensures

pub returns : goal.returns
returns c =
    let none : length c.loop-piece.pieces.items ≡ 0 = omega (arith, c.in_default.ensures.cases.0, c.loop-piece.pieces.ok.0) in
    all_off c.sort_unstable_by_key.new.self.items c.loop-piece.pieces.items c.loop-piece.space c.loop-piece.invariant none
    ∙ memory_permuted c.args.pieces.items c.sort_unstable_by_key.new.self.items c.sort_unstable_by_key.ensures.permutation c.requires.apart
