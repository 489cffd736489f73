use Rattle.std.proofs.Common.{◌+◌, ◌<◌, length, arith}
use Rattle.elf_image.proofs.Sharing.{no_span, before_is, last_is, next_is}
use Rattle.elf_image.proofs.overlap.is_shared.Goals as goal

pub returns-then-s-top : goal.returns-then-s-top
returns-then-s-top c = before_is c.args.sorted.now c.requires.rising c.requires.occupied c.args.i c.requires.in_range no_span c.args.top c.requires.top c.if-s-top.true

pub returns-then-i-sorted : goal.returns-then-i-sorted
returns-then-i-sorted c = last_is c.args.sorted.now c.requires.rising c.requires.occupied c.args.i c.requires.in_range no_span c.args.top c.requires.top c.if-s-top.false c.if-i-sorted.true

pub returns : goal.returns
returns c =
    let next : c.args.i + 1 < length c.args.sorted.now = omega (arith, c.requires.in_range, c.if-i-sorted.false) in
    next_is c.args.sorted.now c.requires.rising c.requires.occupied c.args.i c.requires.in_range no_span c.args.top c.requires.top c.if-s-top.false next
