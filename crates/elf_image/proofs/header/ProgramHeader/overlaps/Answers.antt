use Rattle.std.proofs.Common.{◌≤◌, sym, arith}
use Rattle.elf_image.proofs.Sharing.{overlaps_is, swapped}
use Rattle.elf_image.proofs.header.ProgramHeader.overlaps.Goals as goal

pub returns-then-self-other : goal.returns-then-self-other
returns-then-self-other c = overlaps_is c.args.self.now c.args.other.now (sym c.if-not-is_segment.ensures) (sym c.if-not-is_segment-2.ensures) c.if-self-other.true

pub returns-else-self-other : goal.returns-else-self-other
returns-else-self-other c =
    let above : c.args.other.now.vaddr ≤ c.args.self.now.vaddr = omega (arith, c.if-self-other.false) in
    swapped (overlaps_is c.args.other.now c.args.self.now (sym c.if-not-is_segment-2.ensures) (sym c.if-not-is_segment.ensures) above)
