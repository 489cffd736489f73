-- One more address, up to all.
use Rattle.std.proofs.Common.{◌≡◌, ℕ, ◌+◌, refl, ap, ◌∙◌, arith, map}
use Rattle.std.specs.List.{range_with_len}
use Rattle.std.proofs.lemmas.Grind.{common_steps}
use Rattle.std.proofs.lemmas.List.FromFn.{map-range_with_len_more}
use Rattle.elf_writer.specs.RowImage.{byte_at, row_bytes}
use Rattle.elf_writer.proofs.rows.bytes_from.Goals as goal

pub loop-i-preserved : goal.loop-i-preserved
loop-i-preserved c = rw (map-range_with_len_more (byte_at c.args.pieces.now c.args.filling) c.args.start c.loop-i.i (c.args.start + c.loop-i.i) refl) (grind (arith, common_steps))

pub returns : goal.returns
unfolding row_bytes
returns c =
    let all : c.loop-i.i ≡ 4096 = omega arith in
    c.loop-i.invariant ∙ ap (λ (n : ℕ). map (byte_at c.args.pieces.now c.args.filling) (range_with_len c.args.start n)) all
