-- One more place: its symbol is appended, and its address fits.
use Rattle.std.proofs.Common.{◌^◌, ◌<◌, arith}
use Rattle.std.proofs.lemmas.Grind.{common_steps}
use Rattle.std.proofs.lemmas.List.Elements.{All-more}
use Rattle.elf_image.specs.declared.place.Function.TheVariants.{PthreadCreate}
use Rattle.elf_writer.proofs.elf.symbols.put_symbols.Goals as goal

pub loop-p-preserved : goal.loop-p-preserved
loop-p-preserved c = (
  grind (arith, common_steps),
  All-more (λ p. p.at < 2 ^ 64) c.args.places.now c.loop-p.p-index (record { at = 0; function = PthreadCreate }) (omega arith) c.loop-p.invariant.1 c.symbol_of.ensures.fits,
)
