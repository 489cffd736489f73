use Rattle.elf_image.proofs.OneImage.{one_image}
use Rattle.elf_image.proofs.loading.one_image.Goals as goal

pub returns : goal.returns
returns c = one_image
