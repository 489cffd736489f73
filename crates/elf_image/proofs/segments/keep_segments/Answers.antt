use Rattle.std.proofs.Common.{◌&&◌, nat_lt, rules}
use Rattle.std.proofs.lemmas.List.Elements.{filter_from_retain}
use Rattle.elf_image.specs.Elf.{is_load}
use Rattle.elf_image.proofs.segments.keep_segments.Goals as goal

pub returns : goal.returns
returns c = filter_from_retain _ (λ h. is_load h && nat_lt 0 h.memsz) (λ p x b q k. search rules) _ _ _ c.retain.ensures.filtered
