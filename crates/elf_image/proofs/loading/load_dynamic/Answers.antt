use Rattle.elf_image.specs.declared.linking.Linking.TheVariants.{Dynamic}
use Rattle.elf_image.proofs.Faults.{is_long, programs_whole, none_kept_there}
use Rattle.elf_image.proofs.loading.load_dynamic.Goals as goal

pub dynamic_range-dynamic-requires-clause-long : goal.dynamic_range-dynamic-requires-clause-long
dynamic_range-dynamic-requires-clause-long c = is_long Dynamic c.args.bytes.now c.in_ok-image.ensures.ok.1

pub dynamic_range-dynamic-requires-clause-whole : goal.dynamic_range-dynamic-requires-clause-whole
dynamic_range-dynamic-requires-clause-whole c = programs_whole Dynamic c.args.bytes.now c.in_ok-image.ensures.ok.1

pub returns-clause-free : goal.returns-clause-free
returns-clause-free c = none_kept_there c.args.bytes.now c.in_ok-image.image c.in_ok-image.ensures.ok.0 c.in_ok-image.ensures.ok.1
