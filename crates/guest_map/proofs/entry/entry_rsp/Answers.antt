use Rattle.std.proofs.Common.{arith}
use Rattle.std.specs.Prelude.{string_bytes}
use Rattle.guest_map.proofs.EntryLemmas.{few_of}
use Rattle.guest_map.proofs.entry.entry_rsp.Goals as goal

pub up16-requires : goal.up16-requires
up16-requires c = omega (arith, few_of string_bytes c.args.args.now c.requires.short)

pub overflow_sub-result : goal.overflow_sub-result
overflow_sub-result c = omega (arith, few_of string_bytes c.args.args.now c.requires.short, c.requires.short, c.requires.base, c.up16.ensures)
