use Rattle.std.proofs.Common.{arith}
use Rattle.journal_pack.specs.declared.entry.Entry.TheVariants.{Ev}
use Rattle.journal_pack.proofs.EntryLemmas.{length-spelling}
use Rattle.journal_pack.proofs.packing.pack.Goals as goal

pub put-requires : goal.put-requires
put-requires c = record { room = omega (arith, length-spelling _ (c.requires.fit c.loop-entry.entry-index (Ev 0 0) c.loop-entry-test.true), c.in_ok-make_room-2.ensures.ok) }
