use Rattle.std.proofs.Common.{arith}
use Rattle.tso_memory.proofs.NumberLemmas.{numbered_push}
use Rattle.tso_memory.proofs.numbers.Numbers.note.Goals as goal

pub returns : goal.returns
returns c = λ ps waits before.
    let h = numbered_push ps c.args.write c.make_room.new.self.first c.make_room.new.self.newest.items (omega (arith, waits, c.make_room.ensures.room)) (c.make_room.ensures.numbered ps waits before) in
    rw (c.last_class.ensures.class, c.class.ensures.class, c.size-size.ensures, ← waits) h
