use Rattle.std.proofs.Common.{arith, ap, length}
use Rattle.std.specs.Prelude.{string_bytes}
use Rattle.guest_map.proofs.EntryLemmas.{size_more, size_all}
use Rattle.guest_map.proofs.entry.size_of_strings.Goals as goal

pub returns-then-len-size : goal.returns-then-len-size
returns-then-len-size c =
    let more = size_more string_bytes c.args.args.now c.loop-arg.arg-index c.arg-item.result c.loop-arg-test.true c.arg-item.is in
    omega (arith, more, c.loop-arg.invariant.0, c.loop-arg.invariant.1, c.if-len-size.true, ap length c.as_bytes-len.ensures.value)

pub loop-arg-preserved : goal.loop-arg-preserved
loop-arg-preserved c =
    let more = size_more string_bytes c.args.args.now c.loop-arg.arg-index c.arg-item.result c.loop-arg-test.true c.arg-item.is in
    (omega (arith, more, c.loop-arg.invariant.0, c.loop-arg.invariant.1, ap length c.as_bytes-len.ensures.value), omega (arith, c.loop-arg.invariant.1, c.if-len-size.false))

pub returns : goal.returns
returns c =
    let all = size_all string_bytes c.args.args.now c.loop-arg.arg-index (omega (arith, c.loop-arg-test.false)) in
    (omega (arith, all, c.loop-arg.invariant.0), omega (arith, all, c.loop-arg.invariant.0, c.loop-arg.invariant.1))
