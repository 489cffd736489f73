use Rattle.std.proofs.Common.{◌≡◌, ◌<◌, ◌∙◌, ap, arith, length}
use Rattle.machine_plain.specs.PlainGates.{with_places}
use Rattle.basic_blocks.specs.Span.{successors}
use Rattle.machine_plain.proofs.Closures.{goes_on}
use Rattle.machine_plain.proofs.reach.closure.Goals as goal

pub loop-i-preserved : goal.loop-i-preserved
loop-i-preserved c =
    let lt : c.loop-i.i < length c.loop-i.places.items = omega (arith, c.if-i-len.false, c.len.ensures, c.loop-i.places.ok.0) in
    goes_on c.args.image.now c.args.root c.loop-i.i c.index.result.now c.loop-i.places.items c.in_ok-more.more.items c.add_all.new.places.items c.loop-i.invariant lt
    (c.in_ok-more.ensures ∙ ap (successors c.args.image.now) c.index.ensures)
    (c.in_ok-add_all.ensures ∙ ap (with_places c.loop-i.places.items) c.deref.ensures.value)
