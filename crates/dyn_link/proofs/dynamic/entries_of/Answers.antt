use Rattle.std.proofs.Common.{◌≡◌, ◌/◌, refl, arith}
use Rattle.dyn_link.specs.Dynamic.{tagged, entries_of}
use Rattle.dyn_link.proofs.Tables.{table_more}
use Rattle.dyn_link.proofs.dynamic.entries_of.Goals as goal

pub loop-n-preserved : goal.loop-n-preserved
loop-n-preserved c = rw (c.in_ok-push.ensures.items, c.loop-n.invariant, c.read_tagged.ensures, table_more tagged c.args.range.offset 16 c.loop-n.n c.args.bytes.now) refl

pub returns : goal.returns
unfolding entries_of
returns c =
    let all : c.loop-n.n ≡ c.args.range.size / 16 = omega (arith, c.loop-n-test.false, c.loop-n.auto.n-end) in
    rw (c.loop-n.invariant, all) refl
